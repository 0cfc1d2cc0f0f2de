-- The texts of a program: unused results, and the words of arrays, in this project's form after Fiat Cryptography's
-- JSON. A text is the list of its bytes.
use Rattle.std.specs.Prelude.{ℕ, Bool, false, not, ◌&&◌, ◌||◌, ◌==◌, nat_lt, List, [], ◌∷◌, length, codes, Option}
use Rattle.std.specs.Prelude.{Some, None, is_some}
use Rattle.std.specs.List.{list_all, position_or_len, before_first, after_first}
use Rattle.std.specs.Str.{bytes_eq}
use Rattle.std.specs.Char.{is_ascii_digit}
use Rattle.base.specs.Options.{◌>>=◌, guard}
use Rattle.base.specs.Identifiers.{is_identifier, is_underscore}

-- `_`, the name of a result that nothing reads
abbrev pub is_unused : List ℕ → Bool
is_unused text = is_underscore text

-- it begins with a digit
abbrev pub starts_with_digit : List ℕ → Bool
starts_with_digit [] = false
starts_with_digit (c ∷ cs) = is_ascii_digit c

abbrev pub is_decimal : ℕ → Bool
is_decimal c = is_ascii_digit c

-- `0`, or decimal digits of which the first is not 0
abbrev pub is_index : List ℕ → Bool
is_index [] = false
is_index (c ∷ []) = is_ascii_digit c
is_index (c ∷ d ∷ ds) = is_ascii_digit c && (not (c == 48) && list_all is_decimal (d ∷ ds))

-- what stands before and after the first byte that is c, where there is one
abbrev pub cut : ℕ → List ℕ → Option (List ℕ × List ℕ)
cut c text = guard (nat_lt (position_or_len (λ b. b == c) text) (length text))
    (before_first (λ b. b == c) text, after_first (λ b. b == c) text)

-- what stands before brackets at the end of a text, and in them
unfoldable pub bracketed : List ℕ → Option (List ℕ × List ℕ)
bracketed text = do
  outer ← cut 91 text
  inner ← cut 93 outer.1
  guard (bytes_eq inner.1 []) (outer.0, inner.0)

-- the name and the index of `name[index]`, where the name is an identifier and the index has its form
unfoldable pub word_parts : List ℕ → Option (List ℕ × List ℕ)
word_parts text = do
  parts ← bracketed text
  guard (is_identifier parts.0 && is_index parts.1) parts

-- whether outputs may overlap inputs: `any` or `none`
abbrev pub is_overlap : List ℕ → Bool
is_overlap text = bytes_eq text (codes "any") || bytes_eq text (codes "none")

-- outputs may overlap inputs where the text is `any`; a program that says nothing means `none`
abbrev pub may_overlap : Option (List ℕ) → Bool
may_overlap None = false
may_overlap (Some text) = bytes_eq text (codes "any")

-- it has the form `name[index]`; no identifier has it, nor has `_`
abbrev pub is_word_form : List ℕ → Bool
is_word_form text = not (is_identifier text) && (not (is_unused text) && is_some (word_parts text))
