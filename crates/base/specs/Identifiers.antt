-- Identifiers: names that a C compiler and the GNU assembler take, of ASCII letters, digits and `_`. A text is the
-- list of its bytes.
use Rattle.std.specs.Prelude.{ℕ, Bool, false, not, ◌&&◌, ◌||◌, ◌==◌, nat_le, List, [], ◌∷◌, length, codes}
use Rattle.std.specs.List.{list_all}
use Rattle.std.specs.Str.{bytes_eq}
use Rattle.std.specs.Char.{is_ascii_alphabetic, is_ascii_alphanumeric}
use Rattle.base.specs.declared.limits.TheConstants.{MAX_IDENTIFIER_BYTES}

-- a letter or `_`
abbrev pub is_name_start : ℕ → Bool
is_name_start c = is_ascii_alphabetic c || c == 95

-- a letter, a digit or `_`
abbrev pub is_name_byte : ℕ → Bool
is_name_byte c = is_ascii_alphanumeric c || c == 95

-- `_` alone
abbrev pub is_underscore : List ℕ → Bool
is_underscore text = bytes_eq text (codes "_")

-- a letter or `_`, then letters, digits or `_`, at most 64 bytes, and not `_` alone
unfoldable pub is_identifier : List ℕ → Bool
is_identifier [] = false
is_identifier (c ∷ cs) =
    is_name_start c
    && (list_all is_name_byte cs && (nat_le (length (c ∷ cs)) MAX_IDENTIFIER_BYTES && not (is_underscore (c ∷ cs))))
