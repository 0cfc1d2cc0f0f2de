-- The tokens of a line: words of letters, digits, `_` and `.`, each as long as can be, and single other bytes.
-- Blanks, which are spaces and tabs, part them.
use Rattle.std.specs.Prelude.{ℕ, ◌+◌, Bool, true, false, not, ◌&&◌, ◌||◌, ◌==◌, List, [], ◌∷◌, Option, Some, None}
use Rattle.std.specs.Prelude.{if◌then◌else◌}
use Rattle.std.specs.Char.{is_ascii_alphanumeric}
use Rattle.std.specs.List.{prefix_len}
use Rattle.std.specs.Str.{bytes_eq}

-- whether a blank stands before the token, and its bytes
pub record Token : Type 0 where
  pub spaced : Bool
  pub text : List ℕ

abbrev pub token : Bool → List ℕ → Token
token spaced text = record { spaced = spaced; text = text }

abbrev pub is_blank : ℕ → Bool
is_blank b = b == 32 || b == 9

-- a letter, a digit, `_` or `.`
abbrev pub is_word_byte : ℕ → Bool
is_word_byte b = is_ascii_alphanumeric b || (b == 95 || b == 46)

abbrev pub begins_word : List ℕ → Bool
begins_word [] = false
begins_word (b ∷ bs) = is_word_byte b

-- the tokens begin with a word before which no blank stands
abbrev pub goes_on : List Token → Bool
goes_on [] = false
goes_on (t ∷ ts) = not t.spaced && begins_word t.text

abbrev pub joined : ℕ → List Token → List Token
joined b [] = token false (b ∷ []) ∷ []
joined b (t ∷ ts) = token false (b ∷ t.text) ∷ ts

abbrev pub after_blank : List Token → List Token
after_blank [] = []
after_blank (t ∷ ts) = token true t.text ∷ ts

-- a byte of a word goes to the word that follows it at once
abbrev pub after_byte : ℕ → List Token → List Token
after_byte b ts = if is_word_byte b && goes_on ts then joined b ts else token false (b ∷ []) ∷ ts

unfoldable pub tokens : List ℕ → List Token
tokens [] = []
tokens (b ∷ bs) = if is_blank b then after_blank (tokens bs) else after_byte b (tokens bs)

-- how long the first token of a text is that begins with no blank
abbrev pub token_len : List ℕ → ℕ
token_len [] = 0
token_len (b ∷ bs) = if is_word_byte b then 1 + prefix_len is_word_byte bs else 1

-- a blank stands before the first token
abbrev pub is_spaced : List Token → Bool
is_spaced [] = false
is_spaced (t ∷ ts) = t.spaced

-- the tokens behind a first one of these bytes
abbrev pub after : List ℕ → List Token → Option (List Token)
after text [] = None
after text (t ∷ ts) = if bytes_eq t.text text then Some ts else None
