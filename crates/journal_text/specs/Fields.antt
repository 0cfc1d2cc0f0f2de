-- How the code reads; no part of a promise. The fields that a text begins with, and what stands behind them.
use Rattle.std.specs.Prelude.{ℕ, Bool, true, false, List, [], ◌∷◌, ◌++◌, length, take, drop, Option, Some, None}
use Rattle.std.specs.Prelude.{Result, Ok, Err}
use Rattle.std.specs.Prelude.{nat_le, nat_lt, decimal, if◌then◌else◌}
use Rattle.std.specs.List.{position_or_len, before_first, after_first, slice_split}
use Rattle.std.specs.Str.{bytes_eq}
use Rattle.hex.specs.Hex.{decode_sized, encode_lower}
use Rattle.hex.specs.declared.error.FromHexError.{FromHexError}
use Rattle.base.specs.Options.{◌>>=◌, guard}
use Rattle.base.specs.Numbers.{numeral}
use Rattle.journal_text.specs.declared.limits.TheConstants.{MAX_SEEDS}
use Rattle.journal_text.specs.Lines.{is_byte}

-- what stands behind a front
unfoldable pub after : List ℕ → List ℕ → Option (List ℕ)
after front text = guard (bytes_eq (take (length front) text) front) (drop (length front) text)

-- what stands before the first such byte, and behind it
unfoldable pub cut_at : ℕ → List ℕ → Option (List ℕ × List ℕ)
cut_at byte text = guard (nat_lt (position_or_len (is_byte byte) text) (length text))
    (before_first (is_byte byte) text, after_first (is_byte byte) text)

-- the number below 2^64 whose decimal spelling this is
unfoldable pub number : List ℕ → Option ℕ
number word = numeral 10 word >>= (λ n. guard (bytes_eq (decimal n) word) n)

-- a number that such a byte ends, and what stands behind that
unfoldable pub number_at : ℕ → List ℕ → Option (ℕ × List ℕ)
number_at byte text = cut_at byte text >>= (λ cut. number cut.0 >>= (λ n. Some (n, cut.1)))

-- the same, where the number is at most `max`
unfoldable pub number_to : ℕ → ℕ → List ℕ → Option (ℕ × List ℕ)
number_to byte max text = number_at byte text >>= (λ p. guard (nat_le p.0 max) p)

abbrev pub is_empty : List ℕ → Bool
is_empty [] = true
is_empty (b ∷ bs) = false

-- a line feed ends the text, and there is none before
unfoldable pub last_word : List ℕ → Option (List ℕ)
last_word text = cut_at 10 text >>= (λ cut. guard (is_empty cut.1) cut.0)

unfoldable pub last_number : List ℕ → Option ℕ
last_number text = last_word text >>= number

-- the bytes whose spelling in lower case this is
abbrev pub spelled_by : List ℕ → Result (List ℕ) FromHexError → Option (List ℕ)
spelled_by word (Ok bytes) = guard (bytes_eq (encode_lower bytes) word) bytes
spelled_by word (Err e) = None

unfoldable pub digest_of : List ℕ → Option (List ℕ)
digest_of word = spelled_by word (decode_sized word 32)

-- the seeds so far, and the one that the word spells
abbrev pub with_seed : List ℕ → List ℕ → Option (List ℕ)
with_seed found word =
    if nat_lt (length found) MAX_SEEDS then number word >>= (λ n. Some (found ++ n ∷ [])) else None

-- the seeds so far, and those that the words spell
abbrev pub seeds_from : List ℕ → List (List ℕ) → Option (List ℕ)
seeds_from found [] = Some found
seeds_from found (word ∷ words) = with_seed found word >>= (λ seeds. seeds_from seeds words)

unfoldable pub seeds_of : List ℕ → Option (List ℕ)
seeds_of word = seeds_from [] (slice_split (is_byte 44) word)
