-- Words in texts: decimal digits, or `0x` and hexadecimal digits of either case, with a value below 2^64. Leading
-- zeros are allowed.
use Rattle.std.specs.Prelude.{ℕ, ◌^◌, Bool, true, ◌&&◌, ◌==◌, nat_lt, List, [], ◌∷◌, Option, Some, None, drop}
use Rattle.std.specs.Prelude.{if◌then◌else◌, slice_index}
use Rattle.std.specs.Char.{digit_value}
use Rattle.std.specs.Str.Parse.{digits_value}

abbrev pub all_digits : ℕ → List ℕ → Bool
all_digits radix [] = true
all_digits radix (c ∷ cs) = nat_lt (digit_value c) radix && all_digits radix cs

-- the number below 2^64 that one or more digits of the radix write
abbrev pub numeral : ℕ → List ℕ → Option ℕ
numeral radix [] = None
numeral radix (c ∷ cs) =
    if all_digits radix (c ∷ cs) && nat_lt (digits_value radix (c ∷ cs)) (2 ^ 64) then
    Some (digits_value radix (c ∷ cs))
    else None

-- the text begins with `0x`
abbrev pub is_hex : List ℕ → Bool
is_hex text = slice_index text 0 == 48 && slice_index text 1 == 120

-- the word that the text is
unfoldable pub word : List ℕ → Option ℕ
word text = if is_hex text then numeral 16 (drop 2 text) else numeral 10 text
