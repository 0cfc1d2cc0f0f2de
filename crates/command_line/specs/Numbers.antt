-- The decimal numbers of the options of `search`, and lists of them. The words are this project's own.
use Rattle.std.specs.Prelude.{ℕ, Bool, ◌==◌, ◌&&◌, nat_le, List, [], ◌∷◌, length, Option, Some, None, if◌then◌else◌}
use Rattle.std.specs.List.{slice_split}
use Rattle.base.specs.Options.{◌>>=◌, guard}
use Rattle.base.specs.Numbers.{numeral}
use Rattle.command_line.specs.declared.limits.TheConstants.{MAX_DIGITS, MAX_SEEDS}

-- 1 to 20 decimal digits, with a value below 2^64
unfoldable pub number : List ℕ → Option ℕ
number text = if nat_le (length text) MAX_DIGITS then numeral 10 text else None

abbrev pub is_within : ℕ → ℕ → ℕ → Bool
is_within least most n = nat_le least n && nat_le n most

-- such a number from `least` to `most`
unfoldable pub number_within : ℕ → ℕ → List ℕ → Option ℕ
number_within least most text = number text >>= (λ n. guard (is_within least most n) n)

-- the numbers that texts are, where each of them is one
abbrev pub numbers_of : List (List ℕ) → Option (List ℕ)
numbers_of [] = Some []
numbers_of (text ∷ texts) = do
  first ← number text
  rest ← numbers_of texts
  Some (first ∷ rest)

-- 1 to 64 numbers with commas between them; the code of the comma is 44
unfoldable pub seeds_of : List ℕ → Option (List ℕ)
seeds_of list = numbers_of (slice_split (λ b. b == 44) list)
    >>= (λ seeds. guard (is_within 1 MAX_SEEDS (length seeds)) seeds)
