-- What is known of the bounds of a parameter's words.
use Rattle.std.proofs.Common.{◌≡◌, ℕ, ◌+◌, ◌-◌, ◌<◌, List, [], ◌∷◌, ◌++◌, map, refl, arith, suc, sym, append_assoc}
use Rattle.std.specs.Prelude.{Option, Some, is_some, unwrap_or}
use Rattle.std.specs.List.{list_all, range_with_len}
use Rattle.word_program.specs.declared.parameter.Bounds.{Bounds}
use Rattle.word_program.specs.Program.{full}

-- the numbers up to an end begin with the first
pub range_step : (a e : ℕ) → a < e → range_with_len a (e - a) ≡ a ∷ range_with_len (a + 1) (e - (a + 1))
range_step a e lt = let more : e - a ≡ suc (e - (a + 1)) = omega arith in rw more refl

-- a word that has bounds is passed
pub test_step : (f : ℕ → Option Bounds) (b : Bounds) (a e : ℕ) → a < e → f a ≡ Some b
    → list_all (λ n. is_some (f n)) (range_with_len a (e - a)) ≡ list_all (λ n. is_some (f n))
    (range_with_len (a + 1) (e - (a + 1)))
test_step f b a e lt found = rw (range_step a e lt, found) refl

-- and its bounds come next
pub bounds_step : (f : ℕ → Option Bounds) (b : Bounds) (bs : List Bounds) (a e : ℕ) → a < e → f a ≡ Some b
    → bs ++ map (λ n. unwrap_or (f n) full) (range_with_len a (e - a)) ≡ (bs ++ b ∷ [])
    ++ map (λ n. unwrap_or (f n) full) (range_with_len (a + 1) (e - (a + 1)))
bounds_step f b bs a e lt found = rw (range_step a e lt, found) (sym (append_assoc bs (b ∷ []) _))
