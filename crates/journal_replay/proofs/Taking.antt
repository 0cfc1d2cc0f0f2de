-- What stands at a place of the first items of a list.
use Rattle.std.proofs.Common.{◌≡◌, ◌<◌, ℕ, zero, suc, List, [], ◌∷◌, take, refl, arith}
use Rattle.std.specs.Prelude.{slice_get}

pub get_take : {X : Type 0} (xs : List X) (k n : ℕ) → k < n → slice_get (take n xs) k ≡ slice_get xs k
get_take [] k zero low = refl
get_take [] k (suc n) low = refl
get_take (x ∷ xs) k zero low = absurd (omega arith)
get_take (x ∷ xs) zero (suc n) low = refl
get_take (x ∷ xs) (suc k) (suc n) low = get_take xs k n (omega arith)
