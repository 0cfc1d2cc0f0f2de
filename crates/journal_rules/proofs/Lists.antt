-- Lists: what stands at a place, and what stands before and behind it.
use Rattle.std.proofs.Common.{◌≡◌, ◌≢◌, ℕ, zero, suc, ◌<◌, List, [], ◌∷◌, ◌++◌, length, take, set, refl, ap, arith}
use Rattle.std.specs.Prelude.{Some, slice_get}

-- the list, split at a place
pub record IsSplit {X : Type 0} (xs : List X) (k : ℕ) (x : X) : Type 0 where
  pub rest : List X
  pub whole : xs ≡ take k xs ++ x ∷ rest
  pub count : length (take k xs) ≡ k
  pub low : k < length xs

pub split : {X : Type 0} (xs : List X) (k : ℕ) (x : X) → slice_get xs k ≡ Some x → IsSplit xs k x
split [] k x e = absurd (cc)
split (y ∷ xs) zero x e =
    let same : y ≡ x = cc in
    record { rest = xs; whole = ap (λ z. z ∷ xs) same; count = refl; low = omega arith }
split (y ∷ xs) (suc k) x e =
    let s = split xs k x e in
    let low = s.low in
    record {
      rest = s.rest;
      whole = ap (λ zs. y ∷ zs) s.whole;
      count = ap suc s.count;
      low = omega arith;
    }

pub get_set_same : {X : Type 0} (xs : List X) (k : ℕ) (x : X) → k < length xs → slice_get (set xs k x) k ≡ Some x
get_set_same [] k x h = absurd (omega arith)
get_set_same (y ∷ xs) zero x h = refl
get_set_same (y ∷ xs) (suc k) x h = get_set_same xs k x (omega arith)

pub get_set_other : {X : Type 0} (xs : List X) (k j : ℕ) (x : X) → j ≢ k → slice_get (set xs k x) j ≡ slice_get xs j
get_set_other [] k j x h = refl
get_set_other (y ∷ xs) zero zero x h = absurd (h refl)
get_set_other (y ∷ xs) zero (suc j) x h = refl
get_set_other (y ∷ xs) (suc k) zero x h = refl
get_set_other (y ∷ xs) (suc k) (suc j) x h = get_set_other xs k j x (λ e. h (ap suc e))
