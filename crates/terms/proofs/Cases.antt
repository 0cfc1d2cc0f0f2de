-- Cases of tests.
use Rattle.std.proofs.Common.{◌≡◌, ℕ, ◌<◌, ◌≤◌, Bool, true, false, cond, ◌&&◌, ◌||◌, eqb, leb, refl, inl, inr, ◌⊎◌}
use Rattle.std.proofs.Common.{arith}
use Rattle.std.proofs.lemmas.Bool.Decides.{nat_tests}

pub by_if : {A : Type 0} (P : A → Type 0) (b : Bool) (x y : A) → (b ≡ true → P x) → (b ≡ false → P y) → P (cond b x y)
by_if P true x y f g = f refl
by_if P false x y f g = g refl

pub first_true : (a b : Bool) → (a && b) ≡ true → a ≡ true
first_true true b e = refl
first_true false b e = e

pub second_true : (a b : Bool) → (a && b) ≡ true → b ≡ true
second_true true b e = e
second_true false b e = absurd (let f : false ≡ true = e in cc)

pub one_true : (a b : Bool) → (a || b) ≡ true → (a ≡ true) ⊎ (b ≡ true)
one_true true b e = inl refl
one_true false b e = inr e

pub from_eqb : (a b : ℕ) → eqb a b ≡ true → a ≡ b
from_eqb a b e = grind (arith, nat_tests)

pub from_leb : (a b : ℕ) → leb a b ≡ true → a ≤ b
from_leb a b e = grind (arith, nat_tests)

pub from_not_leb : (a b : ℕ) → leb a b ≡ false → b < a
from_not_leb a b e = grind (arith, nat_tests)
