-- Tests of numbers, as facts.
use Rattle.std.proofs.Common.{◌≡◌, ℕ, ◌<◌, ◌≤◌, true, arith}
use Rattle.std.specs.Prelude.{◌==◌, nat_lt, nat_le}
use Rattle.std.proofs.lemmas.Bool.Decides.{nat_tests}

pub not_below_zero : (n : ℕ) → n < 0 → ⊥
not_below_zero n h = omega (arith, h)

pub equal_by_test : (a b : ℕ) → (a == b) ≡ true → a ≡ b
equal_by_test a b e = grind (arith, nat_tests)

pub test_of_itself : (n : ℕ) → (n == n) ≡ true
test_of_itself n = grind (arith, nat_tests)

pub below_by_test : (a b : ℕ) → nat_lt a b ≡ true → a < b
below_by_test a b e = grind (arith, nat_tests)

pub at_most_by_test : (a b : ℕ) → nat_le a b ≡ true → a ≤ b
at_most_by_test a b e = grind (arith, nat_tests)

pub test_of_below : (a b : ℕ) → a < b → nat_lt a b ≡ true
test_of_below a b h = grind (arith, nat_tests)
