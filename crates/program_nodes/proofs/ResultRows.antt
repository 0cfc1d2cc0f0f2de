-- What the forms of an operation compute is what the operation computes: one row a kind.
use Rattle.std.proofs.Common.{◌≡◌, ℕ, ◌+◌, ◌-◌, ◌*◌, ◌%◌, ◌^◌, ◌<◌, sym, ◌∙◌, ap, arith}
use Rattle.std.proofs.Math.Nat.{add-mul-mod_self_left}

-- ---- congruent sums

-- sums that differ by a multiple of 2^64
same_word : (x y k : ℕ) → x ≡ y + 2 ^ 64 * k → x % 2 ^ 64 ≡ y % 2 ^ 64
same_word x y k e = ap (λ (n : ℕ). n % 2 ^ 64) e ∙ add-mul-mod_self_left y (2 ^ 64) k

-- a difference less a borrow
pub two_less : (a b c : ℕ) → a < 2 ^ 64 → b < 2 ^ 64 → c < 2 ^ 64
    → (0 + (1 * a + ((2 ^ 64 - 1) * b + ((2 ^ 64 - 1) * c + 0)))) % 2 ^ 64 ≡ (a + 2 * 2 ^ 64 - (b + c)) % 2 ^ 64
two_less a b c h g f =
    sym (same_word ((a + (2 ^ 64 - 1) * b + (2 ^ 64 - 1) * c) + 2 ^ 64 * 2) _ 2 (omega arith))
    ∙ same_word _ (a + 2 * 2 ^ 64 - (b + c)) (b + c) (omega arith)

pub one_less : (a b : ℕ) → a < 2 ^ 64 → b < 2 ^ 64
    → (0 + (1 * a + ((2 ^ 64 - 1) * b + 0))) % 2 ^ 64 ≡ (a + 2 ^ 64 - b) % 2 ^ 64
one_less a b h g =
    sym (same_word ((a + (2 ^ 64 - 1) * b) + 2 ^ 64) _ 1 (omega arith))
    ∙ same_word _ (a + 2 ^ 64 - b) b (omega arith)

-- all bits turned
pub turned : (a : ℕ) → a < 2 ^ 64 → (2 ^ 64 - 1 + ((2 ^ 64 - 1) * a + 0)) % 2 ^ 64 ≡ 2 ^ 64 - 1 - a
turned a h = same_word (2 ^ 64 - 1 + ((2 ^ 64 - 1) * a + 0)) (2 ^ 64 - 1 - a) a (omega arith) ∙ omega arith
