-- Numbers that fit 128 bits.
use Rattle.std.proofs.Common.{◌≡◌, ℕ, ◌*◌, ◌%◌, ◌^◌, ◌<◌, ◌≤◌, arith}
use Rattle.std.proofs.lemmas.Nat.{mul-lt, one_shl, pow_below, leading_le}
use Rattle.std.specs.Int.Count.{count_leading_zeros}

-- a power of two below the width
pub power_of : (k : ℕ) → k ≤ 64 → (1 * 2 ^ k) % 2 ^ 128 ≡ 2 ^ k
power_of k h = one_shl k 128 (omega arith)

pub leading_within : (n : ℕ) → count_leading_zeros 64 n ≤ 64
leading_within n = leading_le 64 n

-- a product of two words
pub product_fits : (a b : ℕ) → a < 2 ^ 64 → b < 2 ^ 64 → a * b < 2 ^ 128
product_fits a b h g = mul-lt a b (2 ^ 64) (2 ^ 64) h g

-- a word times a power of two
pub shifted_fits : (a k : ℕ) → a < 2 ^ 64 → k ≤ 63 → a * 2 ^ k < 2 ^ 128
shifted_fits a k h g = mul-lt a (2 ^ k) (2 ^ 64) (2 ^ 64) h (pow_below k 64 (omega arith))
