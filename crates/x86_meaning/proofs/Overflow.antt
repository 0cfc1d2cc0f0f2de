-- The overflow flag is that of the exact signed result.
use Rattle.std.proofs.Common.{◌≡◌, ℕ, ◌+◌, ◌-◌, ◌*◌, ◌^◌, ◌<◌, ◌≤◌, ◌↔◌, ◌⊎◌, inl, inr, false, ℤ, pos, ◌+ℤ◌, ◌-ℤ◌}
use Rattle.std.proofs.Common.{FitsSigned, sym, ap, ◌∙◌, subst, arith}
use Rattle.std.proofs.lemmas.Int.{ints}
use Rattle.std.proofs.lemmas.Bool.{cases_lt}
use Rattle.std.proofs.lemmas.Bool.Decides.{nat_tests}
use Rattle.std.specs.Int.{cast_signed, w64}
use Rattle.x86_meaning.specs.Machine.{IsWord, biased, overflows}
use Rattle.x86_meaning.specs.Laws.{signed_sum, signed_difference}

-- a word below 2^63 is not negative
signed_low : (d : ℕ) → d < 2 ^ 63 → cast_signed w64 d ≡ pos (biased d) -ℤ pos (2 ^ 63)
signed_low d h = omega (arith, ints)

-- a word from 2^63 on is negative
signed_high : (d : ℕ) → 2 ^ 63 ≤ d → d < 2 ^ 64 → cast_signed w64 d ≡ pos (biased d) -ℤ pos (2 ^ 63)
signed_high d k h = grind (arith, ints)

-- both halves
by_half : (d : ℕ) → (d < 2 ^ 63) ⊎ (2 ^ 63 ≤ d) → d < 2 ^ 64 → cast_signed w64 d ≡ pos (biased d) -ℤ pos (2 ^ 63)
by_half d (inl k) h = signed_low d k
by_half d (inr k) h = signed_high d k h

-- a word read with its sign
signed_word : (d : ℕ) → d < 2 ^ 64 → cast_signed w64 d ≡ pos (biased d) -ℤ pos (2 ^ 63)
signed_word d h = by_half d (cases_lt d (2 ^ 63)) h

-- where the flag is clear, the number is in the range: from below
in_range : (n : ℕ) → overflows n ≡ false → 2 ^ 63 ≤ n
in_range n h = grind (arith, nat_tests)

-- and from above
in_range_above : (n : ℕ) → overflows n ≡ false → n < 3 * 2 ^ 63
in_range_above n h = grind (arith, nat_tests)

-- in the range the flag is clear
from_range : (n : ℕ) → 2 ^ 63 ≤ n → n < 3 * 2 ^ 63 → overflows n ≡ false
from_range n h k = grind (arith, nat_tests)

-- in the range the exact result fits
fits : (n : ℕ) → 2 ^ 63 ≤ n → n < 3 * 2 ^ 63 → FitsSigned w64 (pos n -ℤ pos (2 ^ 64))
fits n h k = omega (arith, ints)

-- where it fits, the number is in the range: from below
fits_above : (n : ℕ) → FitsSigned w64 (pos n -ℤ pos (2 ^ 64)) → 2 ^ 63 ≤ n
fits_above n h = omega (arith, ints)

-- and from above
fits_below : (n : ℕ) → FitsSigned w64 (pos n -ℤ pos (2 ^ 64)) → n < 3 * 2 ^ 63
fits_below n h = omega (arith, ints)

-- the flag of a number that stands for an exact result
flag_of : (n : ℕ) (z : ℤ) → z ≡ pos n -ℤ pos (2 ^ 64) → (overflows n ≡ false) ↔ FitsSigned w64 z
flag_of n z e = (
  λ h. subst (FitsSigned w64) (sym e) (fits n (in_range n h) (in_range_above n h)),
  λ h. let k = subst (FitsSigned w64) e h in from_range n (fits_above n k) (fits_below n k),
)

-- the flag of a sum with a carry
pub sum_flag : (d b carry : ℕ) → IsWord d → IsWord b → carry ≤ 1
    → (overflows (biased d + biased b + carry) ≡ false) ↔ FitsSigned w64 (signed_sum d b carry)
sum_flag d b carry dw bw c =
    let e : signed_sum d b carry ≡ (pos (biased d) -ℤ pos (2 ^ 63)) +ℤ (pos (biased b) -ℤ pos (2 ^ 63)) +ℤ pos carry =
    ap (λ x. x +ℤ cast_signed w64 b +ℤ pos carry) (signed_word d dw)
    ∙ ap (λ x. (pos (biased d) -ℤ pos (2 ^ 63)) +ℤ x +ℤ pos carry) (signed_word b bw) in
    flag_of (biased d + biased b + carry) (signed_sum d b carry) (e ∙ omega (arith, ints))

-- the flag of a difference with a borrow
pub difference_flag : (d b borrow : ℕ) → IsWord d → IsWord b → borrow ≤ 1
    → (overflows (biased d + 2 ^ 64 - (biased b + borrow)) ≡ false) ↔ FitsSigned w64 (signed_difference d b borrow)
difference_flag d b borrow dw bw c =
    let e : signed_difference d b borrow ≡ (pos (biased d) -ℤ pos (2 ^ 63)) -ℤ
    (pos (biased b) -ℤ pos (2 ^ 63)) -ℤ pos borrow =
    ap (λ x. x -ℤ cast_signed w64 b -ℤ pos borrow) (signed_word d dw)
    ∙ ap (λ x. (pos (biased d) -ℤ pos (2 ^ 63)) -ℤ x -ℤ pos borrow) (signed_word b bw) in
    flag_of (biased d + 2 ^ 64 - (biased b + borrow)) (signed_difference d b borrow) (e ∙ omega (arith, ints))
