-- The words of sums, carries and borrows are those that the machine computes.
use Rattle.std.proofs.Common.{◌≡◌, ℕ, ◌+◌, ◌-◌, ◌*◌, ◌/◌, ◌%◌, ◌^◌, ◌<◌, ◌≤◌, ◌==◌, Bool, true, false, not}
use Rattle.std.proofs.Common.{nat_le, nat_lt, if◌then◌else◌, refl, ap, arith}
use Rattle.std.proofs.lemmas.Bool.Decides.{nat_tests}
use Rattle.x86_meaning.specs.Machine.{bit}

-- ---- sums

pub added : (d s : ℕ) → (0 + (1 * d + (1 * s + 0))) % 2 ^ 64 ≡ (d + s + 0) % 2 ^ 64
added d s = omega arith

pub added_with : (d s c : ℕ) → (0 + (1 * d + (1 * s + (1 * c + 0)))) % 2 ^ 64 ≡ (d + s + c) % 2 ^ 64
added_with d s c = omega arith

-- the carry of words and of a bit
pub carried : (d s c : ℕ) → d < 2 ^ 64 → s < 2 ^ 64 → c ≤ 1
    → (d + (s + (c + 0))) / 2 ^ 64 ≡ bit (nat_le (2 ^ 64) (d + s + c))
carried d s c h k l = grind (arith, nat_tests)

pub carried_two : (d s : ℕ) → d < 2 ^ 64 → s < 2 ^ 64 → (d + (s + 0)) / 2 ^ 64 ≡ bit (nat_le (2 ^ 64) (d + s + 0))
carried_two d s h k = grind (arith, nat_tests)

pub bit_small : (b : Bool) → bit b ≤ 1
bit_small true = omega arith
bit_small false = omega arith

-- ---- differences

pub subtracted : (d s : ℕ) → s < 2 ^ 64
    → (0 + (1 * d + ((2 ^ 64 - 1) * s + 0))) % 2 ^ 64 ≡ (d + 2 ^ 64 - (s + 0)) % 2 ^ 64
subtracted d s h = omega arith

pub subtracted_with : (d s c : ℕ) → s < 2 ^ 64 → c ≤ 1
    → (0 + (1 * d + ((2 ^ 64 - 1) * s + ((2 ^ 64 - 1) * c + 0)))) % 2 ^ 64 ≡ (d + 2 ^ 64 - (s + c)) % 2 ^ 64
subtracted_with d s c h k = omega arith

pub compared : (d s : ℕ) → s < 2 ^ 64
    → (0 + (1 * d + ((2 ^ 64 - 1) * s + 0))) % 2 ^ 64 ≡ (d + 2 ^ 64 - s) % 2 ^ 64
compared d s h = omega arith

pub negated : (d : ℕ) → d < 2 ^ 64 → (0 + ((2 ^ 64 - 1) * d + 0)) % 2 ^ 64 ≡ (2 ^ 64 - d) % 2 ^ 64
negated d h = omega arith

pub complemented : (d : ℕ) → d < 2 ^ 64 → (2 ^ 64 - 1 + ((2 ^ 64 - 1) * d + 0)) % 2 ^ 64 ≡ 2 ^ 64 - 1 - d
complemented d h = omega arith

pub borrowed : (d s : ℕ) → (if nat_lt d (s + 0) then 1 else 0) ≡ bit (nat_lt d (s + 0))
borrowed d s = refl

pub borrowed_with : (d s c : ℕ) → (if nat_lt d (s + (c + 0)) then 1 else 0) ≡ bit (nat_lt d (s + c))
borrowed_with d s c = let e : s + (c + 0) ≡ s + c = omega arith in ap (λ n. if nat_lt d n then 1 else 0) e

pub borrowed_one : (d s : ℕ) → (if nat_lt d (s + 0) then 1 else 0) ≡ bit (nat_lt d s)
borrowed_one d s = let e : s + 0 ≡ s = omega arith in ap (λ n. if nat_lt d n then 1 else 0) e

pub borrowed_nought : (n d : ℕ) → n ≡ 0 → (if nat_lt n (d + 0) then 1 else 0) ≡ bit (not (d == 0))
borrowed_nought n d e = grind (arith, nat_tests)
