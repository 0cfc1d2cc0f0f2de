-- What is known of shifted words.
use Rattle.std.proofs.Common.{◌≡◌, ℕ, ◌+◌, ◌-◌, ◌*◌, ◌/◌, ◌%◌, ◌^◌, ◌<◌, ◌≤◌, Bool, true, false, refl, arith, sym, ◌∙◌}
use Rattle.std.proofs.Common.{ap, subst, suc}
use Rattle.std.proofs.Math.Nat.{mul_assoc, mul-mod_left, mul-div_cancel, mul-le-mul_right, mod-lt, suc-mul}
use Rattle.std.proofs.Math.Nat.{div-eq_of_lt, div-lt_iff_lt-mul}
use Rattle.std.specs.Prelude.{nat_le}
use Rattle.std.proofs.lemmas.Bool.Decides.{nat_tests}
use Rattle.std.proofs.Math.Pow.{pow_mono}
use Rattle.std.proofs.lemmas.Nat.{pow_pos, pow-add, mod-pow-add}

-- a word that is shifted left by 64 bits or more is 0
pub shifted_out : (word count : ℕ) → 64 ≤ count → (word * 2 ^ count) % 2 ^ 64 ≡ 0
shifted_out word count far =
    let e : count ≡ (count - 64) + 64 = omega arith in
    let p : 2 ^ count ≡ 2 ^ (count - 64) * 2 ^ 64 = ap (λ n. 2 ^ n) e ∙ pow-add 2 (count - 64) 64 in
    ap (λ n. (word * n) % 2 ^ 64) p ∙ ap (λ n. n % 2 ^ 64) (sym (mul_assoc word (2 ^ (count - 64)) (2 ^ 64)))
    ∙ mul-mod_left (word * 2 ^ (count - 64)) (2 ^ 64)

-- and so is one that is shifted right
pub nothing_left : (word count : ℕ) → word < 2 ^ 64 → 64 ≤ count → word / 2 ^ count ≡ 0
nothing_left word count fits far = let more : 2 ^ 64 ≤ 2 ^ count = pow_mono far in div-eq_of_lt (omega arith)

-- the low bits of a word, moved to the top
top_bits : (high count rest : ℕ) → count + rest ≡ 64 → (high * 2 ^ rest) % 2 ^ 64 ≡ (high % 2 ^ count) * 2 ^ rest
top_bits high count rest e =
    let zero_low : (high * 2 ^ rest) % 2 ^ rest ≡ 0 = mul-mod_left high (2 ^ rest) in
    let back : (high * 2 ^ rest) / 2 ^ rest ≡ high = mul-div_cancel high (pow_pos rest) in
    ap (λ n. (high * 2 ^ rest) % 2 ^ n) (sym e) ∙ mod-pow-add (high * 2 ^ rest) count rest
    ∙ ap (λ n. (n % 2 ^ count) * 2 ^ rest + (high * 2 ^ rest) % 2 ^ rest) back
    ∙ ap (λ n. (high % 2 ^ count) * 2 ^ rest + n) zero_low ∙ omega arith

fits_by : (low high count rest : ℕ) → low < 2 ^ 64 → count + rest ≡ 64
    → low / 2 ^ count + (high * 2 ^ rest) % 2 ^ 64 < 2 ^ 64
fits_by low high count rest fits e =
    let all : 2 ^ 64 ≡ 2 ^ count * 2 ^ rest = ap (λ n. 2 ^ n) (sym e) ∙ pow-add 2 count rest in
    let all' : 2 ^ 64 ≡ 2 ^ rest * 2 ^ count = ap (λ n. 2 ^ n) (sym e ∙ omega arith) ∙ pow-add 2 rest count in
    let below : low / 2 ^ count < 2 ^ rest =
    (div-lt_iff_lt-mul (pow_pos count)).1 (subst (λ (n : ℕ). low < n) all' fits) in
    let t : ℕ = high % 2 ^ count in
    let small : t < 2 ^ count = mod-lt high (pow_pos count) in
    let top : suc t * 2 ^ rest ≤ 2 ^ count * 2 ^ rest = mul-le-mul_right (2 ^ rest) small in
    let one_more : suc t * 2 ^ rest ≡ t * 2 ^ rest + 2 ^ rest = suc-mul t (2 ^ rest) in
    let sum : low / 2 ^ count + t * 2 ^ rest < 2 ^ count * 2 ^ rest = omega arith in
    subst (λ (n : ℕ). low / 2 ^ count + n < 2 ^ 64) (sym (top_bits high count rest e))
    (subst (λ (n : ℕ). low / 2 ^ count + t * 2 ^ rest < n) (sym all) sum)

-- the sum of a double shift is a word
pub shrd_fits : (low high count : ℕ) → low < 2 ^ 64 → high < 2 ^ 64
    → low / 2 ^ count + (high * 2 ^ (64 - count)) % 2 ^ 64 < 2 ^ 64
shrd_fits low high count fits fits' = by_test (nat_le count 64) refl
  where
    by_test : (b : Bool) → nat_le count 64 ≡ b → low / 2 ^ count + (high * 2 ^ (64 - count)) % 2 ^ 64 < 2 ^ 64
    by_test true e = let near : count ≤ 64 = grind (arith, nat_tests) in
        fits_by low high count (64 - count) fits (omega arith)
    by_test false e =
        let far : 64 ≤ count = grind (arith, nat_tests) in
        let none = nothing_left low count fits far in
        let last : (high * 2 ^ (64 - count)) % 2 ^ 64 < 2 ^ 64 = mod-lt _ (pow_pos 64) in
        omega arith
