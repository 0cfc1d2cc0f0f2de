-- That the two parts of a shift across two words make one word.
use Rattle.std.proofs.Common.{◌≡◌, ℕ, ◌+◌, ◌-◌, ◌*◌, ◌/◌, ◌%◌, ◌^◌, ◌<◌, ◌≤◌, sym, ap, ◌∙◌, subst, arith}
use Rattle.std.proofs.lemmas.Nat.{pow-add, mod-pow-add, pow_pos}
use Rattle.std.proofs.Math.Nat.{mul-mod_left, mod-lt, div-lt_iff_lt-mul, mul-le-mul_right}
use Rattle.x86_meaning.specs.Machine.{funnel}

-- a part below q and a multiple of q below p * q
parts_fit : (part x p q n : ℕ) → part < q → x < p → n ≡ p * q → part + x * q < n
parts_fit part x p q n small below is =
    let more : (x + 1) * q ≤ p * q = mul-le-mul_right q (omega (arith, below)) in
    let open_sum : (x + 1) * q ≡ x * q + q = grind arith in
    omega (arith, small, more, is, open_sum)

-- by a count of at most 63 bits
pub funnel_fits : (low high bits : ℕ) → low < 2 ^ 64 → bits ≤ 63 → funnel low high bits < 2 ^ 64
funnel_fits low high bits small few =
    let p = 2 ^ bits in
    let q = 2 ^ (64 - bits) in
    let counts : bits + (64 - bits) ≡ 64 = omega (arith, few) in
    let split : 2 ^ 64 ≡ p * q = ap (λ n. 2 ^ n) (sym counts) ∙ pow-add 2 bits (64 - bits) in
    let p_above : 0 < 2 ^ bits = pow_pos bits in
    let q_above : 0 < 2 ^ (64 - bits) = pow_pos (64 - bits) in
    let turned : 2 ^ 64 ≡ 2 ^ (64 - bits) * 2 ^ bits = omega (arith, split) in
    let top : high * q % 2 ^ 64 ≡ (high * q / q % p) * q =
    ap (λ n. high * q % 2 ^ n) (sym counts)
    ∙ (mod-pow-add (high * q) bits (64 - bits)
    ∙ (ap (λ n. (high * q / q % p) * q + n) (mul-mod_left high q) ∙ omega arith)) in
    subst (λ n. low / p + n < 2 ^ 64) (sym top)
    (parts_fit (low / p) (high * q / q % p) p q (2 ^ 64) ((div-lt_iff_lt-mul p_above).1 (omega (arith, small, turned)))
    (mod-lt _ p_above) split)
