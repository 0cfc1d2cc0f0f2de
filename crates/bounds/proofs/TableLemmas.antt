-- No evaluation leaves the intervals: one row a kind, and then along the operations.
use Rattle.std.proofs.Common.{◌≡◌, ℕ, zero, suc, ◌+◌, ◌-◌, ◌*◌, ◌/◌, ◌%◌, ◌^◌, ◌<◌, ◌≤◌, Bool, true, false, List, []}
use Rattle.std.proofs.Common.{◌∷◌, ◌++◌, refl, sym, ◌∙◌, ap, subst, arith}
use Rattle.std.specs.Prelude.{◌&&◌, ◌==◌, nat_lt, nat_le, min, max, slice_index, slice_index_or, if◌then◌else◌}
use Rattle.std.specs.Int.{w64, leading_zeros}
use Rattle.std.proofs.lemmas.Bool.Decides.{nat_tests}
use Rattle.std.proofs.lemmas.Nat.{and_le_l, and_le_r, le_or_l, le_or_r, or_lt, xor_lt, mul-le, mul-lt, mul-add-lt}
use Rattle.std.proofs.lemmas.Nat.{leading_length, pow-add, pow_pos, shr_le, shr_below, shl-shr, mod-pow-add, mod_below}
use Rattle.std.proofs.Math.Pow.{shr_mono, pow_mono}
use Rattle.std.proofs.Math.Nat.{mul-mod_left}
use Rattle.word_operations.specs.declared.kind.Kind.{Kind}
use Rattle.word_operations.specs.declared.kind.Kind.TheVariants.{AddCarry, SubBorrow, MulX, CMov, Add, Sub, Mul, And}
use Rattle.word_operations.specs.declared.kind.Kind.TheVariants.{Or, Xor, Not, Copy, Shl, Shr, Shrd}
use Rattle.word_operations.specs.Operations.{results_on}
use Rattle.word_program.specs.Accepted.{HasShift}
use Rattle.bounds.specs.Intervals.{intervals_on}
use Rattle.bounds.specs.Soundness.{LieIn}
use Rattle.intervals.specs.declared.interval.Interval.{Interval}
use Rattle.intervals.specs.Intervals.{full}
use Rattle.intervals.proofs.Lies.{Lies, lies_full, window_lies, floors_lies, fitting_lies, either_lies}
use Rattle.intervals.proofs.Lies.{product_low_lies}
use Rattle.intervals.proofs.Lies.{product_high_lies, bits_and_lies, bits_or_lies, bits_xor_lies, shifted_right_lies}

bit_le : (p q : Bool) → (p ≡ true → q ≡ true) → (if p then 1 else 0) ≤ (if q then 1 else 0)
bit_le true q h = rw (h refl) (omega arith)
bit_le false true h = omega arith
bit_le false false h = omega arith

bit_word : (q : Bool) → (if q then 0 else 1) < 2 ^ 64
bit_word true = omega arith
bit_word false = omega arith

-- a borrow comes always, never, or now and then
borrow_lies : (a s low high lows highs : ℕ) → low ≤ a → a ≤ high → lows ≤ s → s ≤ highs
    → Lies (if nat_lt a s then 1 else 0) (record {
      low = (if nat_lt high lows then 1 else 0);
      high = (if nat_le highs low then 0 else 1);
    })
borrow_lies a s low high lows highs l h ls hs = record {
  low = bit_le (nat_lt high lows) (nat_lt a s) (λ e. grind (arith, nat_tests, e));
  high = grind (arith, nat_tests);
  word = bit_word (nat_le highs low);
}

-- ---- two words as one

shrd_at : (lo hi k m : ℕ) → k + m ≡ 64 → lo < 2 ^ 64 → lo / 2 ^ k + (hi * 2 ^ m) % 2 ^ 64 < 2 ^ 64
shrd_at lo hi k m e w =
    let c : 2 ^ (k + m) ≡ 2 ^ 64 = ap (λ n. 2 ^ n) e in
    let f : m + k ≡ 64 = omega (arith, e) in
    let d : 2 ^ (m + k) ≡ 2 ^ 64 = ap (λ n. 2 ^ n) f in
    let z : (hi * 2 ^ m) % 2 ^ m ≡ 0 = mul-mod_left hi (2 ^ m) in
    let r : (hi * 2 ^ m) / 2 ^ m ≡ hi = shl-shr hi m in
    let s : (hi * 2 ^ m) % 2 ^ (k + m) ≡ (hi * 2 ^ m / 2 ^ m % 2 ^ k) * 2 ^ m + (hi * 2 ^ m) % 2 ^ m =
    mod-pow-add (hi * 2 ^ m) k m in
    let t : (hi * 2 ^ m / 2 ^ m % 2 ^ k) * 2 ^ m + (hi * 2 ^ m) % 2 ^ m ≡ (hi % 2 ^ k) * 2 ^ m + (hi * 2 ^ m) % 2 ^ m =
    ap (λ n. (n % 2 ^ k) * 2 ^ m + (hi * 2 ^ m) % 2 ^ m) r in
    let u : (hi * 2 ^ m) % 2 ^ 64 ≡ (hi * 2 ^ m) % 2 ^ (k + m) = ap (λ n. (hi * 2 ^ m) % n) (sym c) in
    let y : (hi % 2 ^ k) * 2 ^ m + lo / 2 ^ k < 2 ^ m * 2 ^ k =
    mul-add-lt (hi % 2 ^ k) (2 ^ m) (lo / 2 ^ k) (2 ^ k) (mod_below hi (2 ^ k) (pow_pos k))
    (shr_below lo m k (subst (λ n. lo < n) (sym d) w)) in
    let q : 2 ^ m * 2 ^ k ≡ 2 ^ 64 = sym (pow-add 2 m k) ∙ d in
    let v : (hi * 2 ^ m) % 2 ^ 64 ≡ (hi % 2 ^ k) * 2 ^ m + (hi * 2 ^ m) % 2 ^ m = u ∙ s ∙ t in
    omega (arith, v, z, y, q)

-- two words as one, shifted right: the low word
shrd_fits : (lo hi k : ℕ) → lo < 2 ^ 64 → k ≤ 63 → lo / 2 ^ k + (hi * 2 ^ (64 - k)) % 2 ^ 64 < 2 ^ 64
shrd_fits lo hi k w g = shrd_at lo hi k (64 - k) (omega arith) w

-- ---- values in intervals

abbrev pub LieAll : List ℕ → List Interval → Type 0
LieAll [] [] = Unit {0}
LieAll [] (i ∷ is) = ⊥
LieAll (v ∷ vs) [] = ⊥
LieAll (v ∷ vs) (i ∷ is) = Lies v i × LieAll vs is

pub lies_in : (vs : List ℕ) (is : List Interval) → LieAll vs is → LieIn is vs
lies_in [] [] t = tt
lies_in [] (i ∷ is) t = absurd t
lies_in (v ∷ vs) [] t = absurd t
lies_in (v ∷ vs) (i ∷ is) t = (t.0.low, t.0.high, lies_in vs is t.1)

pub lie_append : (vs ws : List ℕ) (is js : List Interval) → LieAll vs is → LieAll ws js → LieAll (vs ++ ws) (is ++ js)
lie_append [] ws [] js t u = u
lie_append [] ws (i ∷ is) js t u = absurd t
lie_append (v ∷ vs) ws [] js t u = absurd t
lie_append (v ∷ vs) ws (i ∷ is) js t u = (t.0, lie_append vs ws is js t.1 u)

pub lies_at : (vs : List ℕ) (is : List Interval) → LieAll vs is → (n : ℕ)
    → Lies (slice_index vs n) (slice_index_or is n full)
lies_at [] [] t n = lies_full 0 (omega arith)
lies_at [] (i ∷ is) t n = absurd t
lies_at (v ∷ vs) [] t n = absurd t
lies_at (v ∷ vs) (i ∷ is) t zero = t.0
lies_at (v ∷ vs) (i ∷ is) t (suc n) = lies_at vs is t.1 n

-- ---- the table

pub row : (kind : Kind) → HasShift kind → (a b c : ℕ) (i j k : Interval) → Lies a i → Lies b j → Lies c k
    → LieAll (results_on kind a b c) (intervals_on kind i j k)
row AddCarry t c a b i j k f g h = (
  window_lies _ _ _ (omega (arith, f.low, g.low, h.low)) (omega (arith, f.high, g.high, h.high)),
  (
    floors_lies _ _ _ (omega (arith, f.low, g.low, h.low)) (omega (arith, f.high, g.high, h.high))
        (omega (arith, f.word, g.word, h.word)),
    tt,
  ),
)
row SubBorrow t c a b i j k f g h = (
  window_lies _ _ _ (omega (arith, f.high, g.low, h.high)) (omega (arith, f.low, g.high, h.low)),
  (
    borrow_lies a (b + c) j.low j.high (k.low + i.low) (k.high + i.high) g.low g.high (omega (arith, f.low, h.low))
        (omega (arith, f.high, h.high)),
    tt,
  ),
)
row MulX t a b z i j k f g h = (product_low_lies a b i j f g, (product_high_lies a b i j f g, tt))
row CMov t c z nz i j k f g h = (either_lies (c == 0) z nz j k g h, tt)
row Add t a b z i j k f g h = (window_lies _ _ _ (omega (arith, f.low, g.low)) (omega (arith, f.high, g.high)), tt)
row Sub t a b z i j k f g h = (window_lies _ _ _ (omega (arith, f.low, g.high)) (omega (arith, f.high, g.low)), tt)
row Mul t a b z i j k f g h = (product_low_lies a b i j f g, tt)
row And t a b z i j k f g h = (bits_and_lies a b i j f g, tt)
row Or t a b z i j k f g h = (bits_or_lies a b i j f g, tt)
row Xor t a b z i j k f g h = (bits_xor_lies a b i j f g, tt)
row Not t a y z i j k f g h = (
  record { low = omega (arith, f.high); high = omega (arith, f.low); word = omega arith },
  tt,
)
row Copy t a y z i j k f g h = (f, tt)
row (Shl count) t a y z i j k f g h = (
  fitting_lies _ _ _ (mul-le i.low (2 ^ count) a (2 ^ count) f.low (omega arith))
      (mul-le a (2 ^ count) i.high (2 ^ count) f.high (omega arith)),
  tt,
)
row (Shr count) t a y z i j k f g h = (shifted_right_lies a count i f, tt)
row (Shrd count) t lo hi z i j k f g h = (lies_full _ (shrd_fits lo hi count (omega (arith, f.high, f.word)) t.1), tt)
