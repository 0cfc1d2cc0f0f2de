-- Results lie in the intervals that are computed from their operands'.
use Rattle.std.proofs.Common.{◌≡◌, ℕ, ◌+◌, ◌-◌, ◌*◌, ◌/◌, ◌%◌, ◌^◌, ◌<◌, ◌≤◌, Bool, true, false, refl, ◌∙◌, arith}
use Rattle.std.specs.Prelude.{◌&&◌, ◌==◌, nat_lt, nat_le, min, max, if◌then◌else◌, bit_and, bit_or, bit_xor}
use Rattle.std.specs.Int.{w64, leading_zeros}
use Rattle.std.proofs.lemmas.Bool.Decides.{nat_tests}
use Rattle.std.proofs.lemmas.Nat.{and_le_l, and_le_r, le_or_l, le_or_r, or_lt, xor_lt, mul-le, mul-lt}
use Rattle.std.proofs.lemmas.Nat.{leading_length, pow-add, pow_pos, shr_le}
use Rattle.std.proofs.Math.Pow.{shr_mono, pow_mono}
use Rattle.intervals.specs.declared.interval.Interval.{Interval}
use Rattle.intervals.specs.Intervals.{full, window, floors, fitting, ones, product_low, product_high, bits_and, bits_or}
use Rattle.intervals.specs.Intervals.{bits_xor, shifted_right, choice}
use Rattle.intervals.specs.Soundness.{AreLeastOnes}

-- ---- a word in an interval

pub record Lies (v : ℕ) (i : Interval) : Type 0 where
  pub low : i.low ≤ v
  pub high : v ≤ i.high
  pub word : i.high < 2 ^ 64

pub lies_full : (v : ℕ) → v < 2 ^ 64 → Lies v full
lies_full v h = record { low = omega arith; high = omega arith; word = omega arith }

window_by : (b : Bool) (low high v : ℕ) → (low / 2 ^ 64 == high / 2 ^ 64) ≡ b → low ≤ v → v ≤ high
    → Lies (v % 2 ^ 64) (if b then record { low = low % 2 ^ 64; high = high % 2 ^ 64 } else full)
window_by true low high v e l h = let q : low / 2 ^ 64 ≡ high / 2 ^ 64 = grind (arith, nat_tests, e) in
    record { low = omega arith; high = omega arith; word = omega arith }
window_by false low high v e l h = lies_full _ (omega arith)

pub window_lies : (low high v : ℕ) → low ≤ v → v ≤ high → Lies (v % 2 ^ 64) (window low high)
window_lies low high v l h = window_by (low / 2 ^ 64 == high / 2 ^ 64) low high v refl l h

pub floors_lies : (low high v : ℕ) → low ≤ v → v ≤ high → high < 2 ^ 64 * 2 ^ 64 → Lies (v / 2 ^ 64) (floors low high)
floors_lies low high v l h w = record { low = omega arith; high = omega arith; word = omega arith }

fitting_by : (a b : Bool) (low high v : ℕ) → nat_lt low (2 ^ 64) ≡ a → nat_lt high (2 ^ 64) ≡ b → low ≤ v → v ≤ high
    → Lies (v % 2 ^ 64) (if a && b then record { low = low; high = high } else full)
fitting_by true true low high v d e l h = let q : high < 2 ^ 64 = grind (arith, nat_tests, e) in
    record { low = omega arith; high = omega arith; word = q }
fitting_by true false low high v d e l h = lies_full _ (omega arith)
fitting_by false b low high v d e l h = lies_full _ (omega arith)

pub fitting_lies : (low high v : ℕ) → low ≤ v → v ≤ high → Lies (v % 2 ^ 64) (fitting low high)
fitting_lies low high v l h = fitting_by (nat_lt low (2 ^ 64)) (nat_lt high (2 ^ 64)) low high v refl refl l h

-- one of two words
pub either_lies : (b : Bool) (x y : ℕ) (i j : Interval) → Lies x i → Lies y j
    → Lies (if b then x else y) (choice i j)
either_lies true x y i j h g = record {
  low = omega (arith, h.low);
  high = omega (arith, h.high);
  word = omega (arith, h.word, g.word);
}
either_lies false x y i j h g = record {
  low = omega (arith, g.low);
  high = omega (arith, g.high);
  word = omega (arith, h.word, g.word);
}

-- ---- digits

-- a word at most n has at most the digits of n
digits_below : (x n : ℕ) → x ≤ n → n < 2 ^ 64 → x < 2 ^ (64 - leading_zeros w64 n)
digits_below x n h w = let l = leading_length 64 n w in let e : 64 - leading_zeros w64 n ≡ l.0 = omega (arith, l.1) in
    rw e (omega (arith, l.2))

ones_word : (n : ℕ) → ones n < 2 ^ 64
ones_word n = let p : 2 ^ (64 - leading_zeros w64 n) ≤ 2 ^ 64 =
    pow_mono {i = 64 - leading_zeros w64 n} {j = 64} (omega arith) in
    omega (arith, p, pow_pos (64 - leading_zeros w64 n))

-- a word below a power of two is at most so many ones
below_ones : (x m : ℕ) → x < 2 ^ m → x ≤ 2 ^ m - 1
below_ones x m h = omega (arith, h)

digits_of_left : {a b : ℕ} {i j : Interval} → Lies a i → Lies b j → a < 2 ^ (64 - leading_zeros w64 (max i.high j.high))
digits_of_left {a} {b} {i} {j} f g = digits_below a (max i.high j.high) (omega (arith, f.high))
    (omega (arith, f.word, g.word))

digits_of_right : {a b : ℕ} {i j : Interval} → Lies a i → Lies b j
    → b < 2 ^ (64 - leading_zeros w64 (max i.high j.high))
digits_of_right {a} {b} {i} {j} f g = digits_below b (max i.high j.high) (omega (arith, g.high))
    (omega (arith, f.word, g.word))

-- ---- results

pub product_low_lies : (a b : ℕ) (i j : Interval) → Lies a i → Lies b j → Lies (a * b % 2 ^ 64) (product_low i j)
product_low_lies a b i j f g = fitting_lies _ _ _ (mul-le i.low j.low a b f.low g.low)
    (mul-le a b i.high j.high f.high g.high)

pub product_high_lies : (a b : ℕ) (i j : Interval) → Lies a i → Lies b j → Lies (a * b / 2 ^ 64) (product_high i j)
product_high_lies a b i j f g =
    floors_lies _ _ _ (mul-le i.low j.low a b f.low g.low) (mul-le a b i.high j.high f.high g.high)
    (mul-lt i.high j.high (2 ^ 64) (2 ^ 64) f.word g.word)

pub bits_and_lies : (a b : ℕ) (i j : Interval) → Lies a i → Lies b j → Lies (bit_and a b) (bits_and i j)
bits_and_lies a b i j f g = record {
  low = omega arith;
  high = omega (arith, and_le_l a b, and_le_r a b, f.high, g.high);
  word = omega (arith, f.word, g.word);
}

pub bits_or_lies : (a b : ℕ) (i j : Interval) → Lies a i → Lies b j → Lies (bit_or a b) (bits_or i j)
bits_or_lies a b i j f g = record {
  low = omega (arith, le_or_l a b, le_or_r a b, f.low, g.low);
  high = below_ones _ (64 - leading_zeros w64 (max i.high j.high))
      (or_lt (64 - leading_zeros w64 (max i.high j.high)) a b (digits_of_left f g) (digits_of_right f g));
  word = ones_word (max i.high j.high);
}

pub bits_xor_lies : (a b : ℕ) (i j : Interval) → Lies a i → Lies b j → Lies (bit_xor a b) (bits_xor i j)
bits_xor_lies a b i j f g = record {
  low = omega arith;
  high = below_ones _ (64 - leading_zeros w64 (max i.high j.high))
      (xor_lt (64 - leading_zeros w64 (max i.high j.high)) a b (digits_of_left f g) (digits_of_right f g));
  word = ones_word (max i.high j.high);
}

pub shifted_right_lies : (a k : ℕ) (i : Interval) → Lies a i → Lies (a / 2 ^ k) (shifted_right i k)
shifted_right_lies a k i f = record {
  low = shr_mono k f.low;
  high = shr_mono k f.high;
  word = omega (arith, shr_le i.high k, f.word);
}

-- ---- ones

digits_by : (b : Bool) (word j m : ℕ) → nat_le m j ≡ b → 2 ^ m ≤ 2 * word + 1 → word ≤ 2 ^ j - 1 → 2 ^ m - 1 ≤ 2 ^ j - 1
digits_by true word j m e u h = let q : m ≤ j = grind (arith, nat_tests, e) in omega (arith, pow_mono {i = m} {j = j} q)
digits_by false word j m e u h =
    let q : j + 1 ≤ m = grind (arith, nat_tests, e) in
    let p : 2 ^ (j + 1) ≤ 2 ^ m = pow_mono {i = j + 1} {j = m} q in
    let s : 2 ^ (j + 1) ≡ 2 ^ j * 2 ^ 1 = pow-add 2 j 1 in
    omega (arith, p, s, u, h, pow_pos j)

-- ones that are at least the word are at least as many as its digits
digits_least : (word j : ℕ) → word < 2 ^ 64 → word ≤ 2 ^ j - 1 → ones word ≤ 2 ^ j - 1
digits_least word j w h =
    let l = leading_length 64 word w in
    let e : 64 - leading_zeros w64 word ≡ l.0 = omega (arith, l.1) in
    rw e (digits_by (nat_le l.0 j) word j l.0 refl l.3 h)

pub least_ones : (word : ℕ) → word < 2 ^ 64 → AreLeastOnes word (ones word)
least_ones word w = record {
  above = below_ones word (64 - leading_zeros w64 word) (digits_below word word (omega arith) w);
  ones = (64 - leading_zeros w64 word, refl);
  least = λ j h. digits_least word j w h;
}
