-- The results of operations on words: they are words, and those that are told to be bits are 0 or 1.
use Rattle.std.proofs.Common.{◌≡◌, ℕ, ◌+◌, ◌-◌, ◌*◌, ◌/◌, ◌%◌, ◌^◌, ◌<◌, ◌≤◌, Bool, true, false, [], ◌∷◌, refl, arith}
use Rattle.std.proofs.Common.{subst}
use Rattle.std.proofs.lemmas.Bool.Decides.{nat_tests}
use Rattle.std.proofs.lemmas.Nat.{and_le_l, and_le_r, or_lt, xor_lt, mul-lt, shr_le}
use Rattle.std.specs.Prelude.{◌&&◌, ◌||◌, ◌==◌, nat_lt, if◌then◌else◌}
use Rattle.word_operations.specs.declared.kind.Kind.{Kind}
use Rattle.word_operations.specs.declared.kind.Kind.TheVariants.{AddCarry, SubBorrow, MulX, CMov, Add, Sub, Mul, And}
use Rattle.word_operations.specs.declared.kind.Kind.TheVariants.{Or, Xor, Not, Copy, Shl, Shr, Shrd}
use Rattle.word_operations.specs.Operations.{results_on, bits_on}
use Rattle.word_operations.specs.Laws.{IsBitIf, AreBits, AreWords, AreOperands}
use Rattle.word_operations.proofs.WordLemmas.{shrd_fits}

-- ---- words

one_of_words : (b : Bool) (x y : ℕ) → x < 2 ^ 64 → y < 2 ^ 64 → (if b then x else y) < 2 ^ 64
one_of_words true x y f g = f
one_of_words false x y f g = g

high_word : (a b : ℕ) → a < 2 ^ 64 → b < 2 ^ 64 → (a * b) / 2 ^ 64 < 2 ^ 64
high_word a b f g = let all : a * b < 2 ^ 64 * 2 ^ 64 = mul-lt a b (2 ^ 64) (2 ^ 64) f g in omega arith

pub words : (kind : Kind) (a b c : ℕ) → AreWords (a ∷ b ∷ c ∷ []) → AreWords (results_on kind a b c)
words AddCarry c a b w = (omega arith, (omega (arith, w.0, w.1.0, w.1.1.0), tt))
words SubBorrow c a b w = (omega arith, (one_of_words (nat_lt a (b + c)) 1 0 (omega arith) (omega arith), tt))
words MulX a b z w = (omega arith, (high_word a b w.0 w.1.0, tt))
words CMov c z nz w = (one_of_words (c == 0) z nz w.1.0 w.1.1.0, tt)
words Add a b z w = (omega arith, tt)
words Sub a b z w = (omega arith, tt)
words Mul a b z w = (omega arith, tt)
words And a b z w = (omega (arith, and_le_l a b, w.0), tt)
words Or a b z w = (or_lt 64 a b w.0 w.1.0, tt)
words Xor a b z w = (xor_lt 64 a b w.0 w.1.0, tt)
words Not a y z w = (omega arith, tt)
words Copy a y z w = (w.0, tt)
words (Shl k) a y z w = (omega arith, tt)
words (Shr k) a y z w = (omega (arith, shr_le a k, w.0), tt)
words (Shrd k) lo hi z w = (shrd_fits lo hi k w.0 w.1.0, tt)

-- ---- bits

never : (n : ℕ) → IsBitIf false n
never n e = absurd (cc)

one_of_bits : (b : Bool) (x y : ℕ) → x ≤ 1 → y ≤ 1 → (if b then x else y) ≤ 1
one_of_bits true x y f g = f
one_of_bits false x y f g = g

if_both : (p q : Bool) (P : Type 0) → (p ≡ true → q ≡ true → P) → p && q ≡ true → P
if_both true q P f e = f refl e
if_both false q P f e = absurd (cc)

if_either : (p q : Bool) (P : Type 0) → (p ≡ true → P) → (q ≡ true → P) → p || q ≡ true → P
if_either true q P f g e = f refl
if_either false q P f g e = g e

-- the highest bit of a word
highest : (a k : ℕ) → a < 2 ^ 64 → (k == 63) ≡ true → a / 2 ^ k ≤ 1
highest a k f e = let same : 63 ≡ k = grind (arith, nat_tests) in
    subst (λ n. a / 2 ^ n ≤ 1) same (omega arith)

pub bits : (kind : Kind) (p q r : Bool) (a b c : ℕ) → AreOperands kind p q r a b c
    → AreBits (bits_on kind p q r) (results_on kind a b c)
bits AddCarry p q r c a b o = (
  never _,
  (λ e. let carry : c ≤ 1 = o.taken refl in omega (arith, o.words.1.0, o.words.1.1.0), tt),
)
bits SubBorrow p q r c a b o = (never _, (λ e. one_of_bits (nat_lt a (b + c)) 1 0 (omega arith) (omega arith), tt))
bits MulX p q r a b z o = (never _, (never _, tt))
bits CMov p q r c z nz o = (if_both q r _ (λ e f. one_of_bits (c == 0) z nz (o.second e) (o.third f)), tt)
bits Add p q r a b z o = (never _, tt)
bits Sub p q r a b z o = (never _, tt)
bits Mul p q r a b z o = (never _, tt)
bits And p q r a b z o = (
  if_either p q _ (λ e. omega (arith, and_le_l a b, o.first e)) (λ e. omega (arith, and_le_r a b, o.second e)),
  tt,
)
bits Or p q r a b z o = (
  if_both p q _ (λ e f. let below = or_lt 1 a b (omega (arith, o.first e)) (omega (arith, o.second f)) in omega arith),
  tt,
)
bits Xor p q r a b z o = (
  if_both p q _ (λ e f. let below = xor_lt 1 a b (omega (arith, o.first e)) (omega (arith, o.second f)) in omega arith),
  tt,
)
bits Not p q r a y z o = (never _, tt)
bits Copy p q r a y z o = (o.first, tt)
bits (Shl k) p q r a y z o = (never _, tt)
bits (Shr k) p q r a y z o = (highest a k o.words.0, tt)
bits (Shrd k) p q r lo hi z o = (never _, tt)
