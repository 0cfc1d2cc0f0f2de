-- Products and shifted words: the rules keep the word of each form, and what they make has it in its interval.
use Rattle.std.proofs.Common.{◌≡◌, ℕ, ◌+◌, ◌*◌, ◌/◌, ◌%◌, ◌^◌, ◌<◌, List, [], ◌∷◌, length}
use Rattle.std.proofs.Common.{Option, Some, None, refl, sym, ap, ◌∙◌, subst, arith}
use Rattle.std.proofs.lemmas.List.Elements.{All-cons, All-nil}
use Rattle.std.proofs.lemmas.Nat.{mul-le}
use Rattle.std.proofs.Math.Pow.{shr_mono}
use Rattle.intervals.specs.Intervals.{product_low, product_high, shifted_right}
use Rattle.intervals.proofs.Lies.{fitting_lies}
use Rattle.terms.specs.declared.lists.Term.{Term}
use Rattle.terms.specs.declared.nodes.Node.{Node}
use Rattle.terms.specs.declared.nodes.NodeKind.TheVariants as kinds
use Rattle.terms.specs.Tables.{IsTable, AreTermsBelow}
use Rattle.terms.specs.Forms.{BuiltFits}
use Rattle.terms.specs.Meaning.{Start, IsValuation, IsSound, Stands}
use Rattle.terms.specs.Rules.{low_at, high_at, interval_at, constant_at, own, lin_of, product_by, mul_lo_of}
use Rattle.terms.specs.Rules.{mul_hi_of}
use Rattle.terms.proofs.ConstantValues.{const_value, finished_stands, own_fits}
use Rattle.terms.proofs.SumIntervals.{lin_stands}
use Rattle.terms.proofs.SumsFit.{lin_fits}

one_term : (n times node : ℕ) → node < n → AreTermsBelow n (record { times = times; node = node } ∷ [])
one_term n times node h =
    All-cons (λ (u : Term). u.node < n) (record { times = times; node = node }) [] h
    (All-nil (λ (u : Term). u.node < n))

module _ (table : List Node) (t : IsTable table) where
  pub mul_lo_fits : (a b : ℕ) → a < length table → b < length table → BuiltFits table (mul_lo_of table a b)
  unfolding mul_lo_of
  mul_lo_fits a b h j = by_constant (constant_at table a) (constant_at table b) where
    by_constant : (o q : Option ℕ) → BuiltFits table (product_by table a b o q)
    by_constant (Some v) q =
        lin_fits table t 0 (record { times = v; node = b } ∷ []) (one_term (length table) v b j)
    by_constant None (Some w) =
        lin_fits table t 0 (record { times = w; node = a } ∷ []) (one_term (length table) w a h)
    by_constant None None =
        own_fits table (kinds.MulLo a b) (product_low (interval_at table a) (interval_at table b)) (h, j)

module _ (start : Start) (val : ℕ → ℕ) (table : List Node) (t : IsTable table)
    (i : IsValuation start table val) (s : IsSound table val) where
  -- ---- products

  scaled_stands : (times n v : ℕ) → n < length table → times * val n ≡ v
      → Stands start val (v % 2 ^ 64) (lin_of table 0 (record { times = times; node = n } ∷ []))
  scaled_stands times n v h e =
      let total : 0 + (times * val n + 0) ≡ v = omega (arith, e) in
      let terms : List Term = record { times = times; node = n } ∷ [] in
      subst (λ (w : ℕ). Stands start val (w % 2 ^ 64) (lin_of table 0 terms)) total
      (lin_stands start val table t i s 0 terms (one_term (length table) times n h) (omega arith))

  product_stands : (a b : ℕ) → a < length table → b < length table
      → Stands start val (val a * val b % 2 ^ 64)
      (own (kinds.MulLo a b) (product_low (interval_at table a) (interval_at table b)))
  product_stands a b h j =
      let p = mul-le (low_at table a) (low_at table b) (val a) (val b) (s.above a h) (s.above b j) in
      let q = mul-le (val a) (val b) (high_at table a) (high_at table b) (s.below a h) (s.below b j) in
      let l = fitting_lies _ _ (val a * val b) p q in
      finished_stands start val (kinds.MulLo a b) (product_low (interval_at table a) (interval_at table b)) _ refl
      l.low l.high

  pub mul_lo_stands : (a b : ℕ) → a < length table → b < length table
      → Stands start val (val a * val b % 2 ^ 64) (mul_lo_of table a b)
  unfolding mul_lo_of
  mul_lo_stands a b h j = by_constant (constant_at table a) (constant_at table b) refl refl where
    by_constant : (o q : Option ℕ) → constant_at table a ≡ o → constant_at table b ≡ q
        → Stands start val (val a * val b % 2 ^ 64) (product_by table a b o q)
    by_constant (Some v) q e f =
        scaled_stands v b _ j (ap (λ (n : ℕ). n * val b) (sym (const_value start val table i s a v h e)))
    by_constant None (Some w) e f =
        let c : val b ≡ w = const_value start val table i s b w j f in
        scaled_stands w a _ h (ap (λ (n : ℕ). n * val a) (sym c) ∙ times_comm (val b) (val a)) where
          times_comm : (m n : ℕ) → m * n ≡ n * m
          times_comm m n = omega arith
    by_constant None None e f = product_stands a b h j

  pub mul_hi_stands : (a b : ℕ) → a < length table → b < length table
      → Stands start val (val a * val b / 2 ^ 64) (mul_hi_of table a b)
  unfolding mul_hi_of
  mul_hi_stands a b h j =
      let p = mul-le (low_at table a) (low_at table b) (val a) (val b) (s.above a h) (s.above b j) in
      let q = mul-le (val a) (val b) (high_at table a) (high_at table b) (s.below a h) (s.below b j) in
      finished_stands start val (kinds.MulHi a b) (product_high (interval_at table a) (interval_at table b)) _ refl
      (omega (arith, p)) (omega (arith, q))

  -- ---- words shifted to the right

  pub shr_stands : (x k : ℕ) → x < length table
      → Stands start val (val x / 2 ^ k) (own (kinds.Shr x k) (shifted_right (interval_at table x) k))
  shr_stands x k h =
      finished_stands start val (kinds.Shr x k) (shifted_right (interval_at table x) k) _ refl
      (shr_mono k (s.above x h)) (shr_mono k (s.below x h))
