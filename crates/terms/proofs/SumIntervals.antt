-- A sum of terms: its interval has its word, and what the rules make of it stands for it.
use Rattle.std.proofs.Common.{◌≡◌, ℕ, ◌+◌, ◌-◌, ◌*◌, ◌^◌, ◌%◌, ◌<◌, ◌≤◌, List, [], ◌∷◌, length, get_or}
use Rattle.std.proofs.Common.{Bool, true, false, cond, ◌&&◌, ◌||◌, eqb, leb, ltb, refl, ap, ◌∙◌, subst, arith}
use Rattle.std.specs.List.{sum_by, list_any}
use Rattle.std.proofs.lemmas.Nat.{mul-le}
use Rattle.std.proofs.lemmas.List.Sums.{sum_by-cons}
use Rattle.intervals.specs.Intervals.{window}
use Rattle.intervals.proofs.Lies.{Lies, lies_full, window_lies}
use Rattle.terms.specs.declared.lists.Term.{Term}
use Rattle.terms.specs.declared.nodes.Node.{Node}
use Rattle.terms.specs.declared.nodes.NodeKind.TheVariants as kinds
use Rattle.terms.specs.declared.nodes.Built.{Built}
use Rattle.terms.specs.Tables.{node_at, IsTable, AreTermsBelow}
use Rattle.terms.specs.Sums.{up, down, is_far, up_low, up_high, down_low, down_high, least_sum, greatest_sum}
use Rattle.terms.specs.Sums.{sum_constant, sum_terms, sum_interval}
use Rattle.terms.specs.Meaning.{Start, weighted, IsValuation, IsSound, Stands}
use Rattle.terms.specs.Rules.{no_term, sum_of, lin_of}
use Rattle.terms.proofs.Cases.{by_if, from_eqb, from_leb, from_not_leb, first_true, second_true}
use Rattle.terms.proofs.ConstantValues.{finished_stands}
use Rattle.terms.proofs.SumValues.{AreTerms, sum_value, sum_terms_are, sum_terms_few}

first_false : (a b : Bool) → (a || b) ≡ false → a ≡ false
first_false true b e = e
first_false false b e = refl

second_false : (a b : Bool) → (a || b) ≡ false → b ≡ false
second_false true b e = absurd (let f : true ≡ false = e in cc)
second_false false b e = e

module _ (val : ℕ → ℕ) where
  abbrev up_val : Term → ℕ
  up_val t = up t.times * val t.node

  abbrev down_val : Term → ℕ
  down_val t = down t.times * val t.node

  -- a multiplier is 2^64 above the signed number where this is below 0
  abbrev wrap_val : Term → ℕ
  wrap_val t = cond (ltb t.times (2 ^ 63)) 0 (val t.node)

  signed_one : (b : Bool) (t v : ℕ) → t < 2 ^ 64
      → t * v + cond b 0 (2 ^ 64 - t) * v ≡ cond b t 0 * v + 2 ^ 64 * cond b 0 v
  signed_one true t v h = omega arith
  signed_one false t v h =
      let e : t + (2 ^ 64 - t) ≡ 2 ^ 64 = omega arith in
      let f : (t + (2 ^ 64 - t)) * v ≡ 2 ^ 64 * v = ap (λ (n : ℕ). n * v) e in
      omega arith

  signed_sum : (count : ℕ) (ts : List Term) → AreTerms count ts
      → weighted val ts + sum_by down_val ts ≡ sum_by up_val ts + 2 ^ 64 * sum_by wrap_val ts
  signed_sum count [] a = omega arith
  signed_sum count (t ∷ ts) a =
      let p = sum_by-cons down_val t ts in
      let q = sum_by-cons up_val t ts in
      let r = sum_by-cons wrap_val t ts in
      let o = signed_one (ltb t.times (2 ^ 63)) t.times (val t.node) a.1 in
      let ih = signed_sum count ts a.2 in
      omega arith

  module _ (table : List Node) (s : IsSound table val) where
    sum_le : (f g : Term → ℕ) → ((t : Term) → t.node < length table → f t ≤ g t) → (ts : List Term)
        → AreTerms (length table) ts → sum_by f ts ≤ sum_by g ts
    sum_le f g h [] a = omega arith
    sum_le f g h (t ∷ ts) a =
        let p = sum_by-cons f t ts in
        let q = sum_by-cons g t ts in
        let r = sum_le f g h ts a.2 in
        let o = h t a.0 in
        omega arith

    far_one : (u d high v : ℕ) → v ≤ high → leb (2 ^ 100) ((u + d) * high) ≡ false → d * v ≤ 2 ^ 100
    far_one u d high v h e =
        let b = from_not_leb (2 ^ 100) ((u + d) * high) e in
        let m = mul-le d v (u + d) high (omega arith) h in
        omega arith

    down_few : (ts : List Term) → AreTerms (length table) ts → list_any (is_far table) ts ≡ false
        → sum_by (down_high table) ts ≤ length ts * 2 ^ 100
    down_few [] a e = omega arith
    down_few (t ∷ ts) a e =
        let n = node_at table t.node in
        let p = sum_by-cons (down_high table) t ts in
        let near = first_false (is_far table t) (list_any (is_far table) ts) e in
        let small = first_false (leb (2 ^ 100) ((up t.times + down t.times) * n.high)) (ltb n.high n.low) near in
        let o = far_one (up t.times) (down t.times) n.high n.high (omega arith) small in
        let ih = down_few ts a.2 (second_false (is_far table t) (list_any (is_far table) ts) e) in
        omega arith

    sum_lies : (k : ℕ) (ts : List Term) → AreTerms (length table) ts → length ts ≤ 16
        → Lies ((k + weighted val ts) % 2 ^ 64) (sum_interval table k ts)
    unfolding sum_interval
    sum_lies k ts a few =
        by_if (Lies ((k + weighted val ts) % 2 ^ 64)) (list_any (is_far table) ts) _ _
        (λ e. lies_full _ (omega arith))
        (λ e.
        let above = λ (f : ℕ → ℕ) (t : Term) (h : t.node < length table).
        mul-le (f t.times) _ (f t.times) (val t.node) (omega arith) (s.above t.node h) in
        let below = λ (f : ℕ → ℕ) (t : Term) (h : t.node < length table).
        mul-le (f t.times) (val t.node) (f t.times) _ (omega arith) (s.below t.node h) in
        let u1 = sum_le (up_low table) up_val (above up) ts a in
        let u2 = sum_le up_val (up_high table) (below up) ts a in
        let d1 = sum_le (down_low table) down_val (above down) ts a in
        let d2 = sum_le down_val (down_high table) (below down) ts a in
        let m = down_few ts a e in
        let g = signed_sum (length table) ts a in
        let v = k + 2 ^ 110 + sum_by up_val ts - sum_by down_val ts in
        let same : v % 2 ^ 64 ≡ (k + weighted val ts) % 2 ^ 64 = wrapped v (k + weighted val ts) (sum_by wrap_val ts)
        (omega arith) in
        subst (λ (w : ℕ). Lies w (window (least_sum table k ts) (greatest_sum table k ts))) same
        (window_lies (least_sum table k ts) (greatest_sum table k ts) v (omega arith) (omega arith))) where
          wrapped : (v w z : ℕ) → w + 2 ^ 64 * 2 ^ 46 ≡ v + 2 ^ 64 * z → v % 2 ^ 64 ≡ w % 2 ^ 64
          wrapped v w z e = omega arith

sum_constant_word : (opens : Bool) (table : List Node) (k : ℕ) (ts : List Term) → sum_constant opens table k ts < 2 ^ 64
unfolding sum_constant
sum_constant_word opens table k ts = omega arith

abbrev IsOne : ℕ → List Term → Bool
IsOne k ts = eqb k 0 && (eqb (length ts) 1 && eqb (get_or ts 0 no_term).times 1)

module _ (start : Start) (val : ℕ → ℕ) (table : List Node) (t : IsTable table) (i : IsValuation start table val)
    (s : IsSound table val) where
  one_term : (k : ℕ) (ts : List Term) → AreTerms (length table) ts → IsOne k ts ≡ true
      → val (get_or ts 0 no_term).node ≡ (k + weighted val ts) % 2 ^ 64
  one_term k [] a e =
      let f : 0 ≡ 1 = from_eqb 0 1 (first_true (eqb 0 1) (eqb (get_or [] 0 no_term).times 1)
      (second_true (eqb k 0) _ e)) in
      absurd (omega (arith, f))
  one_term k (u ∷ []) a e =
      let z = from_eqb k 0 (first_true _ _ e) in
      let o = from_eqb u.times 1 (second_true (eqb (length (u ∷ [])) 1) _ (second_true (eqb k 0) _ e)) in
      let m : u.times * val u.node ≡ 1 * val u.node = ap (λ (n : ℕ). n * val u.node) o in
      let w = s.word u.node a.0 in
      omega arith
  one_term k (u ∷ v ∷ ts) a e =
      let f : length (u ∷ v ∷ ts) ≡ 1 = from_eqb (length (u ∷ v ∷ ts)) 1
      (first_true (eqb (length (u ∷ v ∷ ts)) 1) _ (second_true (eqb k 0) _ e)) in
      absurd (omega (arith, f))

  none_left : (k : ℕ) (ts : List Term) → k < 2 ^ 64 → eqb (length ts) 0 ≡ true → k ≡ (k + weighted val ts) % 2 ^ 64
  none_left k [] h e = omega arith
  none_left k (u ∷ ts) h e = let f = from_eqb (length (u ∷ ts)) 0 e in absurd (omega arith)

  sum_stands : (k : ℕ) (ts : List Term) (wide : Built) (v : ℕ) → k < 2 ^ 64 → AreTerms (length table) ts
      → (k + weighted val ts) % 2 ^ 64 ≡ v → Stands start val v wide → Stands start val v (sum_of table k ts wide)
  unfolding sum_of
  sum_stands k ts wide v h a e w =
      let P : Built → Type 0 = Stands start val v in
      by_if P (eqb (length ts) 0) _ _
      (λ q. let f = none_left k ts h q in (omega arith, omega arith, omega arith))
      (λ _. by_if P (IsOne k ts) _ _ (λ q. one_term k ts a q ∙ e)
      (λ _. by_if P (leb (length ts) 16) _ _
      (λ q. let b = sum_lies val table s k ts a (from_leb (length ts) 16 q) in
      let low = b.low in
      let high = b.high in
      finished_stands start val (kinds.Sum k ts) (sum_interval table k ts) v e (omega arith) (omega arith))
      (λ _. w)))

  -- what the rules make of a constant and terms has their sum
  pub lin_stands : (k : ℕ) (ts : List Term) → AreTermsBelow (length table) ts → length ts ≤ 16
      → Stands start val ((k + weighted val ts) % 2 ^ 64) (lin_of table k ts)
  unfolding lin_of
  lin_stands k ts a few =
      let wide = sum_value start val false table k ts t i a in
      let fewer = sum_terms_few table ts t a in
      let b = sum_lies val table s (sum_constant false table k ts) (sum_terms false table ts)
      (sum_terms_are false table ts t a) (omega arith) in
      let low = b.low in
      let high = b.high in
      sum_stands (sum_constant true table k ts) (sum_terms true table ts) _ ((k + weighted val ts) % 2 ^ 64)
      (sum_constant_word true table k ts) (sum_terms_are true table ts t a)
      (sum_value start val true table k ts t i a)
      (finished_stands start val (kinds.Wide (sum_constant false table k ts) (sum_terms false table ts))
      (sum_interval table (sum_constant false table k ts) (sum_terms false table ts)) _ wide (omega arith)
      (omega arith))
