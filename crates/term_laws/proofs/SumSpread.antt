-- A sum of few terms whose words are two next to one another goes on to have two with another constant.
use Rattle.std.proofs.Common.{◌≡◌, ◌≢◌, ℕ, suc, ◌+◌, ◌*◌, ◌/◌, ◌^◌, ◌%◌, ◌≤◌, List, [], ◌∷◌, length}
use Rattle.std.proofs.Common.{Bool, true, false, cond, Some, None, ◌||◌, eqb, ltb, refl, ap, ◌∙◌, arith}
use Rattle.std.specs.List.{sum_by, list_any}
use Rattle.std.proofs.lemmas.Bool.Decides.{nat_tests}
use Rattle.std.proofs.lemmas.Nat.{mul-le}
use Rattle.std.proofs.lemmas.List.Sums.{sum_by-cons}
use Rattle.intervals.specs.declared.interval.Interval.{Interval}
use Rattle.intervals.specs.Intervals.{full, window}
use Rattle.terms.specs.declared.lists.Term.{Term}
use Rattle.terms.specs.declared.nodes.Node.{Node}
use Rattle.terms.specs.declared.nodes.NodeKind.{NodeKind}
use Rattle.terms.specs.Tables.{node_at, const_of}
use Rattle.terms.specs.Sums.{up, down, is_far, down_low, down_high, least_sum, greatest_sum}
use Rattle.terms.specs.Sums.{sum_interval}
use Rattle.terms.specs.Rules.{const_node, finished}
use Rattle.terms.proofs.Cases.{by_if, from_eqb, from_not_leb}

-- ---- windows of two numbers

-- the interval is that of the words 0 and 1
pub record IsBit (i : Interval) : Type 0 where
  pub low : i.low ≡ 0
  pub high : i.high ≡ 1

full_no_bit : IsBit full → ⊥
full_no_bit b = let h = b.high in omega arith

window_bit : (l g : ℕ) → IsBit (window l g) → g ≡ l + 1
window_bit l g b =
    by_if (λ (i : Interval). IsBit i → g ≡ l + 1) (eqb (l / 2 ^ 64) (g / 2 ^ 64))
    (record { low = l % 2 ^ 64; high = g % 2 ^ 64 }) full
    (λ e c. let same = from_eqb (l / 2 ^ 64) (g / 2 ^ 64) e in let low = c.low in let high = c.high in omega arith)
    (λ e c. absurd (full_no_bit c)) b

window_apart : (l g : ℕ) → g ≡ l + 1 → (window l g).low ≢ (window l g).high
window_apart l g h =
    by_if (λ (i : Interval). i.low ≢ i.high) (eqb (l / 2 ^ 64) (g / 2 ^ 64))
    (record { low = l % 2 ^ 64; high = g % 2 ^ 64 }) full (λ e same. omega arith) (λ e same. omega arith)

-- ---- terms that are near

first_false : (a b : Bool) → (a || b) ≡ false → a ≡ false
first_false true b e = e
first_false false b e = refl

second_false : (a b : Bool) → (a || b) ≡ false → b ≡ false
second_false true b e = absurd (let f : true ≡ false = e in cc)
second_false false b e = e

near_sum : (table : List Node) (f : Term → ℕ) → ((t : Term) → is_far table t ≡ false → f t ≤ 2 ^ 100)
    → (ts : List Term) → list_any (is_far table) ts ≡ false → sum_by f ts ≤ length ts * 2 ^ 100
near_sum table f h [] e = omega arith
near_sum table f h (t ∷ ts) e =
    let p = sum_by-cons f t ts in
    let o = h t (first_false (is_far table t) (list_any (is_far table) ts) e) in
    let r = near_sum table f h ts (second_false (is_far table t) (list_any (is_far table) ts) e) in
    omega arith

near_high : (table : List Node) (t : Term) → is_far table t ≡ false → down_high table t ≤ 2 ^ 100
near_high table t e =
    let high = (node_at table t.node).high in
    let b = from_not_leb (2 ^ 100) ((up t.times + down t.times) * high) (first_false _ _ e) in
    let m = mul-le (down t.times) high (up t.times + down t.times) high (omega arith) (omega arith) in
    omega arith

near_low : (table : List Node) (t : Term) → is_far table t ≡ false → down_low table t ≤ 2 ^ 100
near_low table t e =
    let low = (node_at table t.node).low in
    let high = (node_at table t.node).high in
    let ordered = from_not_leb (suc high) low (second_false _ (ltb high low) e) in
    let m = mul-le (down t.times) low (down t.times) high (omega arith) (omega arith) in
    let h = near_high table t e in
    omega arith

-- ---- sums

module _ (table : List Node) (k j : ℕ) (ts : List Term) (few : length ts ≤ 16) where
  abbrev by_far : Bool → ℕ → Interval
  by_far far c = cond far full (window (least_sum table c ts) (greatest_sum table c ts))

  spread_by : (far : Bool) → list_any (is_far table) ts ≡ far → IsBit (by_far far k)
      → (by_far far j).low ≢ (by_far far j).high
  spread_by true e bit same = absurd (full_no_bit bit)
  spread_by false e bit same =
      let a = near_sum table (down_high table) (near_high table) ts e in
      let b = near_sum table (down_low table) (near_low table) ts e in
      let next = window_bit (least_sum table k ts) (greatest_sum table k ts) bit in
      window_apart (least_sum table j ts) (greatest_sum table j ts) (omega arith) same

  pub spread : IsBit (sum_interval table k ts) → (sum_interval table j ts).low ≢ (sum_interval table j ts).high
  unfolding sum_interval
  spread bit = spread_by (list_any (is_far table) ts) refl bit

-- where a node of a sum is at most 1, its interval is that of the words 0 and 1
pub sum_bit : (kind : NodeKind) (i : Interval) (node : Node) → const_of kind ≡ None → finished kind i ≡ node
    → node.kind ≡ kind → node.low ≤ node.high → node.high ≤ 1 → IsBit i
unfolding finished
sum_bit kind i node other is same ordered high =
    by_if (λ (n : Node). n ≡ node → IsBit i) (eqb i.low i.high) (const_node i.low)
    (record { kind = kind; low = i.low; high = i.high })
    (λ e q.
    let c : Some i.low ≡ None = ap (λ (n : Node). const_of n.kind) q ∙ ap const_of same ∙ other in absurd cc)
    (λ e q.
    let l : i.low ≡ node.low = ap (λ (n : Node). n.low) q in
    let h : i.high ≡ node.high = ap (λ (n : Node). n.high) q in
    let apart : i.low ≢ i.high = λ (s : i.low ≡ i.high). grind (arith, nat_tests) in
    record { low = omega arith; high = omega arith }) is
