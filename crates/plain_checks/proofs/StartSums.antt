-- What a register held at the start, and a constant: the sums that the rules make of them.
use Rattle.std.proofs.Common.{◌≡◌, ◌≢◌, ℕ, zero, suc, ◌+◌, ◌-◌, ◌/◌, ◌^◌, ◌%◌, ◌<◌, List, length}
use Rattle.std.proofs.Common.{Bool, true, false, cond, ◌&&◌, eqb, Some, option_map, refl, sym, ap, ◌∙◌, subst, arith}
use Rattle.std.specs.List.{sum_by, list_any}
use Rattle.std.proofs.lemmas.Bool.Decides.{nat_tests}
use Rattle.intervals.specs.declared.interval.Interval.{Interval}
use Rattle.intervals.specs.Intervals.{full, window}
use Rattle.terms.specs.declared.nodes.Node.{Node}
use Rattle.terms.specs.declared.nodes.NodeKind.TheVariants as kinds
use Rattle.terms.specs.declared.nodes.Form.TheVariants as forms
use Rattle.terms.specs.declared.nodes.Built.{Built}
use Rattle.terms.specs.declared.nodes.Built.TheVariants.{Is, Make}
use Rattle.terms.specs.Tables.{node_at, Prefix}
use Rattle.terms.specs.Sums.{itself, is_far, up_low, up_high, down_low, down_high, least_sum, greatest_sum}
use Rattle.terms.specs.Sums.{sum_interval}
use Rattle.terms.specs.Rules.{finished, own, sum_of, normal_of}
use Rattle.terms.proofs.Cases.{by_if, from_eqb}
use Rattle.term_store.specs.Interning.{Interned, interned, entered, made}
use Rattle.term_store.proofs.Prefixes.{at_front, prefix_push, prefix_refl}
use Rattle.term_store.proofs.Made.{by_interned, interned_place}
use Rattle.term_laws.proofs.SumOpened.{wide_for, Opens, lin_opened}
use Rattle.program_nodes.proofs.SourceStarts.{start_node}
use Rattle.symbolic_state.specs.Cells.{base_of, base_of_kind, start_reg}

-- the node of what a register held at the start, and a constant
abbrev pub start_sum : ℕ → ℕ → Node
start_sum k n = record { kind = kinds.Sum k (itself n); low = full.low; high = full.high }

window_full : (l g : ℕ) → l / 2 ^ 64 ≢ g / 2 ^ 64 → window l g ≡ full
window_full l g h =
    by_if (λ (i : Interval). i ≡ full) (eqb (l / 2 ^ 64) (g / 2 ^ 64))
    (record { low = l % 2 ^ 64; high = g % 2 ^ 64 }) full
    (λ e. absurd (h (from_eqb (l / 2 ^ 64) (g / 2 ^ 64) e))) (λ e. refl)

module _ (t : List Node) (n reg : ℕ) (h : n < length t) (is : node_at t n ≡ start_node reg) where
  full_interval : (j : ℕ) → 0 < j → j < 2 ^ 64 → sum_interval t j (itself n) ≡ full
  unfolding sum_interval
  full_interval j low high =
      let far : list_any (is_far t) (itself n) ≡ false = rw is refl in
      let ul : sum_by (up_low t) (itself n) ≡ 0 = rw is refl in
      let uh : sum_by (up_high t) (itself n) ≡ 2 ^ 64 - 1 = rw is refl in
      let dl : sum_by (down_low t) (itself n) ≡ 0 = rw is refl in
      let dh : sum_by (down_high t) (itself n) ≡ 0 = rw is refl in
      ap (λ (b : Bool). cond b full (window (least_sum t j (itself n)) (greatest_sum t j (itself n)))) far
      ∙ window_full (least_sum t j (itself n)) (greatest_sum t j (itself n)) (λ e. omega arith)

  -- the start itself, and with a constant
  pub sum_none : (wide : Built) → sum_of t 0 (itself n) wide ≡ Is n
  unfolding sum_of
  sum_none wide = refl

  pub sum_more : (j : ℕ) (wide : Built) → 0 < j → j < 2 ^ 64 → sum_of t j (itself n) wide ≡ Make (start_sum j n)
  unfolding sum_of finished
  sum_more j wide low high =
      let other : eqb j 0 ≡ false = grind (arith, nat_tests) in
      ap (λ (b : Bool). cond (b && true) (Is n) (own (kinds.Sum j (itself n)) (sum_interval t j (itself n)))) other
      ∙ ap (λ (i : Interval). own (kinds.Sum j (itself n)) i) (full_interval j low high)

  -- each names the register and the constant
  abbrev IsBased : ℕ → Interned → Type 0
  IsBased j r = base_of r.table r.number ≡ Some (record { reg = reg; offset = j })

  none_based : IsBased 0 (record { table = t; number = n })
  none_based = ap (λ (node : Node). base_of_kind t node.kind) is

  more_based : (j : ℕ) → IsBased j (interned t (start_sum j n))
  more_based j =
      let r = interned t (start_sum j n) in
      let p = by_interned (λ (r : Interned). Prefix t r.table) t (start_sum j n) (λ m e. prefix_refl t)
      (λ e. prefix_push t (start_sum j n)) in
      ap (λ (node : Node). base_of_kind r.table node.kind) (interned_place t (start_sum j n)).here
      ∙ ap (λ (node : Node). option_map (λ reg. record { reg = reg; offset = j }) (start_reg node.kind))
      (at_front n p h ∙ is)

  pub sum_based : (j : ℕ) (wide : Built) → j < 2 ^ 64 → IsBased j (entered t (sum_of t j (itself n) wide))
  sum_based zero wide high = subst (λ (b : Built). IsBased 0 (entered t b)) (sym (sum_none wide)) none_based
  sum_based (suc j) wide high =
      subst (λ (b : Built). IsBased (suc j) (entered t b)) (sym (sum_more (suc j) wide (omega arith) high))
      (more_based (suc j))

  -- a node that is opened to a constant and the start, and another constant
  pub lin_based : (m k a : ℕ) → Opens t m k (itself n)
      → IsBased ((a + k) % 2 ^ 64) (made t (forms.Lin a (itself m)))
  unfolding made normal_of
  lin_based m k a o =
      subst (λ (b : Built). IsBased ((a + k) % 2 ^ 64) (entered t b)) (sym (lin_opened t m k (itself n) o a))
      (sum_based ((a + k) % 2 ^ 64) (wide_for t a (itself m)) (omega arith))
