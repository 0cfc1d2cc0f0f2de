-- A bit of a base table opened to a constant and terms, whose sum is the bit's node again.
use Rattle.std.proofs.Common.{◌≡◌, ◌≢◌, ℕ, ◌^◌, ◌<◌, ◌≤◌, List, [], length, take}
use Rattle.std.proofs.Common.{true, false, eqb, leb, refl, sym, ap, ◌∙◌, subst, arith, ⊎_elim}
use Rattle.std.proofs.lemmas.Bool.{cases_lt}
use Rattle.intervals.specs.declared.interval.Interval.{Interval}
use Rattle.terms.specs.declared.lists.Term.{Term}
use Rattle.terms.specs.declared.nodes.Node.{Node}
use Rattle.terms.specs.declared.nodes.NodeKind.{NodeKind}
use Rattle.terms.specs.declared.nodes.NodeKind.TheVariants as kinds
use Rattle.terms.specs.declared.nodes.Built.{Built}
use Rattle.terms.specs.Tables.{node_at, const_of, Prefix}
use Rattle.terms.specs.Sums.{itself, constant_of, terms_of, sum_interval}
use Rattle.terms.specs.Rules.{const_node, finished, own, sum_of}
use Rattle.terms.proofs.Cases.{from_leb}
use Rattle.term_store.specs.Interning.{interned, entered}
use Rattle.term_store.proofs.Prefixes.{at_front, prefix_length, prefix_take, prefix_trans}
use Rattle.term_store.proofs.Places.{place_in_table}
use Rattle.term_store.proofs.Made.{interned_later}
use Rattle.term_laws.proofs.Entries.{Any, IsBase}
use Rattle.term_laws.proofs.Readers.{interval_later}
use Rattle.term_laws.proofs.SumTerms.{IsOther, AreOthers, ascends_within, ascends_below}
use Rattle.term_laws.proofs.SumNodes.{IsSumOf, is_one}
use Rattle.term_laws.proofs.SumTables.{grown_sum}
use Rattle.term_laws.proofs.SumSpread.{IsBit, spread, sum_bit}
use Rattle.term_laws.proofs.SumOpened.{Opens, opens_other}

-- ---- a bit opened

-- a node is opened to few terms, whose nodes are no constants and no sums; whatever constant is put to them, they stand
-- for more than one word; and their sum is the node again
pub record IsBack (t : List Node) (c : ℕ) : Type 0 where
  pub k : ℕ
  pub ts : List Term
  pub word : k < 2 ^ 64
  pub opens : Opens t c k ts
  pub few : length ts ≤ 16
  pub others : AreOthers t ts
  pub apart : {u : List Node} → Prefix t u → (j : ℕ) → eqb (length ts) 0 ≡ false
      → (sum_interval u j ts).low ≢ (sum_interval u j ts).high
  pub back : {w : List Node} → Prefix t w → (wide : Built)
      → entered w (sum_of w k ts wide) ≡ record { table = w; number = c }

module _ (t : List Node) (c : ℕ) (base : IsBase t) (h : c < length t) (bit : (node_at t c).high ≤ 1) where
  -- the node stands where it stood
  node_again : {w : List Node} → Prefix t w → (node : Node) → node_at t c ≡ node
      → interned w node ≡ record { table = w; number = c }
  node_again p node e = interned_later node c p (place_in_table t node c base.is_table h e)

  back_constant : (v : ℕ) → (node_at t c).kind ≡ kinds.Const v → IsBack t c
  unfolding sum_of
  back_constant v e =
      let here = (base.entries c h).constant v (ap const_of e) in
      let high : (node_at t c).high ≡ v = ap (λ (n : Node). n.high) here in
      record {
        k = v;
        ts = [];
        word = omega arith;
        opens = record { constant = ap (constant_of true) e; terms = ap (terms_of true c) e; ascends = tt };
        few = omega arith;
        others = tt;
        apart = λ p j some. absurd (let f : true ≡ false = some in cc);
        back = λ p wide. node_again p (const_node v) here;
      }

  -- what the rules make of few terms, and of more than one word
  sum_own : (w : List Node) (k : ℕ) (ts : List Term) (wide : Built) → eqb (length ts) 0 ≡ false
      → is_one k ts ≡ false → leb (length ts) 16 ≡ true
      → sum_of w k ts wide ≡ own (kinds.Sum k ts) (sum_interval w k ts)
  unfolding sum_of
  sum_own w k ts wide some several few = rw (some, several, few) refl

  back_sum : (k : ℕ) (ts : List Term) → (node_at t c).kind ≡ kinds.Sum k ts → IsBack t c
  back_sum k ts e =
      let s = take c t in
      let f : IsSumOf t s (node_at t c) k ts = grown_sum Any t base.grown c h k ts e in
      let entry = base.entries c h in
      let p = prefix_take c t in
      let zero_one = sum_bit (kinds.Sum k ts) (sum_interval s k ts) (node_at t c) refl f.is e entry.ordered bit in
      let below = ascends_below 0 (length s) ts f.ascends in
      let few = from_leb (length ts) 16 f.few in
      record {
        k = k;
        ts = ts;
        word = f.word;
        opens = record {
          constant = ap (constant_of true) e;
          terms = ap (terms_of true c) e;
          ascends = ascends_within 0 0 (length s) (length t) ts (omega arith) (prefix_length p) f.ascends;
        };
        few = few;
        others = f.others;
        apart = λ {u} q j some. spread u k j ts few
            (subst IsBit (sym (interval_later (prefix_trans p q) k ts below)) zero_one);
        back = λ {w} q wide.
            ap (entered w) (sum_own w k ts wide f.some f.several f.few)
            ∙ ap (λ (i : Interval). interned w (finished (kinds.Sum k ts) i))
            (interval_later (prefix_trans p q) k ts below)
            ∙ node_again q _ (sym f.is);
      }

  -- one time a node of the words 0 and 1
  once_bit : (u : List Node) → (node_at u c).low ≡ 0 → (node_at u c).high ≡ 1 → IsBit (sum_interval u 0 (itself c))
  unfolding sum_interval
  once_bit u l g = rw (l, g) (record { low = refl; high = refl })

  back_other : IsOther (node_at t c).kind → IsBack t c
  unfolding sum_of
  back_other other =
      let entry = base.entries c h in
      let ordered = entry.ordered in
      let apart : (node_at t c).low ≢ (node_at t c).high =
      λ (same : (node_at t c).low ≡ (node_at t c).high).
      subst IsOther (ap (λ (n : Node). n.kind) (entry.point same)) other in
      let low : (node_at t c).low ≡ 0 = below_one (node_at t c).low (node_at t c).high ordered bit apart in
      let high : (node_at t c).high ≡ 1 = at_one (node_at t c).low (node_at t c).high ordered bit apart in
      record {
        k = 0;
        ts = itself c;
        word = omega arith;
        opens = opens_other t c h other;
        few = omega arith;
        others = (other, tt);
        apart = λ {u} p j some. spread u 0 j (itself c) (omega arith)
            (once_bit u (ap (λ (n : Node). n.low) (at_front c p h) ∙ low)
            (ap (λ (n : Node). n.high) (at_front c p h) ∙ high));
        back = λ p wide. refl;
      } where
        below_one : (l g : ℕ) → l ≤ g → g ≤ 1 → l ≢ g → l ≡ 0
        below_one l g o b a =
            ⊎_elim (λ (p : l < g). omega arith) (λ (p : g ≤ l). absurd (a (omega arith))) (cases_lt l g)

        at_one : (l g : ℕ) → l ≤ g → g ≤ 1 → l ≢ g → g ≡ 1
        at_one l g o b a = ⊎_elim (λ (p : l < g). omega arith) (λ (p : g ≤ l). absurd (a (omega arith))) (cases_lt l g)

  by_kind : (kind : NodeKind) → (node_at t c).kind ≡ kind → IsBack t c
  by_kind (kinds.Const v) e = back_constant v e
  by_kind (kinds.Sum k ts) e = back_sum k ts e
  by_kind kind e = back_other (subst IsOther (sym e) tt)

  pub bit_back : IsBack t c
  bit_back = by_kind (node_at t c).kind refl
