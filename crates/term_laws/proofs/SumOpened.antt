-- A node opened to a constant and terms, and the sums of it that the rules make.
use Rattle.std.proofs.Common.{◌≡◌, ℕ, ◌+◌, ◌*◌, ◌^◌, ◌%◌, ◌<◌, List, [], ◌∷◌, ◌++◌, length, map}
use Rattle.std.proofs.Common.{true, false, refl, ap, ◌∙◌, arith, append-nil}
use Rattle.std.specs.List.{flat_map, sum_by}
use Rattle.terms.specs.declared.lists.Term.{Term}
use Rattle.terms.specs.declared.nodes.Node.{Node}
use Rattle.terms.specs.declared.nodes.NodeKind.{NodeKind}
use Rattle.terms.specs.declared.nodes.NodeKind.TheVariants as kinds
use Rattle.terms.specs.declared.nodes.Built.{Built}
use Rattle.terms.specs.Tables.{node_at, Prefix}
use Rattle.terms.specs.Sums.{joined, scaled_term, terms_of, itself, constant_of, opened, opened_constant, sum_constant}
use Rattle.terms.specs.Sums.{sum_terms}
use Rattle.terms.specs.Rules.{const_node, sum_of, wide_of, lin_of}
use Rattle.terms.proofs.Joined.{Ascends}
use Rattle.term_store.proofs.Prefixes.{at_front, prefix_length}
use Rattle.term_laws.proofs.SumTerms.{IsOther, ascends_within, joined_again, scaled_by_one}

-- the node is opened to this constant and these terms
pub record Opens (table : List Node) (n k : ℕ) (ts : List Term) : Type 0 where
  pub constant : constant_of true (node_at table n).kind ≡ k
  pub terms : terms_of true n (node_at table n).kind ≡ ts
  pub ascends : Ascends 0 (length table) ts

pub opens_later : {t u : List Node} (n k : ℕ) (ts : List Term) → Prefix t u → n < length t → Opens t n k ts
    → Opens u n k ts
opens_later {t} {u} n k ts p h o =
    let e = at_front n p h in
    record {
      constant = ap (λ (node : Node). constant_of true node.kind) e ∙ o.constant;
      terms = ap (λ (node : Node). terms_of true n node.kind) e ∙ o.terms;
      ascends = ascends_within 0 0 (length t) (length u) ts (omega arith) (prefix_length p) o.ascends;
    }

-- a node that is neither a constant nor a sum is one term
pub opens_other : (table : List Node) (n : ℕ) → n < length table → IsOther (node_at table n).kind
    → Opens table n 0 (itself n)
opens_other table n h other = by_kind (node_at table n).kind refl other where
  by_kind : (kind : NodeKind) → (node_at table n).kind ≡ kind → IsOther kind → Opens table n 0 (itself n)
  by_kind (kinds.Const v) e bad = absurd bad
  by_kind (kinds.Sum k ts) e bad = absurd bad
  by_kind kind e good = record {
    constant = ap (constant_of true) e;
    terms = ap (terms_of true n) e;
    ascends = (omega arith, h, omega arith, omega arith, tt);
  }

-- what the rules make of too many terms
abbrev pub wide_for : List Node → ℕ → List Term → Built
wide_for table a terms = wide_of table (sum_constant false table a terms) (sum_terms false table terms)

module _ (table : List Node) (n k : ℕ) (ts : List Term) (o : Opens table n k ts) where
  -- one time the node
  once : flat_map (opened true table) (itself n) ≡ ts
  once =
      append-nil (map (scaled_term 1) (terms_of true n (node_at table n).kind)) ∙ ap (map (scaled_term 1)) o.terms
      ∙ scaled_by_one 0 (length table) ts o.ascends

  -- with another constant
  pub lin_opened : (a : ℕ) → lin_of table a (itself n)
      ≡ sum_of table ((a + k) % 2 ^ 64) ts (wide_for table a (itself n))
  unfolding lin_of sum_constant sum_terms
  lin_opened a =
      let s : sum_by (opened_constant true table) (itself n) ≡ k = omega (arith, o.constant) in
      let terms = ap (joined (length table)) once ∙ joined_again (length table) ts o.ascends in
      λ i. sum_of table ((a + s i) % 2 ^ 64) (terms i) (wide_for table a (itself n))

  -- with so many times a constant's node
  pub lin_with_constant : (m times v : ℕ) → node_at table m ≡ const_node v
      → lin_of table 0 (record { times = 1; node = n } ∷ record { times = times; node = m } ∷ [])
      ≡ sum_of table ((k + times * v) % 2 ^ 64) ts
      (wide_for table 0 (record { times = 1; node = n } ∷ record { times = times; node = m } ∷ []))
  unfolding lin_of sum_constant sum_terms
  lin_with_constant m times v e =
      let both = record { times = 1; node = n } ∷ record { times = times; node = m } ∷ [] in
      let c : times * constant_of true (node_at table m).kind ≡ times * v =
      ap (λ (node : Node). times * constant_of true node.kind) e in
      let none : map (scaled_term times) (terms_of true m (node_at table m).kind) ≡ [] =
      ap (λ (node : Node). map (scaled_term times) (terms_of true m node.kind)) e in
      let s : 0 + sum_by (opened_constant true table) both ≡ k + times * v = omega (arith, o.constant, c) in
      let terms : flat_map (opened true table) both ≡ ts =
      ap (λ (us : List Term). map (scaled_term 1) (terms_of true n (node_at table n).kind) ++ (us ++ [])) none ∙ once in
      let all = ap (joined (length table)) terms ∙ joined_again (length table) ts o.ascends in
      λ i. sum_of table (s i % 2 ^ 64) (all i) (wide_for table 0 both)
