-- Each sum of a table that the rules have made is what they make of its constant and its terms.
use Rattle.std.proofs.Common.{◌≡◌, ℕ, zero, suc, ◌<◌, ◌≤◌, List, length, take, refl, sym, ◌∙◌, subst, arith}
use Rattle.std.proofs.Common.{⊎_elim, true}
use Rattle.std.proofs.lemmas.Bool.{cases_lt}
use Rattle.std.proofs.lemmas.List.{get_or-take, get_or_past, length-take}
use Rattle.terms.specs.declared.lists.Term.{Term}
use Rattle.terms.specs.declared.nodes.Node.{Node}
use Rattle.terms.specs.declared.nodes.NodeKind.{NodeKind}
use Rattle.terms.specs.declared.nodes.NodeKind.TheVariants as kinds
use Rattle.terms.specs.declared.nodes.Form.{Form}
use Rattle.terms.specs.Tables.{node_at, no_node}
use Rattle.terms.specs.Grown.{IsGrown}
use Rattle.terms.specs.Sums.{terms_of}
use Rattle.term_laws.proofs.SumTerms.{IsOther, AreOthers, OpensToOthers}
use Rattle.term_laws.proofs.SumNodes.{IsSumNode, IsSumBuilt, normal_fine}

module _ (P : Form → Type 0) (t : List Node) (grown : IsGrown P t) where
  -- what the rules made of a form over the nodes before it
  sum_over : (n : ℕ) → n < length t → OpensToOthers t (take n t) → IsSumNode t (take n t) (node_at t n)
  sum_over n h opens =
      let m = grown.each n h in subst (IsSumBuilt t (take n t)) m.made (normal_fine t (take n t) opens m.form)

  opens_kind : (n : ℕ) (kind : NodeKind) → (node_at t n).kind ≡ kind
      → ((k : ℕ) (ts : List Term) → kind ≡ kinds.Sum k ts → AreOthers t ts) → AreOthers t (terms_of true n kind)
  opens_kind n (kinds.Const v) e sum = tt
  opens_kind n (kinds.Sum k ts) e sum = sum k ts refl
  opens_kind n kind e sum = (subst IsOther (sym e) tt, tt)

  opens_before : (n : ℕ) → n ≤ length t → OpensToOthers t (take n t)
  opens_before zero h m = tt
  opens_before (suc n) h m =
      let front = take (suc n) t in
      let opens : Node → Type 0 = λ node. AreOthers t (terms_of true m node.kind) in
      let ih = opens_before n (omega arith) in
      ⊎_elim
      (λ (l : m < n). subst opens (get_or-take n t m no_node l ∙ sym (get_or-take (suc n) t m no_node (omega arith)))
      (ih m))
      (λ (l : n ≤ m). ⊎_elim
      (λ (k : n < m).
      subst opens (sym (get_or_past front m no_node (let e = length-take (suc n) t in omega arith))) tt)
      (λ (k : m ≤ n).
      let same : n ≡ m = omega arith in
      subst opens (sym (get_or-take (suc n) t m no_node (omega arith)))
      (subst (λ (j : ℕ). AreOthers t (terms_of true j (node_at t j).kind)) same
      (opens_kind n (node_at t n).kind refl (λ j ts e. (sum_over n (omega arith) ih j ts e).others))))
      (cases_lt n m))
      (cases_lt m n)

  pub grown_sum : (n : ℕ) → n < length t → IsSumNode t (take n t) (node_at t n)
  grown_sum n h = sum_over n h (opens_before n (omega arith))
