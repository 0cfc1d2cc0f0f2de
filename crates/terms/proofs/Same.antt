-- `==` of nodes decides equality.
use Rattle.std.proofs.Common.{◌≡◌, ℕ, List, refl, ap, nat_eq}
use Rattle.std.specs.Bool.{Decides}
use Rattle.std.specs.Cmp.Lexicographic.{pointwise}
use Rattle.std.proofs.lemmas.Bool.{false≢true}
use Rattle.std.proofs.lemmas.Bool.Decides.{Decides-eqb, Decides-and, Decides-like}
use Rattle.std.proofs.lemmas.Slice.Eq.{slice_eq-Decides}
use Rattle.terms.specs.declared.lists.Term.{Term}
use Rattle.terms.specs.declared.nodes.Node.{Node}
use Rattle.terms.specs.declared.nodes.NodeKind.{NodeKind}
use Rattle.terms.specs.declared.nodes.NodeKind.TheVariants as kinds
use Rattle.terms.specs.contracts.lists.TermPartialEq.TheImpl.{eq-value as term_eq}
use Rattle.terms.specs.contracts.nodes.NodeKindPartialEq.TheImpl.{eq-value as kind_eq}
use Rattle.terms.specs.contracts.nodes.NodePartialEq.TheImpl.{eq-value as node_eq}

pub Term-Decides : (a b : Term) → Decides (term_eq.it a b) (a ≡ b)
Term-Decides a b =
    Decides-like _ (λ p. λ i. record { times = p.0 i; node = p.1 i })
    (λ e. (ap (λ (t : Term). t.times) e, ap (λ (t : Term). t.node) e))
    (Decides-and _ _ (Decides-eqb a.times b.times) (Decides-eqb a.node b.node))

terms_decide : (s t : List Term) → Decides (pointwise term_eq.it s t) (s ≡ t)
terms_decide s t = slice_eq-Decides Term-Decides s t _ refl

numbers_decide : (s t : List ℕ) → Decides (pointwise nat_eq s t) (s ≡ t)
numbers_decide s t = slice_eq-Decides Decides-eqb s t _ refl

pub NodeKind-Decides : (a b : NodeKind) → Decides (kind_eq.it a b) (a ≡ b)
NodeKind-Decides (kinds.Const a) (kinds.Const b) = Decides-like _ (ap kinds.Const) (λ e. cc) (Decides-eqb a b)
NodeKind-Decides (kinds.Start a) (kinds.Start b) = Decides-like _ (ap kinds.Start) (λ e. cc) (Decides-eqb a b)
NodeKind-Decides (kinds.In a b) (kinds.In c d) =
    Decides-like _ (λ p. cc) (λ e. (cc, cc)) (Decides-and _ _ (Decides-eqb a c) (Decides-eqb b d))
NodeKind-Decides (kinds.Sum k s) (kinds.Sum l t) =
    Decides-like _ (λ p. cc) (λ e. (cc, cc)) (Decides-and _ _ (Decides-eqb k l) (terms_decide s t))
NodeKind-Decides (kinds.Wide k s) (kinds.Wide l t) =
    Decides-like _ (λ p. cc) (λ e. (cc, cc)) (Decides-and _ _ (Decides-eqb k l) (terms_decide s t))
NodeKind-Decides (kinds.Carry s) (kinds.Carry t) = Decides-like _ (ap kinds.Carry) (λ e. cc) (numbers_decide s t)
NodeKind-Decides (kinds.Borrow a s) (kinds.Borrow b t) =
    Decides-like _ (λ p. cc) (λ e. (cc, cc)) (Decides-and _ _ (Decides-eqb a b) (numbers_decide s t))
NodeKind-Decides (kinds.Zero a) (kinds.Zero b) = Decides-like _ (ap kinds.Zero) (λ e. cc) (Decides-eqb a b)
NodeKind-Decides (kinds.MulLo a b) (kinds.MulLo c d) =
    Decides-like _ (λ p. cc) (λ e. (cc, cc)) (Decides-and _ _ (Decides-eqb a c) (Decides-eqb b d))
NodeKind-Decides (kinds.MulHi a b) (kinds.MulHi c d) =
    Decides-like _ (λ p. cc) (λ e. (cc, cc)) (Decides-and _ _ (Decides-eqb a c) (Decides-eqb b d))
NodeKind-Decides (kinds.And a b) (kinds.And c d) =
    Decides-like _ (λ p. cc) (λ e. (cc, cc)) (Decides-and _ _ (Decides-eqb a c) (Decides-eqb b d))
NodeKind-Decides (kinds.Or a b) (kinds.Or c d) =
    Decides-like _ (λ p. cc) (λ e. (cc, cc)) (Decides-and _ _ (Decides-eqb a c) (Decides-eqb b d))
NodeKind-Decides (kinds.Xor a b) (kinds.Xor c d) =
    Decides-like _ (λ p. cc) (λ e. (cc, cc)) (Decides-and _ _ (Decides-eqb a c) (Decides-eqb b d))
NodeKind-Decides (kinds.Shr a b) (kinds.Shr c d) =
    Decides-like _ (λ p. cc) (λ e. (cc, cc)) (Decides-and _ _ (Decides-eqb a c) (Decides-eqb b d))
NodeKind-Decides (kinds.Select a b c) (kinds.Select d e f) =
    Decides-like _ (λ p. cc) (λ h. (cc, (cc, cc))) (Decides-and _ _ (Decides-eqb a d) (Decides-and _ _ (Decides-eqb b e)
    (Decides-eqb c f)))
NodeKind-Decides (kinds.SetB a b) (kinds.SetB c d) =
    Decides-like _ (λ p. cc) (λ e. (cc, cc)) (Decides-and _ _ (Decides-eqb a c) (Decides-eqb b d))
NodeKind-Decides a b = (λ e. absurd (false≢true e), λ e. cc)

pub Node-Decides : (a b : Node) → Decides (node_eq.it a b) (a ≡ b)
Node-Decides a b =
    Decides-like _ (λ p. λ i. record { kind = p.0 i; low = p.1.0 i; high = p.1.1 i })
    (λ e. (ap (λ (t : Node). t.kind) e, (ap (λ (t : Node). t.low) e, ap (λ (t : Node). t.high) e)))
    (Decides-and _ _ (NodeKind-Decides a.kind b.kind) (Decides-and _ _ (Decides-eqb a.low b.low)
    (Decides-eqb a.high b.high)))
