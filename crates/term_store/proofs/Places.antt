-- The place of a node in a table of distinct nodes, and in a longer one.
use Rattle.std.proofs.Common.{◌≡◌, ◌≢◌, ℕ, ◌+◌, ◌-◌, ◌<◌, ◌≤◌, Bool, true, false, cond, ltb, List, ◌++◌}
use Rattle.std.proofs.Common.{length, Option, Some, None, refl, sym, ap, ◌∙◌, ⊎_elim, arith}
use Rattle.std.specs.List.{position_or_len}
use Rattle.std.proofs.lemmas.Bool.{cases_lt, false≢true, lt-ltb, le-ltb}
use Rattle.std.proofs.lemmas.List.{length-append}
use Rattle.std.proofs.lemmas.List.Quantifiers.{position-Some}
use Rattle.std.proofs.lemmas.List.Sums.{position_or_len_is, fails_before_first}
use Rattle.terms.specs.declared.nodes.Node.{Node}
use Rattle.terms.specs.Tables.{node_at, no_node, IsTable, Prefix}
use Rattle.terms.specs.contracts.nodes.NodePartialEq.TheImpl.{eq-value as node_eq}
use Rattle.terms.proofs.Same.{Node-Decides}
use Rattle.term_store.specs.Interning.{place_of}
use Rattle.term_store.proofs.Prefixes.{at_front, at_back, prefix_length}

not_true : (b : Bool) → (b ≡ true → ⊥) → b ≡ false
not_true true f = absurd (f refl)
not_true false f = refl

-- ---- the test of nodes

pub same_passes : (a b : Node) → a ≡ b → node_eq.it a b ≡ true
same_passes a b e = (Node-Decides a b).1 e

pub other_fails : (a b : Node) → a ≢ b → node_eq.it a b ≡ false
other_fails a b ne = not_true (node_eq.it a b) (λ t. ne ((Node-Decides a b).0 t))

pub failing_is_other : (a b : Node) → node_eq.it a b ≡ false → a ≢ b
failing_is_other a b f e = false≢true (sym f ∙ same_passes a b e)

-- ---- which place it is

-- where the node stands, and no equal one before it
pub place_is : (t : List Node) (node : Node) (k : ℕ) → k < length t → node_at t k ≡ node
    → ((j : ℕ) → j < k → node_at t j ≢ node) → place_of t node ≡ Some k
place_is t node k h here before =
    let first : position_or_len (λ other. node_eq.it node other) t ≡ k =
    position_or_len_is (λ (other : Node). node_eq.it node other) t k no_node (omega arith)
    (λ j l. other_fails node (node_at t j) (λ e. before j l (sym e)))
    (λ l. same_passes node (node_at t k) (sym here)) in
    ap (λ (p : ℕ). cond (ltb p (length t)) (Some p) None) first
    ∙ ap (λ (b : Bool). cond b (Some k) None) (lt-ltb k (length t) h)

pub place_none : (t : List Node) (node : Node) → ((k : ℕ) → k < length t → node_at t k ≢ node) → place_of t node ≡ None
place_none t node none =
    let first : position_or_len (λ other. node_eq.it node other) t ≡ length t =
    position_or_len_is (λ (other : Node). node_eq.it node other) t (length t) no_node (omega arith)
    (λ j l. other_fails node (node_at t j) (λ e. none j l (sym e)))
    (λ l. absurd (omega arith)) in
    ap (λ (p : ℕ). cond (ltb p (length t)) (Some p) None) first
    ∙ ap (λ (b : Bool). cond b (Some (length t)) None) (le-ltb (length t) (length t) (omega arith))

-- ---- what a place says

pub record IsPlace (t : List Node) (node : Node) (n : ℕ) : Type 0 where
  pub within : n < length t
  pub here : node_at t n ≡ node
  pub before : (j : ℕ) → j < n → node_at t j ≢ node

pub at_place : (t : List Node) (node : Node) (n : ℕ) → place_of t node ≡ Some n → IsPlace t node n
at_place t node n e =
    let p = position-Some (λ (other : Node). node_eq.it node other) t n no_node e in
    record {
      within = p.0;
      here = sym ((Node-Decides node (node_at t n)).0 p.1);
      before = λ j l e. failing_is_other node (node_at t j) (p.2 j l) (sym e);
    }

pub no_place : (t : List Node) (node : Node) → place_of t node ≡ None → (k : ℕ) → k < length t → node_at t k ≢ node
no_place t node e k h here =
    let test : Node → Bool = λ other. node_eq.it node other in
    ⊎_elim
    (λ (l : position_or_len test t < length t).
    false≢true (ap (λ (o : Option ℕ). elim o as (λ _. Bool) [ None ↦ false | Some x ↦ true ])
    (sym e ∙ ap (λ (b : Bool). cond b (Some (position_or_len test t)) None) (lt-ltb _ _ l))))
    (λ (l : length t ≤ position_or_len test t).
    failing_is_other node (node_at t k) (fails_before_first test t k no_node (omega arith)) (sym here))
    (cases_lt (position_or_len test t) (length t))

-- ---- tables

-- in a table a node stands once
pub place_in_table : (t : List Node) (node : Node) (k : ℕ) → IsTable t → k < length t → node_at t k ≡ node
    → place_of t node ≡ Some k
place_in_table t node k table h here =
    place_is t node k h here (λ j l e. table.distinct j k l h (e ∙ sym here))

-- the first place of a node stays the first one
pub place_later : (t u : List Node) (node : Node) (n : ℕ) → Prefix t u → place_of t node ≡ Some n
    → place_of u node ≡ Some n
place_later t u node n p e =
    let o = at_place t node n e in
    let l = prefix_length p in
    let w = o.within in
    place_is u node n (omega arith) (at_front n p o.within ∙ o.here)
    (λ j h same. o.before j h (sym (at_front j p (omega arith)) ∙ same))

-- a node that neither part has
pub no_place_joined : (t own : List Node) (node : Node) → place_of t node ≡ None
    → ((k : ℕ) → k < length own → node_at own k ≢ node) → place_of (t ++ own) node ≡ None
no_place_joined t own node e none =
    let len = length-append t own in
    place_none (t ++ own) node (λ k h same. ⊎_elim
    (λ (l : k < length t). no_place t node e k l
    (sym (at_front {u = t ++ own} k (record { more = own; is = refl }) l) ∙ same))
    (λ (l : length t ≤ k).
    let place : length t + (k - length t) ≡ k = omega arith in
    none (k - length t) (omega arith)
    (sym (at_back t own (k - length t)) ∙ ap (node_at (t ++ own)) place ∙ same))
    (cases_lt k (length t)))
