-- An index tells the place of a node, and goes on to tell it when a node is put at the end.
use Rattle.std.proofs.Common.{◌≡◌, ◌≢◌, ℕ, ◌+◌, ◌-◌, ◌^◌, ◌<◌, ◌≤◌, Bool, true, false, cond, List, [], ◌∷◌, ◌++◌}
use Rattle.std.proofs.Common.{length}
use Rattle.std.proofs.Common.{Option, Some, None, refl, sym, ap, ◌∙◌, subst, inl, inr, ⊎_elim, ◌⊎◌, arith}
use Rattle.std.proofs.Common.{append_assoc}
use Rattle.std.specs.Bool.{Decides}
use Rattle.std.specs.HashMap.{HashMap, get, Updates, IsUnchanged}
use Rattle.std.proofs.lemmas.Bool.{cases_lt}
use Rattle.std.proofs.lemmas.List.{length-append, length_push}
use Rattle.terms.specs.declared.nodes.Node.{Node}
use Rattle.terms.specs.Tables.{node_at, IsTable, RefersBelow}
use Rattle.terms.specs.contracts.nodes.NodePartialEq.TheImpl.{eq-value as node_eq}
use Rattle.terms.proofs.Same.{Node-Decides}
use Rattle.term_store.specs.Interning.{place_of}
use Rattle.term_store.specs.Indexed.{IsIndex, IsStore, IsTail}
use Rattle.term_store.proofs.Prefixes.{at_front, at_end, at_back, prefix_push}
use Rattle.term_store.proofs.Places.{no_place, no_place_joined, other_fails, place_in_table, place_later}

last_or : (k n : ℕ) → k < n + 1 → (k < n) ⊎ (k ≡ n)
last_or k n h = ⊎_elim (λ (p : k < n). inl p) (λ (p : n ≤ k). inr (omega arith)) (cases_lt k n)

-- ---- tables

pub empty_table : IsTable []
empty_table = record { below = λ n h. absurd (omega arith); distinct = λ m n h l. absurd (omega arith) }

-- a table with another node at its end
pub table_push : (t : List Node) (node : Node) → IsTable t → RefersBelow (length t) node.kind
    → place_of t node ≡ None → IsTable (t ++ node ∷ [])
table_push t node table below none =
    let len = length_push t node in
    let front = λ (k : ℕ) (h : k < length t). at_front k (prefix_push t node) h in
    record {
      below = λ k h. ⊎_elim
          (λ (p : k < length t). subst (λ (q : Node). RefersBelow k q.kind) (sym (front k p)) (table.below k p))
          (λ (p : k ≡ length t). subst (λ (j : ℕ). RefersBelow j (node_at (t ++ node ∷ []) j).kind) (sym p)
          (subst (λ (q : Node). RefersBelow (length t) q.kind) (sym (at_end t node)) below))
          (last_or k (length t) (omega arith));
      distinct = λ i k h p same. ⊎_elim
          (λ (q : k < length t). table.distinct i k h q (sym (front i (omega arith)) ∙ same ∙ front k q))
          (λ (q : k ≡ length t). no_place t node none i (omega arith)
          (sym (front i (omega arith)) ∙ same ∙ ap (node_at (t ++ node ∷ [])) q ∙ at_end t node))
          (last_or k (length t) (omega arith));
    }

-- ---- indexes

module _ {S : Type 0} (before : ℕ) (list : List Node) (m : HashMap Node ℕ S) where
  pub index_same : (n : HashMap Node ℕ S) → IsIndex before list m → IsUnchanged m n → IsIndex before list n
  index_same n i e = record {
    has = λ k h. rw e (i.has k h);
    only = λ q k h. i.only q k (rw e at h);
  }

  -- a node that the list does not have, put at its end
  pub index_push : (n : HashMap Node ℕ S) (node : Node) → IsIndex before list m
      → ((k : ℕ) → k < length list → node_at list k ≢ node)
      → Updates node_eq.it m n node (Some (before + length list)) → IsIndex before (list ++ node ∷ []) n
  index_push n node i none u =
      let len = length_push list node in
      let front = λ (k : ℕ) (h : k < length list). at_front k (prefix_push list node) h in
      let more = list ++ node ∷ [] in
      record {
        has = λ k h. ⊎_elim
            (λ (p : k < length list). subst (λ (q : Node). get node_eq.it n q ≡ Some (before + k)) (sym (front k p))
            (u.0 (node_at list k)
            ∙ ap (λ (b : Bool). cond b (Some (before + length list)) (get node_eq.it m (node_at list k)))
            (other_fails node (node_at list k) (λ e. none k p (sym e))) ∙ i.has k p))
            (λ (p : k ≡ length list). subst (λ (j : ℕ). get node_eq.it n (node_at more j) ≡ Some (before + j))
            (sym p)
            (subst (λ (q : Node). get node_eq.it n q ≡ Some (before + length list)) (sym (at_end list node)) u.1))
            (last_or k (length list) (omega arith));
        only = λ q k h. only_more (node_eq.it node q) q k (Node-Decides node q) (sym (u.0 q) ∙ h);
      } where
        only_more : (b : Bool) (q : Node) (k : ℕ) → Decides b (node ≡ q)
            → cond b (Some (before + length list)) (get node_eq.it m q) ≡ Some k
            → (before ≤ k) × (k < before + length (list ++ node ∷ [])) × (node_at (list ++ node ∷ []) (k - before) ≡ q)
        only_more true q k d h =
            let len = length_push list node in
            let p : before + length list ≡ k = cc in
            let l : length list ≡ k - before = omega arith in (
              omega arith,
              omega arith,
              subst (λ (j : ℕ). node_at (list ++ node ∷ []) j ≡ q) l (at_end list node ∙ d.0 refl),
            )
        only_more false q k d h =
            let len = length_push list node in
            let o = i.only q k h in
            let low = o.0 in
            let high = o.1 in
            (o.0, omega arith, at_front (k - before) (prefix_push list node) (omega arith) ∙ o.2)

-- ---- a table whose second part has an index

pub joined_length : (base own : List Node) (m n : ℕ) → m ≡ length base → n ≡ length own → m + n ≡ length (base ++ own)
joined_length base own m n p q = let len = length-append base own in omega arith

-- a node of the first part
pub place_in_base : (base own : List Node) (node : Node) (n : ℕ) → place_of base node ≡ Some n
    → place_of (base ++ own) node ≡ Some n
place_in_base base own node n e = place_later base (base ++ own) node n (record { more = own; is = refl }) e

module _ {S : Type 0} (base own : List Node) (m : HashMap Node ℕ S) (table : IsTable (base ++ own))
    (indexed : IsIndex (length base) own m) where
  absent : (node : Node) → get node_eq.it m node ≡ None → (k : ℕ) → k < length own → node_at own k ≢ node
  absent node e k h same =
      let f = subst (λ (q : Node). get node_eq.it m q ≡ Some (length base + k)) same (indexed.has k h) in cc

  -- where the first part does not have the node, the index tells its place
  pub place_by_index : (node : Node) (o : Option ℕ) → place_of base node ≡ None → get node_eq.it m node ≡ o
      → place_of (base ++ own) node ≡ o
  place_by_index node None e f = no_place_joined base own node e (absent node f)
  place_by_index node (Some n) e f =
      let o = indexed.only node n f in
      let low = o.0 in
      let high = o.1 in
      let len = length-append base own in
      let place : length base + (n - length base) ≡ n = omega arith in
      place_in_table (base ++ own) node n table (omega arith)
      (subst (λ (j : ℕ). node_at (base ++ own) j ≡ node) place (at_back base own (n - length base) ∙ o.2))

module _ {S : Type 0} (base own : List Node) (m : HashMap Node ℕ S)
    (tail : IsTail (record { base = base; own = own }) m) where
  pub tail_same : (n : HashMap Node ℕ S) → IsUnchanged m n → IsTail (record { base = base; own = own }) n
  tail_same n e = record {
    table = tail.table;
    indexed = index_same (length base) own m n tail.indexed e;
    short = tail.short;
  }

  -- a node that the table does not have, put at its end
  pub tail_push : (n : HashMap Node ℕ S) (node : Node) → place_of (base ++ own) node ≡ None
      → RefersBelow (length (base ++ own)) node.kind → length (base ++ own) < 2 ^ 32 - 1
      → Updates node_eq.it m n node (Some (length (base ++ own)))
      → IsTail (record { base = base; own = own ++ node ∷ [] }) n
  tail_push n node none below room u =
      let len = length-append base own in
      let more : base ++ own ++ node ∷ [] ≡ base ++ (own ++ node ∷ []) = append_assoc base own (node ∷ []) in
      let last = length_push (base ++ own) node in
      record {
        table = subst IsTable more (table_push (base ++ own) node tail.table below none);
        indexed = index_push (length base) own m n node tail.indexed
            (λ k h same. no_place (base ++ own) node none (length base + k) (omega arith) (at_back base own k ∙ same))
            (subst (λ (p : ℕ). Updates node_eq.it m n node (Some p)) len u);
        short = subst (λ (t : List Node). length t < 2 ^ 32) more (omega arith);
      }

module _ {S : Type 0} (list : List Node) (m : HashMap Node ℕ S) (store : IsStore list m) where
  as_tail : IsTail (record { base = []; own = list }) m
  as_tail = record { table = store.table; indexed = store.indexed; short = store.short }

  pub store_same : (n : HashMap Node ℕ S) → IsUnchanged m n → IsStore list n
  store_same n e =
      let t = tail_same [] list m as_tail n e in
      record { table = t.table; indexed = t.indexed; short = t.short }

  pub store_push : (n : HashMap Node ℕ S) (node : Node) → place_of list node ≡ None
      → RefersBelow (length list) node.kind → length list < 2 ^ 32 - 1
      → Updates node_eq.it m n node (Some (length list)) → IsStore (list ++ node ∷ []) n
  store_push n node none below room u =
      let t = tail_push [] list m as_tail n node none below room u in
      record { table = t.table; indexed = t.indexed; short = t.short }

  pub store_place : (node : Node) → get node_eq.it m node ≡ place_of list node
  store_place node = sym (place_by_index [] list m store.table store.indexed node (get node_eq.it m node) refl refl)
