-- The words of a table's nodes give each number its node's word.
use Rattle.std.proofs.Common.{◌≡◌, ℕ, zero, suc, ◌+◌, ◌*◌, ◌/◌, ◌%◌, ◌^◌, ◌<◌, ◌≤◌, cond, eqb, ltb, List, [], ◌∷◌}
use Rattle.std.proofs.Common.{◌++◌, length}
use Rattle.std.proofs.Common.{get_or, take, bit_and, bit_or, bit_xor, ⊎_elim, refl, sym, ap, ◌∙◌, subst, arith}
use Rattle.std.proofs.Common.{add-one}
use Rattle.std.specs.List.{fold}
use Rattle.std.proofs.lemmas.Bool.{cases_lt}
use Rattle.std.proofs.lemmas.List.{length_push, get_or_append_left, get_or_at, take_all, take_more}
use Rattle.std.proofs.lemmas.List.Elements.{All-head, All-tail}
use Rattle.std.proofs.lemmas.List.Sums.{fold_push}
use Rattle.terms.specs.declared.lists.Term.{Term}
use Rattle.terms.specs.declared.nodes.Node.{Node}
use Rattle.terms.specs.declared.nodes.NodeKind.{NodeKind}
use Rattle.terms.specs.declared.nodes.NodeKind.TheVariants as kinds
use Rattle.terms.specs.Tables.{node_at, no_node, AreBelow, AreTermsBelow, IsTable, RefersBelow}
use Rattle.terms.specs.Meaning.{Start, total, weighted, with_low_byte, kind_value, next_words, words_of, node_value}
use Rattle.terms.specs.Meaning.{IsValuation}
use Rattle.term_store.proofs.Prefixes.{at_front, at_end, prefix_push, prefix_take, table_front}

-- ---- a kind's word hangs on the words of the numbers to which it refers

module _ (start : Start) (f g : ℕ → ℕ) (n : ℕ) (e : (m : ℕ) → m < n → f m ≡ g m) where
  weighted-agrees : (ts : List Term) → AreTermsBelow n ts → weighted f ts ≡ weighted g ts
  weighted-agrees [] a = refl
  weighted-agrees (t ∷ ts) a =
      let p = e t.node (All-head (λ (u : Term). u.node < n) t ts a) in
      let q = weighted-agrees ts (All-tail (λ (u : Term). u.node < n) t ts a) in
      (λ i. t.times * p i + q i)

  total-agrees : (ms : List ℕ) → AreBelow n ms → total f ms ≡ total g ms
  total-agrees [] a = refl
  total-agrees (m ∷ ms) a =
      let p = e m (All-head (λ (k : ℕ). k < n) m ms a) in
      let q = total-agrees ms (All-tail (λ (k : ℕ). k < n) m ms a) in
      (λ i. p i + q i)

  pub kind_value-agrees : (kind : NodeKind) → RefersBelow n kind → kind_value start f kind ≡ kind_value start g kind
  kind_value-agrees (kinds.Const v) r = refl
  kind_value-agrees (kinds.Start reg) r = refl
  kind_value-agrees (kinds.In param word) r = refl
  kind_value-agrees (kinds.Sum k ts) r = ap (λ (w : ℕ). (k + w) % 2 ^ 64) (weighted-agrees ts r)
  kind_value-agrees (kinds.Wide k ts) r = ap (λ (w : ℕ). (k + w) % 2 ^ 64) (weighted-agrees ts r)
  kind_value-agrees (kinds.Carry ms) r = ap (λ (w : ℕ). w / 2 ^ 64) (total-agrees ms r)
  kind_value-agrees (kinds.Borrow a ms) r =
      let p = e a r.0 in let q = total-agrees ms r.1 in (λ i. cond (ltb (p i) (q i)) 1 0)
  kind_value-agrees (kinds.Zero x) r = let p = e x r in (λ i. cond (eqb (p i) 0) 1 0)
  kind_value-agrees (kinds.MulLo a b) r = let p = e a r.0 in let q = e b r.1 in (λ i. p i * q i % 2 ^ 64)
  kind_value-agrees (kinds.MulHi a b) r = let p = e a r.0 in let q = e b r.1 in (λ i. p i * q i / 2 ^ 64)
  kind_value-agrees (kinds.And a b) r = let p = e a r.0 in let q = e b r.1 in (λ i. bit_and (p i) (q i))
  kind_value-agrees (kinds.Or a b) r = let p = e a r.0 in let q = e b r.1 in (λ i. bit_or (p i) (q i))
  kind_value-agrees (kinds.Xor a b) r = let p = e a r.0 in let q = e b r.1 in (λ i. bit_xor (p i) (q i))
  kind_value-agrees (kinds.Shr x k) r = let p = e x r in (λ i. p i / 2 ^ k)
  kind_value-agrees (kinds.Select c x y) r =
      let p = e c r.0 in let q = e x r.1 in let o = e y r.2 in (λ i. cond (eqb (p i) 0) (q i) (o i))
  kind_value-agrees (kinds.SetB v b) r = let p = e v r.0 in let q = e b r.1 in (λ i. with_low_byte (p i) (q i))

-- ---- another node at the end of a table

module _ (start : Start) where
  -- it adds a word, and the words before it stay
  pub words-push : (t : List Node) (node : Node)
      → words_of start (t ++ node ∷ []) ≡ words_of start t ++ kind_value start (node_value start t) node.kind ∷ []
  unfolding words_of next_words node_value
  words-push t node = fold_push (next_words start) [] t node

  length-fold_words : (t : List Node) (words : List ℕ)
      → length (fold (next_words start) words t) ≡ length words + length t
  unfolding next_words
  length-fold_words [] words = omega arith
  length-fold_words (node ∷ nodes) words =
      let a = length-fold_words nodes (next_words start words node) in
      let b = length_push words (kind_value start (λ m. get_or words m 0) node.kind) in
      omega arith

  pub length-words : (t : List Node) → length (words_of start t) ≡ length t
  unfolding words_of
  length-words t = let a = length-fold_words t [] in omega arith

  -- an earlier number's word stays
  pub value-push : (t : List Node) (node : Node) (n : ℕ) → n < length t
      → node_value start (t ++ node ∷ []) n ≡ node_value start t n
  unfolding node_value
  value-push t node n h =
      ap (λ (words : List ℕ). get_or words n 0) (words-push t node)
      ∙ get_or_append_left (words_of start t) _ 0 n (let a = length-words t in omega arith)

  -- the new number's word
  pub value-new : (t : List Node) (node : Node)
      → node_value start (t ++ node ∷ []) (length t) ≡ kind_value start (node_value start t) node.kind
  unfolding node_value
  value-new t node =
      ap (λ (words : List ℕ). get_or words (length t) 0) (words-push t node)
      ∙ get_or_at (words_of start t) _ [] 0 (length t) (length-words t)

  -- ---- tables

  valuation-push : (t : List Node) (node : Node) → IsTable (t ++ node ∷ []) → IsValuation start t (node_value start t)
      → IsValuation start (t ++ node ∷ []) (node_value start (t ++ node ∷ []))
  valuation-push t node table v =
      let more = t ++ node ∷ [] in
      let len = length_push t node in
      let before : List Node → ℕ → ℕ = node_value start in
      let agrees = λ (n : ℕ) (h : n ≤ length t) (r : RefersBelow n (node_at more n).kind).
      kind_value-agrees start (before t) (before more) n (λ m q. sym (value-push t node m (omega arith)))
      (node_at more n).kind r in
      record {
        meets = λ n h. ⊎_elim
            (λ (p : n < length t).
            value-push t node n p ∙ v.meets n p
            ∙ ap (λ (o : Node). kind_value start (before t) o.kind) (sym (at_front n (prefix_push t node) p))
            ∙ agrees n (omega arith) (table.below n h))
            (λ (p : length t ≤ n).
            let q : length t ≡ n = omega arith in
            subst (λ (j : ℕ). before more j ≡ kind_value start (before more) (node_at more j).kind) q
            (value-new t node ∙ ap (λ (o : Node). kind_value start (before t) o.kind) (sym (at_end t node))
            ∙ agrees (length t) (omega arith) (table.below (length t) (omega arith))))
            (cases_lt n (length t));
      }

  valuation_take : (t : List Node) → IsTable t → (n : ℕ) → n ≤ length t
      → IsValuation start (take n t) (node_value start (take n t))
  valuation_take t table zero h = record { meets = λ n l. absurd (omega arith) }
  valuation_take t table (suc n) h =
      let step : take (suc n) t ≡ take n t ++ node_at t n ∷ [] = rw (← add-one) (take_more t n no_node (omega arith)) in
      subst (λ (u : List Node). IsValuation start u (node_value start u)) (sym step)
      (valuation-push (take n t) (node_at t n) (subst IsTable step (table_front (prefix_take (suc n) t) table))
      (valuation_take t table n (omega arith)))

  -- the words of a table's nodes are a valuation of it
  pub valuation : (t : List Node) → IsTable t → IsValuation start t (node_value start t)
  valuation t table =
      subst (λ (u : List Node). IsValuation start u (node_value start u)) (take_all (length t) t (omega arith))
      (valuation_take t table (length t) (omega arith))
