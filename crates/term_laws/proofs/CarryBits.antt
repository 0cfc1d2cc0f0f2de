-- The carry of a bit and the greatest word is the bit.
use Rattle.std.proofs.Common.{◌≡◌, ℕ, suc, ◌+◌, ◌-◌, ◌^◌, ◌<◌, ◌≤◌, List, [], ◌∷◌, length, Bool, true, false, not, cond}
use Rattle.std.proofs.Common.{◌&&◌, leb, ltb, Option, Some, None, refl, ap, ◌∙◌, ⊎_elim, arith}
use Rattle.std.specs.List.{sum_by}
use Rattle.std.proofs.lemmas.Bool.{cases_lt}
use Rattle.std.proofs.lemmas.Bool.Decides.{nat_tests}
use Rattle.terms.specs.declared.nodes.Node.{Node}
use Rattle.terms.specs.declared.nodes.NodeKind.TheVariants as kinds
use Rattle.terms.specs.declared.nodes.Form.{Form}
use Rattle.terms.specs.declared.nodes.Form.TheVariants as forms
use Rattle.terms.specs.declared.nodes.Built.TheVariants.{Is, Make}
use Rattle.terms.specs.Tables.{node_at, const_of, IsTable, Prefix}
use Rattle.terms.specs.Rules.{a_bit, by_number, carry_left, carry_of, const_node, high_at, is_const, is_left, is_value}
use Rattle.terms.specs.Rules.{low_at, normal_of, own, passes, without_zeros}
use Rattle.terms.proofs.Cases.{by_if}
use Rattle.term_store.specs.Interning.{made}
use Rattle.term_store.proofs.Interned.{made_interned, made_there}
use Rattle.term_store.proofs.Made.{interned_later}
use Rattle.term_store.proofs.Places.{place_in_table}
use Rattle.term_store.proofs.Prefixes.{at_front}
use Rattle.term_laws.proofs.Entries.{IsBase, IsEntry}
use Rattle.term_laws.proofs.Noughts.{sum_in_order}

at_least : (a b : ℕ) → a ≤ b → leb a b ≡ true
at_least a b h = grind (arith, nat_tests)

not_least : (a b : ℕ) → b < a → leb a b ≡ false
not_least a b h = grind (arith, nat_tests)

-- a node that is no constant is no word
no_value : (node : Node) (v : ℕ) → IsEntry node → node.low < node.high → is_value (const_of node.kind) v ≡ false
no_value node v entry h = by_constant (const_of node.kind) refl where
  by_constant : (o : Option ℕ) → const_of node.kind ≡ o → is_value o v ≡ false
  by_constant None e = refl
  by_constant (Some w) e =
      let same = entry.constant w e in
      let low : node.low ≡ w = ap (λ (n : Node). n.low) same in
      let high : node.high ≡ w = ap (λ (n : Node). n.high) same in
      absurd (omega arith)

-- where the rules make the node of a number of the shorter table, the form has this number
made_at : {t u : List Node} (form : Form) (node : Node) (n : ℕ) → IsTable t → Prefix t u → n < length t
    → node_at t n ≡ node → normal_of u form ≡ Make node → made u form ≡ record { table = u; number = n }
made_at {t} {u} form node n table p h here e =
    made_interned u form node e ∙ interned_later node n p (place_in_table t node n table h here)

-- ---- the carry of two nodes

module _ (u : List Node) (c m : ℕ) where
  lows : sum_by (low_at u) (by_number (c ∷ m ∷ [])) ≡ low_at u c + low_at u m
  lows = sum_in_order (low_at u) (c ∷ m ∷ []) ∙ omega arith

  highs : sum_by (high_at u) (by_number (c ∷ m ∷ [])) ≡ high_at u c + high_at u m
  highs = sum_in_order (high_at u) (c ∷ m ∷ []) ∙ omega arith

  always : 2 ^ 64 ≤ low_at u c + low_at u m → carry_of u (by_number (c ∷ m ∷ [])) ≡ Make (const_node 1)
  unfolding carry_of
  always h =
      let ms = by_number (c ∷ m ∷ []) in
      ap (λ (b : Bool). cond b (Make (const_node 1))
      (cond (ltb (sum_by (high_at u) ms) (2 ^ 64)) (Make (const_node 0)) (carry_left u (without_zeros u ms))))
      (at_least (2 ^ 64) (sum_by (low_at u) (by_number (c ∷ m ∷ []))) (let l = lows in omega arith))

  perhaps : low_at u c + low_at u m < 2 ^ 64 → (b : Bool)
      → ltb (sum_by (high_at u) (by_number (c ∷ m ∷ []))) (2 ^ 64) ≡ b
      → carry_of u (by_number (c ∷ m ∷ []))
      ≡ cond b (Make (const_node 0)) (carry_left u (without_zeros u (by_number (c ∷ m ∷ []))))
  unfolding carry_of
  perhaps h b e =
      let low = not_least (2 ^ 64) (sum_by (low_at u) (by_number (c ∷ m ∷ []))) (let l = lows in omega arith) in
      (λ i. cond (low i) (Make (const_node 1))
      (cond (e i) (Make (const_node 0)) (carry_left u (without_zeros u (by_number (c ∷ m ∷ []))))))

  never : high_at u c + high_at u m < 2 ^ 64 → low_at u c + low_at u m < 2 ^ 64
      → carry_of u (by_number (c ∷ m ∷ [])) ≡ Make (const_node 0)
  never h l =
      perhaps l true (at_least (suc (sum_by (high_at u) (by_number (c ∷ m ∷ [])))) (2 ^ 64)
      (let k = highs in omega arith))

-- two nodes that are not 0, of which one is the greatest word and the other a bit
module _ (u : List Node) where
  keep_two : (a b : ℕ) → is_left u a ≡ true → is_left u b ≡ true → without_zeros u (a ∷ b ∷ []) ≡ a ∷ b ∷ []
  keep_two a b e f = (λ i. cond (e i) (a ∷ cond (f i) (b ∷ []) []) (cond (f i) (b ∷ []) []))

  passes_first : (a b : ℕ) → passes u a b ≡ true → carry_left u (a ∷ b ∷ []) ≡ Is b
  unfolding carry_left
  passes_first a b e =
      ap (λ (t : Bool). cond t (Is b) (cond (passes u b a) (Is a) (own (kinds.Carry (a ∷ b ∷ [])) a_bit))) e

  passes_second : (a b : ℕ) → passes u a b ≡ false → passes u b a ≡ true → carry_left u (a ∷ b ∷ []) ≡ Is a
  unfolding carry_left
  passes_second a b e f = (λ i. cond (e i) (Is b) (cond (f i) (Is a) (own (kinds.Carry (a ∷ b ∷ [])) a_bit)))

  left_is : (c m : ℕ) → is_left u c ≡ true → is_left u m ≡ true → passes u c m ≡ false → passes u m c ≡ true
      → carry_left u (without_zeros u (by_number (c ∷ m ∷ []))) ≡ Is c
  unfolding by_number
  left_is c m e f not_first second =
      by_if (λ (l : List ℕ). carry_left u (without_zeros u l) ≡ Is c) (ltb c m) (c ∷ m ∷ []) (m ∷ c ∷ [])
      (λ _. ap (carry_left u) (keep_two c m e f) ∙ passes_second c m not_first second)
      (λ _. ap (carry_left u) (keep_two m c f e) ∙ passes_first m c second)

-- ---- the carry of a bit and the greatest word

pub carry_bit : {t u : List Node} (c m : ℕ) → IsBase t → Prefix t u → c < length t → (node_at t c).high ≤ 1
    → m < length u → node_at u m ≡ const_node (2 ^ 64 - 1)
    → made u (forms.Carry (c ∷ m ∷ [])) ≡ record { table = u; number = c }
unfolding normal_of
carry_bit {t} {u} c m base p h bit i e =
    let entry = base.entries c h in
    let ordered = entry.ordered in
    let here = at_front c p h in
    let low : low_at u c ≡ low_at t c = ap (λ (n : Node). n.low) here in
    let high : high_at u c ≡ high_at t c = ap (λ (n : Node). n.high) here in
    let most_low : low_at u m ≡ 2 ^ 64 - 1 = ap (λ (n : Node). n.low) e in
    let most_high : high_at u m ≡ 2 ^ 64 - 1 = ap (λ (n : Node). n.high) e in
    let table = base.is_table in
    let form = forms.Carry (c ∷ m ∷ []) in
    ⊎_elim
    (λ (l : low_at t c < 1). ⊎_elim
    (λ (k : high_at t c < 1).
    let zero : low_at t c ≡ 0 = omega arith in
    let node : node_at t c ≡ const_node 0 = entry.point (omega arith) ∙ ap const_node zero in
    made_at form (const_node 0) c table p h node (never u c m (omega arith) (omega arith)))
    (λ (k : 1 ≤ high_at t c).
    let other : (v : ℕ) → is_const u c v ≡ false =
    λ v. ap (λ (n : Node). is_value (const_of n.kind) v) here ∙ no_value (node_at t c) v entry (omega arith) in
    let left : is_left u c ≡ true = ap not (other 0) in
    let left_most : is_left u m ≡ true = ap (λ (n : Node). not (is_value (const_of n.kind) 0)) e in
    let low_bit = at_least (high_at u c) 1 (omega arith) in
    let yes : passes u m c ≡ true = (λ j. is_value (const_of (e j).kind) (2 ^ 64 - 1) && low_bit j) in
    let never : passes u c m ≡ false = (λ j. other (2 ^ 64 - 1) j && leb (high_at u m) 1) in
    let rest = perhaps u c m (omega arith) false
    (not_least (suc (sum_by (high_at u) (by_number (c ∷ m ∷ [])))) (2 ^ 64) (let s = highs u c m in omega arith)) in
    made_there u form c (rest ∙ left_is u c m left left_most never yes))
    (cases_lt (high_at t c) 1))
    (λ (l : 1 ≤ low_at t c).
    let one : low_at t c ≡ 1 = omega arith in
    let node : node_at t c ≡ const_node 1 = entry.point (omega arith) ∙ ap const_node one in
    made_at form (const_node 1) c table p h node (always u c m (omega arith)))
    (cases_lt (low_at t c) 1)
