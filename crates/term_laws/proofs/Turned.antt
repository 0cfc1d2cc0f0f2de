-- A choice by the test of a condition is the choice by the condition, the other way round.
use Rattle.std.proofs.Common.{◌≡◌, ℕ, zero, suc, ◌+◌, ◌<◌, ◌≤◌, List, [], ◌∷◌, length, Bool, true, false, cond, eqb}
use Rattle.std.proofs.Common.{leb, refl, sym, ap, ◌∙◌, subst, ⊎_elim, arith}
use Rattle.std.proofs.lemmas.Bool.{cases_lt}
use Rattle.std.proofs.lemmas.Bool.Decides.{nat_tests}
use Rattle.base.specs.Options.{pick}
use Rattle.intervals.specs.Intervals.{choice}
use Rattle.terms.specs.declared.nodes.Node.{Node}
use Rattle.terms.specs.declared.nodes.NodeKind.TheVariants as kinds
use Rattle.terms.specs.declared.nodes.Form.TheVariants as forms
use Rattle.terms.specs.declared.nodes.Built.{Built}
use Rattle.terms.specs.declared.nodes.Built.TheVariants.{Is, Make}
use Rattle.terms.specs.Tables.{node_at, IsTable, Prefix, RefersBelow}
use Rattle.terms.specs.Rules.{a_bit, const_node, finished, interval_at, is_const, low_at, normal_of, own, select_below}
use Rattle.terms.specs.Rules.{select_of, tested, zero_of}
use Rattle.terms.proofs.Cases.{from_eqb}
use Rattle.terms.proofs.SelectTurns.{tested_below}
use Rattle.term_store.specs.Interning.{Interned, made}
use Rattle.term_store.proofs.Interned.{made_interned}
use Rattle.term_store.proofs.Made.{interned_place, made_prefix}
use Rattle.term_store.proofs.Places.{IsPlace}
use Rattle.term_store.proofs.Prefixes.{at_front, prefix_trans}
use Rattle.term_laws.proofs.Entries.{IsBase}
use Rattle.term_laws.proofs.LaterRules.{pick_agrees}

-- ---- one step of the choice

-- where the condition is no constant
abbrev further : ℕ → List Node → ℕ → ℕ → ℕ → Built
further bound t c x y =
    pick (tested (node_at t c).kind) (λ b. select_below bound t b y x)
    (own (kinds.Select c x y) (choice (interval_at t x) (interval_at t y)))

abbrev step : Bool → Bool → Bool → ℕ → ℕ → Built → Built
step above nought same x y rest = cond above (Is y) (cond nought (Is x) (cond same (Is x) rest))

more_bound : (bound : ℕ) (t : List Node) (c x y : ℕ)
    → select_below (bound + 1) t c x y
    ≡ step (leb 1 (low_at t c)) (is_const t c 0) (eqb x y) x y (further bound t c x y)
unfolding select_below
more_bound bound t c x y =
    let more : bound + 1 ≡ suc bound = omega arith in ap (λ (n : ℕ). select_below n t c x y) more

step_is : (above nought same : Bool) {a b c : Bool} (x y : ℕ) (rest : Built) → a ≡ above → b ≡ nought → c ≡ same
    → step a b c x y rest ≡ step above nought same x y rest
step_is above nought same x y rest p q r = (λ i. step (p i) (q i) (r i) x y rest)

-- ---- the choice by a node of the shorter table

module _ {t w : List Node} (table : IsTable t) (p : Prefix t w) where
  -- every bound above the condition gives the same
  same_below : (m n c x y : ℕ) → c < m → c < n → c < length t → select_below m w c x y ≡ select_below n w c x y
  unfolding select_below
  same_below zero n c x y h j k = absurd (omega arith)
  same_below (suc m) zero c x y h j k = absurd (omega arith)
  same_below (suc m) (suc n) c x y h j k =
      ap (λ (r : Built). step (leb 1 (low_at w c)) (is_const w c 0) (eqb x y) x y r)
      (pick_agrees (tested (node_at w c).kind) (λ b. select_below m w b y x) (λ b. select_below n w b y x)
      (own (kinds.Select c x y) (choice (interval_at w x) (interval_at w y)))
      (λ b e. let l = tested_below t table c b k
      (sym (ap (λ (q : Node). tested q.kind) (at_front c p k)) ∙ e) in
      same_below m n b y x (omega arith) (omega arith) (omega arith)))

-- ---- the choice by the test

module _ {t u w : List Node} (c x y : ℕ) (table : IsTable t) (p : Prefix t u) (h : c < length t)
    (q : Prefix (made u (forms.Zero c)).table w) where
  abbrev test : ℕ
  test = (made u (forms.Zero c)).number

  long : Prefix t w
  long = prefix_trans p (prefix_trans (made_prefix u (forms.Zero c)) q)

  test_is : (node : Node) → normal_of u (forms.Zero c) ≡ Make node → node_at w test ≡ node
  test_is node e =
      let place = subst (λ (r : Interned). IsPlace r.table node r.number) (sym (made_interned u (forms.Zero c) node e))
      (interned_place u node) in
      at_front test q place.within ∙ place.here

  -- the test refers to the condition
  test_behind : node_at w test ≡ record { kind = kinds.Zero c; low = 0; high = 1 } → c < test
  test_behind e = ⊎_elim
      (λ (l : test < length t).
      subst (λ (n : Node). RefersBelow test n.kind) (sym (at_front test long l) ∙ e) (table.below test l))
      (λ (l : length t ≤ test). omega arith)
      (cases_lt test (length t))

  -- the condition is not 0
  above_turned : leb 1 (low_at t c) ≡ true → select_of w test y x ≡ select_of w c x y
  unfolding select_of normal_of zero_of
  above_turned e =
      let here : leb 1 (low_at u c) ≡ true = ap (λ (n : Node). leb 1 n.low) (at_front c p h) ∙ e in
      let there : leb 1 (low_at w c) ≡ true = ap (λ (n : Node). leb 1 n.low) (at_front c long h) ∙ e in
      let node = test_is (const_node 0) (ap (λ (b : Bool). cond b (Make (const_node 0))
      (cond (is_const u c 0) (Make (const_node 1)) (own (kinds.Zero c) a_bit))) here) in
      more_bound test w test y x
      ∙ step_is false true (eqb y x) y x _ (ap (λ (n : Node). leb 1 n.low) node)
      (ap (λ (n : Node). is_const (n ∷ []) 0 0) node) refl
      ∙ sym (more_bound c w c x y ∙ step_is true (is_const w c 0) (eqb x y) x y _ there refl refl)

  -- the condition is 0
  nought_turned : leb 1 (low_at t c) ≡ false → is_const t c 0 ≡ true → select_of w test y x ≡ select_of w c x y
  unfolding select_of normal_of zero_of
  nought_turned e f =
      let here = at_front c p h in
      let there = at_front c long h in
      let made_one : zero_of u c ≡ Make (const_node 1) =
      (λ i. cond (leb 1 (here i).low) (Make (const_node 0))
      (cond (is_const (here i ∷ []) 0 0) (Make (const_node 1)) (own (kinds.Zero c) a_bit)))
      ∙ (λ i. cond (e i) (Make (const_node 0)) (cond (f i) (Make (const_node 1)) (own (kinds.Zero c) a_bit))) in
      let node = test_is (const_node 1) made_one in
      more_bound test w test y x
      ∙ step_is true (is_const w test 0) (eqb y x) y x _ (ap (λ (n : Node). leb 1 n.low) node) refl refl
      ∙ sym (more_bound c w c x y
      ∙ step_is false true (eqb x y) x y _ (ap (λ (n : Node). leb 1 n.low) there ∙ e)
      (ap (λ (n : Node). is_const (n ∷ []) 0 0) there ∙ f) refl)

  -- the condition may be 0 or not
  open_turned : leb 1 (low_at t c) ≡ false → is_const t c 0 ≡ false → select_of w test y x ≡ select_of w c x y
  unfolding select_of normal_of zero_of finished
  open_turned e f =
      let here = at_front c p h in
      let there = at_front c long h in
      let own_test : Node = record { kind = kinds.Zero c; low = 0; high = 1 } in
      let made_test : zero_of u c ≡ Make own_test =
      (λ i. cond (leb 1 (here i).low) (Make (const_node 0))
      (cond (is_const (here i ∷ []) 0 0) (Make (const_node 1)) (Make own_test)))
      ∙ (λ i. cond (e i) (Make (const_node 0)) (cond (f i) (Make (const_node 1)) (Make own_test))) in
      let node = test_is own_test made_test in
      let after = test_behind node in
      let first = more_bound test w test y x
      ∙ step_is false false (eqb y x) y x _ (ap (λ (n : Node). leb 1 n.low) node)
      (ap (λ (n : Node). is_const (n ∷ []) 0 0) node) refl in
      let turned : further test w test y x ≡ select_below test w c x y =
      ap (λ (n : Node). pick (tested n.kind) (λ b. select_below test w b x y)
      (own (kinds.Select test y x) (choice (interval_at w y) (interval_at w x)))) node in
      by_same (eqb x y) refl first turned after where
        by_same : (same : Bool) → eqb x y ≡ same
            → select_below (test + 1) w test y x ≡ cond (eqb y x) (Is y) (further test w test y x)
            → further test w test y x ≡ select_below test w c x y → c < test
            → select_below (test + 1) w test y x ≡ select_below (c + 1) w c x y
        by_same true s first turned after =
            let there = at_front c long h in
            let equal : x ≡ y = from_eqb x y s in
            let other : eqb y x ≡ true = grind (arith, nat_tests, equal) in
            first ∙ ap (λ (b : Bool). cond b (Is y) (further test w test y x)) other
            ∙ ap Is (sym equal)
            ∙ sym (more_bound c w c x y
            ∙ step_is false false true x y _ (ap (λ (n : Node). leb 1 n.low) there ∙ e)
            (ap (λ (n : Node). is_const (n ∷ []) 0 0) there ∙ f) s)
        by_same false s first turned after =
            let other : eqb y x ≡ false = grind (arith, nat_tests, s) in
            first ∙ ap (λ (b : Bool). cond b (Is y) (further test w test y x)) other ∙ turned
            ∙ same_below table long test (c + 1) c x y after (omega arith) h

-- `test` is the test whether c is 0; where it is 0, so that c is not, the other word is chosen
pub select_by_test : {t u w : List Node} (c x y : ℕ) → IsBase t → Prefix t u → c < length t → (node_at t c).high ≤ 1
    → Prefix (made u (forms.Zero c)).table w
    → normal_of w (forms.Select (made u (forms.Zero c)).number y x) ≡ normal_of w (forms.Select c x y)
unfolding normal_of
select_by_test {t} {u} {w} c x y base p h bit q = by_low (leb 1 (low_at t c)) refl where
  by_nought : (b : Bool) → is_const t c 0 ≡ b → leb 1 (low_at t c) ≡ false
      → select_of w (made u (forms.Zero c)).number y x ≡ select_of w c x y
  by_nought true f e = nought_turned c x y base.is_table p h q e f
  by_nought false f e = open_turned c x y base.is_table p h q e f

  by_low : (b : Bool) → leb 1 (low_at t c) ≡ b
      → select_of w (made u (forms.Zero c)).number y x ≡ select_of w c x y
  by_low true e = above_turned c x y base.is_table p h q e
  by_low false e = by_nought (is_const t c 0) refl e
