-- The condition of a test turned round: the rules make the same of the selection as before.
use Rattle.std.proofs.Common.{◌≡◌, ℕ, zero, suc, ◌+◌, ◌<◌, ◌≢◌, List, length, Bool, true, false, cond, eqb, leb}
use Rattle.std.proofs.Common.{Option, Some, None}
use Rattle.std.proofs.Common.{refl, ap, ◌∙◌, subst, arith}
use Rattle.std.proofs.lemmas.Bool.Decides.{nat_tests}
use Rattle.base.specs.Options.{pick}
use Rattle.intervals.specs.Intervals.{choice}
use Rattle.terms.specs.declared.nodes.Node.{Node}
use Rattle.terms.specs.declared.nodes.NodeKind.{NodeKind}
use Rattle.terms.specs.declared.nodes.NodeKind.TheVariants as kinds
use Rattle.terms.specs.declared.nodes.Built.{Built}
use Rattle.terms.specs.declared.nodes.Built.TheVariants.{Is}
use Rattle.terms.specs.Tables.{node_at, IsTable, RefersBelow}
use Rattle.terms.specs.Rules.{low_at, interval_at, is_const, own, tested, select_below, select_of}

pub tested_kind : (kind : NodeKind) (b : ℕ) → tested kind ≡ Some b → kind ≡ kinds.Zero b
tested_kind (kinds.Zero a) b e = ap kinds.Zero (some_inj a b e) where
  some_inj : (m n : ℕ) → Some m ≡ Some n → m ≡ n
  some_inj m n e = cc
tested_kind kind b e = absurd (none b e) where
  none : (b : ℕ) → None ≡ Some b → ⊥
  none b e = cc

pub tested_below : (table : List Node) → IsTable table → (n b : ℕ) → n < length table
    → tested (node_at table n).kind ≡ Some b → b < n
tested_below table t n b h e = subst (RefersBelow n) (tested_kind (node_at table n).kind b e) (t.below n h)

pick_same : (o : Option ℕ) (f g : ℕ → Built) (other : Built) → ((b : ℕ) → o ≡ Some b → f b ≡ g b)
    → pick o f other ≡ pick o g other
pick_same None f g other e = refl
pick_same (Some b) f g other e = e b refl

-- every bound above the condition gives the same
same_below : (table : List Node) → IsTable table → (m n c x y : ℕ) → c < m → c < n → c < length table
    → select_below m table c x y ≡ select_below n table c x y
unfolding select_below
same_below table t zero n c x y p q h = absurd (omega arith)
same_below table t (suc m) zero c x y p q h = absurd (omega arith)
same_below table t (suc m) (suc n) c x y p q h =
    ap (λ (r : Built). cond (leb 1 (low_at table c)) (Is y)
    (cond (is_const table c 0) (Is x) (cond (eqb x y) (Is x) r)))
    (pick_same (tested (node_at table c).kind) (λ b. select_below m table b y x) (λ b. select_below n table b y x)
    (own (kinds.Select c x y) (choice (interval_at table x) (interval_at table y)))
    (λ b e. let l = tested_below table t c b h e in
    same_below table t m n b y x (omega arith) (omega arith) (omega arith)))

skip : (b : Bool) (r o : Built) → b ≡ false → cond b r o ≡ o
skip true r o e = absurd (let f : true ≡ false = e in cc)
skip false r o e = refl

not_one : (n : ℕ) → n < 1 → leb 1 n ≡ false
not_one n h = grind (arith, nat_tests)

not_equal : (m n : ℕ) → m ≢ n → eqb m n ≡ false
not_equal m n h = grind (arith, nat_tests)

pub select_turned : (table : List Node) → IsTable table → (c x y b : ℕ) → c < length table
    → low_at table c < 1 → is_const table c 0 ≡ false → x ≢ y
    → tested (node_at table c).kind ≡ Some b → select_of table c x y ≡ select_of table b y x
unfolding select_of select_below
select_turned table t c x y b h low constant apart e =
    let l = tested_below table t c b h e in
    let more : c + 1 ≡ suc c = omega arith in
    let other = own (kinds.Select c x y) (choice (interval_at table x) (interval_at table y)) in
    ap (λ (n : ℕ). select_below n table c x y) more ∙ skip _ _ _ (not_one (low_at table c) low) ∙ skip _ _ _ constant
    ∙ skip _ _ _ (not_equal x y apart)
    ∙ ap (λ (o : Option ℕ). pick o (λ m. select_below c table m y x) other) e
    ∙ same_below table t c (b + 1) b y x l (omega arith) (omega arith)
