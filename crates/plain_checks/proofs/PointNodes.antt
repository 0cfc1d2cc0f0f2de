-- The nodes that the rules make: one whose interval is one word is a constant, and a constant's interval is its word.
use Rattle.std.proofs.Common.{◌≡◌, ℕ, zero, suc, ◌^◌, Bool, List, [], ◌∷◌, length, Option}
use Rattle.std.proofs.Common.{Some, None, refl, sym, ap, ◌∙◌, subst, arith}
use Rattle.std.specs.Prelude.{◌&&◌, ◌||◌, ◌==◌, nat_le, nat_lt, cond, slice_index_or, sum_by, bit_and, bit_or, bit_xor}
use Rattle.std.proofs.lemmas.Bool.Decides.{nat_tests}
use Rattle.std.proofs.lemmas.Option.{same_Some}
use Rattle.base.specs.Options.{pick}
use Rattle.intervals.specs.declared.interval.Interval.{Interval}
use Rattle.intervals.specs.Intervals.{bits_and, bits_or, bits_xor, choice, full}
use Rattle.terms.specs.declared.lists.Term.{Term}
use Rattle.terms.specs.declared.nodes.Node.{Node}
use Rattle.terms.specs.declared.nodes.NodeKind.{NodeKind}
use Rattle.terms.specs.declared.nodes.NodeKind.TheVariants as kinds
use Rattle.terms.specs.declared.nodes.Form.{Form}
use Rattle.terms.specs.declared.nodes.Form.TheVariants as forms
use Rattle.terms.specs.declared.nodes.Built.{Built}
use Rattle.terms.specs.declared.nodes.Built.TheVariants.{Is, Make}
use Rattle.terms.specs.Sums.{sum_interval}
use Rattle.terms.specs.Tables.{node_at, const_of}
use Rattle.terms.specs.Rules.{a_bit, and_of, borrow_left, borrow_of, both_const, by_number, carry_left, carry_of}
use Rattle.terms.specs.Rules.{const_node, constant_at, covers, finished, high_at, interval_at, is_const, lin_of, low_at}
use Rattle.terms.specs.Rules.{max_terms, mul_hi_of, mul_lo_of, no_term, normal_of, or_of, own, passes, product_by}
use Rattle.terms.specs.Rules.{select_below, select_of, sum_of, tested, without_zeros, xor_of, zero_of}
use Rattle.terms.proofs.Cases.{by_if}

pub record IsPointed (node : Node) : Type 0 where
  pub point : node.low ≡ node.high → node ≡ const_node node.low
  pub constant : (word : ℕ) → const_of node.kind ≡ Some word → node ≡ const_node word

-- where the rules made a node, it is such a node
pub record IsPointedBuilt (built : Built) : Type 0 where
  pub node : (node : Node) → built ≡ Make node → IsPointed node

number_pointed : {n : ℕ} → IsPointedBuilt (Is n)
number_pointed = record { node = λ node e. absurd cc }

same_node : (m n : Node) → Make m ≡ Make n → m ≡ n
same_node m n e = ap (λ b. elim b as (λ _. Node) [ Is k ↦ m | Make node ↦ node ]) e

const_node_pointed : (v : ℕ) → IsPointed (const_node v)
const_node_pointed v = record { point = λ e. refl; constant = λ word e. ap const_node (same_Some v word e) }

node_pointed : (node : Node) → IsPointed node → IsPointedBuilt (Make node)
node_pointed node p = record { node = λ other e. subst IsPointed (same_node node other e) p }

const_pointed : (v : ℕ) → IsPointedBuilt (Make (const_node v))
const_pointed v = node_pointed (const_node v) (const_node_pointed v)

no_word : (o : Option ℕ) (word : ℕ) → o ≡ None → o ≡ Some word → ⊥
no_word o word e f = let g : None ≡ Some word = sym e ∙ f in cc

own_pointed : (kind : NodeKind) (i : Interval) → const_of kind ≡ None → IsPointedBuilt (own kind i)
unfolding finished
own_pointed kind i e = node_pointed (finished kind i)
    (by_if IsPointed (i.low == i.high) _ _ (λ _. const_node_pointed i.low)
    (λ differs. record {
      point = λ same. absurd (grind (arith, nat_tests, differs, same));
      constant = λ word f. absurd (no_word (const_of kind) word e f);
    }))

if_pointed : (b : Bool) {x y : Built} → IsPointedBuilt x → IsPointedBuilt y → IsPointedBuilt (cond b x y)
if_pointed b {x} {y} p q = by_if IsPointedBuilt b x y (λ _. p) (λ _. q)

-- ---- sums and products

sum_pointed : (t : List Node) (k : ℕ) (ts : List Term) (wide : Built) → IsPointedBuilt wide
    → IsPointedBuilt (sum_of t k ts wide)
unfolding sum_of
sum_pointed t k ts wide w =
    let itself = (k == 0) && ((length ts == 1) && ((slice_index_or ts 0 no_term).times == 1)) in
    if_pointed (length ts == 0) (const_pointed k)
    (if_pointed itself number_pointed
    (if_pointed (nat_le (length ts) max_terms) (own_pointed (kinds.Sum k ts) (sum_interval t k ts) refl) w))

lin_pointed : (t : List Node) (k : ℕ) (ts : List Term) → IsPointedBuilt (lin_of t k ts)
unfolding lin_of
lin_pointed t k ts = sum_pointed t _ _ _ (own_pointed _ _ refl)

product_pointed : (t : List Node) (a b : ℕ) (v w : Option ℕ) → IsPointedBuilt (product_by t a b v w)
product_pointed t a b (Some v) w = lin_pointed t 0 (record { times = v; node = b } ∷ [])
product_pointed t a b None (Some w) = lin_pointed t 0 (record { times = w; node = a } ∷ [])
product_pointed t a b None None = own_pointed (kinds.MulLo a b) _ refl

-- ---- carries, borrows and tests

carry_left_pointed : (t : List Node) (ms : List ℕ) → IsPointedBuilt (carry_left t ms)
unfolding carry_left
carry_left_pointed t ms =
    let a = slice_index_or ms 0 0 in let b = slice_index_or ms 1 0 in
    if_pointed ((length ms == 2) && passes t a b) number_pointed
    (if_pointed ((length ms == 2) && passes t b a) number_pointed (own_pointed (kinds.Carry ms) a_bit refl))

carry_pointed : (t : List Node) (ms : List ℕ) → IsPointedBuilt (carry_of t ms)
unfolding carry_of
carry_pointed t ms = if_pointed (nat_le (2 ^ 64) (sum_by (low_at t) ms)) (const_pointed 1)
    (if_pointed (nat_lt (sum_by (high_at t) ms) (2 ^ 64)) (const_pointed 0)
    (carry_left_pointed t (without_zeros t ms)))

borrow_left_pointed : (t : List Node) (a : ℕ) (ms : List ℕ) → IsPointedBuilt (borrow_left t a ms)
unfolding borrow_left
borrow_left_pointed t a ms =
    let passed = is_const t a 0 && ((length ms == 1) && nat_le (high_at t (slice_index_or ms 0 0)) 1) in
    if_pointed passed number_pointed (own_pointed (kinds.Borrow a ms) a_bit refl)

borrow_pointed : (t : List Node) (a : ℕ) (ms : List ℕ) → IsPointedBuilt (borrow_of t a ms)
unfolding borrow_of
borrow_pointed t a ms = if_pointed (nat_le (sum_by (high_at t) ms) (low_at t a)) (const_pointed 0)
    (if_pointed (nat_lt (high_at t a) (sum_by (low_at t) ms)) (const_pointed 1)
    (borrow_left_pointed t a (without_zeros t ms)))

zero_pointed : (t : List Node) (x : ℕ) → IsPointedBuilt (zero_of t x)
unfolding zero_of
zero_pointed t x = if_pointed (nat_le 1 (low_at t x)) (const_pointed 0)
    (if_pointed (is_const t x 0) (const_pointed 1) (own_pointed (kinds.Zero x) a_bit refl))

-- ---- by bits

both_pointed : (f : ℕ → ℕ → ℕ) (v w : Option ℕ) {other : Built} → IsPointedBuilt other
    → IsPointedBuilt (both_const f v w other)
both_pointed f (Some v) (Some w) p = const_pointed (f v w)
both_pointed f (Some v) None p = p
both_pointed f None w p = p

and_pointed : (t : List Node) (a b : ℕ) → IsPointedBuilt (and_of t a b)
unfolding and_of
and_pointed t a b =
    let other = own_pointed (kinds.And a b) (bits_and (interval_at t a) (interval_at t b)) refl in
    if_pointed (a == b) number_pointed
    (if_pointed (is_const t a 0 || is_const t b 0) (const_pointed 0)
    (if_pointed (covers (constant_at t a) (high_at t b)) number_pointed
    (if_pointed (covers (constant_at t b) (high_at t a)) number_pointed
    (both_pointed bit_and (constant_at t a) (constant_at t b) other))))

or_pointed : (t : List Node) (a b : ℕ) → IsPointedBuilt (or_of t a b)
unfolding or_of
or_pointed t a b =
    let other = own_pointed (kinds.Or a b) (bits_or (interval_at t a) (interval_at t b)) refl in
    if_pointed (a == b) number_pointed
    (if_pointed (is_const t a 0) number_pointed
    (if_pointed (is_const t b 0) number_pointed
    (both_pointed bit_or (constant_at t a) (constant_at t b) other)))

xor_pointed : (t : List Node) (a b : ℕ) → IsPointedBuilt (xor_of t a b)
unfolding xor_of
xor_pointed t a b =
    let other = own_pointed (kinds.Xor a b) (bits_xor (interval_at t a) (interval_at t b)) refl in
    if_pointed (a == b) (const_pointed 0)
    (if_pointed (is_const t a 0) number_pointed
    (if_pointed (is_const t b 0) number_pointed
    (both_pointed bit_xor (constant_at t a) (constant_at t b) other)))

-- ---- choices

pick_pointed : (o : Option ℕ) {f : ℕ → Built} {other : Built} → ((n : ℕ) → IsPointedBuilt (f n))
    → IsPointedBuilt other → IsPointedBuilt (pick o f other)
pick_pointed None p q = q
pick_pointed (Some n) p q = p n

select_pointed : (bound : ℕ) (t : List Node) (c x y : ℕ) → IsPointedBuilt (select_below bound t c x y)
unfolding select_below
select_pointed zero t c x y = own_pointed (kinds.Select c x y) _ refl
select_pointed (suc bound) t c x y =
    let other = own_pointed (kinds.Select c x y) (choice (interval_at t x) (interval_at t y)) refl in
    if_pointed (nat_le 1 (low_at t c)) number_pointed
    (if_pointed (is_const t c 0) number_pointed
    (if_pointed (x == y) number_pointed
    (pick_pointed (tested (node_at t c).kind) (λ n. select_pointed bound t n y x) other)))

-- ---- all rules

pub normal_pointed : (t : List Node) (form : Form) → IsPointedBuilt (normal_of t form)
unfolding normal_of mul_lo_of mul_hi_of select_of
normal_pointed t (forms.Const v) = const_pointed v
normal_pointed t (forms.Start reg) = own_pointed (kinds.Start reg) full refl
normal_pointed t (forms.In param word low high) = own_pointed (kinds.In param word) _ refl
normal_pointed t (forms.Lin k ts) = lin_pointed t k ts
normal_pointed t (forms.Carry list) = carry_pointed t (by_number list)
normal_pointed t (forms.Borrow a list) = borrow_pointed t a (by_number list)
normal_pointed t (forms.Zero x) = zero_pointed t x
normal_pointed t (forms.MulLo a b) = product_pointed t _ _ _ _
normal_pointed t (forms.MulHi a b) = own_pointed (kinds.MulHi _ _) _ refl
normal_pointed t (forms.And a b) = and_pointed t _ _
normal_pointed t (forms.Or a b) = or_pointed t _ _
normal_pointed t (forms.Xor a b) = xor_pointed t _ _
normal_pointed t (forms.Shr x k) = own_pointed (kinds.Shr x k) _ refl
normal_pointed t (forms.Select c x y) = select_pointed _ t c x y
normal_pointed t (forms.SetB v b) = own_pointed (kinds.SetB v b) full refl
