-- In a table that the rules made no interval passes the words, and a constant is as high as itself.
use Rattle.std.proofs.Common.{◌≡◌, ℕ, zero, suc, ◌+◌, ◌-◌, ◌*◌, ◌/◌, ◌%◌, ◌^◌, ◌<◌, ◌≤◌, Bool, true, false, ◌&&◌, ◌||◌}
use Rattle.std.proofs.Common.{eqb, leb, ltb, min, max, List, [], ◌∷◌, length, take, get_or, Option, Some, None, refl}
use Rattle.std.proofs.Common.{sym, ◌∙◌, subst, arith, ⊎_elim}
use Rattle.std.specs.Prelude.{bit_and, bit_or, bit_xor, nat_lt, sum_by}
use Rattle.std.specs.List.{list_any}
use Rattle.std.proofs.lemmas.Bool.{cases_lt}
use Rattle.std.proofs.lemmas.Bool.Decides.{nat_tests}
use Rattle.std.proofs.lemmas.List.{get_or-take, get_or_past, length-take, take_all}
use Rattle.std.proofs.lemmas.Nat.{and_le_l, mul-lt, or_lt, pow_pos, shr_le, xor_lt}
use Rattle.std.proofs.Math.Pow.{pow_mono}
use Rattle.std.specs.Int.{w64, leading_zeros}
use Rattle.base.specs.Options.{pick}
use Rattle.intervals.specs.declared.interval.Interval.{Interval}
use Rattle.intervals.specs.Intervals.{full, window, fitting, ones, bits_and, bits_or, bits_xor, product_low}
use Rattle.intervals.specs.Intervals.{product_high, shifted_right, choice}
use Rattle.terms.specs.declared.lists.Term.{Term}
use Rattle.terms.specs.declared.nodes.Node.{Node}
use Rattle.terms.specs.declared.nodes.NodeKind.{NodeKind}
use Rattle.terms.specs.declared.nodes.NodeKind.TheVariants as kinds
use Rattle.terms.specs.declared.nodes.Form.{Form}
use Rattle.terms.specs.declared.nodes.Form.TheVariants as forms
use Rattle.terms.specs.declared.nodes.Built.{Built}
use Rattle.terms.specs.declared.nodes.Built.TheVariants.{Is, Make}
use Rattle.terms.specs.Tables.{node_at, no_node, const_of}
use Rattle.terms.specs.Forms.{FormFits}
use Rattle.terms.specs.Grown.{IsGrown}
use Rattle.terms.specs.Sums.{is_far, greatest_sum, least_sum, sum_constant, sum_interval, sum_terms}
use Rattle.terms.specs.Rules.{low_at, high_at, interval_at, constant_at, is_const, const_node, finished, own, a_bit}
use Rattle.terms.specs.Rules.{no_term, max_terms, sum_of, wide_of, lin_of, carry_left, carry_of, borrow_left, borrow_of}
use Rattle.terms.specs.Rules.{passes, without_zeros, zero_of, product_by, mul_lo_of, mul_hi_of, covers, both_const}
use Rattle.terms.specs.Rules.{and_of, or_of, xor_of, tested, select_below, select_of, normal_of, by_number}
use Rattle.terms.proofs.Cases.{by_if, from_eqb, second_true}

-- ---- neat nodes

-- the node's interval does not pass the words, and where it is a constant, it ends at it
pub record IsNeat (node : Node) : Type 0 where
  pub word : node.high < 2 ^ 64
  pub exact : (v : ℕ) → const_of node.kind ≡ Some v → node.high ≡ v

-- a number of the table, or a neat node
abbrev pub IsNeatBuilt : Built → Type 0
IsNeatBuilt (Is n) = Unit {0}
IsNeatBuilt (Make node) = IsNeat node

some_same : (v w : ℕ) → Some v ≡ Some w → v ≡ w
some_same v w e = cc

const_neat : (v : ℕ) → v < 2 ^ 64 → IsNeat (const_node v)
const_neat v h = record { word = h; exact = λ w e. some_same v w e }

own_neat : (kind : NodeKind) (i : Interval) → i.high < 2 ^ 64 → const_of kind ≡ None → IsNeatBuilt (own kind i)
unfolding finished
own_neat kind i h none =
    by_if IsNeat (eqb i.low i.high) (const_node i.low) (record { kind = kind; low = i.low; high = i.high })
    (λ e. const_neat i.low (let same = from_eqb i.low i.high e in omega arith))
    (λ _. record { word = h; exact = λ v e. absurd (let f : None ≡ Some v = sym none ∙ e in cc) })

-- ---- intervals within the words

window_word : (low high : ℕ) → (window low high).high < 2 ^ 64
window_word low high = by_if (λ (i : Interval). i.high < 2 ^ 64) (eqb (low / 2 ^ 64) (high / 2 ^ 64))
    (record { low = low % 2 ^ 64; high = high % 2 ^ 64 }) full (λ _. omega arith) (λ _. omega arith)

sum_word : (table : List Node) (k : ℕ) (terms : List Term) → (sum_interval table k terms).high < 2 ^ 64
unfolding sum_interval
sum_word table k terms = by_if (λ (i : Interval). i.high < 2 ^ 64) (list_any (is_far table) terms) full
    (window (least_sum table k terms) (greatest_sum table k terms)) (λ _. omega arith)
    (λ _. window_word (least_sum table k terms) (greatest_sum table k terms))

fitting_word : (low high : ℕ) → (fitting low high).high < 2 ^ 64
fitting_word low high = by_if (λ (i : Interval). i.high < 2 ^ 64) (nat_lt low (2 ^ 64) && nat_lt high (2 ^ 64))
    (record { low = low; high = high }) full
    (λ e. let h = second_true (nat_lt low (2 ^ 64)) (nat_lt high (2 ^ 64)) e in grind (arith, nat_tests, h))
    (λ _. omega arith)

ones_word : (word : ℕ) → ones word < 2 ^ 64
ones_word word =
    let digits = 64 - leading_zeros w64 word in
    let h : 2 ^ digits ≤ 2 ^ 64 = pow_mono {i = digits} {j = 64} (omega arith) in
    omega (arith, h, pow_pos digits)

-- ---- the rules

module _ (table : List Node) (neat : (n : ℕ) → IsNeat (node_at table n)) where
  constant_word : (opens : Bool) (k : ℕ) (terms : List Term) → sum_constant opens table k terms < 2 ^ 64
  unfolding sum_constant
  constant_word opens k terms = omega arith

  sum_neat : (k : ℕ) (terms : List Term) (wide : Built) → k < 2 ^ 64 → IsNeatBuilt wide
      → IsNeatBuilt (sum_of table k terms wide)
  unfolding sum_of
  sum_neat k terms wide h other =
      by_if IsNeatBuilt (eqb (length terms) 0) _ _ (λ _. const_neat k h)
      (λ _. by_if IsNeatBuilt (eqb k 0 && (eqb (length terms) 1 && eqb (get_or terms 0 no_term).times 1)) _ _ (λ _. tt)
      (λ _. by_if IsNeatBuilt (leb (length terms) max_terms) _ _
      (λ _. own_neat (kinds.Sum k terms) (sum_interval table k terms) (sum_word table k terms) refl) (λ _. other)))

  lin_neat : (k : ℕ) (terms : List Term) → IsNeatBuilt (lin_of table k terms)
  unfolding lin_of
  lin_neat k terms =
      let c = sum_constant false table k terms in let ts = sum_terms false table terms in
      sum_neat (sum_constant true table k terms) (sum_terms true table terms) (wide_of table c ts)
      (constant_word true k terms) (own_neat (kinds.Wide c ts) (sum_interval table c ts) (sum_word table c ts) refl)

  left_carry_neat : (ms : List ℕ) → IsNeatBuilt (carry_left table ms)
  unfolding carry_left
  left_carry_neat ms =
      by_if IsNeatBuilt (eqb (length ms) 2 && passes table (get_or ms 0 0) (get_or ms 1 0)) _ _ (λ _. tt)
      (λ _. by_if IsNeatBuilt (eqb (length ms) 2 && passes table (get_or ms 1 0) (get_or ms 0 0)) _ _ (λ _. tt)
      (λ _. own_neat (kinds.Carry ms) a_bit (omega arith) refl))

  carry_neat : (ms : List ℕ) → IsNeatBuilt (carry_of table ms)
  unfolding carry_of
  carry_neat ms =
      by_if IsNeatBuilt (leb (2 ^ 64) (sum_by (low_at table) ms)) _ _ (λ _. const_neat 1 (omega arith))
      (λ _. by_if IsNeatBuilt (ltb (sum_by (high_at table) ms) (2 ^ 64)) _ _ (λ _. const_neat 0 (omega arith))
      (λ _. left_carry_neat (without_zeros table ms)))

  left_borrow_neat : (a : ℕ) (ms : List ℕ) → IsNeatBuilt (borrow_left table a ms)
  unfolding borrow_left
  left_borrow_neat a ms =
      by_if IsNeatBuilt (is_const table a 0 && (eqb (length ms) 1 && leb (high_at table (get_or ms 0 0)) 1)) _ _
      (λ _. tt) (λ _. own_neat (kinds.Borrow a ms) a_bit (omega arith) refl)

  borrow_neat : (a : ℕ) (ms : List ℕ) → IsNeatBuilt (borrow_of table a ms)
  unfolding borrow_of
  borrow_neat a ms =
      by_if IsNeatBuilt (leb (sum_by (high_at table) ms) (low_at table a)) _ _ (λ _. const_neat 0 (omega arith))
      (λ _. by_if IsNeatBuilt (ltb (high_at table a) (sum_by (low_at table) ms)) _ _ (λ _. const_neat 1 (omega arith))
      (λ _. left_borrow_neat a (without_zeros table ms)))

  zero_neat : (x : ℕ) → IsNeatBuilt (zero_of table x)
  unfolding zero_of
  zero_neat x =
      by_if IsNeatBuilt (leb 1 (low_at table x)) _ _ (λ _. const_neat 0 (omega arith))
      (λ _. by_if IsNeatBuilt (is_const table x 0) _ _ (λ _. const_neat 1 (omega arith))
      (λ _. own_neat (kinds.Zero x) a_bit (omega arith) refl))

  product_neat : (a b : ℕ) (o q : Option ℕ) → IsNeatBuilt (product_by table a b o q)
  product_neat a b (Some v) w = lin_neat 0 (record { times = v; node = b } ∷ [])
  product_neat a b None (Some w) = lin_neat 0 (record { times = w; node = a } ∷ [])
  product_neat a b None None = own_neat (kinds.MulLo a b) (product_low (interval_at table a) (interval_at table b))
      (fitting_word (low_at table a * low_at table b) (high_at table a * high_at table b)) refl

  mul_lo_neat : (a b : ℕ) → IsNeatBuilt (mul_lo_of table a b)
  unfolding mul_lo_of
  mul_lo_neat a b = product_neat a b (constant_at table a) (constant_at table b)

  mul_hi_neat : (a b : ℕ) → IsNeatBuilt (mul_hi_of table a b)
  unfolding mul_hi_of
  mul_hi_neat a b =
      let all : high_at table a * high_at table b < 2 ^ 64 * 2 ^ 64 =
      mul-lt (high_at table a) (high_at table b) (2 ^ 64) (2 ^ 64) (neat a).word (neat b).word in
      own_neat (kinds.MulHi a b) (product_high (interval_at table a) (interval_at table b)) (omega arith) refl

  -- a constant of two constants, which are as high as their nodes
  both_neat : (f : ℕ → ℕ → ℕ) (a b : ℕ) (other : Built) → f (high_at table a) (high_at table b) < 2 ^ 64
      → IsNeatBuilt other → IsNeatBuilt (both_const f (constant_at table a) (constant_at table b) other)
  both_neat f a b other h also = both (constant_at table a) (constant_at table b) refl refl where
    both : (o q : Option ℕ) → constant_at table a ≡ o → constant_at table b ≡ q → IsNeatBuilt (both_const f o q other)
    both (Some v) (Some w) d e =
        let p = (neat a).exact v d in
        let q = (neat b).exact w e in
        const_neat (f v w) (subst (λ (n : ℕ). n < 2 ^ 64) (λ i. f (p i) (q i)) h)
    both (Some v) None d e = also
    both None q d e = also

  and_neat : (a b : ℕ) → IsNeatBuilt (and_of table a b)
  unfolding and_of
  and_neat a b =
      let h = (neat a).word in
      by_if IsNeatBuilt (eqb a b) _ _ (λ _. tt)
      (λ _. by_if IsNeatBuilt (is_const table a 0 || is_const table b 0) _ _ (λ _. const_neat 0 (omega arith))
      (λ _. by_if IsNeatBuilt (covers (constant_at table a) (high_at table b)) _ _ (λ _. tt)
      (λ _. by_if IsNeatBuilt (covers (constant_at table b) (high_at table a)) _ _ (λ _. tt)
      (λ _. both_neat bit_and a b _ (omega (arith, h, and_le_l (high_at table a) (high_at table b)))
      (own_neat (kinds.And a b) (bits_and (interval_at table a) (interval_at table b)) (omega (arith, h)) refl)))))

  or_neat : (a b : ℕ) → IsNeatBuilt (or_of table a b)
  unfolding or_of
  or_neat a b =
      by_if IsNeatBuilt (eqb a b) _ _ (λ _. tt)
      (λ _. by_if IsNeatBuilt (is_const table a 0) _ _ (λ _. tt)
      (λ _. by_if IsNeatBuilt (is_const table b 0) _ _ (λ _. tt)
      (λ _. both_neat bit_or a b _ (or_lt 64 (high_at table a) (high_at table b) (neat a).word (neat b).word)
      (own_neat (kinds.Or a b) (bits_or (interval_at table a) (interval_at table b))
      (ones_word (max (high_at table a) (high_at table b))) refl))))

  xor_neat : (a b : ℕ) → IsNeatBuilt (xor_of table a b)
  unfolding xor_of
  xor_neat a b =
      by_if IsNeatBuilt (eqb a b) _ _ (λ _. const_neat 0 (omega arith))
      (λ _. by_if IsNeatBuilt (is_const table a 0) _ _ (λ _. tt)
      (λ _. by_if IsNeatBuilt (is_const table b 0) _ _ (λ _. tt)
      (λ _. both_neat bit_xor a b _ (xor_lt 64 (high_at table a) (high_at table b) (neat a).word (neat b).word)
      (own_neat (kinds.Xor a b) (bits_xor (interval_at table a) (interval_at table b))
      (ones_word (max (high_at table a) (high_at table b))) refl))))

  choice_neat : (c x y : ℕ)
      → IsNeatBuilt (own (kinds.Select c x y) (choice (interval_at table x) (interval_at table y)))
  choice_neat c x y = let h = (neat x).word in let g = (neat y).word in
      own_neat (kinds.Select c x y) (choice (interval_at table x) (interval_at table y)) (omega (arith, h, g)) refl

  below_neat : (bound c x y : ℕ) → IsNeatBuilt (select_below bound table c x y)
  unfolding select_below
  below_neat zero c x y = choice_neat c x y
  below_neat (suc bound) c x y =
      by_if IsNeatBuilt (leb 1 (low_at table c)) _ _ (λ _. tt)
      (λ _. by_if IsNeatBuilt (is_const table c 0) _ _ (λ _. tt)
      (λ _. by_if IsNeatBuilt (eqb x y) _ _ (λ _. tt)
      (λ _. by_tested (λ b. below_neat bound b y x) (tested (node_at table c).kind)))) where
        by_tested : ((b : ℕ) → IsNeatBuilt (select_below bound table b y x)) → (o : Option ℕ)
            → IsNeatBuilt (pick o (λ b. select_below bound table b y x)
            (own (kinds.Select c x y) (choice (interval_at table x) (interval_at table y))))
        by_tested turned None = choice_neat c x y
        by_tested turned (Some b) = turned b

  select_neat : (c x y : ℕ) → IsNeatBuilt (select_of table c x y)
  unfolding select_of
  select_neat c x y = below_neat (c + 1) c x y

  normal_neat : (form : Form) → FormFits table form → IsNeatBuilt (normal_of table form)
  unfolding normal_of
  normal_neat (forms.Const v) f = const_neat v f
  normal_neat (forms.Start reg) f = own_neat (kinds.Start reg) full (omega arith) refl
  normal_neat (forms.In param word low high) f =
      own_neat (kinds.In param word) (record { low = low; high = high }) f refl
  normal_neat (forms.Lin k terms) f = lin_neat k terms
  normal_neat (forms.Carry list) f = carry_neat (by_number list)
  normal_neat (forms.Borrow a list) f = borrow_neat a (by_number list)
  normal_neat (forms.Zero x) f = zero_neat x
  normal_neat (forms.MulLo a b) f = mul_lo_neat (min a b) (max a b)
  normal_neat (forms.MulHi a b) f = mul_hi_neat (min a b) (max a b)
  normal_neat (forms.And a b) f = and_neat (min a b) (max a b)
  normal_neat (forms.Or a b) f = or_neat (min a b) (max a b)
  normal_neat (forms.Xor a b) f = xor_neat (min a b) (max a b)
  normal_neat (forms.Shr x k) f = let h = (neat x).word in
      own_neat (kinds.Shr x k) (shifted_right (interval_at table x) k)
      (omega (arith, h, shr_le (high_at table x) k)) refl
  normal_neat (forms.Select c x y) f = select_neat c x y
  normal_neat (forms.SetB v b) f = own_neat (kinds.SetB v b) full (omega arith) refl

-- ---- tables

missing_neat : IsNeat no_node
missing_neat = const_neat 0 (omega arith)

-- the first nodes of a table that the rules made, and what stands at the numbers that they do not have
front_neat : (P : Form → Type 0) (t : List Node) → IsGrown P t → (n : ℕ) → n ≤ length t → (m : ℕ)
    → IsNeat (node_at (take n t) m)
front_neat P t grown zero h m = missing_neat
front_neat P t grown (suc n) h m = ⊎_elim
    (λ (l : m < n).
    subst IsNeat (get_or-take n t m no_node l ∙ sym (get_or-take (suc n) t m no_node (omega arith)))
    (front_neat P t grown n (omega arith) m))
    (λ (l : n ≤ m). ⊎_elim
    (λ (k : n < m). subst IsNeat (sym (get_or_past (take (suc n) t) m no_node
    (let e = length-take (suc n) t in omega arith))) missing_neat)
    (λ (k : m ≤ n).
    let same : n ≡ m = omega arith in
    let made = grown.each n (omega arith) in
    let neat = subst IsNeatBuilt made.made
    (normal_neat (take n t) (front_neat P t grown n (omega arith)) made.form made.fits) in
    subst (λ (j : ℕ). IsNeat (node_at (take (suc n) t) j)) same
    (subst IsNeat (sym (get_or-take (suc n) t n no_node (omega arith))) neat))
    (cases_lt n m))
    (cases_lt m n)

pub grown_neat : (P : Form → Type 0) (t : List Node) → IsGrown P t → (n : ℕ) → IsNeat (node_at t n)
grown_neat P t grown n = subst (λ (u : List Node). IsNeat (node_at u n)) (take_all (length t) t (omega arith))
    (front_neat P t grown (length t) (omega arith) n)
