-- A sum of a table that the rules have made is what they make of its constant and its terms.
use Rattle.std.proofs.Common.{◌≡◌, ℕ, zero, suc, ◌+◌, ◌^◌, ◌<◌, Bool, true, false, ◌&&◌, ◌||◌, eqb, leb, ltb}
use Rattle.std.proofs.Common.{min, max, List, [], ◌∷◌, length, get_or, Option, Some, None, refl, sym, ap, ◌∙◌}
use Rattle.std.proofs.Common.{subst, arith}
use Rattle.std.specs.Prelude.{bit_and, bit_or, bit_xor, sum_by}
use Rattle.base.specs.Options.{pick}
use Rattle.intervals.specs.declared.interval.Interval.{Interval}
use Rattle.intervals.specs.Intervals.{full, bits_and, bits_or, bits_xor, product_low, product_high, shifted_right}
use Rattle.intervals.specs.Intervals.{choice}
use Rattle.terms.specs.declared.lists.Term.{Term}
use Rattle.terms.specs.declared.nodes.Node.{Node}
use Rattle.terms.specs.declared.nodes.NodeKind.{NodeKind}
use Rattle.terms.specs.declared.nodes.NodeKind.TheVariants as kinds
use Rattle.terms.specs.declared.nodes.Form.{Form}
use Rattle.terms.specs.declared.nodes.Form.TheVariants as forms
use Rattle.terms.specs.declared.nodes.Built.{Built}
use Rattle.terms.specs.declared.nodes.Built.TheVariants.{Is, Make}
use Rattle.terms.specs.Tables.{node_at}
use Rattle.terms.specs.Sums.{sum_constant, sum_interval, sum_terms}
use Rattle.terms.specs.Rules.{low_at, high_at, interval_at, constant_at, is_const, const_node, finished, own, a_bit}
use Rattle.terms.specs.Rules.{no_term, sum_of, wide_of, lin_of, carry_left, carry_of, borrow_left, borrow_of}
use Rattle.terms.specs.Rules.{passes, without_zeros, zero_of, product_by, mul_lo_of, mul_hi_of, covers, both_const}
use Rattle.terms.specs.Rules.{and_of, or_of, xor_of, tested, select_below, select_of, normal_of, by_number}
use Rattle.terms.proofs.Cases.{by_if}
use Rattle.terms.proofs.Joined.{Ascends}
use Rattle.term_laws.proofs.SumTerms.{AreOthers, OpensToOthers, sum_terms_ascend, sum_terms_others}

-- ---- what a sum's node has

abbrev pub is_one : ℕ → List Term → Bool
is_one k ts = eqb k 0 && (eqb (length ts) 1 && eqb (get_or ts 0 no_term).times 1)

-- over `s` the rules make this node of a constant and of few terms, whose nodes in `table` are no constants and no sums
pub record IsSumOf (table s : List Node) (node : Node) (k : ℕ) (ts : List Term) : Type 0 where
  pub word : k < 2 ^ 64
  pub ascends : Ascends 0 (length s) ts
  pub others : AreOthers table ts
  pub some : eqb (length ts) 0 ≡ false
  pub several : is_one k ts ≡ false
  pub few : leb (length ts) 16 ≡ true
  pub is : finished (kinds.Sum k ts) (sum_interval s k ts) ≡ node

abbrev pub IsSumNode : List Node → List Node → Node → Type 0
IsSumNode table s node = (k : ℕ) (ts : List Term) → node.kind ≡ kinds.Sum k ts → IsSumOf table s node k ts

abbrev pub IsSumBuilt : List Node → List Node → Built → Type 0
IsSumBuilt table s (Is n) = Unit {0}
IsSumBuilt table s (Make node) = IsSumNode table s node

abbrev is_sum : NodeKind → Bool
is_sum (kinds.Sum k ts) = true
is_sum _ = false

-- ---- the rules

module _ (table s : List Node) (opens : OpensToOthers table s) where
  abbrev Fine : Built → Type 0
  Fine b = IsSumBuilt table s b

  no_sum : (node : Node) → is_sum node.kind ≡ false → IsSumNode table s node
  no_sum node plain k ts e = absurd (let f : false ≡ true = sym plain ∙ ap is_sum e in cc)

  own_fine : (kind : NodeKind) (i : Interval) → is_sum kind ≡ false → Fine (own kind i)
  unfolding finished
  own_fine kind i plain =
      by_if (IsSumNode table s) (eqb i.low i.high) (const_node i.low)
      (record { kind = kind; low = i.low; high = i.high })
      (λ _. no_sum (const_node i.low) refl) (λ _. no_sum (record { kind = kind; low = i.low; high = i.high }) plain)

  const_fine : (v : ℕ) → Fine (Make (const_node v))
  const_fine v = no_sum (const_node v) refl

  same_sum : (k j : ℕ) (ts us : List Term) → kinds.Sum k ts ≡ kinds.Sum j us → (k ≡ j) × (ts ≡ us)
  same_sum k j ts us e = (cc, cc)

  own_sum_fine : (k : ℕ) (ts : List Term) → k < 2 ^ 64 → Ascends 0 (length s) ts → AreOthers table ts
      → eqb (length ts) 0 ≡ false → is_one k ts ≡ false → leb (length ts) 16 ≡ true
      → Fine (own (kinds.Sum k ts) (sum_interval s k ts))
  unfolding finished
  own_sum_fine k ts word ascends others some several few =
      let kind = kinds.Sum k ts in
      let i = sum_interval s k ts in
      let node : Node = record { kind = kind; low = i.low; high = i.high } in
      by_if (λ (node : Node). finished kind i ≡ node → IsSumNode table s node) (eqb i.low i.high)
      (const_node i.low) node
      (λ _ _. no_sum (const_node i.low) refl)
      (λ _ e j us q.
      let same = same_sum k j ts us q in
      subst (λ (l : ℕ). IsSumOf table s node l us) same.0
      (subst (λ (vs : List Term). IsSumOf table s node k vs) same.1
      (record {
        word = word;
        ascends = ascends;
        others = others;
        some = some;
        several = several;
        few = few;
        is = e;
      })))
      refl

  sum_fine : (k : ℕ) (ts : List Term) (wide : Built) → k < 2 ^ 64 → Ascends 0 (length s) ts → AreOthers table ts
      → Fine wide → Fine (sum_of s k ts wide)
  unfolding sum_of
  sum_fine k ts wide word ascends others other =
      by_if Fine (eqb (length ts) 0) _ _ (λ _. const_fine k)
      (λ some. by_if Fine (is_one k ts) _ _ (λ _. tt)
      (λ several. by_if Fine (leb (length ts) 16) _ _
      (λ few. own_sum_fine k ts word ascends others some several few) (λ _. other)))

  constant_word : (k : ℕ) (ts : List Term) → sum_constant true s k ts < 2 ^ 64
  unfolding sum_constant
  constant_word k ts = omega arith

  lin_fine : (k : ℕ) (ts : List Term) → Fine (lin_of s k ts)
  unfolding lin_of
  lin_fine k ts =
      let c = sum_constant false s k ts in let us = sum_terms false s ts in
      sum_fine (sum_constant true s k ts) (sum_terms true s ts) (wide_of s c us) (constant_word k ts)
      (sum_terms_ascend true s ts) (sum_terms_others table s ts opens)
      (own_fine (kinds.Wide c us) (sum_interval s c us) refl)

  left_carry_fine : (ms : List ℕ) → Fine (carry_left s ms)
  unfolding carry_left
  left_carry_fine ms =
      by_if Fine (eqb (length ms) 2 && passes s (get_or ms 0 0) (get_or ms 1 0)) _ _ (λ _. tt)
      (λ _. by_if Fine (eqb (length ms) 2 && passes s (get_or ms 1 0) (get_or ms 0 0)) _ _ (λ _. tt)
      (λ _. own_fine (kinds.Carry ms) a_bit refl))

  carry_fine : (ms : List ℕ) → Fine (carry_of s ms)
  unfolding carry_of
  carry_fine ms =
      by_if Fine (leb (2 ^ 64) (sum_by (low_at s) ms)) _ _ (λ _. const_fine 1)
      (λ _. by_if Fine (ltb (sum_by (high_at s) ms) (2 ^ 64)) _ _ (λ _. const_fine 0)
      (λ _. left_carry_fine (without_zeros s ms)))

  left_borrow_fine : (a : ℕ) (ms : List ℕ) → Fine (borrow_left s a ms)
  unfolding borrow_left
  left_borrow_fine a ms =
      by_if Fine (is_const s a 0 && (eqb (length ms) 1 && leb (high_at s (get_or ms 0 0)) 1)) _ _
      (λ _. tt) (λ _. own_fine (kinds.Borrow a ms) a_bit refl)

  borrow_fine : (a : ℕ) (ms : List ℕ) → Fine (borrow_of s a ms)
  unfolding borrow_of
  borrow_fine a ms =
      by_if Fine (leb (sum_by (high_at s) ms) (low_at s a)) _ _ (λ _. const_fine 0)
      (λ _. by_if Fine (ltb (high_at s a) (sum_by (low_at s) ms)) _ _ (λ _. const_fine 1)
      (λ _. left_borrow_fine a (without_zeros s ms)))

  zero_fine : (x : ℕ) → Fine (zero_of s x)
  unfolding zero_of
  zero_fine x =
      by_if Fine (leb 1 (low_at s x)) _ _ (λ _. const_fine 0)
      (λ _. by_if Fine (is_const s x 0) _ _ (λ _. const_fine 1) (λ _. own_fine (kinds.Zero x) a_bit refl))

  product_fine : (a b : ℕ) (o q : Option ℕ) → Fine (product_by s a b o q)
  product_fine a b (Some v) w = lin_fine 0 (record { times = v; node = b } ∷ [])
  product_fine a b None (Some w) = lin_fine 0 (record { times = w; node = a } ∷ [])
  product_fine a b None None = own_fine (kinds.MulLo a b) (product_low (interval_at s a) (interval_at s b)) refl

  mul_lo_fine : (a b : ℕ) → Fine (mul_lo_of s a b)
  unfolding mul_lo_of
  mul_lo_fine a b = product_fine a b (constant_at s a) (constant_at s b)

  mul_hi_fine : (a b : ℕ) → Fine (mul_hi_of s a b)
  unfolding mul_hi_of
  mul_hi_fine a b = own_fine (kinds.MulHi a b) (product_high (interval_at s a) (interval_at s b)) refl

  both_fine : (f : ℕ → ℕ → ℕ) (o q : Option ℕ) (other : Built) → Fine other → Fine (both_const f o q other)
  both_fine f (Some v) (Some w) other also = const_fine (f v w)
  both_fine f (Some v) None other also = also
  both_fine f None q other also = also

  and_fine : (a b : ℕ) → Fine (and_of s a b)
  unfolding and_of
  and_fine a b =
      by_if Fine (eqb a b) _ _ (λ _. tt)
      (λ _. by_if Fine (is_const s a 0 || is_const s b 0) _ _ (λ _. const_fine 0)
      (λ _. by_if Fine (covers (constant_at s a) (high_at s b)) _ _ (λ _. tt)
      (λ _. by_if Fine (covers (constant_at s b) (high_at s a)) _ _ (λ _. tt)
      (λ _. both_fine bit_and (constant_at s a) (constant_at s b) _
      (own_fine (kinds.And a b) (bits_and (interval_at s a) (interval_at s b)) refl)))))

  or_fine : (a b : ℕ) → Fine (or_of s a b)
  unfolding or_of
  or_fine a b =
      by_if Fine (eqb a b) _ _ (λ _. tt)
      (λ _. by_if Fine (is_const s a 0) _ _ (λ _. tt)
      (λ _. by_if Fine (is_const s b 0) _ _ (λ _. tt)
      (λ _. both_fine bit_or (constant_at s a) (constant_at s b) _
      (own_fine (kinds.Or a b) (bits_or (interval_at s a) (interval_at s b)) refl))))

  xor_fine : (a b : ℕ) → Fine (xor_of s a b)
  unfolding xor_of
  xor_fine a b =
      by_if Fine (eqb a b) _ _ (λ _. const_fine 0)
      (λ _. by_if Fine (is_const s a 0) _ _ (λ _. tt)
      (λ _. by_if Fine (is_const s b 0) _ _ (λ _. tt)
      (λ _. both_fine bit_xor (constant_at s a) (constant_at s b) _
      (own_fine (kinds.Xor a b) (bits_xor (interval_at s a) (interval_at s b)) refl))))

  choice_fine : (c x y : ℕ) → Fine (own (kinds.Select c x y) (choice (interval_at s x) (interval_at s y)))
  choice_fine c x y = own_fine (kinds.Select c x y) (choice (interval_at s x) (interval_at s y)) refl

  below_fine : (bound c x y : ℕ) → Fine (select_below bound s c x y)
  unfolding select_below
  below_fine zero c x y = choice_fine c x y
  below_fine (suc bound) c x y =
      by_if Fine (leb 1 (low_at s c)) _ _ (λ _. tt)
      (λ _. by_if Fine (is_const s c 0) _ _ (λ _. tt)
      (λ _. by_if Fine (eqb x y) _ _ (λ _. tt)
      (λ _. by_tested (λ b. below_fine bound b y x) (tested (node_at s c).kind)))) where
        by_tested : ((b : ℕ) → Fine (select_below bound s b y x)) → (o : Option ℕ)
            → Fine (pick o (λ b. select_below bound s b y x)
            (own (kinds.Select c x y) (choice (interval_at s x) (interval_at s y))))
        by_tested turned None = choice_fine c x y
        by_tested turned (Some b) = turned b

  select_fine : (c x y : ℕ) → Fine (select_of s c x y)
  unfolding select_of
  select_fine c x y = below_fine (c + 1) c x y

  pub normal_fine : (form : Form) → Fine (normal_of s form)
  unfolding normal_of
  normal_fine (forms.Const v) = const_fine v
  normal_fine (forms.Start reg) = own_fine (kinds.Start reg) full refl
  normal_fine (forms.In param word low high) =
      own_fine (kinds.In param word) (record { low = low; high = high }) refl
  normal_fine (forms.Lin k terms) = lin_fine k terms
  normal_fine (forms.Carry list) = carry_fine (by_number list)
  normal_fine (forms.Borrow a list) = borrow_fine a (by_number list)
  normal_fine (forms.Zero x) = zero_fine x
  normal_fine (forms.MulLo a b) = mul_lo_fine (min a b) (max a b)
  normal_fine (forms.MulHi a b) = mul_hi_fine (min a b) (max a b)
  normal_fine (forms.And a b) = and_fine (min a b) (max a b)
  normal_fine (forms.Or a b) = or_fine (min a b) (max a b)
  normal_fine (forms.Xor a b) = xor_fine (min a b) (max a b)
  normal_fine (forms.Shr x k) = own_fine (kinds.Shr x k) (shifted_right (interval_at s x) k) refl
  normal_fine (forms.Select c x y) = select_fine c x y
  normal_fine (forms.SetB v b) = own_fine (kinds.SetB v b) full refl
