-- Each rule gives the same over a longer table.
use Rattle.std.proofs.Common.{◌≡◌, ℕ, zero, suc, ◌+◌, ◌-◌, ◌^◌, ◌<◌, List, [], ◌∷◌, length, get_or, Bool, true, false}
use Rattle.std.proofs.Common.{cond, eqb, leb, ltb, ◌&&◌, ◌||◌, min, max, Option, Some, None, refl, ap, ◌∙◌, arith}
use Rattle.std.specs.Prelude.{bit_and, bit_or, bit_xor}
use Rattle.std.proofs.lemmas.List.Elements.{All-cons, All-nil}
use Rattle.base.specs.Options.{pick}
use Rattle.intervals.specs.declared.interval.Interval.{Interval}
use Rattle.intervals.specs.Intervals.{bits_and, bits_or, bits_xor, shifted_right, choice}
use Rattle.terms.specs.declared.lists.Term.{Term}
use Rattle.terms.specs.declared.nodes.Node.{Node}
use Rattle.terms.specs.declared.nodes.NodeKind.TheVariants as kinds
use Rattle.terms.specs.declared.nodes.Built.{Built}
use Rattle.terms.specs.declared.nodes.Built.TheVariants.{Is, Make}
use Rattle.terms.specs.Tables.{node_at, const_of, AreBelow, AreTermsBelow, IsTable, Prefix}
use Rattle.terms.specs.Sums.{sum_constant, sum_terms}
use Rattle.terms.specs.Rules.{a_bit, and_of, borrow_left, borrow_of, both_const, carry_left, carry_of}
use Rattle.terms.specs.Rules.{const_node, constant_at, covers, high_at, interval_at, is_const, is_left, lin_of}
use Rattle.terms.specs.Rules.{is_value, low_at, mul_hi_of, mul_lo_of, of_pair, or_of, own, passes, product_by}
use Rattle.terms.specs.Rules.{select_below, select_of, sum_of, tested, wide_of, without_zeros, xor_of, zero_of}
use Rattle.terms.proofs.Cases.{from_eqb}
use Rattle.terms.proofs.NumberLists.{filter_below}
use Rattle.terms.proofs.SelectTurns.{tested_below}
use Rattle.terms.proofs.SumValues.{AreTerms-below, sum_terms_are}
use Rattle.term_store.proofs.Prefixes.{at_front}
use Rattle.term_laws.proofs.Readers.{constant_later, highs_later, interval_later, lows_later, terms_later, zeros_later}

and_agrees : (b c d : Bool) → (b ≡ true → c ≡ d) → (b && c) ≡ (b && d)
and_agrees true c d e = e refl
and_agrees false c d e = refl

pub pick_agrees : (o : Option ℕ) (f g : ℕ → Built) (other : Built) → ((b : ℕ) → o ≡ Some b → f b ≡ g b)
    → pick o f other ≡ pick o g other
pick_agrees None f g other e = refl
pick_agrees (Some b) f g other e = e b refl

module _ {t u : List Node} (table : IsTable t) (p : Prefix t u) where
  abbrev Inside : ℕ → Type 0
  Inside n = n < length t

  at : (n : ℕ) → Inside n → node_at u n ≡ node_at t n
  at n h = at_front n p h

  abbrev interval_of : Node → Interval
  interval_of n = record { low = n.low; high = n.high }

  one_below : (times n : ℕ) → Inside n → AreTermsBelow (length t) (record { times = times; node = n } ∷ [])
  one_below times n h =
      All-cons (λ (x : Term). x.node < length t) (record { times = times; node = n }) [] h
      (All-nil (λ (x : Term). x.node < length t))

  -- ---- sums

  sum_of_later : (k : ℕ) (ts : List Term) (wide : Built) → AreTermsBelow (length t) ts
      → sum_of u k ts wide ≡ sum_of t k ts wide
  unfolding sum_of
  sum_of_later k ts wide a = rw (interval_later p k ts a) refl

  pub lin_later : (k : ℕ) (ts : List Term) → AreTermsBelow (length t) ts → lin_of u k ts ≡ lin_of t k ts
  unfolding lin_of
  lin_later k ts a =
      let c = λ (opens : Bool). constant_later p opens k ts a in
      let s = λ (opens : Bool). terms_later p table opens ts a in
      let below = λ (opens : Bool). AreTerms-below (length t) (sum_terms opens t ts)
      (sum_terms_are opens t ts table a) in
      let wide = kinds.Wide (sum_constant false t k ts) (sum_terms false t ts) in
      (λ i. sum_of u (c true i) (s true i) (wide_of u (c false i) (s false i)))
      ∙ ap (λ (v : Interval). sum_of u (sum_constant true t k ts) (sum_terms true t ts) (own wide v))
      (interval_later p (sum_constant false t k ts) (sum_terms false t ts) (below false))
      ∙ sum_of_later (sum_constant true t k ts) (sum_terms true t ts) _ (below true)

  -- ---- carries and borrows

  passes_later : (m n : ℕ) → Inside m → Inside n → passes u m n ≡ passes t m n
  passes_later m n h j =
      let e = at m h in let f = at n j in (λ i. is_value (const_of (e i).kind) (2 ^ 64 - 1) && leb (f i).high 1)

  carry_left_later : (ms : List ℕ) → AreBelow (length t) ms → carry_left u ms ≡ carry_left t ms
  unfolding carry_left
  carry_left_later ms a =
      let two = eqb (length ms) 2 in
      let m = get_or ms 0 0 in
      let n = get_or ms 1 0 in
      let inside = λ (i : ℕ) (h : i < 2) (e : two ≡ true). a i 0 (let l = from_eqb (length ms) 2 e in omega arith) in
      let first = and_agrees two (passes u m n) (passes t m n)
      (λ e. passes_later m n (inside 0 (omega arith) e) (inside 1 (omega arith) e)) in
      let second = and_agrees two (passes u n m) (passes t n m)
      (λ e. passes_later n m (inside 1 (omega arith) e) (inside 0 (omega arith) e)) in
      (λ i. cond (first i) (Is n) (cond (second i) (Is m) (own (kinds.Carry ms) a_bit)))

  pub carry_later : (ms : List ℕ) → AreBelow (length t) ms → carry_of u ms ≡ carry_of t ms
  unfolding carry_of
  carry_later ms a =
      let lows = lows_later p ms a in
      let highs = highs_later p ms a in
      let left = ap (carry_left u) (zeros_later p ms a)
      ∙ carry_left_later (without_zeros t ms) (filter_below (length t) (is_left t) ms a) in
      (λ i. cond (leb (2 ^ 64) (lows i)) (Make (const_node 1))
      (cond (ltb (highs i) (2 ^ 64)) (Make (const_node 0)) (left i)))

  borrow_left_later : (a : ℕ) (ms : List ℕ) → Inside a → AreBelow (length t) ms
      → borrow_left u a ms ≡ borrow_left t a ms
  unfolding borrow_left
  borrow_left_later a ms h below =
      let one = eqb (length ms) 1 in
      let b = get_or ms 0 0 in
      let bit = and_agrees one (leb (high_at u b) 1) (leb (high_at t b) 1)
      (λ e. ap (λ (n : Node). leb n.high 1) (at b (below 0 0 (let l = from_eqb (length ms) 1 e in omega arith)))) in
      let zero : is_const u a 0 ≡ is_const t a 0 = rw (at a h) refl in
      (λ i. cond (zero i && bit i) (Is b) (own (kinds.Borrow a ms) a_bit))

  pub borrow_later : (a : ℕ) (ms : List ℕ) → Inside a → AreBelow (length t) ms → borrow_of u a ms ≡ borrow_of t a ms
  unfolding borrow_of
  borrow_later a ms h below =
      let lows = lows_later p ms below in
      let highs = highs_later p ms below in
      let here = at a h in
      let left = ap (borrow_left u a) (zeros_later p ms below)
      ∙ borrow_left_later a (without_zeros t ms) h (filter_below (length t) (is_left t) ms below) in
      (λ i. cond (leb (highs i) (here i).low) (Make (const_node 0))
      (cond (ltb (here i).high (lows i)) (Make (const_node 1)) (left i)))

  -- ---- one or two nodes

  pub zero_later : (x : ℕ) → Inside x → zero_of u x ≡ zero_of t x
  unfolding zero_of
  zero_later x h =
      let e = at x h in
      (λ i. cond (leb 1 (e i).low) (Make (const_node 0))
      (cond (is_value (const_of (e i).kind) 0) (Make (const_node 1)) (own (kinds.Zero x) a_bit)))

  pub shr_later : (x k : ℕ) → Inside x → own (kinds.Shr x k) (shifted_right (interval_at u x) k)
      ≡ own (kinds.Shr x k) (shifted_right (interval_at t x) k)
  shr_later x k h = rw (at x h) refl

  product_later : (a b : ℕ) (v w : Option ℕ) → Inside a → Inside b → product_by u a b v w ≡ product_by t a b v w
  product_later a b (Some v) w h j = lin_later 0 _ (one_below v b j)
  product_later a b None (Some w) h j = lin_later 0 _ (one_below w a h)
  product_later a b None None h j = rw (at a h, at b j) refl

  pub mul_lo_later : (a b : ℕ) → Inside a → Inside b → mul_lo_of u a b ≡ mul_lo_of t a b
  unfolding mul_lo_of
  mul_lo_later a b h j =
      let v : constant_at u a ≡ constant_at t a = rw (at a h) refl in
      let w : constant_at u b ≡ constant_at t b = rw (at b j) refl in
      (λ i. product_by u a b (v i) (w i)) ∙ product_later a b (constant_at t a) (constant_at t b) h j

  pub mul_hi_later : (a b : ℕ) → Inside a → Inside b → mul_hi_of u a b ≡ mul_hi_of t a b
  unfolding mul_hi_of
  mul_hi_later a b h j = rw (at a h, at b j) refl

  pub and_later : (a b : ℕ) → Inside a → Inside b → and_of u a b ≡ and_of t a b
  unfolding and_of
  and_later a b h j =
      let e = at a h in let f = at b j in
      (λ i. cond (eqb a b) (Is a)
      (cond (is_value (const_of (e i).kind) 0 || is_value (const_of (f i).kind) 0) (Make (const_node 0))
      (cond (covers (const_of (e i).kind) (f i).high) (Is b)
      (cond (covers (const_of (f i).kind) (e i).high) (Is a)
      (both_const bit_and (const_of (e i).kind) (const_of (f i).kind)
      (own (kinds.And a b) (bits_and (interval_of (e i)) (interval_of (f i)))))))))

  pub or_later : (a b : ℕ) → Inside a → Inside b → or_of u a b ≡ or_of t a b
  unfolding or_of
  or_later a b h j =
      let e = at a h in let f = at b j in
      (λ i. cond (eqb a b) (Is a)
      (cond (is_value (const_of (e i).kind) 0) (Is b)
      (cond (is_value (const_of (f i).kind) 0) (Is a)
      (both_const bit_or (const_of (e i).kind) (const_of (f i).kind)
      (own (kinds.Or a b) (bits_or (interval_of (e i)) (interval_of (f i))))))))

  pub xor_later : (a b : ℕ) → Inside a → Inside b → xor_of u a b ≡ xor_of t a b
  unfolding xor_of
  xor_later a b h j =
      let e = at a h in let f = at b j in
      (λ i. cond (eqb a b) (Make (const_node 0))
      (cond (is_value (const_of (e i).kind) 0) (Is b)
      (cond (is_value (const_of (f i).kind) 0) (Is a)
      (both_const bit_xor (const_of (e i).kind) (const_of (f i).kind)
      (own (kinds.Xor a b) (bits_xor (interval_of (e i)) (interval_of (f i))))))))

  pub pair_later : (f g : ℕ → ℕ → Built) → ((a b : ℕ) → Inside a → Inside b → f a b ≡ g a b) → (a b : ℕ) → Inside a
      → Inside b → of_pair f a b ≡ of_pair g a b
  pair_later f g e a b h j = e (min a b) (max a b) (omega arith) (omega arith)

  -- ---- selections

  own_select_later : (c x y : ℕ) → Inside x → Inside y
      → own (kinds.Select c x y) (choice (interval_at u x) (interval_at u y))
      ≡ own (kinds.Select c x y) (choice (interval_at t x) (interval_at t y))
  own_select_later c x y h j = rw (at x h, at y j) refl

  below_later : (bound c x y : ℕ) → Inside c → Inside x → Inside y
      → select_below bound u c x y ≡ select_below bound t c x y
  unfolding select_below
  below_later zero c x y h j k = own_select_later c x y j k
  below_later (suc bound) c x y h j k =
      let here = at c h in
      let rest = own_select_later c x y j k in
      let constant : is_const u c 0 ≡ is_const t c 0 = rw (at c h) refl in
      (λ i. cond (leb 1 (here i).low) (Is y) (cond (constant i) (Is x) (cond (eqb x y) (Is x)
      (pick (tested (here i).kind) (λ b. select_below bound u b y x) (rest i)))))
      ∙ ap (λ (r : Built). cond (leb 1 (low_at t c)) (Is y) (cond (is_const t c 0) (Is x) (cond (eqb x y) (Is x) r)))
      (pick_agrees (tested (node_at t c).kind) (λ b. select_below bound u b y x) (λ b. select_below bound t b y x) _
      (λ b e. let l = tested_below t table c b h e in below_later bound b y x (omega arith) k j))

  pub select_later : (c x y : ℕ) → Inside c → Inside x → Inside y → select_of u c x y ≡ select_of t c x y
  unfolding select_of
  select_later c x y h j k = below_later (c + 1) c x y h j k
