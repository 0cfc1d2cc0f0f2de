-- What the rules read of a table, they read of a longer one too.
use Rattle.std.proofs.Common.{◌≡◌, ℕ, zero, suc, ◌+◌, ◌-◌, ◌*◌, ◌%◌, ◌^◌, ◌<◌, ◌≤◌, List, [], ◌∷◌, ◌++◌, length}
use Rattle.std.proofs.Common.{◌||◌, filter, map, true, false}
use Rattle.std.proofs.Common.{Bool, cond, eqb, refl, sym, ap, ◌∙◌, arith}
use Rattle.std.proofs.Common.{append-nil}
use Rattle.std.specs.List.{All, flat_map, list_any, range_with_len, sum_by}
use Rattle.std.proofs.lemmas.Bool.Decides.{nat_tests}
use Rattle.std.proofs.lemmas.Grind.{flat_map-append}
use Rattle.std.proofs.lemmas.List.Elements.{All-append, All-cons, All-head, All-map, All-nil, All-tail, All-weaker}
use Rattle.std.proofs.lemmas.List.Sums.{sum_by-cons}
use Rattle.intervals.specs.Intervals.{full, window}
use Rattle.terms.specs.declared.lists.Term.{Term}
use Rattle.terms.specs.declared.nodes.Node.{Node}
use Rattle.terms.specs.declared.nodes.NodeKind.{NodeKind}
use Rattle.terms.specs.declared.nodes.NodeKind.TheVariants as kinds
use Rattle.terms.specs.Tables.{node_at, AreBelow, AreTermsBelow, IsTable, Prefix, RefersBelow}
use Rattle.terms.specs.Sums.{constant_of, down, down_high, down_low, is_far, itself, joined, opened, opened_constant}
use Rattle.terms.specs.Sums.{scaled_term, sum_constant, sum_interval, sum_terms, term_of, terms_of, up, up_high, up_low}
use Rattle.terms.specs.Sums.{weight}
use Rattle.terms.specs.Rules.{high_at, is_left, low_at, without_zeros}
use Rattle.term_store.proofs.Prefixes.{at_front, prefix_length}

-- ---- functions that agree at each element of a list

module _ {A : Type 0} (P : A → Type 0) where
  sum_agrees : (f g : A → ℕ) → ((x : A) → P x → f x ≡ g x) → (xs : List A) → All P xs → sum_by f xs ≡ sum_by g xs
  sum_agrees f g e [] a = refl
  sum_agrees f g e (x ∷ xs) a =
      let here = e x (All-head P x xs a) in
      let rest = sum_agrees f g e xs (All-tail P x xs a) in
      sum_by-cons f x xs ∙ (λ i. here i + rest i) ∙ sym (sum_by-cons g x xs)

  filter_agrees : (f g : A → Bool) → ((x : A) → P x → f x ≡ g x) → (xs : List A) → All P xs
      → filter f xs ≡ filter g xs
  filter_agrees f g e [] a = refl
  filter_agrees f g e (x ∷ xs) a =
      let here = e x (All-head P x xs a) in
      let rest = filter_agrees f g e xs (All-tail P x xs a) in
      (λ i. cond (here i) (x ∷ rest i) (rest i))

  any_agrees : (f g : A → Bool) → ((x : A) → P x → f x ≡ g x) → (xs : List A) → All P xs
      → list_any f xs ≡ list_any g xs
  any_agrees f g e [] a = refl
  any_agrees f g e (x ∷ xs) a =
      let here = e x (All-head P x xs a) in
      let rest = any_agrees f g e xs (All-tail P x xs a) in
      (λ i. here i || rest i)

  flat_map_agrees : {B : Type 0} (f g : A → List B) → ((x : A) → P x → f x ≡ g x) → (xs : List A) → All P xs
      → flat_map f xs ≡ flat_map g xs
  flat_map_agrees f g e [] a = refl
  flat_map_agrees f g e (x ∷ xs) a =
      let here = e x (All-head P x xs a) in
      let rest = flat_map_agrees f g e xs (All-tail P x xs a) in
      (λ i. here i ++ rest i)

-- ---- joined terms

weight_past : (n m : ℕ) → n ≤ m → (ts : List Term) → AreTermsBelow n ts → weight ts m ≡ 0
weight_past n m h [] a = refl
weight_past n m h (x ∷ ts) a =
    let here = All-head (λ (s : Term). s.node < n) x ts a in
    let rest = weight_past n m h ts (All-tail (λ (s : Term). s.node < n) x ts a) in
    grind (arith, nat_tests, rest)

no_term_past : (n m : ℕ) → n ≤ m → (ts : List Term) → AreTermsBelow n ts → term_of ts m ≡ []
no_term_past n m h ts a =
    ap (λ (w : ℕ). cond (eqb (w % 2 ^ 64) 0) [] (record { times = w % 2 ^ 64; node = m } ∷ []))
    (weight_past n m h ts a)

none_past : (n lo len : ℕ) → n ≤ lo → (ts : List Term) → AreTermsBelow n ts
    → flat_map (term_of ts) (range_with_len lo len) ≡ []
none_past n lo zero h ts a = refl
none_past n lo (suc len) h ts a =
    (λ i. no_term_past n lo h ts a i ++ none_past n (lo + 1) len (omega arith) ts a i)

range_longer : (lo m n : ℕ) → range_with_len lo (m + n) ≡ range_with_len lo m ++ range_with_len (lo + m) n
range_longer lo zero n =
    let e : 0 + n ≡ n = omega arith in
    let f : lo ≡ lo + 0 = omega arith in
    (λ i. range_with_len lo (e i)) ∙ (λ i. range_with_len (f i) n)
range_longer lo (suc m) n =
    let more : suc m + n ≡ suc (m + n) = omega arith in
    let e : lo + 1 + m ≡ lo + suc m = omega arith in
    ap (range_with_len lo) more
    ∙ ap (λ (ns : List ℕ). lo ∷ ns) (range_longer (lo + 1) m n
    ∙ ap (λ (k : ℕ). range_with_len (lo + 1) m ++ range_with_len k n) e)

-- a longer range of numbers joins the same terms
joined_longer : (m n : ℕ) → m ≤ n → (ts : List Term) → AreTermsBelow m ts → joined n ts ≡ joined m ts
unfolding joined
joined_longer m n h ts a =
    let e : n ≡ m + (n - m) = omega arith in
    ap (λ (k : ℕ). flat_map (term_of ts) (range_with_len 0 k)) e
    ∙ ap (flat_map (term_of ts)) (range_longer 0 m (n - m))
    ∙ flat_map-append (term_of ts) (range_with_len 0 m) (range_with_len (0 + m) (n - m))
    ∙ ap (λ (us : List Term). flat_map (term_of ts) (range_with_len 0 m) ++ us)
    (none_past m (0 + m) (n - m) (omega arith) ts a)
    ∙ append-nil (flat_map (term_of ts) (range_with_len 0 m))

-- ---- opened terms

scaled_below : (times m n : ℕ) → m ≤ n → (ts : List Term) → AreTermsBelow m ts
    → AreTermsBelow n (map (scaled_term times) ts)
scaled_below times m n h ts a =
    All-map (λ (x : Term). x.node < n) (scaled_term times) ts
    (All-weaker (λ (x : Term). x.node < m) (λ (x : Term). x.node < n) (λ x l. omega arith) ts a)

itself_below : (n : ℕ) → AreTermsBelow (n + 1) (itself n)
itself_below n =
    All-cons (λ (x : Term). x.node < n + 1) (record { times = 1; node = n }) [] (omega arith)
    (All-nil (λ (x : Term). x.node < n + 1))

kind_below : (opens : Bool) (n : ℕ) (kind : NodeKind) → RefersBelow n kind
    → AreTermsBelow (n + 1) (terms_of opens n kind)
kind_below opens n (kinds.Const v) r = All-nil (λ (x : Term). x.node < n + 1)
kind_below true n (kinds.Sum k ts) r =
    All-weaker (λ (x : Term). x.node < n) (λ (x : Term). x.node < n + 1) (λ x l. omega arith) ts r
kind_below false n (kinds.Sum k ts) r = itself_below n
kind_below opens n kind r = itself_below n

opened_below : (t : List Node) → IsTable t → (opens : Bool) (ts : List Term) → AreTermsBelow (length t) ts
    → AreTermsBelow (length t) (flat_map (opened opens t) ts)
opened_below t table opens [] a = a
opened_below t table opens (x ∷ ts) a =
    let P : Term → Type 0 = λ s. s.node < length t in
    let here = All-head P x ts a in
    All-append P (opened opens t x) (flat_map (opened opens t) ts)
    (scaled_below x.times (x.node + 1) (length t) (omega arith) (terms_of opens x.node (node_at t x.node).kind)
    (kind_below opens x.node (node_at t x.node).kind (table.below x.node here)))
    (opened_below t table opens ts (All-tail P x ts a))

-- ---- sums

module _ {t u : List Node} (p : Prefix t u) where
  abbrev Inside : Term → Type 0
  Inside x = x.node < length t

  pub constant_later : (opens : Bool) (k : ℕ) (ts : List Term) → AreTermsBelow (length t) ts
      → sum_constant opens u k ts ≡ sum_constant opens t k ts
  unfolding sum_constant
  constant_later opens k ts a =
      ap (λ (s : ℕ). (k + s) % 2 ^ 64) (sum_agrees Inside (opened_constant opens u) (opened_constant opens t)
      (λ x h. ap (λ (n : Node). x.times * constant_of opens n.kind) (at_front x.node p h)) ts a)

  pub terms_later : IsTable t → (opens : Bool) (ts : List Term) → AreTermsBelow (length t) ts
      → sum_terms opens u ts ≡ sum_terms opens t ts
  unfolding sum_terms
  terms_later table opens ts a =
      ap (joined (length u)) (flat_map_agrees Inside (opened opens u) (opened opens t)
      (λ x h. ap (λ (n : Node). map (scaled_term x.times) (terms_of opens x.node n.kind)) (at_front x.node p h)) ts a)
      ∙ joined_longer (length t) (length u) (prefix_length p) (flat_map (opened opens t) ts)
      (opened_below t table opens ts a)

  pub interval_later : (k : ℕ) (ts : List Term) → AreTermsBelow (length t) ts
      → sum_interval u k ts ≡ sum_interval t k ts
  unfolding sum_interval
  interval_later k ts a =
      let at = λ (x : Term) (h : Inside x). at_front x.node p h in
      let far = any_agrees Inside (is_far u) (is_far t)
      (λ x h. ap (λ (n : Node). is_far (n ∷ []) (record { times = x.times; node = 0 })) (at x h)) ts a in
      let ul = sum_agrees Inside (up_low u) (up_low t) (λ x h. ap (λ (n : Node). up x.times * n.low) (at x h)) ts a in
      let uh = sum_agrees Inside (up_high u) (up_high t) (λ x h. ap (λ (n : Node). up x.times * n.high) (at x h)) ts a
      in
      let dl = sum_agrees Inside (down_low u) (down_low t)
      (λ x h. ap (λ (n : Node). down x.times * n.low) (at x h)) ts a
      in
      let dh = sum_agrees Inside (down_high u) (down_high t)
      (λ x h. ap (λ (n : Node). down x.times * n.high) (at x h)) ts a in
      (λ i. cond (far i) full (window (k + 2 ^ 110 + ul i - dh i) (k + 2 ^ 110 + uh i - dl i)))

  -- ---- numbers

  pub lows_later : (ms : List ℕ) → AreBelow (length t) ms → sum_by (low_at u) ms ≡ sum_by (low_at t) ms
  lows_later ms a =
      sum_agrees (λ (m : ℕ). m < length t) (low_at u) (low_at t) (λ m h. ap (λ (n : Node). n.low) (at_front m p h)) ms a

  pub highs_later : (ms : List ℕ) → AreBelow (length t) ms → sum_by (high_at u) ms ≡ sum_by (high_at t) ms
  highs_later ms a =
      sum_agrees (λ (m : ℕ). m < length t) (high_at u) (high_at t) (λ m h. ap (λ (n : Node). n.high) (at_front m p h))
      ms a

  pub zeros_later : (ms : List ℕ) → AreBelow (length t) ms → without_zeros u ms ≡ without_zeros t ms
  zeros_later ms a =
      filter_agrees (λ (m : ℕ). m < length t) (is_left u) (is_left t)
      (λ m h. ap (λ (n : Node). is_left (n ∷ []) 0) (at_front m p h)) ms a
