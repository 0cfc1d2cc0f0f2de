-- A longer table keeps what stands in its front.
use Rattle.std.proofs.Common.{◌≡◌, ℕ, ◌+◌, ◌<◌, ◌≤◌, Bool, cond, List, [], ◌∷◌, ◌++◌, length, take, drop, refl, sym}
use Rattle.std.proofs.Common.{ap, ◌∙◌}
use Rattle.std.proofs.Common.{subst, append_assoc, append-nil, arith}
use Rattle.std.specs.List.{count_by}
use Rattle.std.proofs.lemmas.List.{length-append, get_or_append_left, get_or_at, get_or-append-add, take-append-drop}
use Rattle.std.proofs.lemmas.List.Elements.{All-weaker, All-head, All-tail}
use Rattle.std.proofs.lemmas.List.Sums.{sum_by-cons}
use Rattle.terms.specs.declared.lists.Term.{Term}
use Rattle.terms.specs.declared.nodes.Node.{Node}
use Rattle.terms.specs.declared.nodes.Form.{Form}
use Rattle.terms.specs.declared.nodes.Form.TheVariants as forms
use Rattle.terms.specs.Tables.{node_at, no_node, Prefix, AreBelow, AreTermsBelow, RefersBelow, IsTable}
use Rattle.terms.specs.Forms.{FormFits, is_no_bit}
use Rattle.terms.specs.Meaning.{Start, kind_value, IsValuation, IsSound}

-- ---- longer tables

pub prefix_refl : (t : List Node) → Prefix t t
prefix_refl t = record { more = []; is = sym (append-nil t) }

pub prefix_trans : {t u w : List Node} → Prefix t u → Prefix u w → Prefix t w
prefix_trans {t} p q = record {
  more = p.more ++ q.more;
  is = q.is ∙ ap (λ (us : List Node). us ++ q.more) p.is ∙ append_assoc t p.more q.more;
}

pub prefix_push : (t : List Node) (node : Node) → Prefix t (t ++ node ∷ [])
prefix_push t node = record { more = node ∷ []; is = refl }

pub prefix_take : (n : ℕ) (t : List Node) → Prefix (take n t) t
prefix_take n t = record { more = drop n t; is = sym (take-append-drop n t) }

pub prefix_length : {t u : List Node} → Prefix t u → length t ≤ length u
prefix_length {t} {u} p =
    let e : length u ≡ length (t ++ p.more) = ap length p.is in omega (arith, length-append t p.more)

-- ---- their nodes

pub at_front : {t u : List Node} (n : ℕ) → Prefix t u → n < length t → node_at u n ≡ node_at t n
at_front {t} n p h =
    ap (λ (us : List Node). node_at us n) p.is ∙ get_or_append_left t p.more no_node n h

pub at_end : (t : List Node) (node : Node) → node_at (t ++ node ∷ []) (length t) ≡ node
at_end t node = get_or_at t node [] no_node (length t) refl

pub at_back : (t own : List Node) (n : ℕ) → node_at (t ++ own) (length t + n) ≡ node_at own n
at_back t own n = get_or-append-add t own n no_node

-- ---- what holds of the longer table holds of the shorter one

pub table_front : {t u : List Node} → Prefix t u → IsTable u → IsTable t
table_front {t} {u} p table =
    let longer = prefix_length p in
    record {
      below = λ n h. subst (λ (q : Node). RefersBelow n q.kind) (at_front n p h) (table.below n (omega arith));
      distinct = λ m n l h same. table.distinct m n l (omega arith)
          (at_front m p (omega arith) ∙ same ∙ sym (at_front n p h));
    }

pub valuation_front : {t u : List Node} {start : Start} {val : ℕ → ℕ} → Prefix t u → IsValuation start u val
    → IsValuation start t val
valuation_front {t} {u} {start} {val} p v =
    let longer = prefix_length p in
    record { meets = λ n h. v.meets n (omega arith) ∙ ap (λ (q : Node). kind_value start val q.kind) (at_front n p h) }

pub sound_front : {t u : List Node} {val : ℕ → ℕ} → Prefix t u → IsSound u val → IsSound t val
sound_front {t} {u} {val} p s =
    let longer = prefix_length p in
    record {
      above = λ n h. subst (λ (q : Node). q.low ≤ val n) (at_front n p h) (s.above n (omega arith));
      below = λ n h. subst (λ (q : Node). val n ≤ q.high) (at_front n p h) (s.below n (omega arith));
      word = λ n h. s.word n (omega arith);
    }

-- ---- a form that fits goes on to fit

count_agrees : (f g : ℕ → Bool) (n : ℕ) → ((m : ℕ) → m < n → f m ≡ g m) → (ms : List ℕ) → AreBelow n ms
    → count_by f ms ≡ count_by g ms
count_agrees f g n e [] a = refl
count_agrees f g n e (m ∷ ms) a =
    let one : (ℕ → Bool) → ℕ → ℕ = λ test k. cond (test k) 1 0 in
    let p = e m (All-head (λ (k : ℕ). k < n) m ms a) in
    let q = count_agrees f g n e ms (All-tail (λ (k : ℕ). k < n) m ms a) in
    sum_by-cons (one f) m ms ∙ (λ i. cond (p i) 1 0 + q i) ∙ sym (sum_by-cons (one g) m ms)

below_later : (m n : ℕ) (ms : List ℕ) → m ≤ n → AreBelow m ms → AreBelow n ms
below_later m n ms h a = All-weaker (λ (k : ℕ). k < m) (λ (k : ℕ). k < n) (λ k l. omega arith) ms a

terms_later : (m n : ℕ) (ts : List Term) → m ≤ n → AreTermsBelow m ts → AreTermsBelow n ts
terms_later m n ts h a = All-weaker (λ (t : Term). t.node < m) (λ (t : Term). t.node < n) (λ t l. omega arith) ts a

later : {t u : List Node} (n : ℕ) → Prefix t u → n < length t → n < length u
later n p h = let longer = prefix_length p in omega arith

pub fits_later : {t u : List Node} (form : Form) → Prefix t u → FormFits t form → FormFits u form
fits_later (forms.Const v) p f = f
fits_later (forms.Start reg) p f = f
fits_later (forms.In param word low high) p f = f
fits_later {t} {u} (forms.Lin k terms) p f = (terms_later (length t) (length u) terms (prefix_length p) f.0, f.1)
fits_later {t} {u} (forms.Carry list) p f =
    let same = count_agrees (is_no_bit u) (is_no_bit t) (length t)
    (λ m h. ap (λ (q : Node). is_no_bit (q ∷ []) 0) (at_front m p h)) list f.0 in
    let few = f.3 in
    (below_later (length t) (length u) list (prefix_length p) f.0, f.1, f.2, omega arith)
fits_later {t} {u} (forms.Borrow a list) p f =
    (later a p f.0, below_later (length t) (length u) list (prefix_length p) f.1, f.2, f.3)
fits_later (forms.Zero x) p f = later x p f
fits_later (forms.MulLo a b) p f = (later a p f.0, later b p f.1)
fits_later (forms.MulHi a b) p f = (later a p f.0, later b p f.1)
fits_later (forms.And a b) p f = (later a p f.0, later b p f.1)
fits_later (forms.Or a b) p f = (later a p f.0, later b p f.1)
fits_later (forms.Xor a b) p f = (later a p f.0, later b p f.1)
fits_later (forms.Shr x k) p f = (later x p f.0, f.1, f.2)
fits_later (forms.Select c x y) p f = (later c p f.0, later x p f.1, later y p f.2)
fits_later (forms.SetB v b) p f = (later v p f.0, later b p f.1)
