-- Forms that fit the table: those of whose arguments it is known that they stand there.
use Rattle.std.proofs.Common.{◌≡◌, ℕ, ◌<◌, ◌≤◌, ◌+◌, Bool, true, false, cond, List, [], ◌∷◌, length, arith}
use Rattle.std.specs.Prelude.{count_by}
use Rattle.std.specs.List.{AllByRecursion}
use Rattle.std.proofs.lemmas.Bool.{le-ltb}
use Rattle.std.proofs.lemmas.List.Elements.{All-from_recursion}
use Rattle.std.proofs.lemmas.List.Sums.{count_by-le-length}
use Rattle.terms.specs.declared.lists.Term.{Term}
use Rattle.terms.specs.declared.nodes.Node.{Node}
use Rattle.terms.specs.declared.nodes.Form.TheVariants as forms
use Rattle.terms.specs.Tables.{node_at, AreBelow, AreTermsBelow}
use Rattle.terms.specs.Forms.{FormFits, is_no_bit}
use Rattle.term_store.proofs.Made.{made_below, made_most, made_prefix}
use Rattle.term_store.proofs.Prefixes.{prefix_length, prefix_refl}

-- ---- lists

pub terms_below : (n : ℕ) (ts : List Term) → AllByRecursion (λ t. t.node < n) ts → AreTermsBelow n ts
terms_below n ts t = All-from_recursion (λ (t : Term). t.node < n) ts t

pub numbers_below : (n : ℕ) (ms : List ℕ) → AllByRecursion (λ m. m < n) ms → AreBelow n ms
numbers_below n ms t = All-from_recursion (λ (m : ℕ). m < n) ms t

-- ---- sums

pub one_fits : (t : List Node) (k : ℕ) (x : Term) → x.node < length t → FormFits t (forms.Lin k (x ∷ []))
one_fits t k x h = (terms_below (length t) (x ∷ []) (h, tt), omega arith)

pub two_fit : (t : List Node) (k : ℕ) (x y : Term) → x.node < length t → y.node < length t
    → FormFits t (forms.Lin k (x ∷ y ∷ []))
two_fit t k x y h g = (terms_below (length t) (x ∷ y ∷ []) (h, (g, tt)), omega arith)

pub three_fit : (t : List Node) (k : ℕ) (x y z : Term) → x.node < length t → y.node < length t → z.node < length t
    → FormFits t (forms.Lin k (x ∷ y ∷ z ∷ []))
three_fit t k x y z h g f = (terms_below (length t) (x ∷ y ∷ z ∷ []) (h, (g, (f, tt))), omega arith)

-- ---- carries and borrows

pub carry2_fits : (t : List Node) (a b : ℕ) → a < length t → b < length t → FormFits t (forms.Carry (a ∷ b ∷ []))
carry2_fits t a b h g = (
  numbers_below (length t) (a ∷ b ∷ []) (h, (g, tt)),
  omega arith,
  omega arith,
  count_by-le-length (is_no_bit t) (a ∷ b ∷ []),
)

-- of three, one of which does not count
two_of_three : (p q r : Bool) → 0 + cond p 1 0 + cond q 1 0 ≤ 2 → r ≡ false
    → 0 + cond p 1 0 + cond q 1 0 + cond r 1 0 ≤ 2
two_of_three p q r two e = rw e (omega arith)

not_first : (p q r : Bool) → p ≡ false → 0 + cond p 1 0 + cond q 1 0 + cond r 1 0 ≤ 2
not_first p true true e = rw e (omega arith)
not_first p true false e = rw e (omega arith)
not_first p false true e = rw e (omega arith)
not_first p false false e = rw e (omega arith)

-- two words and a bit, which comes first
pub carry_first_fits : (t : List Node) (c a b : ℕ) → c < length t → a < length t → b < length t
    → (node_at t c).high ≤ 1 → FormFits t (forms.Carry (c ∷ a ∷ b ∷ []))
carry_first_fits t c a b h g f bit = (
  numbers_below (length t) (c ∷ a ∷ b ∷ []) (h, (g, (f, tt))),
  omega arith,
  omega arith,
  not_first (is_no_bit t c) (is_no_bit t a) (is_no_bit t b) (le-ltb 1 (node_at t c).high bit),
)

-- or last
pub carry_last_fits : (t : List Node) (a b c : ℕ) → a < length t → b < length t → c < length t
    → (node_at t c).high ≤ 1 → FormFits t (forms.Carry (a ∷ b ∷ c ∷ []))
carry_last_fits t a b c h g f bit = (
  numbers_below (length t) (a ∷ b ∷ c ∷ []) (h, (g, (f, tt))),
  omega arith,
  omega arith,
  two_of_three (is_no_bit t a) (is_no_bit t b) (is_no_bit t c) (count_by-le-length (is_no_bit t) (a ∷ b ∷ []))
      (le-ltb 1 (node_at t c).high bit),
)

pub borrow1_fits : (t : List Node) (a b : ℕ) → a < length t → b < length t → FormFits t (forms.Borrow a (b ∷ []))
borrow1_fits t a b h g = (h, numbers_below (length t) (b ∷ []) (g, tt), omega arith, omega arith)

pub borrow2_fits : (t : List Node) (a b c : ℕ) → a < length t → b < length t → c < length t
    → FormFits t (forms.Borrow a (b ∷ c ∷ []))
borrow2_fits t a b c h g f = (h, numbers_below (length t) (b ∷ c ∷ []) (g, (f, tt)), omega arith, omega arith)

-- ---- what the code's goals want

-- of the table after one form
pub ruleset making = (prefix_refl, made_prefix, made_below, made_most)

-- of sums of parts that are made one after the other
pub ruleset shift_fits = (one_fits, two_fit, prefix_length)
