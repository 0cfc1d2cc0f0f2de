-- Of every form the rules make what has the form's word, with an interval that holds it, and what the table may take.
use Rattle.std.proofs.Common.{◌≡◌, ℕ, ◌*◌, ◌/◌, ◌%◌, ◌^◌, ◌<◌, ◌≤◌, List, length, min, max, refl}
use Rattle.std.proofs.Common.{ap, subst, ⊎_elim, arith}
use Rattle.std.specs.Prelude.{bit_and, bit_or, bit_xor}
use Rattle.std.proofs.lemmas.Bool.{cases_lt}
use Rattle.std.proofs.lemmas.Nat.{and_comm, or_comm, xor_comm}
use Rattle.intervals.specs.Intervals.{full, shifted_right}
use Rattle.terms.specs.declared.nodes.Node.{Node}
use Rattle.terms.specs.declared.nodes.NodeKind.TheVariants as kinds
use Rattle.terms.specs.declared.nodes.Form.{Form}
use Rattle.terms.specs.declared.nodes.Form.TheVariants as forms
use Rattle.terms.specs.declared.nodes.Built.{Built}
use Rattle.terms.specs.Tables.{IsTable}
use Rattle.terms.specs.Forms.{FormFits, BuiltFits}
use Rattle.terms.specs.Meaning.{Start, form_value, with_low_byte, IsValuation, IsSound, Admits, Stands}
use Rattle.terms.specs.Rules.{interval_at, of_pair, mul_lo_of, mul_hi_of, and_of, or_of, xor_of, normal_of}
use Rattle.terms.proofs.ConstantValues.{finished_stands, own_fits}
use Rattle.terms.proofs.BitValues.{zero_stands, and_stands, or_stands, xor_stands}
use Rattle.terms.proofs.ProductValues.{mul_lo_stands, mul_hi_stands, shr_stands, mul_lo_fits}
use Rattle.terms.proofs.SelectValues.{select_stands}
use Rattle.terms.proofs.RuleFits.{zero_fits, and_fits, or_fits, xor_fits, mul_hi_fits, select_fits}
use Rattle.terms.proofs.SumIntervals.{lin_stands}
use Rattle.terms.proofs.CarryValues.{carry_stands}
use Rattle.terms.proofs.BorrowValues.{borrow_stands}
use Rattle.terms.proofs.SumsFit.{lin_fits, carry_fits, borrow_fits}

-- ---- two numbers in order

-- a rule that keeps the word of any two numbers keeps it of the two in order, where the word does not depend on order
pair_stands : (start : Start) (val : ℕ → ℕ) (n : ℕ) (f : ℕ → ℕ → ℕ) → ((a b : ℕ) → f a b ≡ f b a)
    → (rule : ℕ → ℕ → Built) → ((a b : ℕ) → a < n → b < n → Stands start val (f (val a) (val b)) (rule a b))
    → (a b : ℕ) → a < n → b < n
    → Stands start val (f (val a) (val b)) (of_pair rule a b)
pair_stands start val n f comm rule each a b h j = ⊎_elim
    (λ (p : a < b). let least : a ≡ min a b = omega arith in let most : b ≡ max a b = omega arith in
    subst (λ (m : ℕ). Stands start val (f (val a) (val b)) (rule m (max a b))) least
    (subst (λ (m : ℕ). Stands start val (f (val a) (val b)) (rule a m)) most (each a b h j)))
    (λ (p : b ≤ a). let least : b ≡ min a b = omega arith in let most : a ≡ max a b = omega arith in
    subst (λ (m : ℕ). Stands start val (f (val a) (val b)) (rule m (max a b))) least
    (subst (λ (m : ℕ). Stands start val (f (val a) (val b)) (rule b m)) most
    (subst (λ (v : ℕ). Stands start val v (rule b a)) (comm (val b) (val a)) (each b a j h))))
    (cases_lt a b)

pair_fits : (table : List Node) (rule : ℕ → ℕ → Built)
    → ((a b : ℕ) → a < length table → b < length table → BuiltFits table (rule a b))
    → (a b : ℕ) → a < length table → b < length table → BuiltFits table (of_pair rule a b)
pair_fits table rule each a b h j = each (min a b) (max a b) (omega arith) (omega arith)

low_comm : (a b : ℕ) → a * b % 2 ^ 64 ≡ b * a % 2 ^ 64
low_comm a b = let e : a * b ≡ b * a = omega arith in ap (λ (n : ℕ). n % 2 ^ 64) e

high_comm : (a b : ℕ) → a * b / 2 ^ 64 ≡ b * a / 2 ^ 64
high_comm a b = let e : a * b ≡ b * a = omega arith in ap (λ (n : ℕ). n / 2 ^ 64) e

-- ---- every form

byte_put : (v b : ℕ) → v < 2 ^ 64 → with_low_byte v b < 2 ^ 64
byte_put v b h = omega arith

pub normal_stands : (start : Start) (val : ℕ → ℕ) (table : List Node) (form : Form) → IsTable table
    → FormFits table form → IsValuation start table val → IsSound table val → Admits start form
    → Stands start val (form_value start val form) (normal_of table form)
unfolding normal_of
normal_stands start val table (forms.Const v) t f i s a = (refl, omega arith, omega arith)
normal_stands start val table (forms.Start reg) t f i s a =
    finished_stands start val (kinds.Start reg) full _ refl (omega arith) (omega (arith, a))
normal_stands start val table (forms.In param word low high) t f i s a =
    finished_stands start val (kinds.In param word) (record { low = low; high = high }) _ refl a.0 a.1
normal_stands start val table (forms.Lin k terms) t f i s a = lin_stands start val table t i s k terms f.0 f.1
normal_stands start val table (forms.Carry list) t f i s a = carry_stands start val table t i s list f.0 f.2 f.3
normal_stands start val table (forms.Borrow n list) t f i s a = borrow_stands start val table t i s n list f.0 f.1
normal_stands start val table (forms.Zero x) t f i s a = zero_stands start val table t i s x f
normal_stands start val table (forms.MulLo m n) t f i s a =
    pair_stands start val (length table) (λ x y. x * y % 2 ^ 64) low_comm (mul_lo_of table)
    (mul_lo_stands start val table t i s) m n f.0 f.1
normal_stands start val table (forms.MulHi m n) t f i s a =
    pair_stands start val (length table) (λ x y. x * y / 2 ^ 64) high_comm (mul_hi_of table)
    (mul_hi_stands start val table t i s) m n f.0 f.1
normal_stands start val table (forms.And m n) t f i s a =
    pair_stands start val (length table) bit_and and_comm (and_of table) (and_stands start val table t i s) m n f.0 f.1
normal_stands start val table (forms.Or m n) t f i s a =
    pair_stands start val (length table) bit_or or_comm (or_of table) (or_stands start val table t i s) m n f.0 f.1
normal_stands start val table (forms.Xor m n) t f i s a =
    pair_stands start val (length table) bit_xor xor_comm (xor_of table) (xor_stands start val table t i s) m n f.0 f.1
normal_stands start val table (forms.Shr x k) t f i s a = shr_stands start val table t i s x k f.0
normal_stands start val table (forms.Select c x y) t f i s a = select_stands start val table t i s c x y f.0 f.1 f.2
normal_stands start val table (forms.SetB v b) t f i s a =
    finished_stands start val (kinds.SetB v b) full _ refl (omega arith)
    (omega (arith, byte_put (val v) (val b) (s.word v f.0)))

pub normal_fits : (table : List Node) (form : Form) → IsTable table → FormFits table form
    → BuiltFits table (normal_of table form)
unfolding normal_of
normal_fits table (forms.Const v) t f = tt
normal_fits table (forms.Start reg) t f = own_fits table (kinds.Start reg) full tt
normal_fits table (forms.In param word low high) t f =
    own_fits table (kinds.In param word) (record { low = low; high = high }) tt
normal_fits table (forms.Lin k terms) t f = lin_fits table t k terms f.0
normal_fits table (forms.Carry list) t f = carry_fits table t list f.0
normal_fits table (forms.Borrow a list) t f = borrow_fits table t a list f.0 f.1
normal_fits table (forms.Zero x) t f = zero_fits table t x f
normal_fits table (forms.MulLo a b) t f =
    pair_fits table (mul_lo_of table) (mul_lo_fits table t) a b f.0 f.1
normal_fits table (forms.MulHi a b) t f = pair_fits table (mul_hi_of table) (mul_hi_fits table t) a b f.0 f.1
normal_fits table (forms.And a b) t f = pair_fits table (and_of table) (and_fits table t) a b f.0 f.1
normal_fits table (forms.Or a b) t f = pair_fits table (or_of table) (or_fits table t) a b f.0 f.1
normal_fits table (forms.Xor a b) t f = pair_fits table (xor_of table) (xor_fits table t) a b f.0 f.1
normal_fits table (forms.Shr x k) t f = own_fits table (kinds.Shr x k) (shifted_right (interval_at table x) k) f.0
normal_fits table (forms.Select c x y) t f = select_fits table t c x y f.0 f.1 f.2
normal_fits table (forms.SetB v b) t f = own_fits table (kinds.SetB v b) full f
