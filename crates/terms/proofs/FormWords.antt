-- The value of a form is a word where the values of the nodes are words.
use Rattle.std.proofs.Common.{ℕ, ◌*◌, ◌^◌, ◌<◌, ◌≤◌, List, [], ◌∷◌, length, eqb, ltb, arith}
use Rattle.std.specs.Int.Bits.{and_lt}
use Rattle.std.proofs.lemmas.Nat.{or_lt, xor_lt, mul-lt, shr_le}
use Rattle.std.proofs.lemmas.List.Elements.{All-head, All-tail}
use Rattle.terms.specs.declared.nodes.Node.{Node}
use Rattle.terms.specs.declared.nodes.Form.{Form}
use Rattle.terms.specs.declared.nodes.Form.TheVariants as forms
use Rattle.terms.specs.Tables.{AreBelow}
use Rattle.terms.specs.Forms.{FormFits}
use Rattle.terms.specs.Meaning.{Start, form_value, total, IsSound, Admits}
use Rattle.terms.proofs.Cases.{by_if}

total_below : (val : ℕ → ℕ) (n : ℕ) → ((m : ℕ) → m < n → val m < 2 ^ 64) → (list : List ℕ) → AreBelow n list
    → total val list ≤ length list * 2 ^ 64
total_below val n each [] a = omega arith
total_below val n each (m ∷ ms) a =
    let h = each m (All-head (λ (k : ℕ). k < n) m ms a) in
    let r = total_below val n each ms (All-tail (λ (k : ℕ). k < n) m ms a) in
    omega (arith, h, r)

pub form_word : (start : Start) (val : ℕ → ℕ) (table : List Node) (form : Form) → FormFits table form
    → IsSound table val → Admits start form → form_value start val form < 2 ^ 64
form_word start val table (forms.Const v) f s a = f
form_word start val table (forms.Start reg) f s a = a
form_word start val table (forms.In param word low high) f s a = omega (arith, a.1, f)
form_word start val table (forms.Lin k terms) f s a = omega arith
form_word start val table (forms.Carry list) f s a =
    omega (arith, total_below val (length table) s.word list f.0, f.2)
form_word start val table (forms.Borrow n list) f s a =
    by_if (λ (v : ℕ). v < 2 ^ 64) (ltb (val n) (total val list)) 1 0 (λ _. omega arith) (λ _. omega arith)
form_word start val table (forms.Zero x) f s a =
    by_if (λ (v : ℕ). v < 2 ^ 64) (eqb (val x) 0) 1 0 (λ _. omega arith) (λ _. omega arith)
form_word start val table (forms.MulLo m n) f s a = omega arith
form_word start val table (forms.MulHi m n) f s a =
    omega (arith, mul-lt (val m) (val n) (2 ^ 64) (2 ^ 64) (s.word m f.0) (s.word n f.1))
form_word start val table (forms.And m n) f s a = and_lt 64 (val m) (val n) (s.word m f.0) (s.word n f.1)
form_word start val table (forms.Or m n) f s a = or_lt 64 (val m) (val n) (s.word m f.0) (s.word n f.1)
form_word start val table (forms.Xor m n) f s a = xor_lt 64 (val m) (val n) (s.word m f.0) (s.word n f.1)
form_word start val table (forms.Shr x k) f s a = omega (arith, shr_le (val x) k, s.word x f.0)
form_word start val table (forms.Select c x y) f s a =
    by_if (λ (v : ℕ). v < 2 ^ 64) (eqb (val c) 0) (val x) (val y) (λ _. s.word x f.1) (λ _. s.word y f.2)
form_word start val table (forms.SetB v b) f s a = omega (arith, s.word v f.0)
