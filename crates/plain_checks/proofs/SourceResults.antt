-- The results of an operation stand in every table that goes on from the one in which they are made.
use Rattle.std.proofs.Common.{◌≡◌, ℕ, ◌-◌, ◌^◌, ◌<◌, ◌≤◌, List, [], ◌∷◌, length, refl, sym, subst, arith}
use Rattle.std.specs.Prelude.{slice_index}
use Rattle.word_operations.specs.declared.kind.Kind.{Kind}
use Rattle.word_operations.specs.declared.kind.Kind.TheVariants.{AddCarry, SubBorrow, MulX, CMov, Add, Sub, Mul, And}
use Rattle.word_operations.specs.declared.kind.Kind.TheVariants.{Or, Xor, Not, Copy, Shl, Shr, Shrd}
use Rattle.word_operations.specs.Operations.{result_count}
use Rattle.word_program.specs.Accepted.{HasShift}
use Rattle.terms.specs.declared.nodes.Node.{Node}
use Rattle.terms.specs.declared.nodes.Form.{Form}
use Rattle.terms.specs.declared.nodes.Form.TheVariants as forms
use Rattle.terms.specs.Forms.{FormFits}
use Rattle.terms.specs.Tables.{node_at, IsTable, Prefix}
use Rattle.term_store.specs.Interning.{made}
use Rattle.term_store.proofs.Made.{IsBitForm, made_below, made_bit, made_prefix, made_table}
use Rattle.term_store.proofs.Prefixes.{at_front, fits_later, prefix_length, prefix_trans}
use Rattle.program_nodes.specs.Operands.{AreOperandNodes, IsBit}
use Rattle.program_nodes.specs.Sources.{results_made}
use Rattle.program_nodes.specs.Terms.{term, plus, minus, sum}
use Rattle.program_nodes.proofs.FormsFit.{borrow2_fits, carry_first_fits, one_fits, three_fit, two_fit}
use Rattle.term_laws.specs.Numbers.{Has}
use Rattle.plain_checks.proofs.Nodes.{HasResults}
use Rattle.term_laws.proofs.Stable.{has_later, made_has}

-- ---- how many there are

pub many_results : (kind : Kind) (t : List Node) (a b c : ℕ)
    → length (results_made kind t a b c).numbers ≡ result_count kind
many_results AddCarry t a b c = refl
many_results SubBorrow t a b c = refl
many_results MulX t a b c = refl
many_results CMov t a b c = refl
many_results Add t a b c = refl
many_results Sub t a b c = refl
many_results Mul t a b c = refl
many_results And t a b c = refl
many_results Or t a b c = refl
many_results Xor t a b c = refl
many_results Not t a b c = refl
many_results Copy t a b c = refl
many_results (Shl k) t a b c = refl
many_results (Shr k) t a b c = refl
many_results (Shrd k) t a b c = refl

-- ---- forms in longer tables

module _ {t u : List Node} (table : IsTable t) where
  form_there : (form : Form) {n : ℕ} → FormFits t form → Prefix (made t form).table u → (made t form).number ≡ n
      → Has u form n
  form_there form fits p e = subst (Has u form) e
      (has_later (made_table t form table fits) p (made_has t form table fits))

  -- a second form, behind a first one
  next_there : (f g : Form) {n : ℕ} → FormFits t f → FormFits t g → Prefix (made (made t f).table g).table u
      → (made (made t f).table g).number ≡ n → Has u g n
  next_there f g fits also p e = subst (Has u g) e
      (has_later (made_table (made t f).table g (made_table t f table fits) (fits_later g (made_prefix t f) also)) p
      (made_has (made t f).table g (made_table t f table fits) (fits_later g (made_prefix t f) also)))

  next_bit : (f g : Form) {n : ℕ} → FormFits t f → FormFits t g → IsBitForm g
      → Prefix (made (made t f).table g).table u → (made (made t f).table g).number ≡ n → IsBit u n
  next_bit f g fits also bit p e =
      let v = (made t f).table in
      let is : IsTable v = made_table t f table fits in
      let fits_v : FormFits v g = fits_later g (made_prefix t f) also in
      let below = made_below v g is fits_v in
      let longer = prefix_length p in
      subst (IsBit u) e (record {
        inside = omega (arith, below, longer);
        high = subst (λ (node : Node). node.high ≤ 1) (sym (at_front (made v g).number p below))
            (made_bit v g is fits_v bit);
      })

bit_later : {t u : List Node} (n : ℕ) → Prefix t u → n < length t → (node_at t n).high ≤ 1 → IsBit u n
bit_later n p h bit = let longer = prefix_length p in record {
  inside = omega (arith, h, longer);
  high = subst (λ (node : Node). node.high ≤ 1) (sym (at_front n p h)) bit;
}

-- the table after the first of two forms is the front of the one after both
first_front : {u : List Node} (t : List Node) (f g : Form) → Prefix (made (made t f).table g).table u
    → Prefix (made t f).table u
first_front t f g p = prefix_trans (made_prefix (made t f).table g) p

-- ---- all kinds

-- two words and a bit, which comes first
carries_there : {t u : List Node} (c a b : ℕ) {r q : ℕ} → IsTable t → AreOperandNodes t AddCarry c a b
    → Prefix (results_made AddCarry t c a b).table u
    → slice_index (results_made AddCarry t c a b).numbers 0 ≡ r
    → slice_index (results_made AddCarry t c a b).numbers 1 ≡ q → HasResults u AddCarry c a b r q
carries_there {t} {u} c a b table n p first second =
    let y = n.second (omega arith) in let z = n.third (omega arith) in
    let f = sum (plus c ∷ plus a ∷ plus b ∷ []) in let g = forms.Carry (c ∷ a ∷ b ∷ []) in
    let fits : FormFits t f = three_fit t 0 (plus c) (plus a) (plus b) n.first y z in
    let also : FormFits t g = carry_first_fits t c a b n.first y z (n.taken refl) in
    let front = first_front t f g p in (
      bit_later c (prefix_trans (made_prefix t f) front) n.first (n.taken refl),
      next_bit table f g fits also tt p second,
      form_there table f fits front first,
      next_there table f g fits also p second,
    )

borrows_there : {t u : List Node} (c a b : ℕ) {r q : ℕ} → IsTable t → AreOperandNodes t SubBorrow c a b
    → Prefix (results_made SubBorrow t c a b).table u
    → slice_index (results_made SubBorrow t c a b).numbers 0 ≡ r
    → slice_index (results_made SubBorrow t c a b).numbers 1 ≡ q → HasResults u SubBorrow c a b r q
borrows_there {t} {u} c a b table n p first second =
    let y = n.second (omega arith) in let z = n.third (omega arith) in
    let f = sum (plus a ∷ minus b ∷ minus c ∷ []) in let g = forms.Borrow a (b ∷ c ∷ []) in
    let fits : FormFits t f = three_fit t 0 (plus a) (minus b) (minus c) y z n.first in
    let also : FormFits t g = borrow2_fits t a b c y z n.first in
    let front = first_front t f g p in (
      bit_later c (prefix_trans (made_prefix t f) front) n.first (n.taken refl),
      next_bit table f g fits also tt p second,
      form_there table f fits front first,
      next_there table f g fits also p second,
    )

-- the parts of a shift over two words, and their sum
shifts_there : {t u : List Node} (k lo hi z : ℕ) {r : ℕ} (q : ℕ) → IsTable t → HasShift (Shrd k)
    → AreOperandNodes t (Shrd k) lo hi z → Prefix (results_made (Shrd k) t lo hi z).table u
    → slice_index (results_made (Shrd k) t lo hi z).numbers 0 ≡ r → HasResults u (Shrd k) lo hi z r q
shifts_there {t} {u} k lo hi z end table h n p first =
    let f = forms.Shr lo k in let g = sum (term (2 ^ (64 - k)) hi ∷ []) in
    let v = (made t f).table in let w = (made v g).table in
    let x = (made t f).number in let y = (made v g).number in
    let fits : FormFits t f = (n.first, h.0, h.1) in
    let also : FormFits t g = one_fits t 0 (term (2 ^ (64 - k)) hi) (n.second (omega arith)) in
    let later : FormFits v g = fits_later g (made_prefix t f) also in
    let is_v : IsTable v = made_table t f table fits in
    let is_w : IsTable w = made_table v g is_v later in
    let below = made_below t f table fits in
    let longer = prefix_length (made_prefix v g) in
    let s = sum (plus x ∷ plus y ∷ []) in
    let sum_fits : FormFits w s = two_fit w 0 (plus x) (plus y) (omega (arith, below, longer))
    (made_below v g is_v later) in
    let q = prefix_trans (made_prefix w s) p in (
      x,
      y,
      form_there table f fits (first_front t f g q) refl,
      next_there table f g fits also q refl,
      form_there is_w s sum_fits p first,
    )

pub results_there : {t u : List Node} (kind : Kind) (a b c : ℕ) {r q : ℕ} → IsTable t → HasShift kind
    → AreOperandNodes t kind a b c → Prefix (results_made kind t a b c).table u
    → (1 ≤ result_count kind → slice_index (results_made kind t a b c).numbers 0 ≡ r)
    → (2 ≤ result_count kind → slice_index (results_made kind t a b c).numbers 1 ≡ q) → HasResults u kind a b c r q
results_there AddCarry a b c table h n p first second =
    carries_there a b c table n p (first (omega arith)) (second (omega arith))
results_there SubBorrow a b c table h n p first second =
    borrows_there a b c table n p (first (omega arith)) (second (omega arith))
results_there {t} {u} MulX a b c table h n p first second =
    let y = n.second (omega arith) in
    let f = forms.MulLo a b in let g = forms.MulHi a b in (
      form_there table f (n.first, y) (first_front t f g p) (first (omega arith)),
      next_there table f g (n.first, y) (n.first, y) p (second (omega arith)),
    )
results_there {t} {u} CMov c z nz table h n p first second =
    let f = forms.Select c z nz in
    let fits : FormFits t f = (n.first, n.second (omega arith), n.third (omega arith)) in
    let there = form_there table f fits p (first (omega arith)) in
    (bit_later c (prefix_trans (made_prefix t f) p) n.first (n.taken refl), there)
results_there {t} {u} Add a b c table h n p first second =
    form_there table _ (two_fit t 0 (plus a) (plus b) n.first (n.second (omega arith))) p (first (omega arith))
results_there {t} {u} Sub a b c table h n p first second =
    form_there table _ (two_fit t 0 (plus a) (minus b) n.first (n.second (omega arith))) p (first (omega arith))
results_there Mul a b c table h n p first second =
    form_there table (forms.MulLo a b) (n.first, n.second (omega arith)) p (first (omega arith))
results_there And a b c table h n p first second =
    form_there table (forms.And a b) (n.first, n.second (omega arith)) p (first (omega arith))
results_there Or a b c table h n p first second =
    form_there table (forms.Or a b) (n.first, n.second (omega arith)) p (first (omega arith))
results_there Xor a b c table h n p first second =
    form_there table (forms.Xor a b) (n.first, n.second (omega arith)) p (first (omega arith))
results_there {t} {u} Not a b c table h n p first second =
    form_there table _ (one_fits t (2 ^ 64 - 1) (minus a) n.first) p (first (omega arith))
results_there Copy a b c table h n p first second = sym (first (omega arith))
results_there {t} {u} (Shl k) a b c table h n p first second =
    form_there table _ (one_fits t 0 (term (2 ^ k) a) n.first) p (first (omega arith))
results_there (Shr k) a b c table h n p first second =
    form_there table (forms.Shr a k) (n.first, h.0, h.1) p (first (omega arith))
results_there (Shrd k) a b c {r} {q} table h n p first second =
    shifts_there k a b c q table h n p (first (omega arith))
