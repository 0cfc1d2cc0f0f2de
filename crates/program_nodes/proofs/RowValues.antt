-- The nodes of an operation's results have the words that the operation computes: one row a kind.
use Rattle.std.proofs.Common.{◌≡◌, ℕ, ◌+◌, ◌-◌, ◌*◌, ◌/◌, ◌%◌, ◌^◌, ◌<◌, ◌≤◌, List, [], ◌∷◌, length, map, refl, sym, ap}
use Rattle.std.proofs.Common.{◌∙◌, arith}
use Rattle.std.specs.Prelude.{nat_lt, slice_index, if◌then◌else◌}
use Rattle.std.proofs.lemmas.List.{get_or-map}
use Rattle.word_operations.specs.declared.kind.Kind.{Kind}
use Rattle.word_operations.specs.declared.kind.Kind.TheVariants.{AddCarry, SubBorrow, MulX, CMov, Add, Sub, Mul, And}
use Rattle.word_operations.specs.declared.kind.Kind.TheVariants.{Or, Xor, Not, Copy, Shl, Shr, Shrd}
use Rattle.word_operations.specs.Operations.{operand_count, results_on, results_of}
use Rattle.word_operations.proofs.ResultLemmas as results
use Rattle.word_program.specs.declared.parameter.Param.{Param}
use Rattle.word_program.specs.Accepted.{HasShift}
use Rattle.terms.specs.declared.nodes.Node.{Node}
use Rattle.terms.specs.declared.nodes.Form.{Form}
use Rattle.terms.specs.declared.nodes.Form.TheVariants as forms
use Rattle.terms.specs.Tables.{IsTable}
use Rattle.terms.specs.Forms.{FormFits}
use Rattle.terms.specs.Grown.{IsGrown}
use Rattle.terms.specs.Meaning.{Admits, IsSound, IsValuation, Start, form_value}
use Rattle.term_store.specs.Interning.{made_all}
use Rattle.program_nodes.specs.Terms.{term}
use Rattle.program_nodes.specs.Terms.{plus, minus, sum}
use Rattle.program_nodes.specs.Operands.{AreOperandNodes, IsProgramForm}
use Rattle.program_nodes.specs.Sources.{results_made}
use Rattle.program_nodes.proofs.Growing.{Grows, all_made_grows, all_made_values}
use Rattle.program_nodes.proofs.ResultRows.{one_less, turned, two_less}
use Rattle.program_nodes.proofs.FormsFit.{borrow2_fits, carry_first_fits, one_fits, three_fit, two_fit}
use Rattle.program_nodes.proofs.SourceRows.{are_shifts, row_grows, shifts, shifts_sum}
use Rattle.term_store.proofs.Prefixes.{sound_front, valuation_front}

module _ (ps : List Param) (start : Start) (val : ℕ → ℕ) where
  -- the table is valued, and its nodes are sound
  pub record IsValued (t : List Node) : Type 0 where
    pub valuation : IsValuation start t val
    pub sound : IsSound t val

  pub valued_front : (t u : List Node) (m : ℕ) → Grows (IsProgramForm ps) t m u → IsValued u → IsValued t
  valued_front t u m g v = record {
    valuation = valuation_front g.prefix v.valuation;
    sound = sound_front g.prefix v.sound;
  }

  module _ (t : List Node) (table : IsTable t) (grown : IsGrown (IsProgramForm ps) t) where
    one_value : (f : Form) → FormFits t f → IsProgramForm ps f → Admits start f → IsValued (made_all t (f ∷ [])).table
        → map val (made_all t (f ∷ [])).numbers ≡ form_value start val f ∷ []
    one_value f fits has admits v = all_made_values (IsProgramForm ps) t (f ∷ []) table grown (fits, tt) (has, tt)
        start val (admits, tt) v.valuation v.sound

    two_values : (f g : Form) → FormFits t f → FormFits t g → IsProgramForm ps f → IsProgramForm ps g
        → Admits start f → Admits start g → IsValued (made_all t (f ∷ g ∷ [])).table
        → map val (made_all t (f ∷ g ∷ [])).numbers ≡ form_value start val f ∷ form_value start val g ∷ []
    two_values f g fits also has have admits admit v = all_made_values (IsProgramForm ps) t (f ∷ g ∷ []) table grown
        (fits, (also, tt)) (has, (have, tt)) start val (admits, (admit, tt)) v.valuation v.sound

  pair : (u v w x : ℕ) → u ≡ w → v ≡ x → u ∷ v ∷ [] ≡ w ∷ x ∷ []
  pair u v w x e f = λ i. e i ∷ f i ∷ []

  single : (u w : ℕ) → u ≡ w → u ∷ [] ≡ w ∷ []
  single u w e = λ i. e i ∷ []

  row : (t : List Node) → IsTable t → IsGrown (IsProgramForm ps) t → IsSound t val → (kind : Kind) → HasShift kind
      → (a b c : ℕ) → AreOperandNodes t kind a b c → IsValued (results_made kind t a b c).table
      → map val (results_made kind t a b c).numbers ≡ results_on kind (val a) (val b) (val c)
  row t table grown s AddCarry h a b c n v =
      let y = n.second (omega arith) in let z = n.third (omega arith) in
      two_values t table grown (sum (plus a ∷ plus b ∷ plus c ∷ [])) (forms.Carry (a ∷ b ∷ c ∷ []))
      (three_fit t 0 (plus a) (plus b) (plus c) n.first y z) (carry_first_fits t a b c n.first y z (n.taken refl))
      tt tt tt tt v
      ∙ pair _ _ _ _ (ap (λ (x : ℕ). x % 2 ^ 64) (omega arith)) (ap (λ (x : ℕ). x / 2 ^ 64) (omega arith))
  row t table grown s SubBorrow h a b c n v =
      let y = n.second (omega arith) in let z = n.third (omega arith) in
      let e : val c + (val a + 0) ≡ val c + val a = omega arith in
      two_values t table grown (sum (plus b ∷ minus c ∷ minus a ∷ [])) (forms.Borrow b (c ∷ a ∷ []))
      (three_fit t 0 (plus b) (minus c) (minus a) y z n.first) (borrow2_fits t b c a y z n.first) tt tt tt tt v
      ∙ pair _ _ _ _ (two_less (val b) (val c) (val a) (s.word b y) (s.word c z) (s.word a n.first))
      (ap (λ (x : ℕ). if nat_lt (val b) x then 1 else 0) e)
  row t table grown s MulX h a b c n v = let y = n.second (omega arith) in
      two_values t table grown (forms.MulLo a b) (forms.MulHi a b) (n.first, y) (n.first, y) tt tt tt tt v
  row t table grown s CMov h a b c n v =
      let y = n.second (omega arith) in let z = n.third (omega arith) in
      one_value t table grown (forms.Select a b c) (n.first, y, z) tt tt v
  row t table grown s Add h a b c n v = let y = n.second (omega arith) in
      one_value t table grown (sum (plus a ∷ plus b ∷ [])) (two_fit t 0 (plus a) (plus b) n.first y) tt tt v
      ∙ single _ _ (ap (λ (x : ℕ). x % 2 ^ 64) (omega arith))
  row t table grown s Sub h a b c n v = let y = n.second (omega arith) in
      one_value t table grown (sum (plus a ∷ minus b ∷ [])) (two_fit t 0 (plus a) (minus b) n.first y) tt tt v
      ∙ single _ _ (one_less (val a) (val b) (s.word a n.first) (s.word b y))
  row t table grown s Mul h a b c n v =
      one_value t table grown (forms.MulLo a b) (n.first, n.second (omega arith)) tt tt v
  row t table grown s And h a b c n v =
      one_value t table grown (forms.And a b) (n.first, n.second (omega arith)) tt tt v
  row t table grown s Or h a b c n v = one_value t table grown (forms.Or a b) (n.first, n.second (omega arith)) tt tt v
  row t table grown s Xor h a b c n v =
      one_value t table grown (forms.Xor a b) (n.first, n.second (omega arith)) tt tt v
  row t table grown s Not h a b c n v =
      one_value t table grown (forms.Lin (2 ^ 64 - 1) (minus a ∷ []))
      (one_fits t (2 ^ 64 - 1) (minus a) n.first) tt tt v
      ∙ single _ _ (turned (val a) (s.word a n.first))
  row t table grown s Copy h a b c n v = refl
  row t table grown s (Shl k) h a b c n v =
      one_value t table grown (sum (term (2 ^ k) a ∷ [])) (one_fits t 0 (term (2 ^ k) a) n.first) tt tt v
      ∙ single _ _ (ap (λ (x : ℕ). x % 2 ^ 64) (omega arith))
  row t table grown s (Shr k) h a b c n v = one_value t table grown (forms.Shr a k) (n.first, h.0, h.1) tt tt v
  row t table grown s (Shrd k) h a b c n v =
      let y = n.second (omega arith) in
      let are = are_shifts ps t table grown k a b h n.first y in
      let u = made_all t (shifts ps k a b) in
      let g = shifts_sum ps u in
      let last = all_made_grows (IsProgramForm ps) u.table (g ∷ []) are.grows.table are.grows.grown (are.sum_fits, tt)
      (tt, tt) in
      let w = valued_front u.table (made_all u.table (g ∷ [])).table 1 last v in
      let parts = all_made_values (IsProgramForm ps) t (shifts ps k a b) table grown are.fit (tt, (tt, tt)) start val
      (tt, (tt, tt)) w.valuation w.sound in
      let low : val (slice_index u.numbers 0) ≡ val a / 2 ^ k = ap (λ (xs : List ℕ). slice_index xs 0) parts in
      let high : val (slice_index u.numbers 1) ≡ (0 + (2 ^ (64 - k) * val b + 0)) % 2 ^ 64 =
      ap (λ (xs : List ℕ). slice_index xs 1) parts in
      let turn : 0 + (2 ^ (64 - k) * val b + 0) ≡ val b * 2 ^ (64 - k) = omega arith in
      let other : (0 + (2 ^ (64 - k) * val b + 0)) % 2 ^ 64 ≡ (val b * 2 ^ (64 - k)) % 2 ^ 64 =
      ap (λ (x : ℕ). x % 2 ^ 64) turn in
      let word : val a / 2 ^ k + (val b * 2 ^ (64 - k)) % 2 ^ 64 < 2 ^ 64 =
      (results.words (Shrd k) (val a) (val b) 0 (s.word a n.first, (s.word b y, (omega arith, tt)))).0 in
      one_value u.table are.grows.table are.grows.grown g are.sum_fits tt tt v
      ∙ single _ _ (omega (arith, low, high, other, word))

  -- only as many operands count as the kind has
  same_results : (kind : Kind) (x y z u v w : ℕ) → x ≡ u → (2 ≤ operand_count kind → y ≡ v)
      → (3 ≤ operand_count kind → z ≡ w) → results_on kind x y z ≡ results_on kind u v w
  same_results AddCarry x y z u v w e f g = let p = f (omega arith) in let q = g (omega arith) in
      λ i. results_on AddCarry (e i) (p i) (q i)
  same_results SubBorrow x y z u v w e f g = let p = f (omega arith) in let q = g (omega arith) in
      λ i. results_on SubBorrow (e i) (p i) (q i)
  same_results MulX x y z u v w e f g = let p = f (omega arith) in λ i. results_on MulX (e i) (p i) z
  same_results CMov x y z u v w e f g = let p = f (omega arith) in let q = g (omega arith) in
      λ i. results_on CMov (e i) (p i) (q i)
  same_results Add x y z u v w e f g = let p = f (omega arith) in λ i. results_on Add (e i) (p i) z
  same_results Sub x y z u v w e f g = let p = f (omega arith) in λ i. results_on Sub (e i) (p i) z
  same_results Mul x y z u v w e f g = let p = f (omega arith) in λ i. results_on Mul (e i) (p i) z
  same_results And x y z u v w e f g = let p = f (omega arith) in λ i. results_on And (e i) (p i) z
  same_results Or x y z u v w e f g = let p = f (omega arith) in λ i. results_on Or (e i) (p i) z
  same_results Xor x y z u v w e f g = let p = f (omega arith) in λ i. results_on Xor (e i) (p i) z
  same_results Not x y z u v w e f g = λ i. results_on Not (e i) y z
  same_results Copy x y z u v w e f g = λ i. results_on Copy (e i) y z
  same_results (Shl k) x y z u v w e f g = λ i. results_on (Shl k) (e i) y z
  same_results (Shr k) x y z u v w e f g = λ i. results_on (Shr k) (e i) y z
  same_results (Shrd k) x y z u v w e f g = let p = f (omega arith) in λ i. results_on (Shrd k) (e i) (p i) z

  value_at : (ns : List ℕ) (k : ℕ) → k < length ns → val (slice_index ns k) ≡ slice_index (map val ns) k
  value_at ns k h = sym (get_or-map val ns k 0 0 h)

  -- the results on nodes of as many operands as the kind has
  pub row_values : (t : List Node) → IsTable t → IsGrown (IsProgramForm ps) t → (kind : Kind) → HasShift kind
      → (ns : List ℕ) → length ns ≡ operand_count kind → 1 ≤ operand_count kind
      → AreOperandNodes t kind (slice_index ns 0) (slice_index ns 1) (slice_index ns 2)
      → IsValued (results_made kind t (slice_index ns 0) (slice_index ns 1) (slice_index ns 2)).table
      → map val (results_made kind t (slice_index ns 0) (slice_index ns 1) (slice_index ns 2)).numbers
      ≡ results_of kind (map val ns)
  row_values t table grown kind h ns many some n v =
      let a = slice_index ns 0 in let b = slice_index ns 1 in let c = slice_index ns 2 in
      let before = valued_front t (results_made kind t a b c).table 3 (row_grows ps t table grown kind h a b c n) v in
      row t table grown before.sound kind h a b c n v
      ∙ same_results kind (val a) (val b) (val c) (slice_index (map val ns) 0) (slice_index (map val ns) 1)
      (slice_index (map val ns) 2) (value_at ns 0 (omega arith)) (λ q. value_at ns 1 (omega arith))
      (λ q. value_at ns 2 (omega arith))
