-- The nodes of an operation's results: the table goes on, and results that are told to be bits are at most 1.
use Rattle.std.proofs.Common.{◌≡◌, ℕ, ◌+◌, ◌-◌, ◌^◌, ◌<◌, ◌≤◌, Bool, true, false, List, [], ◌∷◌, length, refl, ap}
use Rattle.std.proofs.Common.{arith, inl, inr, ◌⊎◌}
use Rattle.std.specs.Prelude.{◌&&◌, ◌||◌, ◌==◌, slice_index}
use Rattle.std.specs.List.{AllByRecursion}
use Rattle.std.proofs.lemmas.Bool.{and_parts}
use Rattle.base.proofs.Arithmetic.{equal_by_test}
use Rattle.word_operations.specs.declared.kind.Kind.{Kind}
use Rattle.word_operations.specs.declared.kind.Kind.TheVariants.{AddCarry, SubBorrow, MulX, CMov, Add, Sub, Mul, And}
use Rattle.word_operations.specs.declared.kind.Kind.TheVariants.{Or, Xor, Not, Copy, Shl, Shr, Shrd}
use Rattle.word_operations.specs.Operations.{bits_on}
use Rattle.word_program.specs.declared.parameter.Param.{Param}
use Rattle.word_program.specs.Accepted.{HasShift}
use Rattle.terms.specs.declared.nodes.Node.{Node}
use Rattle.terms.specs.declared.nodes.Form.{Form}
use Rattle.terms.specs.declared.nodes.Form.TheVariants as forms
use Rattle.terms.specs.Tables.{node_at, IsTable}
use Rattle.terms.specs.Forms.{FormFits}
use Rattle.terms.specs.Grown.{IsGrown}
use Rattle.term_store.specs.Interning.{AllMade, made_all}
use Rattle.program_nodes.specs.Terms.{term}
use Rattle.program_nodes.specs.Terms.{plus, minus, sum}
use Rattle.program_nodes.specs.Operands.{AreNodesOf, AreOperandNodes, IsProgramForm}
use Rattle.program_nodes.specs.Sources.{results_made}
use Rattle.program_nodes.proofs.Growing.{Grows, all_made_are, all_made_grows, grows_more, grows_not, grows_on}
use Rattle.program_nodes.proofs.FormsFit.{borrow2_fits, carry_first_fits, one_fits, three_fit, two_fit}
use Rattle.program_nodes.proofs.LowNodes.{MakesBit}

-- ---- rows

-- these of the nodes are at most 1
pub record AreBitNodes (t : List Node) (p q r : Bool) (a b c : ℕ) : Type 0 where
  pub first : p ≡ true → (node_at t a).high ≤ 1
  pub second : q ≡ true → (node_at t b).high ≤ 1
  pub third : r ≡ true → (node_at t c).high ≤ 1

either_bit : (t : List Node) (p q : Bool) (a b : ℕ) → (p ≡ true → (node_at t a).high ≤ 1)
    → (q ≡ true → (node_at t b).high ≤ 1) → (p || q) ≡ true
    → ((node_at t a).high ≤ 1) ⊎ ((node_at t b).high ≤ 1)
either_bit t true q a b f g e = inl (f refl)
either_bit t false q a b f g e = inr (g e)

both_bits : (t : List Node) (p q : Bool) (a b : ℕ) → (p ≡ true → (node_at t a).high ≤ 1)
    → (q ≡ true → (node_at t b).high ≤ 1) → (p && q) ≡ true
    → ((node_at t a).high ≤ 1) × ((node_at t b).high ≤ 1)
both_bits t p q a b f g e = let h = and_parts p q e in (f h.0, g h.1)

pub never : {A : Type 0} → false ≡ true → A
never e = absurd (cc)

module _ (ps : List Param) where
  module _ (t : List Node) (table : IsTable t) (grown : IsGrown (IsProgramForm ps) t) where
    one_grows : (f : Form) → FormFits t f → IsProgramForm ps f
        → Grows (IsProgramForm ps) t 3 (made_all t (f ∷ [])).table
    one_grows f fits has = grows_more (IsProgramForm ps) t (made_all t (f ∷ [])).table 1 3 (omega arith)
        (all_made_grows (IsProgramForm ps) t (f ∷ []) table grown (fits, tt) (has, tt))

    two_grow : (f g : Form) → FormFits t f → FormFits t g → IsProgramForm ps f → IsProgramForm ps g
        → Grows (IsProgramForm ps) t 3 (made_all t (f ∷ g ∷ [])).table
    two_grow f g fits also has have = grows_more (IsProgramForm ps) t (made_all t (f ∷ g ∷ [])).table 2 3 (omega arith)
        (all_made_grows (IsProgramForm ps) t (f ∷ g ∷ []) table grown (fits, (also, tt)) (has, (have, tt)))

    one_is : (f : Form) (p : Bool) → FormFits t f → IsProgramForm ps f → (p ≡ true → MakesBit t f)
        → AreNodesOf (made_all t (f ∷ [])).table (p ∷ []) (made_all t (f ∷ [])).numbers
    one_is f p fits has bit =
        all_made_are (IsProgramForm ps) t (p ∷ []) (f ∷ []) table grown (fits, tt) (has, tt) (bit, tt)

    two_are : (f g : Form) (p q : Bool) → FormFits t f → FormFits t g → IsProgramForm ps f → IsProgramForm ps g
        → (p ≡ true → MakesBit t f) → (q ≡ true → MakesBit t g)
        → AreNodesOf (made_all t (f ∷ g ∷ [])).table (p ∷ q ∷ []) (made_all t (f ∷ g ∷ [])).numbers
    two_are f g p q fits also has have bit bits = all_made_are (IsProgramForm ps) t (p ∷ q ∷ []) (f ∷ g ∷ []) table
        grown (fits, (also, tt)) (has, (have, tt)) (bit, (bits, tt))

  -- what a shift over two words makes first, and the sum of these
  abbrev pub shifts : ℕ → ℕ → ℕ → List Form
  shifts k lo hi = forms.Shr lo k ∷ sum (term (2 ^ (64 - k)) hi ∷ []) ∷ []

  abbrev pub shifts_sum : AllMade → Form
  shifts_sum u = sum (plus (slice_index u.numbers 0) ∷ plus (slice_index u.numbers 1) ∷ [])

  pub record AreShifts (t : List Node) (k lo hi : ℕ) : Type 0 where
    pub fit : AllByRecursion (FormFits t) (shifts k lo hi)
    pub grows : Grows (IsProgramForm ps) t 2 (made_all t (shifts k lo hi)).table
    pub sum_fits : FormFits (made_all t (shifts k lo hi)).table (shifts_sum (made_all t (shifts k lo hi)))

  pub are_shifts : (t : List Node) → IsTable t → IsGrown (IsProgramForm ps) t → (k lo hi : ℕ) → HasShift (Shrd k)
      → lo < length t → hi < length t → AreShifts t k lo hi
  are_shifts t table grown k lo hi h f g =
      let fit : AllByRecursion (FormFits t) (shifts k lo hi) =
      ((f, h.0, h.1), (one_fits t 0 (term (2 ^ (64 - k)) hi) g, tt)) in
      let u = made_all t (shifts k lo hi) in
      let are = all_made_are (IsProgramForm ps) t (false ∷ false ∷ []) (shifts k lo hi) table grown fit (tt, (tt, tt))
      ((λ e. never e), ((λ e. never e), tt)) in
      record {
        fit = fit;
        grows = all_made_grows (IsProgramForm ps) t (shifts k lo hi) table grown fit (tt, (tt, tt));
        sum_fits = two_fit u.table 0 (plus (slice_index u.numbers 0)) (plus (slice_index u.numbers 1)) are.0.inside
            are.1.0.inside;
      }

  pub row_grows : (t : List Node) → IsTable t → IsGrown (IsProgramForm ps) t → (kind : Kind) → HasShift kind
      → (a b c : ℕ) → AreOperandNodes t kind a b c → Grows (IsProgramForm ps) t 3 (results_made kind t a b c).table
  row_grows t table grown AddCarry h a b c n =
      let y = n.second (omega arith) in let z = n.third (omega arith) in
      two_grow t table grown (sum (plus a ∷ plus b ∷ plus c ∷ [])) (forms.Carry (a ∷ b ∷ c ∷ []))
      (three_fit t 0 (plus a) (plus b) (plus c) n.first y z) (carry_first_fits t a b c n.first y z (n.taken refl)) tt tt
  row_grows t table grown SubBorrow h a b c n =
      let y = n.second (omega arith) in let z = n.third (omega arith) in
      two_grow t table grown (sum (plus b ∷ minus c ∷ minus a ∷ [])) (forms.Borrow b (c ∷ a ∷ []))
      (three_fit t 0 (plus b) (minus c) (minus a) y z n.first) (borrow2_fits t b c a y z n.first) tt tt
  row_grows t table grown MulX h a b c n = let y = n.second (omega arith) in
      two_grow t table grown (forms.MulLo a b) (forms.MulHi a b) (n.first, y) (n.first, y) tt tt
  row_grows t table grown CMov h a b c n =
      let y = n.second (omega arith) in let z = n.third (omega arith) in
      one_grows t table grown (forms.Select a b c) (n.first, y, z) tt
  row_grows t table grown Add h a b c n = let y = n.second (omega arith) in
      one_grows t table grown (sum (plus a ∷ plus b ∷ [])) (two_fit t 0 (plus a) (plus b) n.first y) tt
  row_grows t table grown Sub h a b c n = let y = n.second (omega arith) in
      one_grows t table grown (sum (plus a ∷ minus b ∷ [])) (two_fit t 0 (plus a) (minus b) n.first y) tt
  row_grows t table grown Mul h a b c n =
      one_grows t table grown (forms.MulLo a b) (n.first, n.second (omega arith)) tt
  row_grows t table grown And h a b c n = one_grows t table grown (forms.And a b) (n.first, n.second (omega arith)) tt
  row_grows t table grown Or h a b c n = one_grows t table grown (forms.Or a b) (n.first, n.second (omega arith)) tt
  row_grows t table grown Xor h a b c n = one_grows t table grown (forms.Xor a b) (n.first, n.second (omega arith)) tt
  row_grows t table grown Not h a b c n = one_grows t table grown (forms.Lin (2 ^ 64 - 1) (minus a ∷ []))
      (one_fits t (2 ^ 64 - 1) (minus a) n.first) tt
  row_grows t table grown Copy h a b c n =
      grows_more (IsProgramForm ps) t t 0 3 (omega arith) (grows_not (IsProgramForm ps) t table grown)
  row_grows t table grown (Shl k) h a b c n =
      one_grows t table grown (sum (term (2 ^ k) a ∷ [])) (one_fits t 0 (term (2 ^ k) a) n.first) tt
  row_grows t table grown (Shr k) h a b c n = one_grows t table grown (forms.Shr a k) (n.first, h.0, h.1) tt
  row_grows t table grown (Shrd k) h a b c n =
      let s = are_shifts t table grown k a b h n.first (n.second (omega arith)) in
      let u = made_all t (shifts k a b) in
      grows_on (IsProgramForm ps) t u.table (made_all u.table (shifts_sum u ∷ [])).table 2 1 3 (omega arith) s.grows
      (all_made_grows (IsProgramForm ps) u.table (shifts_sum u ∷ []) s.grows.table s.grows.grown (s.sum_fits, tt)
      (tt, tt))

  pub row_nodes : (t : List Node) → IsTable t → IsGrown (IsProgramForm ps) t → (kind : Kind) → HasShift kind
      → (p q r : Bool) (a b c : ℕ) → AreOperandNodes t kind a b c → AreBitNodes t p q r a b c
      → AreNodesOf (results_made kind t a b c).table (bits_on kind p q r) (results_made kind t a b c).numbers
  row_nodes t table grown AddCarry h p q r a b c n m =
      let y = n.second (omega arith) in let z = n.third (omega arith) in
      two_are t table grown (sum (plus a ∷ plus b ∷ plus c ∷ [])) (forms.Carry (a ∷ b ∷ c ∷ [])) false true
      (three_fit t 0 (plus a) (plus b) (plus c) n.first y z) (carry_first_fits t a b c n.first y z (n.taken refl)) tt tt
      (λ e. never e) (λ e. tt)
  row_nodes t table grown SubBorrow h p q r a b c n m =
      let y = n.second (omega arith) in let z = n.third (omega arith) in
      two_are t table grown (sum (plus b ∷ minus c ∷ minus a ∷ [])) (forms.Borrow b (c ∷ a ∷ [])) false true
      (three_fit t 0 (plus b) (minus c) (minus a) y z n.first) (borrow2_fits t b c a y z n.first) tt tt
      (λ e. never e) (λ e. tt)
  row_nodes t table grown MulX h p q r a b c n m = let y = n.second (omega arith) in
      two_are t table grown (forms.MulLo a b) (forms.MulHi a b) false false (n.first, y) (n.first, y) tt tt
      (λ e. never e) (λ e. never e)
  row_nodes t table grown CMov h p q r a b c n m =
      let y = n.second (omega arith) in let z = n.third (omega arith) in
      one_is t table grown (forms.Select a b c) (q && r) (n.first, y, z) tt
      (both_bits t q r b c m.second m.third)
  row_nodes t table grown Add h p q r a b c n m = let y = n.second (omega arith) in
      one_is t table grown (sum (plus a ∷ plus b ∷ [])) false (two_fit t 0 (plus a) (plus b) n.first y) tt
      (λ e. never e)
  row_nodes t table grown Sub h p q r a b c n m = let y = n.second (omega arith) in
      one_is t table grown (sum (plus a ∷ minus b ∷ [])) false (two_fit t 0 (plus a) (minus b) n.first y) tt
      (λ e. never e)
  row_nodes t table grown Mul h p q r a b c n m =
      one_is t table grown (forms.MulLo a b) false (n.first, n.second (omega arith)) tt (λ e. never e)
  row_nodes t table grown And h p q r a b c n m =
      one_is t table grown (forms.And a b) (p || q) (n.first, n.second (omega arith)) tt
      (either_bit t p q a b m.first m.second)
  row_nodes t table grown Or h p q r a b c n m =
      one_is t table grown (forms.Or a b) (p && q) (n.first, n.second (omega arith)) tt
      (both_bits t p q a b m.first m.second)
  row_nodes t table grown Xor h p q r a b c n m =
      one_is t table grown (forms.Xor a b) (p && q) (n.first, n.second (omega arith)) tt
      (both_bits t p q a b m.first m.second)
  row_nodes t table grown Not h p q r a b c n m = one_is t table grown (forms.Lin (2 ^ 64 - 1) (minus a ∷ [])) false
      (one_fits t (2 ^ 64 - 1) (minus a) n.first) tt (λ e. never e)
  row_nodes t table grown Copy h p q r a b c n m = (record { inside = n.first; bit = m.first }, tt)
  row_nodes t table grown (Shl k) h p q r a b c n m =
      one_is t table grown (sum (term (2 ^ k) a ∷ [])) false (one_fits t 0 (term (2 ^ k) a) n.first) tt (λ e. never e)
  row_nodes t table grown (Shr k) h p q r a b c n m =
      one_is t table grown (forms.Shr a k) (k == 63) (n.first, h.0, h.1) tt (λ e. equal_by_test k 63 e)
  row_nodes t table grown (Shrd k) h p q r a b c n m =
      let s = are_shifts t table grown k a b h n.first (n.second (omega arith)) in
      let u = made_all t (shifts k a b) in
      one_is u.table s.grows.table s.grows.grown (shifts_sum u) false s.sum_fits tt (λ e. never e)
