-- What is known after a store: to a slot of the frame, and to a word of an output.
use Rattle.std.proofs.Common.{◌≡◌, ◌≢◌, ℕ, zero, suc, ◌*◌, ◌/◌, ◌<◌, Bool, true, false, List, [], ◌∷◌, length, map}
use Rattle.std.proofs.Common.{Option, Some, None, refl, sym, ◌∙◌, ap, subst, arith, option_map, length-set, ⊎_elim}
use Rattle.std.specs.Prelude.{slice_get, slice_set, if◌then◌else◌}
use Rattle.std.proofs.lemmas.Bool.{cases_eq}
use Rattle.std.proofs.lemmas.Option.{same_Some, slice_get-map, slice_get_within}
use Rattle.base.specs.Options.{◌>>=◌, guard}
use Rattle.word_program.specs.declared.parameter.Param.{Param}
use Rattle.word_program.specs.Program.{Source}
use Rattle.word_program.specs.Values.{is_output, is_scalar}
use Rattle.x86_instr.specs.declared.operand.Reg.{Reg}
use Rattle.x86_instr.specs.Registers.{number_of}
use Rattle.x86_meaning.specs.Start as areas
use Rattle.terms.specs.declared.nodes.Node.{Node}
use Rattle.symbolic_state.specs.declared.touch.Touch.{Touch}
use Rattle.symbolic_state.specs.Symbols.{Array, Symbols, node_in, with_touch}
use Rattle.symbolic_state.specs.Cells.{after_output, forgotten, known, node_of, stored, with_word}
use Rattle.symbolic_state.specs.Fitting.{HaveShapes}
use Rattle.symbolic_state.proofs.Shapes.{param_of}
use Rattle.symbolic_state.proofs.Stored.{is_stored}
use Rattle.plain_checks.proofs.Between.{Standing}
use Rattle.plain_checks.proofs.WrittenOnce.{IsOut}

-- ---- lists

get_same : {X : Type 0} (xs : List X) (i : ℕ) (x : X) → i < length xs → slice_get (slice_set xs i x) i ≡ Some x
get_same [] i x inside = absurd (omega arith)
get_same (y ∷ xs) zero x inside = refl
get_same (y ∷ xs) (suc i) x inside = get_same xs i x (omega arith)

get_other : {X : Type 0} (xs : List X) (i j : ℕ) (x : X) → j ≢ i → slice_get (slice_set xs i x) j ≡ slice_get xs j
get_other [] i j x other = refl
get_other (y ∷ xs) zero zero x other = absurd (other refl)
get_other (y ∷ xs) zero (suc j) x other = refl
get_other (y ∷ xs) (suc i) zero x other = refl
get_other (y ∷ xs) (suc i) (suc j) x other = get_other xs i j x (λ e. other (ap suc e))

known_same : (words : List (Option ℕ)) (i n : ℕ) → i < length words → known (slice_set words i (Some n)) i ≡ Some n
known_same words i n inside = ap (λ (o : Option (Option ℕ)). o >>= λ node. node) (get_same words i (Some n) inside)

known_other : (words : List (Option ℕ)) (i j n : ℕ) → j ≢ i → known (slice_set words i (Some n)) j ≡ known words j
known_other words i j n other =
    ap (λ (o : Option (Option ℕ)). o >>= λ node. node) (get_other words i j (Some n) other)

-- ---- a slot of the frame

-- a node stored in a slot
pub record SlotSet (y : Symbols) (slot n : ℕ) (z : Symbols) : Type 0 where
  pub regs : z.regs ≡ y.regs
  pub arrays : z.arrays ≡ y.arrays
  pub overlap : z.overlap ≡ y.overlap
  pub long : length z.frame ≡ length y.frame
  pub here : known z.frame slot ≡ Some n
  pub others : (word : ℕ) → word ≢ slot → known z.frame word ≡ known y.frame word

pub slot_set : (y : Symbols) (slot n : ℕ) (touch : Option Touch) → slot < length y.frame
    → SlotSet y slot n (with_touch touch (record y { frame = slice_set y.frame slot (Some n) }))
slot_set y slot n touch inside = record {
  regs = refl;
  arrays = refl;
  overlap = refl;
  long = length-set y.frame slot (Some n);
  here = known_same y.frame slot n inside;
  others = λ word other. known_other y.frame slot word n other;
}

-- ---- arrays

-- the array of a parameter
pub record ArrayOf (arrays : List Array) (number : ℕ) (p : Param) : Type 0 where
  pub array : Array
  pub there : slice_get arrays number ≡ Some array
  pub role : array.role ≡ p.role
  pub words : length array.words ≡ (if is_scalar p.role then 0 else length p.bounds)

pub array_of : (params : List Param) (arrays : List Array) (number : ℕ) (p : Param) → HaveShapes params arrays
    → slice_get params number ≡ Some p → ArrayOf arrays number p
array_of [] arrays number p shapes e = cc
array_of (q ∷ params) [] number p shapes e = absurd shapes
array_of (q ∷ params) (a ∷ arrays) zero p shapes e = subst (ArrayOf (a ∷ arrays) zero) (same_Some q p e) (record {
  array = a;
  there = refl;
  role = shapes.0;
  words = shapes.1;
})
array_of (q ∷ params) (a ∷ arrays) (suc number) p shapes e =
    let rest = array_of params arrays number p shapes.2 e in
    record { array = rest.array; there = rest.there; role = rest.role; words = rest.words }

-- A node stored in a word of an output. Where outputs may overlap inputs, nothing is said of inputs.
pub record WordSet (program : Source) (y : Symbols) (param word n : ℕ) (z : Symbols) : Type 0 where
  pub sixteen : length z.regs ≡ 16
  pub kept : (r : Reg) → number_of r ≢ 11 → node_in z r ≡ node_in y r
  pub frame : z.frame ≡ y.frame
  pub overlap : z.overlap ≡ y.overlap
  pub shapes : HaveShapes program.params z.arrays
  pub here : node_of z (areas.Array param) word ≡ Some n
  pub others : (q x : ℕ) → (q ≡ param → x ≢ word) → (program.overlap ≡ true → IsOut program q x)
      → node_of z (areas.Array q) x ≡ node_of y (areas.Array q) x

-- the word of an array, where there is one
abbrev word_of : Option Array → ℕ → Option ℕ
word_of o word = o >>= λ array. known array.words word

kept_array : (a : Array) (b : Bool) → is_output a.role ≡ b → b ≡ true → forgotten a ≡ a
kept_array a b e out = ap (λ (test : Bool). if test then a else record {
  role = a.role;
  words = map (λ node. None) a.words;
}) (e ∙ out)

not_forgotten : (o : Option Array) (word : ℕ) → ((a : Array) → o ≡ Some a → is_output a.role ≡ true)
    → word_of (option_map forgotten o) word ≡ word_of o word
not_forgotten None word out = refl
not_forgotten (Some a) word out = ap (λ (b : Array). known b.words word) (kept_array a true (out a refl) refl)

module _ (program : Source) (y : Symbols) (param word n : ℕ) (array : Array) (t : List Node)
    (standing : Standing program t y) (there : slice_get y.arrays param ≡ Some array)
    (out : is_output array.role ≡ true) (inside : word < length array.words) where
  abbrev new : Array
  new = with_word array word n

  abbrev arrays_set : List Array
  arrays_set = slice_set y.arrays param new

  abbrev set_by : Bool → Symbols
  set_by b = if b then record y { arrays = map forgotten arrays_set } else record y { arrays = arrays_set }

  new_there : slice_get arrays_set param ≡ Some new
  new_there = get_same y.arrays param new (slice_get_within y.arrays param array there)

  word_here : word_of (slice_get arrays_set param) word ≡ Some n
  word_here = ap (λ (o : Option Array). word_of o word) new_there ∙ known_same array.words word n inside

  -- a word of the same array, or of another one
  word_other : (q x : ℕ) → (q ≡ param → x ≢ word)
      → word_of (slice_get arrays_set q) x ≡ word_of (slice_get y.arrays q) x
  word_other q x other = ⊎_elim
      (λ e. subst (λ (i : ℕ). word_of (slice_get arrays_set i) x ≡ word_of (slice_get y.arrays i) x) (sym e)
      (ap (λ (o : Option Array). word_of o x) new_there ∙ (known_other array.words word x n (other e)
      ∙ sym (ap (λ (o : Option Array). word_of o x) there))))
      (λ e. ap (λ (o : Option Array). word_of o x) (get_other y.arrays param q new e)) (cases_eq q param)

  -- an output's array is one of an output
  out_other : (q x : ℕ) → IsOut program q x → (a : Array) → slice_get arrays_set q ≡ Some a → is_output a.role ≡ true
  out_other q x i a e = ⊎_elim
      (λ same. ap (λ (b : Array). is_output b.role)
      (same_Some a new (sym e ∙ (ap (slice_get arrays_set) same ∙ new_there))) ∙ out)
      (λ other. let p = param_of program.params y.arrays q a standing.shapes
      (sym (get_other y.arrays param q new other) ∙ e) in
      ap is_output p.role ∙ (ap (λ (q : Param). is_output q.role) (same_Some p.param i.p (sym p.there ∙ i.there))
      ∙ i.output))
      (cases_eq q param)

  is_set : (b : Bool) → y.overlap ≡ b → stored (areas.Array param) word n y ≡ Some (set_by b)
  is_set b o = ap (λ (found : Option Array). found >>= λ a. guard (is_output a.role)
      (after_output (record y { arrays = slice_set y.arrays param (with_word a word n) }))) there
      ∙ (ap (λ (test : Bool). guard test (set_by y.overlap)) out ∙ ap (λ (test : Bool). Some (set_by test)) o)

  shapes_set : (b : Bool) → y.overlap ≡ b → HaveShapes program.params (set_by b).arrays
  shapes_set b o = let frame = 8 * length y.frame in let same : length y.frame ≡ frame / 8 = omega arith in
      ((is_stored y (areas.Array param) word n (set_by b) (is_set b o)).shape program frame (record {
        arrays = standing.shapes;
        frame_words = same;
        overlap = standing.overlap;
      })).arrays

  word_set_by : (touch : Option Touch) (b : Bool) → y.overlap ≡ b
      → WordSet program y param word n (with_touch touch (set_by b))
  word_set_by touch true o = record {
    sixteen = standing.sixteen;
    kept = λ r other. refl;
    frame = refl;
    overlap = refl;
    shapes = shapes_set true o;
    here = ap (λ (found : Option Array). word_of found word) (slice_get-map forgotten arrays_set param)
        ∙ (not_forgotten (slice_get arrays_set param) word (λ a e. ap (λ (b : Array). is_output b.role)
        (same_Some a new (sym e ∙ new_there)) ∙ out) ∙ word_here);
    others = λ q x other is. ap (λ (found : Option Array). word_of found x) (slice_get-map forgotten arrays_set q)
        ∙ (not_forgotten (slice_get arrays_set q) x (out_other q x (is (sym standing.overlap ∙ o)))
        ∙ word_other q x other);
  }
  word_set_by touch false o = record {
    sixteen = standing.sixteen;
    kept = λ r other. refl;
    frame = refl;
    overlap = refl;
    shapes = shapes_set false o;
    here = word_here;
    others = λ q x other is. word_other q x other;
  }

  -- the state after the store
  pub record AfterWord (touch : Option Touch) : Type 0 where
    pub state : Symbols
    pub is : stored (areas.Array param) word n y ≡ Some state
    pub set : WordSet program y param word n (with_touch touch state)

  pub after_word : (touch : Option Touch) → AfterWord touch
  after_word touch = record {
    state = set_by y.overlap;
    is = is_set y.overlap refl;
    set = word_set_by touch y.overlap refl;
  }
