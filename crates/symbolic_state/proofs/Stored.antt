-- A symbolic state with a node stored: it fits, has its shape, and knows what it knew of words that are apart.
use Rattle.std.proofs.Common.{◌≡◌, ◌≢◌, ◌⊎◌, ℕ, zero, suc, ◌<◌, Bool, true, false, List, [], ◌∷◌, length, map}
use Rattle.std.proofs.Common.{Option, Some, None, IfSome, IsTrue, slice_get, slice_set, length-set, if◌then◌else◌, inl}
use Rattle.std.proofs.Common.{inr, ⊎_elim}
use Rattle.std.proofs.Common.{option_map, refl, sym, ap, ◌∙◌, subst, arith}
use Rattle.std.specs.List.{AllByRecursion}
use Rattle.std.proofs.lemmas.Bool.{false≢true}
use Rattle.std.proofs.lemmas.List.{length-map}
use Rattle.std.proofs.lemmas.Option.{same_Some, slice_get-map}
use Rattle.base.specs.Options.{◌>>=◌, guard}
use Rattle.word_program.specs.declared.parameter.Param.{Param}
use Rattle.word_program.specs.Program.{Source}
use Rattle.word_program.specs.Values.{is_output}
use Rattle.x86_meaning.specs.Correct.{written_words}
use Rattle.x86_meaning.specs.Start.{Area, Array, Frame, Return, are_arrays_apart, area_words, is_apart, is_output_array}
use Rattle.x86_meaning.proofs.Keeping.{array_number, frame-ne-array}
use Rattle.terms.specs.declared.nodes.Node.{Node}
use Rattle.symbolic_state.specs.Symbols as symbols
use Rattle.symbolic_state.specs.Symbols.{Symbols}
use Rattle.symbolic_state.specs.Cells.{after_output, forgotten, known, node_of, stored, with_word}
use Rattle.symbolic_state.specs.Fitting.{AreKnown, FitsTable, HasShape, HaveShapes}
use Rattle.symbolic_state.proofs.KnownCells.{all_at, array_known, known_in}
use Rattle.symbolic_state.proofs.Shapes.{ParamOf, output_is, output_words_are, param_of, words_are}

-- ---- lists

-- an item of a list with another item at a place
set_get : {X : Type 0} (xs : List X) (i q : ℕ) (v a : X) → slice_get (slice_set xs i v) q ≡ Some a
    → ((q ≡ i) × (a ≡ v)) ⊎ ((q ≢ i) × (slice_get xs q ≡ Some a))
set_get [] i q v a e = cc
set_get (x ∷ xs) zero zero v a e = inl (refl, sym (same_Some v a e))
set_get (x ∷ xs) zero (suc q) v a e = inr ((λ k. omega (arith, k)), e)
set_get (x ∷ xs) (suc i) zero v a e = inr ((λ k. omega (arith, k)), e)
set_get (x ∷ xs) (suc i) (suc q) v a e = ⊎_elim (λ h. inl (ap suc h.0, h.1))
    (λ h. inr ((λ k. h.0 (omega (arith, k))), h.1)) (set_get xs i q v a e)

-- what holds of each item and of another one holds of each with that one at a place
all_set : {X : Type 0} (P : X → Type 0) (xs : List X) (i : ℕ) (v : X) → P v → AllByRecursion P xs
    → AllByRecursion P (slice_set xs i v)
all_set P [] i v h all = tt
all_set P (x ∷ xs) zero v h all = (h, all.1)
all_set P (x ∷ xs) (suc i) v h all = (all.0, all_set P xs i v h all.1)

known_set : (words : List (Option ℕ)) (word w n node : ℕ) → known (slice_set words word (Some node)) w ≡ Some n
    → ((w ≡ word) × (n ≡ node)) ⊎ ((w ≢ word) × (known words w ≡ Some n))
known_set words word w n node e = known_in (slice_get (slice_set words word (Some node)) w) n
    (λ v there is. ⊎_elim (λ h. inl (h.0, same_Some n node (sym is ∙ h.1)))
    (λ h. inr (h.0, ap (λ (o : Option (Option ℕ)). o >>= λ m. m) h.1 ∙ is))
    (set_get words word w (Some node) v there)) e

none_known : (words : List (Option ℕ)) (w n : ℕ) → known (map (λ node. None) words) w ≡ Some n → ⊥
none_known [] w n e = cc
none_known (x ∷ words) zero n e = cc
none_known (x ∷ words) (suc w) n e = none_known words w n e

-- ---- what is known after a store

-- What is known at a word `w` of the area `a` after a store to a word of an area: there, the node that was stored; at
-- another word of that area, or in one that has to be apart from it, what was known there.
pub data Kept (program : Source) (y : Symbols) (area : Area) (word node : ℕ) (a : Area) (w n : ℕ) : Type 0 where
  Here : a ≡ area → w ≡ word → n ≡ node → Kept program y area word node a w n
  Beside : a ≡ area → w ≢ word → node_of y a w ≡ Some n → Kept program y area word node a w n
  Apart : a ≢ area → IsTrue (is_apart program.overlap program.params area a) → node_of y a w ≡ Some n
      → Kept program y area word node a w n

-- a node stored in a word of an area
pub record IsStored (y : Symbols) (area : Area) (word node : ℕ) (z : Symbols) : Type 0 where
  pub regs : z.regs ≡ y.regs
  pub cf : z.cf ≡ y.cf
  pub of : z.of ≡ y.of
  pub zf : z.zf ≡ y.zf
  pub fits : (t : List Node) → FitsTable t y → node < length t → FitsTable t z
  pub shape : (program : Source) (frame : ℕ) → HasShape program frame y → HasShape program frame z
  pub writable : (program : Source) (frame : ℕ) → HasShape program frame y
      → word < area_words program.params frame area → word < written_words program.params frame area
  pub kept : (program : Source) (frame : ℕ) → HasShape program frame y → (a : Area) (w n : ℕ)
      → node_of z a w ≡ Some n → Kept program y area word node a w n

-- ---- the frame

module _ (y : Symbols) (word node : ℕ) where
  abbrev frame_after : Symbols
  frame_after = record y { frame = slice_set y.frame word (Some node) }

  frame_kept : (program : Source) (a : Area) (w n : ℕ) → node_of frame_after a w ≡ Some n
      → Kept program y Frame word node a w n
  frame_kept program (Array p) w n e = Apart (λ k. frame-ne-array (sym k)) refl e
  frame_kept program Frame w n e = ⊎_elim (λ h. Here refl h.0 h.1) (λ h. Beside refl h.0 h.1)
      (known_set y.frame word w n node e)
  frame_kept program Return w n e = cc

  frame_fits : (t : List Node) → FitsTable t y → node < length t → FitsTable t frame_after
  frame_fits t fits h = record {
    sixteen = fits.sixteen;
    registers = fits.registers;
    cf = fits.cf;
    of = fits.of;
    zf = fits.zf;
    arrays = fits.arrays;
    frame = all_set (λ o. IfSome o (λ m. m < length t)) y.frame word (Some node) h fits.frame;
  }

  frame_stored : IsStored y Frame word node frame_after
  frame_stored = record {
    regs = refl;
    cf = refl;
    of = refl;
    zf = refl;
    fits = frame_fits;
    shape = λ program frame shape. record {
      arrays = shape.arrays;
      frame_words = length-set y.frame word (Some node) ∙ shape.frame_words;
      overlap = shape.overlap;
    };
    writable = λ program frame shape h. h;
    kept = λ program frame shape. frame_kept program;
  }

-- ---- arrays

-- an output is apart from what must be no input where outputs may overlap inputs
apart_from_output : (overlap first second : Bool) → first ≡ true → (overlap ≡ true → second ≡ true)
    → IsTrue (are_arrays_apart overlap first second)
apart_from_output overlap true true e f = refl
apart_from_output true true false e f = absurd (false≢true (f refl))
apart_from_output false true false e f = refl
apart_from_output overlap false second e f = absurd (false≢true e)

module _ (y : Symbols) (p word node : ℕ) (array : symbols.Array) (there : slice_get y.arrays p ≡ Some array)
    (out : is_output array.role ≡ true) where
  abbrev arrays_after : List symbols.Array
  arrays_after = slice_set y.arrays p (with_word array word node)

  -- ---- what is known

  module _ (program : Source) (frame : ℕ) (shape : HasShape program frame y) where
    abbrev KeptAt : Area → ℕ → ℕ → Type 0
    KeptAt a w n = Kept program y (Array p) word node a w n

    param_at : (q : ℕ) (a : symbols.Array) → slice_get y.arrays q ≡ Some a → ParamOf program.params q a
    param_at q a e = param_of program.params y.arrays q a shape.arrays e

    same_array : (q w n : ℕ) → q ≡ p → known (slice_set array.words word (Some node)) w ≡ Some n → KeptAt (Array q) w n
    same_array q w n e is = subst (λ i. KeptAt (Array i) w n) (sym e)
        (⊎_elim (λ h. Here refl h.0 h.1)
        (λ h. Beside refl h.0 (ap (λ (o : Option symbols.Array). o >>= λ a. known a.words w) there ∙ h.1))
        (known_set array.words word w n node is))

    other_array : (q w n : ℕ) (a : symbols.Array) → q ≢ p → slice_get y.arrays q ≡ Some a → known a.words w ≡ Some n
        → (y.overlap ≡ true → is_output a.role ≡ true) → KeptAt (Array q) w n
    other_array q w n a other e is f = Apart (λ k. other (array_number k))
        (apart_from_output program.overlap (is_output_array program.params p) (is_output_array program.params q)
        (output_is program.params p array (param_at p array there) ∙ out)
        (λ o. output_is program.params q a (param_at q a e) ∙ f (shape.overlap ∙ o)))
        (ap (λ (o : Option symbols.Array). o >>= λ b. known b.words w) e ∙ is)

    array_kept : (q w n : ℕ) (a : symbols.Array) → slice_get arrays_after q ≡ Some a → known a.words w ≡ Some n
        → (y.overlap ≡ true → is_output a.role ≡ true) → KeptAt (Array q) w n
    array_kept q w n a e is f = ⊎_elim
        (λ h. same_array q w n h.0 (subst (λ (b : symbols.Array). known b.words w ≡ Some n) h.1 is))
        (λ h. other_array q w n a h.0 h.1 is f)
        (set_get y.arrays p q (with_word array word node) a e)

    not_forgotten : (q w n : ℕ) (a : symbols.Array) (b : Bool) → is_output a.role ≡ b
        → slice_get arrays_after q ≡ Some a
        → known (if b then a else record { role = a.role; words = map (λ node. None) a.words }).words w ≡ Some n
        → KeptAt (Array q) w n
    not_forgotten q w n a true o e is = array_kept q w n a e is (λ _. o)
    not_forgotten q w n a false o e is = absurd (none_known a.words w n is)

    maybe_forgotten : (q w n : ℕ) (o : Option symbols.Array) (b : symbols.Array) → slice_get arrays_after q ≡ o
        → option_map forgotten o ≡ Some b → known b.words w ≡ Some n → KeptAt (Array q) w n
    maybe_forgotten q w n None b e k is = cc
    maybe_forgotten q w n (Some a) b e k is = not_forgotten q w n a (is_output a.role) refl e
        (subst (λ (c : symbols.Array). known c.words w ≡ Some n) (sym (same_Some (forgotten a) b k)) is)

  abbrev first_after : Symbols
  first_after = record y { arrays = arrays_after }

  abbrev forgotten_after : Symbols
  forgotten_after = record y { arrays = map forgotten arrays_after }

  -- where outputs may overlap inputs, the inputs are forgotten
  abbrev state_after : Bool → Symbols
  state_after b = if b then forgotten_after else first_after

  array_area_kept : (program : Source) (frame : ℕ) → HasShape program frame y → (b : Bool) → y.overlap ≡ b → (a : Area)
      (w n : ℕ) → node_of (state_after b) a w ≡ Some n → Kept program y (Array p) word node a w n
  array_area_kept program frame shape true o (Array q) w n e = array_known forgotten_after q w n
      (λ b k is. maybe_forgotten program frame shape q w n (slice_get arrays_after q) b refl
      (sym (slice_get-map forgotten arrays_after q) ∙ k) is) e
  array_area_kept program frame shape false o (Array q) w n e = array_known first_after q w n
      (λ a k is. array_kept program frame shape q w n a k is (λ t. absurd (false≢true (sym o ∙ t)))) e
  array_area_kept program frame shape true o Frame w n e = Apart frame-ne-array refl e
  array_area_kept program frame shape false o Frame w n e = Apart frame-ne-array refl e
  array_area_kept program frame shape b o Return w n e = cc

  -- ---- fitting

  all_unknown : (t : List Node) (words : List (Option ℕ)) → AreKnown t (map (λ node. None) words)
  all_unknown t [] = tt
  all_unknown t (x ∷ words) = (tt, all_unknown t words)

  forgotten_known : (t : List Node) (a : symbols.Array) (b : Bool) → AreKnown t a.words
      → AreKnown t (if b then a else record { role = a.role; words = map (λ node. None) a.words }).words
  forgotten_known t a true h = h
  forgotten_known t a false h = all_unknown t a.words

  all_forgotten : (t : List Node) (arrays : List symbols.Array) → AllByRecursion (λ a. AreKnown t a.words) arrays
      → AllByRecursion (λ a. AreKnown t a.words) (map forgotten arrays)
  all_forgotten t [] all = tt
  all_forgotten t (a ∷ arrays) all =
      (forgotten_known t a (is_output a.role) all.0, all_forgotten t arrays all.1)

  arrays_fit : (t : List Node) → FitsTable t y → node < length t
      → AllByRecursion (λ a. AreKnown t a.words) arrays_after
  arrays_fit t fits h = all_set (λ (a : symbols.Array). AreKnown t a.words) y.arrays p (with_word array word node)
      (all_set (λ o. IfSome o (λ m. m < length t)) array.words word (Some node) h
      (all_at (λ (a : symbols.Array). AreKnown t a.words) y.arrays p array fits.arrays there)) fits.arrays

  state_fits : (t : List Node) (b : Bool) → FitsTable t y → node < length t → FitsTable t (state_after b)
  state_fits t true fits h = record {
    sixteen = fits.sixteen;
    registers = fits.registers;
    cf = fits.cf;
    of = fits.of;
    zf = fits.zf;
    arrays = all_forgotten t arrays_after (arrays_fit t fits h);
    frame = fits.frame;
  }
  state_fits t false fits h = record {
    sixteen = fits.sixteen;
    registers = fits.registers;
    cf = fits.cf;
    of = fits.of;
    zf = fits.zf;
    arrays = arrays_fit t fits h;
    frame = fits.frame;
  }

  -- ---- shapes

  forgotten_shape : (a : symbols.Array) (q : Param) (b : Bool) (n : ℕ) → a.role ≡ q.role → length a.words ≡ n
      → ((if b then a else record { role = a.role; words = map (λ node. None) a.words }).role ≡ q.role)
      × (length (if b then a else record { role = a.role; words = map (λ node. None) a.words }).words ≡ n)
  forgotten_shape a q true n e h = (e, h)
  forgotten_shape a q false n e h = (e, simp length-map h)

  shapes_forgotten : (params : List Param) (arrays : List symbols.Array) → HaveShapes params arrays
      → HaveShapes params (map forgotten arrays)
  shapes_forgotten [] [] shapes = tt
  shapes_forgotten [] (a ∷ arrays) shapes = absurd shapes
  shapes_forgotten (q ∷ params) [] shapes = absurd shapes
  shapes_forgotten (q ∷ params) (a ∷ arrays) shapes =
      let first = forgotten_shape a q (is_output a.role) _ shapes.0 shapes.1 in
      (first.0, first.1, shapes_forgotten params arrays shapes.2)

  shapes_set : (params : List Param) (arrays : List symbols.Array) (i : ℕ) (old new : symbols.Array)
      → slice_get arrays i ≡ Some old → new.role ≡ old.role → length new.words ≡ length old.words
      → HaveShapes params arrays → HaveShapes params (slice_set arrays i new)
  shapes_set params [] i old new e r l shapes = shapes
  shapes_set [] (a ∷ arrays) i old new e r l shapes = absurd shapes
  shapes_set (q ∷ params) (a ∷ arrays) zero old new e r l shapes =
      let same : a ≡ old = same_Some a old e in (
        r ∙ (sym (ap (λ (b : symbols.Array). b.role) same) ∙ shapes.0),
        l ∙ (sym (ap (λ (b : symbols.Array). length b.words) same) ∙ shapes.1),
        shapes.2,
      )
  shapes_set (q ∷ params) (a ∷ arrays) (suc i) old new e r l shapes =
      (shapes.0, shapes.1, shapes_set params arrays i old new e r l shapes.2)

  arrays_shape : (params : List Param) → HaveShapes params y.arrays → HaveShapes params arrays_after
  arrays_shape params shapes = shapes_set params y.arrays p array (with_word array word node) there refl
      (length-set array.words word (Some node)) shapes

  state_shape : (program : Source) (frame : ℕ) (b : Bool) → HasShape program frame y
      → HasShape program frame (state_after b)
  state_shape program frame true shape = record {
    arrays = shapes_forgotten program.params arrays_after (arrays_shape program.params shape.arrays);
    frame_words = shape.frame_words;
    overlap = shape.overlap;
  }
  state_shape program frame false shape = record {
    arrays = arrays_shape program.params shape.arrays;
    frame_words = shape.frame_words;
    overlap = shape.overlap;
  }

  array_writable : (program : Source) (frame : ℕ) → HasShape program frame y
      → word < area_words program.params frame (Array p) → word < written_words program.params frame (Array p)
  array_writable program frame shape h =
      let param = param_of program.params y.arrays p array shape.arrays there in
      let all = words_are program.params p array param in
      let written = output_words_are program.params p array param out in
      omega (arith, h, all, written)

  array_stored : (b : Bool) → y.overlap ≡ b → IsStored y (Array p) word node (state_after b)
  array_stored true o = record {
    regs = refl;
    cf = refl;
    of = refl;
    zf = refl;
    fits = λ t. state_fits t true;
    shape = λ program frame. state_shape program frame true;
    writable = array_writable;
    kept = λ program frame shape. array_area_kept program frame shape true o;
  }
  array_stored false o = record {
    regs = refl;
    cf = refl;
    of = refl;
    zf = refl;
    fits = λ t. state_fits t false;
    shape = λ program frame. state_shape program frame false;
    writable = array_writable;
    kept = λ program frame shape. array_area_kept program frame shape false o;
  }

-- ---- stores

output_stored : (y : Symbols) (p word node : ℕ) (array : symbols.Array) (z : Symbols) (b : Bool)
    → slice_get y.arrays p ≡ Some array → is_output array.role ≡ b
    → guard b (after_output (record y { arrays = slice_set y.arrays p (with_word array word node) })) ≡ Some z
    → IsStored y (Array p) word node z
output_stored y p word node array z true there out e = subst (IsStored y (Array p) word node) (same_Some _ z e)
    (array_stored y p word node array there out y.overlap refl)
output_stored y p word node array z false there out e = cc

array_there : (y : Symbols) (p word node : ℕ) (o : Option symbols.Array) (z : Symbols) → slice_get y.arrays p ≡ o
    → (o >>= λ array. guard (is_output array.role)
    (after_output (record y { arrays = slice_set y.arrays p (with_word array word node) }))) ≡ Some z
    → IsStored y (Array p) word node z
array_there y p word node None z there e = cc
array_there y p word node (Some array) z there e =
    output_stored y p word node array z (is_output array.role) there refl e

pub is_stored : (y : Symbols) (area : Area) (word node : ℕ) (z : Symbols) → stored area word node y ≡ Some z
    → IsStored y area word node z
is_stored y (Array p) word node z e = array_there y p word node (slice_get y.arrays p) z refl e
is_stored y Frame word node z e = subst (IsStored y Frame word node) (same_Some _ z e) (frame_stored y word node)
is_stored y Return word node z e = cc
