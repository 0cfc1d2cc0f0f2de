-- The nodes that are known in the memory: they are nodes of the table, and lie in their areas.
use Rattle.std.proofs.Common.{◌≡◌, ℕ, zero, suc, ◌<◌, List, [], ◌∷◌, length, Option, Some, None, IfSome, slice_get}
use Rattle.std.proofs.Common.{refl}
use Rattle.std.proofs.Common.{subst, arith}
use Rattle.std.specs.List.{AllByRecursion}
use Rattle.std.proofs.lemmas.Option.{same_Some, slice_get_within}
use Rattle.base.specs.Options.{◌>>=◌}
use Rattle.word_program.specs.Program.{Source}
use Rattle.x86_meaning.specs.Start.{Area, Array, Frame, Return, area_words}
use Rattle.terms.specs.declared.nodes.Node.{Node}
use Rattle.symbolic_state.specs.Symbols as symbols
use Rattle.symbolic_state.specs.Symbols.{Symbols}
use Rattle.symbolic_state.specs.Cells.{known, node_of}
use Rattle.symbolic_state.specs.Fitting.{AreKnown, FitsTable, HasShape}
use Rattle.symbolic_state.proofs.Shapes.{param_of, words_are}

-- what holds of each item holds of the one at a number
pub all_at : {X : Type 0} (P : X → Type 0) (xs : List X) (i : ℕ) (x : X) → AllByRecursion P xs
    → slice_get xs i ≡ Some x → P x
all_at P [] i x all e = cc
all_at P (y ∷ xs) zero x all e = subst P (same_Some y x e) all.0
all_at P (y ∷ xs) (suc i) x all e = all_at P xs i x all.1 e

-- ---- words

-- a known word

pub known_in : (o : Option (Option ℕ)) (n : ℕ) {A : Type 0} → ((w : Option ℕ) → o ≡ Some w → w ≡ Some n → A)
    → (o >>= λ node. node) ≡ Some n → A
known_in None n f e = cc
known_in (Some w) n f e = f w refl e

-- a known word is one of the list, and its node one of the table
known_inside : (t : List Node) (words : List (Option ℕ)) (word n : ℕ) → AreKnown t words → known words word ≡ Some n
    → n < length t
known_inside t words word n all e = known_in (slice_get words word) n (λ w there is.
    subst (λ o. IfSome o (λ m. m < length t)) is
    (all_at (λ o. IfSome o (λ m. m < length t)) words word w all there)) e

pub known_within : (words : List (Option ℕ)) (word n : ℕ) → known words word ≡ Some n → word < length words
known_within words word n e = known_in (slice_get words word) n (λ w there is. slice_get_within words word w there) e

-- ---- areas

known_array : (o : Option symbols.Array) (word n : ℕ) {A : Type 0}
    → ((array : symbols.Array) → o ≡ Some array → known array.words word ≡ Some n → A)
    → (o >>= λ array. known array.words word) ≡ Some n → A
known_array None word n f e = cc
known_array (Some array) word n f e = f array refl e

-- a known word of an array
pub array_known : (y : Symbols) (param word n : ℕ) {A : Type 0}
    → ((array : symbols.Array) → slice_get y.arrays param ≡ Some array → known array.words word ≡ Some n → A)
    → node_of y (Array param) word ≡ Some n → A
array_known y param word n f e = known_array (slice_get y.arrays param) word n f e

pub node_known : (t : List Node) (y : Symbols) (area : Area) (word n : ℕ) → FitsTable t y → node_of y area word ≡ Some n
    → n < length t
node_known t y (Array param) word n fits e = array_known y param word n (λ array there is.
    known_inside t array.words word n
    (all_at (λ (a : symbols.Array). AreKnown t a.words) y.arrays param array fits.arrays there) is) e
node_known t y Frame word n fits e = known_inside t y.frame word n fits.frame e
node_known t y Return word n fits e = cc

pub node_within : (program : Source) (frame : ℕ) (y : Symbols) (area : Area) (word n : ℕ) → HasShape program frame y
    → node_of y area word ≡ Some n → word < area_words program.params frame area
node_within program frame y (Array param) word n shape e = array_known y param word n (λ array there is.
    let inside = known_within array.words word n is in
    let words =
    words_are program.params param array (param_of program.params y.arrays param array shape.arrays there) in
    omega (arith, inside, words)) e
node_within program frame y Frame word n shape e =
    let inside = known_within y.frame word n e in let words = shape.frame_words in omega (arith, inside, words)
node_within program frame y Return word n shape e = cc

-- the same memory has the same nodes
pub same_nodes : (y z : Symbols) → z.arrays ≡ y.arrays → z.frame ≡ y.frame → (area : Area) (word : ℕ)
    → node_of z area word ≡ node_of y area word
same_nodes y z a f (Array param) word = cc
same_nodes y z a f Frame word = cc
same_nodes y z a f Return word = refl
