-- That a run keeps the memory: words of areas that are apart have different addresses, and a store to an
-- output array or to the frame leaves all the other cells.
use Rattle.std.proofs.Common.{◌≡◌, ◌≢◌, ℕ, ◌<◌, ◌≤◌, Bool, true, false, not, List, length, Option, Some, None}
use Rattle.std.proofs.Common.{IsSome}
use Rattle.std.proofs.Common.{IsTrue, slice_get, if◌then◌else◌, refl, sym, ◌∙◌, subst, arith, lt_of_lt_of_le}
use Rattle.std.specs.Option.{option_map_or}
use Rattle.std.specs.FinMap as map
use Rattle.word_program.specs.declared.parameter.Param.{Param}
use Rattle.word_program.specs.declared.parameter.Role.{Role}
use Rattle.word_program.specs.declared.parameter.Role.TheVariants.{Output, InputArray, InputScalar}
use Rattle.word_program.specs.Program.{Source}
use Rattle.word_program.specs.Values.{is_output, is_input_array, is_scalar, input_word}
use Rattle.x86_instr.specs.declared.line.Line.{Line}
use Rattle.x86_meaning.specs.declared.state.State.{State}
use Rattle.x86_meaning.specs.Machine.{Cells}
use Rattle.x86_instr.specs.Frame.{frame_of}
use Rattle.x86_meaning.specs.Start.{Area, Array, Frame, Return, array_words, output_words, input_array_words}
use Rattle.x86_meaning.specs.Start.{area_words, address_of, is_output_array, are_arrays_apart, is_apart, IsStart}
use Rattle.x86_meaning.specs.Correct.{IsOutside, Keeps, written_words}
use Rattle.x86_meaning.proofs.Memory.{get_put_other, has_put}

-- ---- how many words

-- an output is an array
output_role : (role : Role) (n : ℕ) → (if is_output role then n else 0) ≤ (if not (is_scalar role) then n else 0)
output_role Output n = omega arith
output_role InputArray n = omega arith
output_role InputScalar n = omega arith

-- an input array is an array
input_role : (role : Role) (n : ℕ) → (if is_input_array role then n else 0) ≤ (if not (is_scalar role) then n else 0)
input_role Output n = omega arith
input_role InputArray n = omega arith
input_role InputScalar n = omega arith

-- the same of a parameter that may be missing
output_at : (o : Option Param) → option_map_or (λ p. if is_output p.role then length p.bounds else 0) o 0
    ≤ option_map_or (λ p. if not (is_scalar p.role) then length p.bounds else 0) o 0
output_at None = omega arith
output_at (Some p) = output_role p.role (length p.bounds)

-- the same of a parameter that may be missing
input_at : (o : Option Param) → option_map_or (λ p. if is_input_array p.role then length p.bounds else 0) o 0
    ≤ option_map_or (λ p. if not (is_scalar p.role) then length p.bounds else 0) o 0
input_at None = omega arith
input_at (Some p) = input_role p.role (length p.bounds)

-- an output array's words are words of its area
pub output-le-array : (params : List Param) (param : ℕ) → output_words params param ≤ array_words params param
output-le-array params param = output_at (slice_get params param)

-- an input array's words are words of its area
pub input-le-array : (params : List Param) (param : ℕ) → input_array_words params param ≤ array_words params param
input-le-array params param = input_at (slice_get params param)

-- the words that may be stored to are words of their area
pub written-le-area : (params : List Param) (frame : ℕ) (area : Area)
    → written_words params frame area ≤ area_words params frame area
written-le-area params frame (Array param) = output-le-array params param
written-le-area params frame Frame = omega arith
written-le-area params frame Return = omega arith

-- a parameter with a word to store to is an output
output_role_is : (role : Role) (n word : ℕ) → word < (if is_output role then n else 0) → is_output role ≡ true
output_role_is Output n word h = refl
output_role_is InputArray n word h = absurd (omega arith)
output_role_is InputScalar n word h = absurd (omega arith)

-- the same of a parameter that may be missing
pub output_is_at : (o : Option Param) (word : ℕ)
    → word < option_map_or (λ p. if is_output p.role then length p.bounds else 0) o 0
    → option_map_or (λ p. is_output p.role) o false ≡ true
output_is_at None word h = absurd (omega arith)
output_is_at (Some p) word h = output_role_is p.role (length p.bounds) word h

-- an output is apart from every array where outputs may not overlap inputs
output_apart : (overlap first second : Bool) → overlap ≡ false → first ≡ true
    → IsTrue (are_arrays_apart overlap first second)
output_apart true first second none is = cc
output_apart false true true none is = refl
output_apart false true false none is = refl
output_apart false false second none is = cc

-- so an area with a word that may be stored to is apart from every other
pub written_apart : (overlap : Bool) (params : List Param) (frame : ℕ) (a b : Area) (word : ℕ) → overlap ≡ false
    → word < written_words params frame a → IsTrue (is_apart overlap params a b)
written_apart overlap params frame (Array p) (Array q) word none h =
    output_apart overlap (is_output_array params p) (is_output_array params q) none
    (output_is_at (slice_get params p) word h)
written_apart overlap params frame (Array p) Frame word none h = refl
written_apart overlap params frame (Array p) Return word none h = refl
written_apart overlap params frame Frame b word none h = refl
written_apart overlap params frame Return b word none h = refl

-- a parameter has no words as an output and as an input array
one_role : (role : Role) (n i j : ℕ) → i < (if is_output role then n else 0)
    → j < (if is_input_array role then n else 0) → ⊥
one_role Output n i j h k = omega arith
one_role InputArray n i j h k = omega arith
one_role InputScalar n i j h k = omega arith

-- the same of a parameter that may be missing
one_role_at : (o : Option Param) (i j : ℕ)
    → i < option_map_or (λ p. if is_output p.role then length p.bounds else 0) o 0
    → j < option_map_or (λ p. if is_input_array p.role then length p.bounds else 0) o 0 → ⊥
one_role_at None i j h k = omega arith
one_role_at (Some p) i j h k = one_role p.role (length p.bounds) i j h k

-- an array is known by its parameter
pub array_number : {p q : ℕ} → Array p ≡ Array q → p ≡ q
array_number {p} {q} e = cc

-- the frame is no array
pub frame-ne-array : {p : ℕ} → Frame ≢ Array p
frame-ne-array {p} e = cc

-- no array is both an output and an input
pub output-ne-input : (params : List Param) (p q i j : ℕ) → i < output_words params p → j < input_array_words params q
    → Array p ≢ Array q
output-ne-input params p q i j h k e = one_role_at (slice_get params q) i j
    (subst (λ r. i < output_words params r) (array_number e) h) k

-- ---- addresses

-- two words of one area have different addresses
pub address_injective : (s : State) (frame : ℕ) (area : Area) (i j : ℕ)
    → address_of s frame area i ≡ address_of s frame area j → i ≡ j
address_injective s frame (Array param) i j e = omega arith
address_injective s frame Frame i j e = omega arith
address_injective s frame Return i j e = omega arith

-- another word of the area of a store holds what it held
pub put_same_area : (s : State) (frame : ℕ) (cells : Cells) (area : Area) (i j value : ℕ) → j ≢ i
    → map.get (map.insert cells (address_of s frame area i) value) (address_of s frame area j) ≡ map.get cells
    (address_of s frame area j)
put_same_area s frame cells area i j value other =
    get_put_other cells (address_of s frame area i) value (address_of s frame area j)
    (λ e. other (address_injective s frame area j i e))

-- ---- keeping

-- the start state keeps its own memory
pub keeps_start : (params : List Param) (frame : ℕ) (s : State) → Keeps params frame s s.cells
keeps_start params frame s = record { addresses = λ address. refl; others = λ address outside. refl }

module _ (program : Source) (lines : List Line) (inputs : List ℕ) (s : State)
    (start : IsStart program lines inputs s) where
  -- a memory that keeps has every word of every area
  pub kept_there : (cells : Cells) (area : Area) (word : ℕ) → Keeps program.params (frame_of lines) s cells
      → word < area_words program.params (frame_of lines) area
      → IsSome (map.get cells (address_of s (frame_of lines) area word))
  kept_there cells area word kept h = kept.addresses (address_of s (frame_of lines) area word) ∙ start.there area word h

  -- and so the words that may be stored to
  pub written_there : (cells : Cells) (area : Area) (word : ℕ) → Keeps program.params (frame_of lines) s cells
      → word < written_words program.params (frame_of lines) area
      → IsSome (map.get cells (address_of s (frame_of lines) area word))
  written_there cells area word kept h = kept_there cells area word kept
      (lt_of_lt_of_le h (written-le-area program.params (frame_of lines) area))

  -- a store to an output array or to the frame keeps
  pub keeps_put : (cells : Cells) (area : Area) (word value : ℕ) → Keeps program.params (frame_of lines) s cells
      → word < written_words program.params (frame_of lines) area
      → Keeps program.params (frame_of lines) s (map.insert cells (address_of s (frame_of lines) area word) value)
  keeps_put cells area word value kept h = record {
    addresses = λ q. has_put cells (address_of s (frame_of lines) area word) value q
        (written_there cells area word kept h) ∙ kept.addresses q;
    others = λ q outside.
        get_put_other cells (address_of s (frame_of lines) area word) value q
        (outside area word h)
        ∙ kept.others q outside;
  }

-- where outputs may not overlap inputs
module _ (program : Source) (lines : List Line) (inputs : List ℕ) (s : State)
    (start : IsStart program lines inputs s) (none : program.overlap ≡ false) where
  -- words of two areas have different addresses, where one of them may be stored to
  pub addresses_apart : (a b : Area) (i j : ℕ) → a ≢ b → i < written_words program.params (frame_of lines) a
      → j < area_words program.params (frame_of lines) b
      → address_of s (frame_of lines) a i ≢ address_of s (frame_of lines) b j
  addresses_apart a b i j other h k =
      start.apart a b other (written_apart program.overlap program.params (frame_of lines) a b i none h) i j
      (lt_of_lt_of_le h (written-le-area program.params (frame_of lines) a)) k

  -- no area with a word that may be stored to is an input array
  written-ne-input : (area : Area) (param i j : ℕ) → i < written_words program.params (frame_of lines) area
      → j < input_array_words program.params param → area ≢ Array param
  written-ne-input (Array p) param i j h k = output-ne-input program.params p param i j h k
  written-ne-input Frame param i j h k = frame-ne-array
  written-ne-input Return param i j h k = absurd (omega (arith, h))

  -- the words of input arrays lie outside
  pub input_outside : (param word : ℕ) → word < input_array_words program.params param
      → IsOutside program.params (frame_of lines) s (address_of s (frame_of lines) (Array param) word)
  input_outside param word h area i there e =
      addresses_apart area (Array param) i word (written-ne-input area param i word there h) there
      (lt_of_lt_of_le h (input-le-array program.params param)) (sym e)

  -- and hold the inputs in every memory that keeps
  pub input_kept : (cells : Cells) (param word : ℕ) → Keeps program.params (frame_of lines) s cells
      → word < input_array_words program.params param
      → map.get cells (address_of s (frame_of lines) (Array param) word) ≡ Some
      (input_word program.params inputs param word)
  input_kept cells param word kept h =
      kept.others (address_of s (frame_of lines) (Array param) word) (input_outside param word h)
      ∙ start.arrays param word h
