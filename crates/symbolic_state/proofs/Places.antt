-- Where the cell lies that an address names: at the word of an area, with the address that the machine computes.
use Rattle.std.proofs.Common.{◌≡◌, ℕ, ◌+◌, ◌-◌, ◌*◌, ◌/◌, ◌%◌, ◌^◌, ◌<◌, ◌≤◌, ◌==◌, Bool, true, false}
use Rattle.std.proofs.Common.{◌&&◌, nat_lt, List, length, Option, Some, None, option_map}
use Rattle.std.proofs.Common.{slice_get, slice_index_or, if◌then◌else◌, refl, sym, ap, ◌∙◌, subst, arith, pos, negsuc}
use Rattle.std.proofs.Common.{◌-ℤ◌}
use Rattle.std.specs.Int.{cast_unsigned, w64}
use Rattle.std.proofs.lemmas.Bool.Decides.{nat_tests}
use Rattle.std.proofs.lemmas.Int.{ints}
use Rattle.std.proofs.lemmas.Option.{same_Some}
use Rattle.std.proofs.lemmas.List.Quantifiers.{position-Some}
use Rattle.base.specs.Options.{◌>>=◌, guard}
use Rattle.word_program.specs.Program.{Source}
use Rattle.x86_instr.specs.declared.operand.Reg.{Reg}
use Rattle.x86_instr.specs.declared.operand.Reg.TheVariants.{Rsp, Rdi}
use Rattle.x86_instr.specs.declared.line.Line.{Line}
use Rattle.x86_instr.specs.Frame.{frame_of}
use Rattle.x86_instr.specs.Registers.{number_of}
use Rattle.x86_meaning.specs.declared.state.State.{State}
use Rattle.x86_meaning.specs.Machine.{reg}
use Rattle.x86_meaning.specs.Start.{Frame, IsStart, area_words, address_of, array_words, param_reg, param_regs}
use Rattle.x86_meaning.specs.Start as areas
use Rattle.x86_meaning.proofs.FrameLimits.{frame_is}
use Rattle.symbolic_state.specs.declared.touch.Touch.{Touch}
use Rattle.symbolic_state.specs.Symbols.{Array, Symbols}
use Rattle.symbolic_state.specs.Cells.{Base, Cell, word_at, param_in, array_cell, frame_cell, cell_at, touch_of}
use Rattle.symbolic_state.specs.Fitting.{HasShape}
use Rattle.symbolic_state.proofs.Shapes.{ParamOf, param_of, words_are}

-- ---- words

-- what a test that holds gives
pub guarded : {X : Type 0} (b : Bool) (x y : X) → guard b x ≡ Some y → (b ≡ true) × (x ≡ y)
guarded true x y e = (refl, same_Some x y e)
guarded false x y e = cc

-- a word of an area
pub record WordIn (offset count word : ℕ) : Type 0 where
  pub inside : word < count
  pub is : offset ≡ 8 * word

word_in : (offset count word : ℕ) → word_at offset count ≡ Some word → WordIn offset count word
word_in offset count word e =
    let g = guarded (offset % 8 == 0 && nat_lt (offset / 8) count) (offset / 8) word e in
    let b = g.0 in let same = g.1 in
    let eight : offset % 8 ≡ 0 = grind (arith, nat_tests, b) in
    let below : offset / 8 < count = grind (arith, nat_tests, b) in
    record { inside = omega arith; is = omega arith }

-- the parameter that a register passes
param_reg_of : (reg param : ℕ) → param_in reg ≡ Some param → number_of (param_reg param) ≡ reg
param_reg_of reg param e =
    let found = position-Some (λ (r : Reg). number_of r == reg) param_regs param Rdi e in
    let test = found.1 in grind (arith, nat_tests, test)

-- ---- places

-- a frame's word, counted from the frame's end
below_zero : (a b : ℕ) → a < b → cast_unsigned w64 (pos a -ℤ pos b) ≡ 2 ^ 64 - (b - a)
below_zero a b h = let e : pos a -ℤ pos b ≡ negsuc (b - a - 1) = omega (arith, ints) in
    ap (cast_unsigned w64) e ∙ omega arith

-- where the register of an access, and its bytes from there, lead
abbrev pub touched_at : State → Touch → ℕ
touched_at first touch = (reg first touch.reg + cast_unsigned w64 touch.offset) % 2 ^ 64

-- In a run from a start, `base` tells the address of the cell, which lies in its area, and an access of the cell tells
-- it too.
pub record IsPlace (program : Source) (frame : ℕ) (first : State) (y : Symbols) (base : Base) (cell : Cell) : Type 0
  where
    pub inside : cell.word < area_words program.params frame cell.area
    pub is : (slice_index_or first.regs base.reg 0 + base.offset) % 2 ^ 64
        ≡ address_of first frame cell.area cell.word
    pub write : (write : Bool) → (touch_of write y cell).write ≡ write
    pub told : (write : Bool) → address_of first frame cell.area cell.word ≡ touched_at first (touch_of write y cell)

module _ (program : Source) (lines : List Line) (inputs : List ℕ) (first : State)
    (start : IsStart program lines inputs first) (y : Symbols) (shape : HasShape program (frame_of lines) y) where
  abbrev Lies : Base → Cell → Type 0
  Lies base cell = IsPlace program (frame_of lines) first y base cell

  frame_words : 8 * length y.frame ≡ frame_of lines
  frame_words = let eights = (frame_is lines).eights in let words = shape.frame_words in omega (arith, eights, words)

  frame_lies : (base : Base) (o : Option ℕ) (cell : Cell) → base.reg ≡ number_of Rsp
      → ((word : ℕ) → o ≡ Some word
      → WordIn ((base.offset + 8 * length y.frame) % 2 ^ 64) (length y.frame) word)
      → option_map (λ word. record { area = Frame; word = word }) o ≡ Some cell → Lies base cell
  frame_lies base None cell r f e = cc
  frame_lies base (Some word) cell r f e =
      let w = f word refl in
      let inside = w.inside in let is = w.is in
      let all = frame_words in let words = shape.frame_words in
      let begins : frame_of lines ≤ reg first Rsp = start.frame_begins in
      let small : reg first Rsp < 2 ^ 64 = start.state.registers Rsp in
      let held : slice_index_or first.regs base.reg 0 ≡ reg first Rsp = ap (λ n. slice_index_or first.regs n 0) r in
      subst (Lies base) (same_Some (record { area = Frame; word = word }) cell e) (record {
        inside = omega (arith, inside, words);
        is = omega (arith, held, all, inside, is, begins, small);
        write = λ write. refl;
        told = λ write. let back = below_zero (8 * word) (8 * length y.frame) (omega (arith, inside)) in
            omega (arith, all, inside, begins, small, back);
      })

  array_lies : (base : Base) (param : ℕ) (array : Array) (o : Option ℕ) (cell : Cell)
      → number_of (param_reg param) ≡ base.reg
      → ParamOf program.params param array → ((word : ℕ) → o ≡ Some word → WordIn base.offset (length array.words) word)
      → (o >>= λ word. Some (record { area = areas.Array param; word = word })) ≡ Some cell → Lies base cell
  array_lies base param array None cell r p f e = cc
  array_lies base param array (Some word) cell r p f e =
      let w = f word refl in
      let inside = w.inside in let is = w.is in
      let words = words_are program.params param array p in
      let ends : reg first (param_reg param) + 8 * array_words program.params param ≤ 2 ^ 64 =
      start.ends param (omega (arith, inside, words)) in
      let held : slice_index_or first.regs base.reg 0 ≡ reg first (param_reg param) =
      ap (λ n. slice_index_or first.regs n 0) (sym r) in
      subst (Lies base) (same_Some (record { area = areas.Array param; word = word }) cell e) (record {
        inside = omega (arith, inside, words);
        is = omega (arith, held, inside, is, ends, words);
        write = λ write. refl;
        told = λ write. omega (arith, inside, ends, words);
      })

  array_at : (base : Base) (param : ℕ) (o : Option Array) (cell : Cell) → number_of (param_reg param) ≡ base.reg
      → slice_get y.arrays param ≡ o
      → (o >>= λ array. word_at base.offset (length array.words) >>= λ word. Some
      (record { area = areas.Array param; word = word })) ≡ Some cell → Lies base cell
  array_at base param None cell r there e = cc
  array_at base param (Some array) cell r there e =
      array_lies base param array (word_at base.offset (length array.words)) cell r
      (param_of program.params y.arrays param array shape.arrays there)
      (λ word. word_in base.offset (length array.words) word) e

  param_at : (base : Base) (o : Option ℕ) (cell : Cell) → param_in base.reg ≡ o
      → (o >>= λ param. slice_get y.arrays param >>= λ array. word_at base.offset (length array.words) >>= λ word. Some
      (record { area = areas.Array param; word = word })) ≡ Some cell → Lies base cell
  param_at base None cell there e = cc
  param_at base (Some param) cell there e =
      array_at base param (slice_get y.arrays param) cell (param_reg_of base.reg param there) refl e

  cell_in : (base : Base) (cell : Cell) (b : Bool) → (base.reg == number_of Rsp) ≡ b
      → (if b then frame_cell y base else array_cell y base) ≡ Some cell → Lies base cell
  cell_in base cell true is e = frame_lies base _ cell (grind (arith, nat_tests, is))
      (λ word. word_in ((base.offset + 8 * length y.frame) % 2 ^ 64) (length y.frame) word) e
  cell_in base cell false is e = param_at base (param_in base.reg) cell refl e

  pub cell_lies : (base : Base) (cell : Cell) → cell_at y base ≡ Some cell
      → IsPlace program (frame_of lines) first y base cell
  cell_lies base cell e = cell_in base cell (base.reg == number_of Rsp) refl e
