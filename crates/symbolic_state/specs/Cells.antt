-- Which cell an address names, and what stands there. An address is a sum; it names a cell where it is the start of an
-- array and 8 times one of the array's words, or the stack pointer's start less a place in the frame.
use Rattle.std.specs.Prelude.{ℕ, ◌+◌, ◌*◌, ◌/◌, ◌%◌, ◌^◌, ◌<◌, Bool, ◌&&◌, ◌==◌, nat_lt, List, []}
use Rattle.std.specs.Prelude.{◌∷◌, length, map, position, slice_get, slice_set, Option, Some, None, if◌then◌else◌}
use Rattle.std.specs.Prelude.{option_map, pos, ◌-ℤ◌}
use Rattle.std.specs.Int.{cast_unsigned, w64}
use Rattle.std.specs.Option.{option_map_or}
use Rattle.base.specs.Options.{◌>>=◌, guard, only}
use Rattle.word_program.specs.Values.{is_output}
use Rattle.x86_instr.specs.declared.operand.Index.{Index}
use Rattle.x86_instr.specs.declared.operand.Mem.{Mem}
use Rattle.x86_instr.specs.declared.operand.Reg.TheVariants.{Rsp}
use Rattle.x86_instr.specs.Registers.{number_of}
use Rattle.x86_meaning.specs.Start.{Area, Frame, param_reg, param_regs}
use Rattle.x86_meaning.specs.Start as areas
use Rattle.terms.specs.declared.lists.Term.{Term}
use Rattle.terms.specs.declared.nodes.Node.{Node}
use Rattle.terms.specs.declared.nodes.NodeKind.{NodeKind}
use Rattle.terms.specs.declared.nodes.NodeKind.TheVariants as kinds
use Rattle.terms.specs.declared.nodes.Form.{Form}
use Rattle.terms.specs.declared.nodes.Form.TheVariants as forms
use Rattle.terms.specs.Tables.{node_at}
use Rattle.program_nodes.specs.Terms.{term}
use Rattle.symbolic_state.specs.declared.touch.Touch.{Touch}
use Rattle.symbolic_state.specs.Symbols.{Array, Symbols, node_in}

-- ---- addresses

abbrev pub index_terms : Symbols → Option Index → List Term
index_terms y None = []
index_terms y (Some index) = term index.scale (node_in y index.reg) ∷ []

abbrev pub address_form : Symbols → Mem → Form
address_form y mem = forms.Lin (cast_unsigned w64 mem.disp)
    (term 1 (node_in y mem.base) ∷ index_terms y mem.index)

-- what a register holds at the start, and a constant, modulo 2^64
pub record Base : Type 0 where
  pub reg : ℕ
  pub offset : ℕ

abbrev pub start_reg : NodeKind → Option ℕ
start_reg (kinds.Start reg) = Some reg
start_reg _ = None

abbrev pub only_start : List Node → List Term → Option ℕ
only_start table terms = only terms >>= λ t.
    if t.times == 1 then start_reg (node_at table t.node).kind else None

-- the node's word as one of these, where it is one
abbrev pub base_of_kind : List Node → NodeKind → Option Base
base_of_kind table (kinds.Start reg) = Some (record { reg = reg; offset = 0 })
base_of_kind table (kinds.Sum k terms) = option_map (λ reg. record { reg = reg; offset = k }) (only_start table terms)
base_of_kind table _ = None

abbrev pub base_of : List Node → ℕ → Option Base
base_of table number = base_of_kind table (node_at table number).kind

-- ---- cells

-- a word of an array or of the frame
pub record Cell : Type 0 where
  pub area : Area
  pub word : ℕ

-- the array of a parameter, and the frame where there is no parameter
abbrev pub area_of : Option ℕ → Area
area_of None = Frame
area_of (Some param) = areas.Array param

-- the word of an area with so many words at a multiple of 8 from its start
abbrev pub word_at : ℕ → ℕ → Option ℕ
word_at offset count = guard (offset % 8 == 0 && nat_lt (offset / 8) count) (offset / 8)

-- the parameter that the register with this number passes
abbrev pub param_in : ℕ → Option ℕ
param_in reg = position (λ r. number_of r == reg) param_regs

abbrev pub array_cell : Symbols → Base → Option Cell
array_cell y base = do
  param ← param_in base.reg
  array ← slice_get y.arrays param
  word ← word_at base.offset (length array.words)
  Some (record { area = areas.Array param; word = word })

-- the frame begins at the stack pointer's start less its bytes
abbrev pub frame_cell : Symbols → Base → Option Cell
frame_cell y base = option_map (λ word. record { area = Frame; word = word })
    (word_at ((base.offset + 8 * length y.frame) % 2 ^ 64) (length y.frame))

abbrev pub cell_at : Symbols → Base → Option Cell
cell_at y base = if base.reg == number_of Rsp then frame_cell y base else array_cell y base

-- the cell that the word of the node names
unfoldable pub cell_named : List Node → Symbols → ℕ → Option Cell
cell_named table y number = base_of table number >>= cell_at y

-- an access of a word of an area: the register from whose start it is counted, and how many bytes it is from there
abbrev pub touch_in : Bool → ℕ → Area → ℕ → Touch
touch_in write frame (areas.Array param) word = record { write = write; reg = param_reg param; offset = pos (8 * word) }
touch_in write frame area word = record { write = write; reg = Rsp; offset = pos (8 * word) -ℤ pos (8 * frame) }

abbrev pub touch_of : Bool → Symbols → Cell → Touch
touch_of write y cell = touch_in write (length y.frame) cell.area cell.word

-- ---- what stands in cells

-- how many words an area has
abbrev pub words_in : Symbols → Area → ℕ
words_in y (areas.Array param) = option_map_or (λ array. length array.words) (slice_get y.arrays param) 0
words_in y Frame = length y.frame
words_in y areas.Return = 0

-- the cell's area has such a word
abbrev pub IsInside : Symbols → Cell → Type 0
IsInside y cell = cell.word < words_in y cell.area

abbrev pub known : List (Option ℕ) → ℕ → Option ℕ
known words word = slice_get words word >>= λ node. node

-- the node that is known to stand in a word of an area
abbrev pub node_of : Symbols → Area → ℕ → Option ℕ
node_of y (areas.Array param) word = slice_get y.arrays param >>= λ array. known array.words word
node_of y Frame word = known y.frame word
node_of y areas.Return word = None

-- no word of an input is known
abbrev pub forgotten : Array → Array
forgotten array = if is_output array.role then array else record {
  role = array.role;
  words = map (λ node. None) array.words;
}

-- where outputs may overlap inputs, a store to an output may have changed any input
abbrev pub after_output : Symbols → Symbols
after_output y = if y.overlap then record y { arrays = map forgotten y.arrays } else y

abbrev pub with_word : Array → ℕ → ℕ → Array
with_word array word node = record { role = array.role; words = slice_set array.words word (Some node) }

-- the state with a node stored in a word of an output or of the frame; other areas are not to be written
abbrev pub stored : Area → ℕ → ℕ → Symbols → Option Symbols
stored (areas.Array param) word node y = slice_get y.arrays param >>= λ array.
    guard (is_output array.role) (after_output (record y {
      arrays = slice_set y.arrays param (with_word array word node);
    }))
stored Frame word node y = Some (record y { frame = slice_set y.frame word (Some node) })
stored areas.Return word node y = None
