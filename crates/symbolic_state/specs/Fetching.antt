-- The node of a source: of a register, of an immediate, or of a word of the memory, whose address is made first. None
-- where the address names no cell, or nothing is known of its word.
use Rattle.std.specs.Prelude.{ℕ, ◌%◌, ◌^◌, false, List, Option, Some, None, option_map}
use Rattle.std.specs.Int.{cast_unsigned, w64}
use Rattle.base.specs.Options.{◌>>=◌}
use Rattle.x86_instr.specs.declared.operand.Mem.{Mem}
use Rattle.x86_instr.specs.declared.operand.Rm.{Rm}
use Rattle.x86_instr.specs.declared.operand.Rm.TheVariants as rms
use Rattle.x86_instr.specs.declared.operand.Src.{Src}
use Rattle.x86_instr.specs.declared.operand.Src.TheVariants as srcs
use Rattle.terms.specs.declared.nodes.Node.{Node}
use Rattle.terms.specs.declared.nodes.Form.TheVariants as forms
use Rattle.term_store.specs.Interning.{made}
use Rattle.symbolic_state.specs.declared.touch.Touch.{Touch}
use Rattle.symbolic_state.specs.Symbols.{Symbols, node_in}
use Rattle.symbolic_state.specs.Cells.{Cell, address_form, cell_named, node_of, touch_of}

-- a source's node, and the access of memory by which it was read
pub record Word : Type 0 where
  pub node : ℕ
  pub touch : Option Touch

pub record Fetched : Type 0 where
  pub table : List Node
  pub word : Option Word

abbrev pub read_cell : Symbols → Cell → Option Word
read_cell y cell =
    option_map (λ node. record { node = node; touch = Some (touch_of false y cell) }) (node_of y cell.area cell.word)

unfoldable pub fetched_cell : List Node → Symbols → Mem → Fetched
fetched_cell table y mem = let address = made table (address_form y mem) in
    record { table = address.table; word = cell_named address.table y address.number >>= read_cell y }

-- a node that is there without a read of memory
abbrev pub at_hand : List Node → ℕ → Fetched
at_hand table node = record { table = table; word = Some (record { node = node; touch = None }) }

unfoldable pub fetched_const : List Node → ℕ → Fetched
fetched_const table word = let const = made table (forms.Const (word % 2 ^ 64)) in at_hand const.table const.number

abbrev pub rm_fetched : List Node → Symbols → Rm → Fetched
rm_fetched table y (rms.Reg r) = at_hand table (node_in y r)
rm_fetched table y (rms.Mem mem) = fetched_cell table y mem

abbrev pub src_fetched : List Node → Symbols → Src → Fetched
src_fetched table y (srcs.Reg r) = at_hand table (node_in y r)
src_fetched table y (srcs.Mem mem) = fetched_cell table y mem
src_fetched table y (srcs.Imm n) = fetched_const table (cast_unsigned w64 n)
