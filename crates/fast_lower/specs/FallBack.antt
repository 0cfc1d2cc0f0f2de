-- The fall-back: the plain listing, but for the marks of the slots. A block takes the operands in the slot's order. And
-- where the source rule asks for the memory, it loads the place of the array alone, and its owned instruction reads
-- the word from there.
use Rattle.std.specs.Prelude.{◌-◌, List, [], ◌∷◌, ◌++◌, length, map, take, Option, Some, None, slice_get}
use Rattle.std.specs.Prelude.{if◌then◌else◌}
use Rattle.std.specs.List.{flat_map}
use Rattle.std.specs.Option.{option_map_or}
use Rattle.word_program.specs.declared.operation.Op.{Op}
use Rattle.word_program.specs.Program.{Source}
use Rattle.x86_instr.specs.declared.operand.Reg.TheVariants.{Rcx, Rsp}
use Rattle.x86_instr.specs.declared.operand.Mem.{Mem}
use Rattle.x86_instr.specs.declared.operand.Rm.{Rm}
use Rattle.x86_instr.specs.declared.operand.Rm.TheVariants as rms
use Rattle.x86_instr.specs.declared.operand.Src.{Src}
use Rattle.x86_instr.specs.declared.operand.Src.TheVariants as srcs
use Rattle.x86_instr.specs.declared.instr.Instr.{Instr}
use Rattle.x86_instr.specs.declared.instr.Instr.TheVariants as instrs
use Rattle.x86_instr.specs.declared.line.Line.{Line}
use Rattle.x86_instr.specs.Listings.{NamedLines}
use Rattle.dependency_graph.specs.Needs.{first_value}
use Rattle.op_order.specs.declared.slot.Slot.{Slot}
use Rattle.plain_lower.specs.Frame.{unowned, word_at, load_word, load}
use Rattle.plain_lower.specs.Blocks.{Place, row_of, store_all}
use Rattle.plain_lower.specs.Plain.{entry, late_stores, exit}
use Rattle.fast_lower.specs.declared.sources.ArrayWord.{ArrayWord}
use Rattle.fast_lower.specs.Taken.{taken_arg}
use Rattle.fast_lower.specs.Sources.{source_word}

-- ---- a source in the memory

abbrev pub rm_in : Mem → Rm → Rm
rm_in mem (rms.Reg r) = rms.Mem mem
rm_in mem (rms.Mem other) = rms.Mem other

abbrev pub src_in : Mem → Src → Src
src_in mem (srcs.Reg r) = srcs.Mem mem
src_in mem (srcs.Mem other) = srcs.Mem other
src_in mem (srcs.Imm n) = srcs.Imm n

-- an instruction of the source rule that reads its source there, in the place of a register
abbrev pub sourced : Mem → Instr → Instr
sourced mem (instrs.Bin op dst src) = instrs.Bin op dst (src_in mem src)
sourced mem (instrs.Adcx dst src) = instrs.Adcx dst (rm_in mem src)
sourced mem (instrs.Adox dst src) = instrs.Adox dst (rm_in mem src)
sourced mem (instrs.Imul dst src) = instrs.Imul dst (rm_in mem src)
sourced mem instr = instr

abbrev pub line_sourced : Mem → Line → Line
line_sourced mem line = record { instr = sourced mem line.instr; owner = line.owner }

-- ---- blocks

-- the operands that the slot takes, into registers
abbrev pub load_taken : Source → Slot → Op → List Place → List Line
load_taken program slot op loads = flat_map (λ l. load program l.0 (taken_arg slot op l.1)) loads

-- the loads but for the last one, which is that of the source
abbrev pub but_last : List Place → List Place
but_last loads = take (length loads - 1) loads

-- the word that the owned instruction reads from the memory
abbrev pub memory_word : Source → Slot → Option ArrayWord
memory_word program slot = if slot.load_first then None else source_word program slot

-- the loads of a block, and the lines between them and the stores
abbrev pub loads_and_middle : Source → Slot → Op → Option ArrayWord → List Line
loads_and_middle program slot op None =
    load_taken program slot op (row_of op.kind slot.template).loads ++ (row_of op.kind slot.template).middle slot.op
loads_and_middle program slot op (Some source) =
    load_taken program slot op (but_last (row_of op.kind slot.template).loads)
    ++ (unowned (load_word Rcx Rsp source.param)
    ∷ map (line_sourced (word_at Rcx source.word)) ((row_of op.kind slot.template).middle slot.op))

-- the block of an operation
abbrev pub block_by : Source → Slot → Op → List Line
block_by program slot op =
    loads_and_middle program slot op (memory_word program slot)
    ++ store_all program (first_value program slot.op) op (row_of op.kind slot.template).saves

-- the block of a slot
unfoldable pub block : Source → Slot → List Line
block program slot = option_map_or (block_by program slot) (slice_get program.ops slot.op) []

-- ---- the listing

abbrev pub blocks : Source → List Slot → List Line
blocks program slots = flat_map (block program) slots

unfoldable pub fall_back_lines : Source → List Slot → List Line
fall_back_lines program slots = entry program ++ (blocks program slots ++ (late_stores program ++ exit program))

-- the listing, under the program's name
abbrev pub fall_back_listing : Source → List Slot → NamedLines
fall_back_listing program slots = record { name = program.name; lines = fall_back_lines program slots }
