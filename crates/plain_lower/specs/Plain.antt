-- The plain listing of a plan: it takes its frame, saves the parameters in their slots, has a block for each slot of
-- the plan, and gives the frame back. The instructions are those of the Intel Software Developer's Manual, volume 2.
use Rattle.std.specs.Prelude.{ℕ, ◌+◌, List, [], ◌∷◌, ◌++◌, pos, if◌then◌else◌}
use Rattle.std.specs.List.{flat_map}
use Rattle.word_program.specs.declared.parameter.Param.{Param}
use Rattle.word_program.specs.declared.operation.Target.{Target}
use Rattle.word_program.specs.Program.{Source}
use Rattle.word_program.specs.Values.{targets_of}
use Rattle.x86_instr.specs.declared.operand.Reg.TheVariants.{Rsp}
use Rattle.x86_instr.specs.declared.operand.Src.TheVariants as srcs
use Rattle.x86_instr.specs.declared.instr.Bin.TheVariants.{Add, Sub}
use Rattle.x86_instr.specs.declared.instr.Instr.TheVariants as instrs
use Rattle.x86_instr.specs.declared.line.Line.{Line}
use Rattle.x86_instr.specs.Listings.{NamedLines}
use Rattle.op_order.specs.declared.slot.Slot.{Slot}
use Rattle.plain_lower.specs.Frame.{unowned, word_at, param_reg, frame_bytes, store_late}
use Rattle.plain_lower.specs.Blocks.{block}

-- the registers of parameters, of which the first one has this number, into their slots
abbrev pub saves_from : ℕ → List Param → List Line
saves_from param [] = []
saves_from param (p ∷ ps) = unowned (instrs.Store (word_at Rsp param) (param_reg param)) ∷ saves_from (param + 1) ps

-- the frame taken, and the parameters saved
abbrev pub entry : Source → List Line
entry program = unowned (instrs.Bin Sub Rsp (srcs.Imm (pos (frame_bytes program)))) ∷ saves_from 0 program.params

-- the blocks of slots
abbrev pub blocks : Source → List Slot → List Line
blocks program slots = flat_map (block program) slots

-- the output words among values that were kept, of which the first one has this number
abbrev pub late_from : Source → ℕ → List Target → List Line
late_from program value [] = []
late_from program value (t ∷ ts) = store_late program value t ++ late_from program (value + 1) ts

-- where outputs may share memory with inputs, they are written when no input is read any more
abbrev pub late_stores : Source → List Line
late_stores program = if program.overlap then late_from program 0 (targets_of program.ops) else []

-- the frame given back, and the return
abbrev pub exit : Source → List Line
exit program = unowned (instrs.Bin Add Rsp (srcs.Imm (pos (frame_bytes program)))) ∷ unowned instrs.Ret ∷ []

unfoldable pub plain_lines : Source → List Slot → List Line
plain_lines program slots = entry program ++ (blocks program slots ++ (late_stores program ++ exit program))

-- the listing, under the program's name
abbrev pub plain_listing : Source → List Slot → NamedLines
plain_listing program slots = record { name = program.name; lines = plain_lines program slots }
