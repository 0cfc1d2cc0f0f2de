-- What laws say of listings that are not correct: the cells that a function must leave, and listings for a program
-- that copies one word.
use Rattle.std.specs.Prelude.{◌≢◌, ℕ, ◌+◌, ◌-◌, ◌*◌, ◌<◌, ◌≤◌, Bool, List, [], ◌∷◌, None, pos, codes}
use Rattle.word_program.specs.declared.parameter.Role.TheVariants.{Output, InputArray}
use Rattle.word_operations.specs.declared.kind.Kind.TheVariants as kinds
use Rattle.word_program.specs.declared.operation.Operand.TheVariants as operands
use Rattle.word_program.specs.declared.operation.Target.TheVariants as targets
use Rattle.word_program.specs.Program.{Source, full}
use Rattle.word_program.specs.Values.{is_output}
use Rattle.x86_instr.specs.declared.operand.Reg.{Reg}
use Rattle.x86_instr.specs.declared.operand.Reg.TheVariants.{Rax, Rcx, Rsp, Rsi, Rdi}
use Rattle.x86_instr.specs.declared.operand.Mem.{Mem}
use Rattle.x86_instr.specs.declared.operand.Rm.TheVariants as rms
use Rattle.x86_instr.specs.declared.operand.Src.TheVariants as srcs
use Rattle.x86_instr.specs.declared.instr.Bin.TheVariants.{Sub}
use Rattle.x86_instr.specs.declared.instr.Un.TheVariants.{Not}
use Rattle.x86_instr.specs.declared.instr.Instr.{Instr}
use Rattle.x86_instr.specs.declared.instr.Instr.TheVariants as instrs
use Rattle.x86_instr.specs.declared.line.Line.{Line}
use Rattle.x86_instr.specs.Frame.{frame_of}
use Rattle.x86_meaning.specs.declared.state.State.{State}
use Rattle.x86_meaning.specs.Machine.{reg}
use Rattle.x86_meaning.specs.Start.{param_reg}
use Rattle.x86_meaning.specs.StartLaws.{HasWord}

-- in a run from this start the address is that of no output word, and not in the frame
pub record IsToBeLeft (program : Source) (lines : List Line) (s : State) (address : ℕ) : Type 0 where
  pub no_output : (param word : ℕ) → HasWord is_output program.params param word
      → address ≢ reg s (param_reg param) + 8 * word
  pub not_in_frame : reg s Rsp - frame_of lines ≤ address → address < reg s Rsp → ⊥

-- ---- the program `out1[0] = arg1[0]`, each array of one word, by whether the two may overlap

abbrev pub copied_word : Bool → Source
copied_word overlap = record {
  name = codes "copy";
  params = record { name = codes "out1"; role = Output; bounds = full ∷ [] }
      ∷ record { name = codes "arg1"; role = InputArray; bounds = full ∷ [] }
      ∷ [];
  ops = record { kind = kinds.Copy; args = operands.Input 1 0 ∷ []; targets = targets.Output 0 0 ∷ [] } ∷ [];
  overlap = overlap;
}

-- ---- lines

abbrev pub line_of : Instr → Line
line_of instr = record { instr = instr; owner = None }

-- the word of this number from a register on
abbrev pub word_from : Reg → ℕ → Mem
word_from base word = record { base = base; index = None; disp = pos (8 * word) }

abbrev pub load : Reg → Reg → ℕ → Line
load dst base word = line_of (instrs.Mov dst (rms.Mem (word_from base word)))

abbrev pub store : Reg → ℕ → Reg → Line
store base word src = line_of (instrs.Store (word_from base word) src)

abbrev pub ret : Line
ret = line_of instrs.Ret

-- ---- listings

-- mov r, [rsi]; mov [rdi], r; ret
abbrev pub copy_by : Reg → List Line
copy_by r = load r Rsi 0 ∷ store Rdi 0 r ∷ ret ∷ []

-- mov [rdi], rdi, and then the copy: the output is written before the input is read
abbrev pub copy_after_write : List Line
copy_after_write = store Rdi 0 Rdi ∷ copy_by Rax

-- mov rcx, [rsi]; mov [rsi], rax; mov [rsi], rcx, and then the copy: the input is put back
abbrev pub copy_with_input_put_back : List Line
copy_with_input_put_back = load Rcx Rsi 0 ∷ store Rsi 0 Rax ∷ store Rsi 0 Rcx ∷ copy_by Rax

-- sub rsp, 8, and then the copy: the stack pointer stays 8 too low
abbrev pub copy_with_stack_moved : List Line
copy_with_stack_moved = line_of (instrs.Bin Sub Rsp (srcs.Imm (pos 8))) ∷ copy_by Rax

-- mov rax, [rsi]; not rax; mov [rdi], rax; ret
abbrev pub copy_of_complement : List Line
copy_of_complement = load Rax Rsi 0 ∷ line_of (instrs.Un Not Rax) ∷ store Rdi 0 Rax ∷ ret ∷ []
