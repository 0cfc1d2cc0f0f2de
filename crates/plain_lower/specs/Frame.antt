-- The frame of a plain listing, and the lines that move words between the frame, the arrays and the registers. The
-- frame has a slot of 8 bytes for each parameter, and behind these one for each value. The parameters come in six
-- registers (System V Application Binary Interface, AMD64 Architecture Processor Supplement, section 3.2.3).
use Rattle.std.specs.Prelude.{ℕ, ◌+◌, ◌*◌, List, [], ◌∷◌, length, Option, Some, None, pos, option_map, if◌then◌else◌}
use Rattle.std.specs.Prelude.{slice_get, slice_index_or}
use Rattle.word_program.specs.declared.parameter.Role.{Role}
use Rattle.word_program.specs.declared.parameter.Role.TheVariants.{Output, InputArray, InputScalar}
use Rattle.word_program.specs.declared.operation.Operand.{Operand}
use Rattle.word_program.specs.declared.operation.Operand.TheVariants as operands
use Rattle.word_program.specs.declared.operation.Target.{Target}
use Rattle.word_program.specs.declared.operation.Target.TheVariants as targets
use Rattle.word_program.specs.Program.{Source}
use Rattle.word_program.specs.Values.{targets_of}
use Rattle.x86_instr.specs.declared.operand.Reg.{Reg}
use Rattle.x86_instr.specs.declared.operand.Reg.TheVariants.{Rax, Rcx, Rdx, Rsp, Rsi, Rdi, R8, R9, R11}
use Rattle.x86_instr.specs.declared.operand.Mem.{Mem}
use Rattle.x86_instr.specs.declared.operand.Rm.TheVariants as rms
use Rattle.x86_instr.specs.declared.instr.Instr.{Instr}
use Rattle.x86_instr.specs.declared.instr.Instr.TheVariants as instrs
use Rattle.x86_instr.specs.declared.line.Line.{Line}

-- ---- lines

-- a line that no operation owns
abbrev pub unowned : Instr → Line
unowned instr = record { instr = instr; owner = None }

-- a line that the operation with this number owns
abbrev pub owned : ℕ → Instr → Line
owned op instr = record { instr = instr; owner = Some op }

-- the word with this number from a register on
abbrev pub word_at : Reg → ℕ → Mem
word_at base word = record { base = base; index = None; disp = pos (8 * word) }

-- that word into a register
abbrev pub load_word : Reg → Reg → ℕ → Instr
load_word dst base word = instrs.Mov dst (rms.Mem (word_at base word))

-- ---- slots

-- the registers that pass the parameters, in order
abbrev pub param_regs : List Reg
param_regs = Rdi ∷ Rsi ∷ Rdx ∷ Rcx ∷ R8 ∷ R9 ∷ []

-- the register of a parameter, counted from 0
abbrev pub param_reg : ℕ → Reg
param_reg param = slice_index_or param_regs param Rdi

-- the bytes of all slots
abbrev pub frame_bytes : Source → ℕ
frame_bytes program = 8 * (length program.params + length (targets_of program.ops))

-- the slot of a value, which is the result of an operation with this number
abbrev pub value_slot : Source → ℕ → Mem
value_slot program value = word_at Rsp (length program.params + value)

-- ---- loads

-- what a parameter is for, where it is there
abbrev pub role_of : Source → ℕ → Option Role
role_of program param = option_map (λ p. p.role) (slice_get program.params param)

-- a word of an input into a register: a scalar is in its parameter's slot, and the place of an array is there
abbrev pub load_input : Option Role → Reg → ℕ → ℕ → List Line
load_input (Some InputScalar) dst param word = unowned (load_word dst Rsp param) ∷ []
load_input (Some InputArray) dst param word = unowned (load_word dst Rsp param) ∷ unowned (load_word dst dst word) ∷ []
load_input (Some Output) dst param word = []
load_input None dst param word = []

-- an operand into a register
abbrev pub load : Source → Reg → Operand → List Line
load program dst (operands.Literal n) = unowned (instrs.MovImm dst n) ∷ []
load program dst (operands.Input param word) = load_input (role_of program param) dst param word
load program dst (operands.Value value) = unowned (instrs.Mov dst (rms.Mem (value_slot program value))) ∷ []

-- ---- stores

-- a register into the slot of a value
abbrev pub keep : Source → ℕ → Reg → List Line
keep program value src = unowned (instrs.Store (value_slot program value) src) ∷ []

-- a register into a word of an output array, of which the place is in its parameter's slot
abbrev pub put_out : ℕ → ℕ → Reg → List Line
put_out param word src = unowned (load_word R11 Rsp param) ∷ unowned (instrs.Store (word_at R11 word) src) ∷ []

-- A result, which is the value with this number, out of a register. Where outputs may share memory with inputs, a
-- word of an output is kept as a value, since an operation behind this one may read the memory.
abbrev pub store : Source → ℕ → Target → Reg → List Line
store program value targets.Value src = keep program value src
store program value targets.Unused src = []
store program value (targets.Output param word) src =
    if program.overlap then keep program value src else put_out param word src

-- a word of an output that was kept as the value with this number
abbrev pub store_late : Source → ℕ → Target → List Line
store_late program value targets.Value = []
store_late program value targets.Unused = []
store_late program value (targets.Output param word) =
    unowned (instrs.Mov Rax (rms.Mem (value_slot program value))) ∷ put_out param word Rax
