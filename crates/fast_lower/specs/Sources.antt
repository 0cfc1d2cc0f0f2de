-- The source rule. It speaks of a slot whose template is one instruction with a source, and which takes as its last
-- operand a word of an input array: the instruction that the operation owns then reads that source from the memory,
-- and with the mark `load_first` from a register. The instructions are those of the Intel Software Developer's Manual,
-- volume 2, each under its own name.
use Rattle.std.specs.Prelude.{ℕ, Bool, true, false, ◌&&◌, List, [], ◌∷◌, length, drop, Option, Some, None}
use Rattle.std.specs.Prelude.{is_some, slice_get, if◌then◌else◌}
use Rattle.std.specs.List.{flat_map}
use Rattle.std.specs.Option.{option_map_or}
use Rattle.word_program.specs.declared.parameter.Role.{Role}
use Rattle.word_program.specs.declared.operation.Op.{Op}
use Rattle.word_program.specs.declared.operation.Operand.{Operand}
use Rattle.word_program.specs.declared.operation.Operand.TheVariants as operands
use Rattle.word_program.specs.Program.{Source}
use Rattle.word_program.specs.Values.{is_input_array}
use Rattle.x86_instr.specs.declared.operand.Rm.{Rm}
use Rattle.x86_instr.specs.declared.operand.Rm.TheVariants as rms
use Rattle.x86_instr.specs.declared.operand.Src.TheVariants as srcs
use Rattle.x86_instr.specs.declared.instr.Instr.{Instr}
use Rattle.x86_instr.specs.declared.instr.Instr.TheVariants as instrs
use Rattle.x86_instr.specs.declared.mnemonic.Mnemonic.{Mnemonic}
use Rattle.x86_instr.specs.declared.mnemonic.Mnemonic.TheVariants as names
use Rattle.x86_instr.specs.declared.line.Line.{Line}
use Rattle.templates.specs.Table.{mnemonics_of}
use Rattle.op_order.specs.declared.slot.Slot.{Slot}
use Rattle.plain_lower.specs.Frame.{role_of}
use Rattle.fast_lower.specs.declared.sources.ArrayWord.{ArrayWord}
use Rattle.fast_lower.specs.Taken.{last_taken}

-- ---- of which slots the rule speaks

-- the instruction of this name has a source, which may be in a register or in the memory
abbrev pub has_source : Mnemonic → Bool
has_source names.Add = true
has_source names.Adc = true
has_source names.Sub = true
has_source names.Sbb = true
has_source names.And = true
has_source names.Or = true
has_source names.Xor = true
has_source names.Adcx = true
has_source names.Adox = true
has_source names.Imul = true
has_source _ = false

-- a template that is one such instruction
abbrev pub is_one_source : List Mnemonic → Bool
is_one_source [] = false
is_one_source (name ∷ []) = has_source name
is_one_source (name ∷ other ∷ others) = false

abbrev pub is_array : Option Role → Bool
is_array role = option_map_or is_input_array role false

-- the word of an input array that an operand is
abbrev pub array_word : Source → Operand → Option ArrayWord
array_word program (operands.Literal n) = None
array_word program (operands.Input param word) =
    if is_array (role_of program param) then Some (record { param = param; word = word }) else None
array_word program (operands.Value value) = None

-- the same of the operand that a slot takes last, where its template is one instruction with a source
abbrev pub word_by : Source → Slot → Op → Option ArrayWord
word_by program slot op =
    if is_one_source (mnemonics_of program slot.op slot.template) then array_word program (last_taken slot op) else None

abbrev pub word_of : Source → Slot → Option Op → Option ArrayWord
word_of program slot None = None
word_of program slot (Some op) = word_by program slot op

-- the word that the slot's instruction reads by its source, where the rule speaks of the slot
abbrev pub source_word : Source → Slot → Option ArrayWord
source_word program slot = word_of program slot (slice_get program.ops slot.op)

-- ---- what it asks

abbrev pub is_memory : Rm → Bool
is_memory (rms.Reg r) = false
is_memory (rms.Mem mem) = true

abbrev pub is_register : Rm → Bool
is_register (rms.Reg r) = true
is_register (rms.Mem mem) = false

-- the instruction reads its source from the memory
abbrev pub reads_memory : Instr → Bool
reads_memory (instrs.Bin op dst (srcs.Mem mem)) = true
reads_memory (instrs.Adcx dst src) = is_memory src
reads_memory (instrs.Adox dst src) = is_memory src
reads_memory (instrs.Imul dst src) = is_memory src
reads_memory _ = false

-- the instruction reads its source from a register
abbrev pub reads_register : Instr → Bool
reads_register (instrs.Bin op dst (srcs.Reg r)) = true
reads_register (instrs.Adcx dst src) = is_register src
reads_register (instrs.Adox dst src) = is_register src
reads_register (instrs.Imul dst src) = is_register src
reads_register _ = false

-- the source is where the mark `load_first` asks for it
abbrev pub reads_as_marked : Bool → Instr → Bool
reads_as_marked load_first instr = if load_first then reads_register instr else reads_memory instr

-- an instruction of the slot's operation keeps the rule
abbrev pub keeps_rule : Source → Slot → Instr → Bool
keeps_rule program slot instr =
    if is_some (source_word program slot) then reads_as_marked slot.load_first instr else true

-- ---- the rule over a listing

-- the instruction of a line that has an owner
abbrev pub instr_owned : Option ℕ → Instr → List Instr
instr_owned None instr = []
instr_owned (Some op) instr = instr ∷ []

-- the instructions of the lines that have an owner, in order
abbrev pub owned_instrs : List Line → List Instr
owned_instrs lines = flat_map (λ line. instr_owned line.owner line.instr) lines

-- how many lines the operation of a slot owns
abbrev pub owned_count : Source → Slot → ℕ
owned_count program slot = length (mnemonics_of program slot.op slot.template)

-- The slots own the instructions in order. One of which the rule speaks owns a single one: the first that is left.
abbrev pub keep_rule : Source → List Slot → List Instr → Bool
keep_rule program [] owned = true
keep_rule program (slot ∷ slots) owned =
    option_map_or (keeps_rule program slot) (slice_get owned 0) true
    && keep_rule program slots (drop (owned_count program slot) owned)
