-- The table of blocks: the lines that carry out an operation by one of its templates. A block loads the operands into
-- registers, computes there, and stores the results. The instructions are those of the Intel Software Developer's
-- Manual, volume 2, each under its own name.
use Rattle.std.specs.Prelude.{ℕ, ◌+◌, ◌-◌, List, [], ◌∷◌, ◌++◌, Some, pos, negsuc, slice_get}
use Rattle.std.specs.Prelude.{length, map, slice_index_or}
use Rattle.std.specs.List.{flat_map, range_with_len}
use Rattle.std.specs.Option.{option_map_or}
use Rattle.word_operations.specs.declared.kind.Kind.{Kind}
use Rattle.word_operations.specs.declared.kind.Kind.TheVariants as kinds
use Rattle.word_program.specs.declared.operation.Op.{Op}
use Rattle.word_program.specs.declared.operation.Operand.{Operand}
use Rattle.word_program.specs.declared.operation.Operand.TheVariants as operands
use Rattle.word_program.specs.declared.operation.Target.{Target}
use Rattle.word_program.specs.declared.operation.Target.TheVariants as targets
use Rattle.word_program.specs.Program.{Source}
use Rattle.x86_instr.specs.declared.operand.Reg.{Reg}
use Rattle.x86_instr.specs.declared.operand.Reg.TheVariants.{Rax, Rcx, Rdx, R10, R11}
use Rattle.x86_instr.specs.declared.operand.Mem.{Mem}
use Rattle.x86_instr.specs.declared.operand.Rm.TheVariants as rms
use Rattle.x86_instr.specs.declared.operand.Src.TheVariants as srcs
use Rattle.x86_instr.specs.declared.instr.Bin.{Bin}
use Rattle.x86_instr.specs.declared.instr.Bin.TheVariants as bins
use Rattle.x86_instr.specs.declared.instr.Un.TheVariants as uns
use Rattle.x86_instr.specs.declared.instr.Cond.{Cond}
use Rattle.x86_instr.specs.declared.instr.Cond.TheVariants as conds
use Rattle.x86_instr.specs.declared.instr.Instr.{Instr}
use Rattle.x86_instr.specs.declared.instr.Instr.TheVariants as instrs
use Rattle.x86_instr.specs.declared.line.Line.{Line}
use Rattle.dependency_graph.specs.Needs.{first_value}
use Rattle.op_order.specs.declared.slot.Slot.{Slot}
use Rattle.plain_lower.specs.Frame.{unowned, owned, load, store}

-- ---- loads and stores of a row

-- a register, and the place of the operand that is loaded into it, or of the result that is in it
abbrev pub Place : Type 0
Place = Reg × ℕ

-- a carry, borrow or condition and two words
abbrev pub bit_and_two : List Place
bit_and_two = (R10, 0) ∷ (Rax, 1) ∷ (Rcx, 2) ∷ []

-- the two words behind a carry or borrow that is 0
abbrev pub last_two : List Place
last_two = (Rax, 1) ∷ (Rcx, 2) ∷ []

abbrev pub two : List Place
two = (Rax, 0) ∷ (Rcx, 1) ∷ []

-- two factors, of which `mulx` takes the first one from `rdx`
abbrev pub factors : List Place
factors = (Rdx, 0) ∷ (Rcx, 1) ∷ []

abbrev pub one : List Place
one = (Rax, 0) ∷ []

abbrev pub in_rax : List Place
in_rax = (Rax, 0) ∷ []

abbrev pub in_rax_and : Reg → List Place
in_rax_and second = (Rax, 0) ∷ (second, 1) ∷ []

-- ---- instructions of a row

-- `op rax, rcx`
abbrev pub bin : Bin → Instr
bin op = instrs.Bin op Rax (srcs.Reg Rcx)

-- `adcx rax, rcx` and `adox rax, rcx`
abbrev pub adcx : Instr
adcx = instrs.Adcx Rax (rms.Reg Rcx)

abbrev pub adox : Instr
adox = instrs.Adox Rax (rms.Reg Rcx)

-- `mulx r10, rax, rcx`, `mul rcx` and `imul rax, rcx`
abbrev pub mulx : Instr
mulx = instrs.Mulx R10 Rax (rms.Reg Rcx)

abbrev pub mul : Instr
mul = instrs.Mul (rms.Reg Rcx)

abbrev pub imul : Instr
imul = instrs.Imul Rax (rms.Reg Rcx)

-- `not rax` and `mov rax, rcx`
abbrev pub flip : Instr
flip = instrs.Un uns.Not Rax

abbrev pub copy : Instr
copy = instrs.Mov Rax (rms.Reg Rcx)

-- `shlx dst, dst, count` and `shrx dst, dst, count`
abbrev pub shlx : Reg → Reg → Instr
shlx dst count = instrs.Shlx dst (rms.Reg dst) count

abbrev pub shrx : Reg → Reg → Instr
shrx dst count = instrs.Shrx dst (rms.Reg dst) count

-- `lea dst, [dst + src*1]`
abbrev pub sum_of : Reg → Reg → Mem
sum_of base index = record { base = base; index = Some (record { reg = index; scale = 1 }); disp = pos 0 }

abbrev pub lea : Reg → Reg → Instr
lea dst src = instrs.Lea dst (sum_of dst src)

-- `mov dst, n`
abbrev pub set : Reg → ℕ → Instr
set dst n = instrs.MovImm dst n

-- `rcx` into `rax` where a condition holds
abbrev pub cmov : Cond → Instr
cmov cond = instrs.Cmov cond Rax (rms.Reg Rcx)

-- ---- the middle of a row, by the number of the operation

-- one line, which the operation owns
abbrev pub alone : Instr → ℕ → List Line
alone instr op = owned op instr ∷ []

-- a carry or borrow in `r10` that is a bit becomes the carry flag
abbrev pub carry_in : Line
carry_in = unowned (instrs.Bin bins.Add R10 (srcs.Imm (negsuc 0)))

-- a flag becomes the word 0 or 1 in `r10`
abbrev pub flag_out : Cond → List Line
flag_out cond = unowned (instrs.Set cond R10) ∷ unowned (instrs.Movzx R10 R10) ∷ []

abbrev pub with_carry_out : Instr → ℕ → List Line
with_carry_out instr op = owned op instr ∷ flag_out conds.C

abbrev pub with_carries : Instr → ℕ → List Line
with_carries instr op = carry_in ∷ with_carry_out instr op

-- The carry becomes the overflow flag: 2^63 - 1 with 1 more overflows, and 2^63 - 2 with 1 more does not.
abbrev pub overflow_in : List Line
overflow_in =
    unowned (set R11 9223372036854775806)
    ∷ unowned (lea R10 R11)
    ∷ unowned (instrs.Un uns.Inc R10)
    ∷ []

abbrev pub with_overflows : ℕ → List Line
with_overflows op = overflow_in ++ owned op adox ∷ flag_out conds.O

-- an instruction behind a count that it takes from a register
abbrev pub by_count : Reg → ℕ → Instr → ℕ → List Line
by_count src count instr op = unowned (set src count) ∷ owned op instr ∷ []

-- the low word's high bits and the high word's low bits, joined
abbrev pub shifted_double : ℕ → ℕ → List Line
shifted_double count op =
    by_count R10 count (shrx Rax R10) op
    ++ (by_count R10 (64 - count) (shlx Rcx R10) op ++ owned op (lea Rax Rcx) ∷ [])

abbrev pub chosen_by_test : ℕ → List Line
chosen_by_test op = owned op (instrs.Test R10 R10) ∷ owned op (cmov conds.Nz) ∷ []

abbrev pub chosen_by_carry : ℕ → List Line
chosen_by_carry op = carry_in ∷ owned op (cmov conds.C) ∷ []

-- ---- the table

-- which operands are loaded into which registers; the lines behind them; and which results are in which registers
pub record Row : Type 0 where
  pub loads : List Place
  pub middle : ℕ → List Line
  pub saves : List Place

abbrev pub row : List Place → (ℕ → List Line) → List Place → Row
row loads middle saves = record { loads = loads; middle = middle; saves = saves }

-- no line
abbrev pub no_row : Row
no_row = row [] (λ op. []) []

-- The blocks of each kind of operation, in the order of the rows of its templates. Those of a carry or borrow that
-- has to be the literal 0 do not load it.
abbrev pub rows_of : Kind → List Row
rows_of kinds.AddCarry =
    row bit_and_two (with_carries (bin bins.Adc)) (in_rax_and R10)
    ∷ row bit_and_two (with_carries adcx) (in_rax_and R10)
    ∷ row bit_and_two with_overflows (in_rax_and R10)
    ∷ row last_two (with_carry_out (bin bins.Add)) (in_rax_and R10)
    ∷ row last_two (alone (lea Rax Rcx)) in_rax
    ∷ []
rows_of kinds.SubBorrow =
    row bit_and_two (with_carries (bin bins.Sbb)) (in_rax_and R10)
    ∷ row last_two (with_carry_out (bin bins.Sub)) (in_rax_and R10)
    ∷ []
rows_of kinds.MulX =
    row factors (alone mulx) (in_rax_and R10)
    ∷ row two (alone mul) (in_rax_and Rdx)
    ∷ []
rows_of kinds.Mul =
    row two (alone imul) in_rax
    ∷ row factors (alone mulx) in_rax
    ∷ []
rows_of kinds.Add =
    row two (alone (bin bins.Add)) in_rax
    ∷ row two (alone (lea Rax Rcx)) in_rax
    ∷ []
rows_of kinds.Sub = row two (alone (bin bins.Sub)) in_rax ∷ []
rows_of kinds.And = row two (alone (bin bins.And)) in_rax ∷ []
rows_of kinds.Or = row two (alone (bin bins.Or)) in_rax ∷ []
rows_of kinds.Xor = row two (alone (bin bins.Xor)) in_rax ∷ []
rows_of kinds.Not = row one (alone flip) in_rax ∷ []
rows_of kinds.Copy = row ((Rcx, 0) ∷ []) (alone copy) in_rax ∷ []
rows_of (kinds.Shl count) =
    row one (alone (instrs.Shl Rax count)) in_rax
    ∷ row one (by_count Rcx count (shlx Rax Rcx)) in_rax
    ∷ []
rows_of (kinds.Shr count) =
    row one (alone (instrs.Shr Rax count)) in_rax
    ∷ row one (by_count Rcx count (shrx Rax Rcx)) in_rax
    ∷ []
rows_of (kinds.Shrd count) =
    row two (alone (instrs.Shrd Rax Rcx count)) in_rax
    ∷ row two (shifted_double count) in_rax
    ∷ []
rows_of kinds.CMov =
    row bit_and_two chosen_by_test in_rax
    ∷ row bit_and_two chosen_by_carry in_rax
    ∷ []

-- the block of a template by its number: the rows of templates that may be missing stand last, so its row's is the same
unfoldable pub row_of : Kind → ℕ → Row
row_of kind template = slice_index_or (rows_of kind) template no_row

-- ---- blocks

-- the value number of the first result of each operation
unfoldable pub firsts_of : Source → List ℕ
firsts_of program = map (first_value program) (range_with_len 0 (length program.ops))

abbrev pub arg_at : Op → ℕ → Operand
arg_at op place = slice_index_or op.args place (operands.Literal 0)

abbrev pub target_at : Op → ℕ → Target
target_at op place = slice_index_or op.targets place targets.Unused

-- the operands of an operation into registers
abbrev pub load_all : Source → Op → List Place → List Line
load_all program op loads = flat_map (λ l. load program l.0 (arg_at op l.1)) loads

-- the results of an operation, of which the first one is the value with this number, out of registers
abbrev pub store_all : Source → ℕ → Op → List Place → List Line
store_all program value op saves = flat_map (λ s. store program (value + s.1) (target_at op s.1) s.0) saves

-- the block of the operation with this number
abbrev pub block_of : Source → ℕ → Row → Op → List Line
block_of program number row op =
    load_all program op row.loads
    ++ (row.middle number ++ store_all program (first_value program number) op row.saves)

-- the block of a slot
unfoldable pub block : Source → Slot → List Line
block program slot =
    option_map_or (λ op. block_of program slot.op (row_of op.kind slot.template) op) (slice_get program.ops slot.op) []
