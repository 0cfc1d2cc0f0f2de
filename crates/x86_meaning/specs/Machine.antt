-- The machine: its states, and the state that an instruction leads to. Each instruction's row follows the
-- Intel Software Developer's Manual, volume 2, under the instruction's name, at 64-bit operand size. An
-- undefined flag may have any value, so reading one is stuck, and so is an access outside the memory. Flags
-- that the manual defines only for some operands are undefined here for all: those of IMUL, and the overflow
-- flag of shifts.
use Rattle.std.specs.Prelude.{◌≡◌, ℕ, ◌+◌, ◌-◌, ◌*◌, ◌/◌, ◌%◌, ◌^◌, ◌<◌, Bool, false, not, ◌&&◌, ◌==◌, nat_lt, nat_le}
use Rattle.std.specs.Prelude.{length, Option, Some, None, is_some, IsSome, IfSome, slice_index, slice_set}
use Rattle.std.specs.Prelude.{if◌then◌else◌, option_map, option_and_then, bit_and, bit_or, bit_xor}
use Rattle.std.specs.Int.{cast_unsigned, w64}
use Rattle.std.specs.Ordering.{nat_cmp}
use Rattle.std.specs.FinMap as map
use Rattle.x86_instr.specs.declared.operand.Reg.{Reg}
use Rattle.x86_instr.specs.declared.operand.Reg.TheVariants.{Rax, Rdx}
use Rattle.x86_instr.specs.declared.operand.Index.{Index}
use Rattle.x86_instr.specs.declared.operand.Mem.{Mem}
use Rattle.x86_instr.specs.declared.operand.Rm.{Rm}
use Rattle.x86_instr.specs.declared.operand.Rm.TheVariants as rms
use Rattle.x86_instr.specs.declared.operand.Src.{Src}
use Rattle.x86_instr.specs.declared.operand.Src.TheVariants as srcs
use Rattle.x86_instr.specs.declared.instr.Cond.{Cond}
use Rattle.x86_instr.specs.declared.instr.Cond.TheVariants as conds
use Rattle.x86_instr.specs.declared.instr.Bin.{Bin}
use Rattle.x86_instr.specs.declared.instr.Bin.TheVariants.{Add, Adc, Sub, Sbb, And, Or, Xor, Cmp}
use Rattle.x86_instr.specs.declared.instr.Un.{Un}
use Rattle.x86_instr.specs.declared.instr.Un.TheVariants.{Inc, Dec, Neg, Not}
use Rattle.x86_instr.specs.declared.instr.Instr.{Instr}
use Rattle.x86_instr.specs.declared.instr.Instr.TheVariants as instrs
use Rattle.x86_instr.specs.Registers.{number_of}
use Rattle.x86_meaning.specs.declared.state.State.{State}

-- ---- states: sixteen registers by number; three flags, where None is undefined; the memory

-- a finite map from addresses to the words there
abbrev pub Cells : Type 0
Cells = map.FinMap nat_cmp ℕ

abbrev pub reg : State → Reg → ℕ
reg s r = slice_index s.regs (number_of r)

abbrev pub IsWord : ℕ → Type 0
IsWord n = n < 2 ^ 64

-- sixteen words in the registers, and words at multiples of 8 in the memory
pub record IsState (s : State) : Type 0 where
  pub sixteen : length s.regs ≡ 16
  pub registers : (r : Reg) → IsWord (reg s r)
  pub addresses : (address : ℕ) → IsSome (map.get s.cells address) → IsWord address × (address % 8 ≡ 0)
  pub words : (address : ℕ) → IfSome (map.get s.cells address) IsWord

-- ---- reads and writes

abbrev pub with_reg : Reg → ℕ → State → State
with_reg r word s = record s { regs = slice_set s.regs (number_of r) word }

abbrev pub index_word : State → Option Index → ℕ
index_word s None = 0
index_word s (Some index) = reg s index.reg * index.scale

abbrev pub effective_address : State → Mem → ℕ
effective_address s mem = (reg s mem.base + index_word s mem.index + cast_unsigned w64 mem.disp) % 2 ^ 64

-- the word at an address of the memory
abbrev pub loaded : State → ℕ → Option ℕ
loaded s address = map.get s.cells address

-- the state with another word at an address of the memory
abbrev pub stored : ℕ → ℕ → State → Option State
stored address word s = if is_some (map.get s.cells address) then
    Some (record s { cells = map.insert s.cells address word }) else None

abbrev pub rm_word : State → Rm → Option ℕ
rm_word s (rms.Reg r) = Some (reg s r)
rm_word s (rms.Mem mem) = loaded s (effective_address s mem)

abbrev pub src_word : State → Src → Option ℕ
src_word s (srcs.Reg r) = Some (reg s r)
src_word s (srcs.Mem mem) = loaded s (effective_address s mem)
src_word s (srcs.Imm n) = Some (cast_unsigned w64 n)

-- whether a condition holds, where its flag is defined
abbrev pub condition_holds : State → Cond → Option Bool
condition_holds s conds.O = s.of
condition_holds s conds.No = option_map (λ b. not b) s.of
condition_holds s conds.C = s.cf
condition_holds s conds.Nc = option_map (λ b. not b) s.cf
condition_holds s conds.Z = s.zf
condition_holds s conds.Nz = option_map (λ b. not b) s.zf

-- ---- arithmetic

abbrev pub bit : Bool → ℕ
bit b = if b then 1 else 0

-- whether the bit with this number is set
abbrev pub has_bit : ℕ → ℕ → Bool
has_bit word k = word / 2 ^ k % 2 == 1

-- A word read as a signed number is `biased word - 2^63`. So where a sum or a difference of such numbers
-- is `n - 2^64`, it fits 64 bits with its sign exactly where `n` lies from 2^63 to 3 * 2^63 - 1.
abbrev pub biased : ℕ → ℕ
biased word = (word + 2 ^ 63) % 2 ^ 64

abbrev pub overflows : ℕ → Bool
overflows n = not (nat_le (2 ^ 63) n && nat_lt n (3 * 2 ^ 63))

-- the sum of two words and a carry in a register, and its flags
abbrev pub sum_into : Reg → ℕ → ℕ → ℕ → State → State
sum_into dst d b carry s = let r = (d + b + carry) % 2 ^ 64 in record {
  regs = slice_set s.regs (number_of dst) r;
  cf = Some (nat_le (2 ^ 64) (d + b + carry));
  of = Some (overflows (biased d + biased b + carry));
  zf = Some (r == 0);
  cells = s.cells;
}

-- the first word less the second and a borrow in a register, and its flags
abbrev pub difference_into : Reg → ℕ → ℕ → ℕ → State → State
difference_into dst d b borrow s = let r = (d + 2 ^ 64 - (b + borrow)) % 2 ^ 64 in record {
  regs = slice_set s.regs (number_of dst) r;
  cf = Some (nat_lt d (b + borrow));
  of = Some (overflows (biased d + 2 ^ 64 - (biased b + borrow)));
  zf = Some (r == 0);
  cells = s.cells;
}

-- the flags of the first word less the second
abbrev pub compared : ℕ → ℕ → State → State
compared d b s = record {
  regs = s.regs;
  cf = Some (nat_lt d b);
  of = Some (overflows (biased d + 2 ^ 64 - biased b));
  zf = Some ((d + 2 ^ 64 - b) % 2 ^ 64 == 0);
  cells = s.cells;
}

-- the flags of a word that was computed bit by bit
abbrev pub with_logic_flags : ℕ → State → State
with_logic_flags r s = record { regs = s.regs; cf = Some false; of = Some false; zf = Some (r == 0); cells = s.cells }

-- a register and the flags of a shift by a count from 1 to 63, given the bit shifted out last
abbrev pub shift_into : Reg → ℕ → Bool → State → State
shift_into dst r out s = record {
  regs = slice_set s.regs (number_of dst) r;
  cf = Some out;
  of = None;
  zf = Some (r == 0);
  cells = s.cells;
}

-- a register, with the flags that INC and DEC write: all but the carry
abbrev pub count_into : Reg → ℕ → Bool → State → State
count_into dst r overflow s = record {
  regs = slice_set s.regs (number_of dst) r;
  cf = s.cf;
  of = Some overflow;
  zf = Some (r == 0);
  cells = s.cells;
}

-- ---- rows that several instructions share

-- ADD, ADC, SUB, SBB, AND, OR, XOR, CMP
abbrev pub bin_into : Bin → Reg → ℕ → State → Option State
bin_into Add dst b s = Some (sum_into dst (reg s dst) b 0 s)
bin_into Adc dst b s = option_map (λ carry. sum_into dst (reg s dst) b (bit carry) s) s.cf
bin_into Sub dst b s = Some (difference_into dst (reg s dst) b 0 s)
bin_into Sbb dst b s = option_map (λ borrow. difference_into dst (reg s dst) b (bit borrow) s) s.cf
bin_into And dst b s = let r = bit_and (reg s dst) b in Some (with_logic_flags r (with_reg dst r s))
bin_into Or dst b s = let r = bit_or (reg s dst) b in Some (with_logic_flags r (with_reg dst r s))
bin_into Xor dst b s = let r = bit_xor (reg s dst) b in Some (with_logic_flags r (with_reg dst r s))
bin_into Cmp dst b s = Some (compared (reg s dst) b s)

-- INC, DEC, NEG, NOT
abbrev pub un_into : Un → Reg → ℕ → State → State
un_into Inc dst d s = count_into dst ((d + 1) % 2 ^ 64) (d == 2 ^ 63 - 1) s
un_into Dec dst d s = count_into dst ((d + 2 ^ 64 - 1) % 2 ^ 64) (d == 2 ^ 63) s
un_into Neg dst d s = let r = (2 ^ 64 - d) % 2 ^ 64 in record {
  regs = slice_set s.regs (number_of dst) r;
  cf = Some (not (d == 0));
  of = Some (d == 2 ^ 63);
  zf = Some (r == 0);
  cells = s.cells;
}
un_into Not dst d s = with_reg dst (2 ^ 64 - 1 - d) s

-- ADCX: the sum with the carry flag, which takes the sum's carry; no other flag changes
abbrev pub adcx_into : Reg → ℕ → ℕ → State → State
adcx_into dst b carry s = let sum = reg s dst + b + carry in record {
  regs = slice_set s.regs (number_of dst) (sum % 2 ^ 64);
  cf = Some (nat_le (2 ^ 64) sum);
  of = s.of;
  zf = s.zf;
  cells = s.cells;
}

-- ADOX: the same with the overflow flag
abbrev pub adox_into : Reg → ℕ → ℕ → State → State
adox_into dst b carry s = let sum = reg s dst + b + carry in record {
  regs = slice_set s.regs (number_of dst) (sum % 2 ^ 64);
  cf = s.cf;
  of = Some (nat_le (2 ^ 64) sum);
  zf = s.zf;
  cells = s.cells;
}

-- MULX: the low word is written before the high one, which stays where both registers are the same
abbrev pub mulx_into : Reg → Reg → ℕ → State → State
mulx_into hi lo n s = with_reg hi (n / 2 ^ 64) (with_reg lo (n % 2 ^ 64) s)

-- MUL
abbrev pub mul_into : ℕ → State → State
mul_into n s = let high = not (n / 2 ^ 64 == 0) in record {
  regs = slice_set (slice_set s.regs (number_of Rdx) (n / 2 ^ 64)) (number_of Rax) (n % 2 ^ 64);
  cf = Some high;
  of = Some high;
  zf = None;
  cells = s.cells;
}

-- IMUL with two operands
abbrev pub imul_into : Reg → ℕ → State → State
imul_into dst n s = record {
  regs = slice_set s.regs (number_of dst) (n % 2 ^ 64);
  cf = None;
  of = None;
  zf = None;
  cells = s.cells;
}

-- SETcc: the low byte alone is written
abbrev pub set_into : Reg → Bool → State → State
set_into dst b s = with_reg dst (256 * (reg s dst / 256) + bit b) s

-- CMOVcc: the source was read in any case
abbrev pub cmov_into : Reg → ℕ → Bool → State → State
cmov_into dst word b s = with_reg dst (if b then word else reg s dst) s

-- SHRD: the low word moves to the right, and the high one fills it up
abbrev pub funnel : ℕ → ℕ → ℕ → ℕ
funnel low high k = low / 2 ^ k + high * 2 ^ (64 - k) % 2 ^ 64

-- ---- steps

-- The state after an instruction, or None where the instruction is stuck. `ret` ends a run, and changes
-- nothing. In order: MOV, MOV, MOV, LEA, (`bin_into`), TEST, (`un_into`), ADCX, ADOX, MULX, MUL, IMUL, SHL,
-- SHR, SHRD, SHLX, SHRX, SETcc, MOVZX, CMOVcc, CLC, RET.
abbrev pub step_of : Instr → State → Option State
step_of (instrs.Mov dst src) s = option_map (λ word. with_reg dst word s) (rm_word s src)
step_of (instrs.MovImm dst imm) s = Some (with_reg dst (imm % 2 ^ 64) s)
step_of (instrs.Store mem src) s = stored (effective_address s mem) (reg s src) s
step_of (instrs.Lea dst mem) s = Some (with_reg dst (effective_address s mem) s)
step_of (instrs.Bin op dst src) s = option_and_then (λ word. bin_into op dst word s) (src_word s src)
step_of (instrs.Test a b) s = Some (with_logic_flags (bit_and (reg s a) (reg s b)) s)
step_of (instrs.Un op dst) s = Some (un_into op dst (reg s dst) s)
step_of (instrs.Adcx dst src) s = option_and_then (λ word. option_map (λ carry. adcx_into dst word (bit carry) s) s.cf)
    (rm_word s src)
step_of (instrs.Adox dst src) s = option_and_then (λ word. option_map (λ carry. adox_into dst word (bit carry) s) s.of)
    (rm_word s src)
step_of (instrs.Mulx hi lo src) s = option_map (λ word. mulx_into hi lo (reg s Rdx * word) s) (rm_word s src)
step_of (instrs.Mul src) s = option_map (λ word. mul_into (reg s Rax * word) s) (rm_word s src)
step_of (instrs.Imul dst src) s = option_map (λ word. imul_into dst (reg s dst * word) s) (rm_word s src)
step_of (instrs.Shl dst by) s = Some (shift_into dst (reg s dst * 2 ^ by % 2 ^ 64) (has_bit (reg s dst) (64 - by)) s)
step_of (instrs.Shr dst by) s = Some (shift_into dst (reg s dst / 2 ^ by) (has_bit (reg s dst) (by - 1)) s)
step_of (instrs.Shrd dst src by) s = Some
    (shift_into dst (funnel (reg s dst) (reg s src) by) (has_bit (reg s dst) (by - 1)) s)
step_of (instrs.Shlx dst src count) s = option_map (λ word. with_reg dst (word * 2 ^ (reg s count % 64) % 2 ^ 64) s)
    (rm_word s src)
step_of (instrs.Shrx dst src count) s = option_map (λ word. with_reg dst (word / 2 ^ (reg s count % 64)) s)
    (rm_word s src)
step_of (instrs.Set cond dst) s = option_map (λ b. set_into dst b s) (condition_holds s cond)
step_of (instrs.Movzx dst src) s = Some (with_reg dst (reg s src % 256) s)
step_of (instrs.Cmov cond dst src) s = option_and_then
    (λ word. option_map (λ b. cmov_into dst word b s) (condition_holds s cond)) (rm_word s src)
step_of instrs.Clc s = Some (record s { cf = Some false })
step_of instrs.Ret s = Some s
