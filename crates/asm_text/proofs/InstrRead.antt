-- An instruction that is written by the grammar is read.
use Rattle.std.proofs.Common.{◌≡◌, ℕ, true, List, [], Some, None, codes, refl, sym, ap, ◌∙◌, ◌∷◌}
use Rattle.x86_instr.specs.declared.operand.Reg.{Reg}
use Rattle.x86_instr.specs.declared.operand.Mem.{Mem}
use Rattle.x86_instr.specs.declared.operand.Rm.{Rm}
use Rattle.x86_instr.specs.declared.operand.Src.{Src}
use Rattle.x86_instr.specs.declared.instr.Instr.{Instr}
use Rattle.x86_instr.specs.declared.instr.Instr.TheVariants as instrs
use Rattle.x86_instr.specs.Mnemonics.{mnemonic_of}
use Rattle.asm_tokens.specs.Tokens.{Token, is_spaced}
use Rattle.asm_operands.specs.Names.{mnemonic_text}
use Rattle.asm_operands.specs.Grammar.{IsToken, IsRegister, IsByteRegister, IsMemory, IsRm, IsSrc, IsWide, IsCount}
use Rattle.asm_operands.proofs.NamesBack.{mnemonic_back}
use Rattle.asm_operands.proofs.GrammarRead.{token_read, register_read, byte_register_read, memory_read}
use Rattle.asm_operands.proofs.GrammarRead.{memory_no_register, rm_read, wide_no_rm, src_read, wide_read, count_read}
use Rattle.asm_text.specs.Instructions.{operands, register_comma, destination, last_register, last_byte_register}
use Rattle.asm_text.specs.Instructions.{last_memory, last_rm, last_src, last_count, last_wide, mov_to_register, store}
use Rattle.asm_text.specs.Instructions.{mov, lea, bin, test_row, un, register_rm, adcx, adox, mulx, mul, imul}
use Rattle.asm_text.specs.Instructions.{register_count, shl, shr, shrd, counted, shlx, shrx, set, movzx, cmov, plain}
use Rattle.asm_text.specs.Instructions.{instr_named, instr_in}
use Rattle.asm_text.specs.Grammar.{AreOperands, IsParted, operands_of, register, register_or_memory, count, IsInstr}
use Rattle.asm_text.proofs.InstrBack.{bin_row, un_row, set_row, cmov_row}

-- ---- operands

register_comma_read : (ts : List Token) (r : Reg) (a b : List Token) → IsRegister ts r a → IsToken (codes ",") a b
    → register_comma ts ≡ Some (r, b)
unfolding register_comma
register_comma_read ts r a b k l = rw (register_read ts r a k, token_read (codes ",") a b l) refl

operands_read : (ts : List Token) → is_spaced ts ≡ true → operands ts ≡ Some ts
unfolding operands
operands_read ts spaced = rw spaced refl

destination_read : (ts : List Token) (r : Reg) (a b : List Token) → is_spaced ts ≡ true → IsRegister ts r a
    → IsToken (codes ",") a b → destination ts ≡ Some (r, b)
unfolding destination
destination_read ts r a b spaced k l = rw (operands_read ts spaced) (register_comma_read ts r a b k l)

last_register_read : (ts : List Token) (r : Reg) → IsRegister ts r [] → last_register ts ≡ Some r
unfolding last_register
last_register_read ts r k = rw (register_read ts r [] k) refl

last_byte_register_read : (ts : List Token) (r : Reg) → IsByteRegister ts r [] → last_byte_register ts ≡ Some r
unfolding last_byte_register
last_byte_register_read ts r k = rw (byte_register_read ts r [] k) refl

last_memory_read : (ts : List Token) (mem : Mem) → IsMemory ts mem [] → last_memory ts ≡ Some mem
unfolding last_memory
last_memory_read ts mem k = rw (memory_read ts mem [] k) refl

last_rm_read : (ts : List Token) (s : Rm) → IsRm ts s [] → last_rm ts ≡ Some s
unfolding last_rm
last_rm_read ts s k = rw (rm_read ts s [] k) refl

last_src_read : (ts : List Token) (s : Src) → IsSrc ts s [] → last_src ts ≡ Some s
unfolding last_src
last_src_read ts s k = rw (src_read ts s [] k) refl

last_count_read : (ts : List Token) (n : ℕ) → IsCount ts n [] → last_count ts ≡ Some n
unfolding last_count
last_count_read ts n k = rw (count_read ts n [] k) refl

last_wide_read : (ts : List Token) (n : ℕ) → IsWide ts n [] → last_wide ts ≡ Some n
unfolding last_wide
last_wide_read ts n k = rw (wide_read ts n [] k) refl

last_wide_no_rm : (ts : List Token) (n : ℕ) → IsWide ts n [] → last_rm ts ≡ None
unfolding last_rm
last_wide_no_rm ts n k = rw (wide_no_rm ts n [] k) refl

register_rm_read : (ts : List Token) (dst : Reg) (src : Rm) → is_spaced ts ≡ true
    → AreOperands ts (register dst ∷ register_or_memory src ∷ []) → register_rm ts ≡ Some (dst, src)
unfolding register_rm
register_rm_read ts dst src spaced k = rw
    (destination_read ts dst k.behind k.next spaced k.first k.comma, last_rm_read k.next src k.more) refl

register_count_read : (ts : List Token) (dst : Reg) (by : ℕ) → is_spaced ts ≡ true
    → AreOperands ts (register dst ∷ count by ∷ []) → register_count ts ≡ Some (dst, by)
unfolding register_count
register_count_read ts dst by spaced k = rw
    (destination_read ts dst k.behind k.next spaced k.first k.comma, last_count_read k.next by k.more) refl

counted_read : (ts : List Token) (dst : Reg) (src : Rm) (by : Reg) → is_spaced ts ≡ true
    → AreOperands ts (register dst ∷ register_or_memory src ∷ register by ∷ []) → counted ts ≡ Some (dst, src, by)
unfolding counted
counted_read ts dst src by spaced k =
    rw (
      destination_read ts dst k.behind k.next spaced k.first k.comma,
      rm_read k.next src k.more.behind k.more.first,
      token_read (codes ",") k.more.behind k.more.next k.more.comma,
      last_register_read k.more.next by k.more.more,
    ) refl

-- ---- instructions

-- memory is no destination
memory_no_destination : (ts : List Token) (mem : Mem) (rest : List Token) → IsMemory ts mem rest → is_spaced ts ≡ true
    → destination ts ≡ None
unfolding destination register_comma
memory_no_destination ts mem rest k spaced = rw (operands_read ts spaced, memory_no_register ts mem rest k) refl

row_read : (i : Instr) (ts : List Token) → IsParted (operands_of i) ts → AreOperands ts (operands_of i)
    → instr_named (mnemonic_of i) ts ≡ Some i
unfolding instr_named mov mov_to_register store lea bin test_row un adcx adox mulx mul imul shl shr shrd shlx shrx set
    movzx cmov plain
row_read (instrs.Mov dst src) ts spaced k =
    rw (destination_read ts dst k.behind k.next spaced k.first k.comma, last_rm_read k.next src k.more) refl
row_read (instrs.MovImm dst imm) ts spaced k =
    rw (
      destination_read ts dst k.behind k.next spaced k.first k.comma,
      last_wide_no_rm k.next imm k.more,
      last_wide_read k.next imm k.more,
    ) refl
row_read (instrs.Store mem src) ts spaced k =
    rw (
      memory_no_destination ts mem k.behind k.first spaced,
      operands_read ts spaced,
      memory_read ts mem k.behind k.first,
      token_read (codes ",") k.behind k.next k.comma,
      last_register_read k.next src k.more,
    ) refl
row_read (instrs.Lea dst mem) ts spaced k =
    rw (destination_read ts dst k.behind k.next spaced k.first k.comma, last_memory_read k.next mem k.more) refl
row_read (instrs.Bin op dst src) ts spaced k =
    bin_row op ts ∙ rw (
      destination_read ts dst k.behind k.next spaced k.first k.comma,
      last_src_read k.next src k.more,
    ) refl
row_read (instrs.Test a b) ts spaced k = rw
    (destination_read ts a k.behind k.next spaced k.first k.comma, last_register_read k.next b k.more) refl
row_read (instrs.Un op dst) ts spaced k = un_row op ts ∙ rw (operands_read ts spaced, last_register_read ts dst k) refl
row_read (instrs.Adcx dst src) ts spaced k = rw (register_rm_read ts dst src spaced k) refl
row_read (instrs.Adox dst src) ts spaced k = rw (register_rm_read ts dst src spaced k) refl
row_read (instrs.Mulx hi lo src) ts spaced k =
    rw (
      destination_read ts hi k.behind k.next spaced k.first k.comma,
      register_comma_read k.next lo k.more.behind k.more.next k.more.first k.more.comma,
      last_rm_read k.more.next src k.more.more,
    ) refl
row_read (instrs.Mul src) ts spaced k = rw (operands_read ts spaced, last_rm_read ts src k) refl
row_read (instrs.Imul dst src) ts spaced k = rw (register_rm_read ts dst src spaced k) refl
row_read (instrs.Shl dst by) ts spaced k = rw (register_count_read ts dst by spaced k) refl
row_read (instrs.Shr dst by) ts spaced k = rw (register_count_read ts dst by spaced k) refl
row_read (instrs.Shrd dst src by) ts spaced k =
    rw (
      destination_read ts dst k.behind k.next spaced k.first k.comma,
      register_comma_read k.next src k.more.behind k.more.next k.more.first k.more.comma,
      last_count_read k.more.next by k.more.more,
    ) refl
row_read (instrs.Shlx dst src by) ts spaced k = rw (counted_read ts dst src by spaced k) refl
row_read (instrs.Shrx dst src by) ts spaced k = rw (counted_read ts dst src by spaced k) refl
row_read (instrs.Set cond dst) ts spaced k =
    set_row cond ts ∙ rw (operands_read ts spaced, last_byte_register_read ts dst k) refl
row_read (instrs.Movzx dst src) ts spaced k =
    rw (destination_read ts dst k.behind k.next spaced k.first k.comma, last_byte_register_read k.next src k.more) refl
row_read (instrs.Cmov cond dst src) ts spaced k = cmov_row cond ts ∙ rw (register_rm_read ts dst src spaced k) refl
row_read instrs.Clc ts spaced k = rw k refl
row_read instrs.Ret ts spaced k = rw k refl

at_mnemonic : (ts rest : List Token) (i : Instr) → IsToken (mnemonic_text (mnemonic_of i)) ts rest
    → instr_named (mnemonic_of i) rest ≡ Some i → instr_in ts ≡ Some i
unfolding instr_in
at_mnemonic ts rest i k e = ap instr_in k.is ∙ rw (sym k.spelled, mnemonic_back (mnemonic_of i)) e

pub instr_read : (ts : List Token) (i : Instr) → IsInstr ts i → instr_in ts ≡ Some i
instr_read ts i k = at_mnemonic ts k.rest i k.mnemonic (row_read i k.rest k.parted k.operands)
