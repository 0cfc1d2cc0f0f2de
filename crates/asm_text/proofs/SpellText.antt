-- The tokens of an instruction spell its text.
use Rattle.std.proofs.Common.{◌≡◌, ℕ, suc, zero, List, [], ◌∷◌, ◌++◌, Option, Some, None, ℤ, pos, negsuc, decimal, refl}
use Rattle.std.proofs.Common.{append_assoc}
use Rattle.x86_instr.specs.declared.operand.Index.{Index}
use Rattle.x86_instr.specs.declared.operand.Mem.{Mem}
use Rattle.x86_instr.specs.declared.operand.Rm.{Rm}
use Rattle.x86_instr.specs.declared.operand.Rm.TheVariants as rms
use Rattle.x86_instr.specs.declared.operand.Src.{Src}
use Rattle.x86_instr.specs.declared.operand.Src.TheVariants as srcs
use Rattle.x86_instr.specs.declared.instr.Instr.{Instr}
use Rattle.x86_instr.specs.declared.instr.Instr.TheVariants as instrs
use Rattle.asm_tokens.specs.Tokens.{Token}
use Rattle.asm_tokens.proofs.Spell.{spell}
use Rattle.asm_operands.specs.Names.{reg_text}
use Rattle.asm_text.specs.Assembly.{index_text, displacement_text, address_text, mem_text, rm_text, src_text, first}
use Rattle.asm_text.specs.Assembly.{next, operands_text, instr_text}
use Rattle.asm_text.proofs.Spelled.{disp_tokens, index_tokens, closing, address_tokens, mem_tokens, rm_tokens}
use Rattle.asm_text.proofs.Spelled.{src_tokens, operand_tokens, instr_tokens, reg_tokens, comma_tokens}

spell_disp : (d : ℤ) (rest : List Token) (tail : List ℕ)
    → spell (disp_tokens d rest) tail ≡ displacement_text d ++ spell rest tail
unfolding displacement_text
spell_disp (pos zero) rest tail = refl
spell_disp (pos (suc n)) rest tail = refl
spell_disp (negsuc n) rest tail = refl

spell_index : (i : Option Index) (rest : List Token) (tail : List ℕ)
    → spell (index_tokens i rest) tail ≡ index_text i ++ spell rest tail
unfolding index_text
spell_index None rest tail = refl
spell_index (Some i) rest tail = simp append_assoc

spell_address : (mem : Mem) (rest : List Token) (tail : List ℕ)
    → spell (address_tokens mem rest) tail ≡ 32 ∷ (address_text mem ++ spell rest tail)
unfolding address_text
spell_address mem rest tail = rw (
  spell_index mem.index (disp_tokens mem.disp (closing rest)) tail,
  spell_disp mem.disp (closing rest) tail,
) (simp append_assoc)

spell_mem : (mem : Mem) (rest : List Token) (tail : List ℕ)
    → spell (mem_tokens mem rest) tail ≡ 32 ∷ (mem_text mem ++ spell rest tail)
unfolding mem_text
spell_mem mem rest tail = rw (spell_address mem rest tail) (simp append_assoc)

spell_rm : (s : Rm) (rest : List Token) (tail : List ℕ)
    → spell (rm_tokens s rest) tail ≡ 32 ∷ (rm_text s ++ spell rest tail)
unfolding rm_text
spell_rm (rms.Reg r) rest tail = refl
spell_rm (rms.Mem mem) rest tail = spell_mem mem rest tail

spell_src : (s : Src) (rest : List Token) (tail : List ℕ)
    → spell (src_tokens s rest) tail ≡ 32 ∷ (src_text s ++ spell rest tail)
unfolding src_text
spell_src (srcs.Reg r) rest tail = refl
spell_src (srcs.Mem mem) rest tail = spell_mem mem rest tail
spell_src (srcs.Imm (pos n)) rest tail = refl
spell_src (srcs.Imm (negsuc n)) rest tail = refl

three : (a b c tail : List ℕ) → 32 ∷ (a ++ (44 ∷ 32 ∷ (b ++ (44 ∷ 32 ∷ (c ++ tail)))))
    ≡ (first a ++ (next b ++ next c)) ++ tail
unfolding first next
three a b c tail = rw (append_assoc a (44 ∷ 32 ∷ (b ++ (44 ∷ 32 ∷ c))) tail, append_assoc b (44 ∷ 32 ∷ c) tail) refl

spell_operands : (i : Instr) (tail : List ℕ) → spell (operand_tokens i) tail ≡ operands_text i ++ tail
unfolding operands_text first next
spell_operands (instrs.Mov dst src) tail = rw (spell_rm src [] tail) (simp append_assoc)
spell_operands (instrs.MovImm dst imm) tail = simp append_assoc
spell_operands (instrs.Store mem src) tail =
    rw (spell_mem mem (comma_tokens (reg_tokens src [])) tail) (simp append_assoc)
spell_operands (instrs.Lea dst mem) tail = rw (spell_address mem [] tail) (simp append_assoc)
spell_operands (instrs.Bin op dst src) tail = rw (spell_src src [] tail) (simp append_assoc)
spell_operands (instrs.Test a b) tail = simp append_assoc
spell_operands (instrs.Un op dst) tail = simp append_assoc
spell_operands (instrs.Adcx dst src) tail = rw (spell_rm src [] tail) (simp append_assoc)
spell_operands (instrs.Adox dst src) tail = rw (spell_rm src [] tail) (simp append_assoc)
spell_operands (instrs.Mulx hi lo src) tail =
    rw (spell_rm src [] tail) (three (reg_text hi) (reg_text lo) (rm_text src) tail)
spell_operands (instrs.Mul src) tail = rw (spell_rm src [] tail) (simp append_assoc)
spell_operands (instrs.Imul dst src) tail = rw (spell_rm src [] tail) (simp append_assoc)
spell_operands (instrs.Shl dst by) tail = simp append_assoc
spell_operands (instrs.Shr dst by) tail = simp append_assoc
spell_operands (instrs.Shrd dst src by) tail = three (reg_text dst) (reg_text src) (decimal by) tail
spell_operands (instrs.Shlx dst src count) tail =
    rw (spell_rm src (comma_tokens (reg_tokens count [])) tail)
    (three (reg_text dst) (rm_text src) (reg_text count) tail)
spell_operands (instrs.Shrx dst src count) tail =
    rw (spell_rm src (comma_tokens (reg_tokens count [])) tail)
    (three (reg_text dst) (rm_text src) (reg_text count) tail)
spell_operands (instrs.Set cond dst) tail = simp append_assoc
spell_operands (instrs.Movzx dst src) tail = simp append_assoc
spell_operands (instrs.Cmov cond dst src) tail = rw (spell_rm src [] tail) (simp append_assoc)
spell_operands instrs.Clc tail = refl
spell_operands instrs.Ret tail = refl

pub spell_instr : (i : Instr) (tail : List ℕ) → spell (instr_tokens i) tail ≡ 32 ∷ (instr_text i ++ tail)
unfolding instr_text
spell_instr i tail = rw (spell_operands i tail) (simp append_assoc)
