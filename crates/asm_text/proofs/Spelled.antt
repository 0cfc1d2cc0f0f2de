-- The tokens of operands as they are written, before the tokens that follow.
use Rattle.std.proofs.Common.{ℕ, suc, zero, true, false, List, [], ◌∷◌, Option, Some, None, ℤ, pos, negsuc, codes}
use Rattle.std.proofs.Common.{decimal}
use Rattle.x86_instr.specs.declared.operand.Reg.{Reg}
use Rattle.x86_instr.specs.declared.operand.Index.{Index}
use Rattle.x86_instr.specs.declared.operand.Mem.{Mem}
use Rattle.x86_instr.specs.declared.operand.Rm.{Rm}
use Rattle.x86_instr.specs.declared.operand.Rm.TheVariants as rms
use Rattle.x86_instr.specs.declared.operand.Src.{Src}
use Rattle.x86_instr.specs.declared.operand.Src.TheVariants as srcs
use Rattle.x86_instr.specs.declared.instr.Instr.{Instr}
use Rattle.x86_instr.specs.declared.instr.Instr.TheVariants as instrs
use Rattle.x86_instr.specs.Mnemonics.{mnemonic_of}
use Rattle.asm_tokens.specs.Tokens.{Token, token}
use Rattle.asm_operands.specs.Names.{reg_text, byte_reg_text, mnemonic_text}

abbrev pub reg_tokens : Reg → List Token → List Token
reg_tokens r rest = token true (reg_text r) ∷ rest

abbrev pub byte_reg_tokens : Reg → List Token → List Token
byte_reg_tokens r rest = token true (byte_reg_text r) ∷ rest

abbrev pub number_tokens : ℕ → List Token → List Token
number_tokens n rest = token true (decimal n) ∷ rest

abbrev pub comma_tokens : List Token → List Token
comma_tokens rest = token false (codes ",") ∷ rest

abbrev pub closing : List Token → List Token
closing rest = token false (codes "]") ∷ rest

abbrev pub disp_tokens : ℤ → List Token → List Token
disp_tokens (pos zero) rest = rest
disp_tokens (pos (suc n)) rest = token true (codes "+") ∷ token true (decimal (suc n)) ∷ rest
disp_tokens (negsuc n) rest = token true (codes "-") ∷ token true (decimal (suc n)) ∷ rest

abbrev pub index_tokens : Option Index → List Token → List Token
index_tokens None rest = rest
index_tokens (Some i) rest = token true (codes "+") ∷ token true (reg_text i.reg) ∷ token false (codes "*")
    ∷ token false (decimal i.scale) ∷ rest

abbrev pub address_tokens : Mem → List Token → List Token
address_tokens mem rest = token true (codes "[") ∷ token false (reg_text mem.base)
    ∷ index_tokens mem.index (disp_tokens mem.disp (closing rest))

abbrev pub mem_tokens : Mem → List Token → List Token
mem_tokens mem rest = token true (codes "qword") ∷ token true (codes "ptr") ∷ address_tokens mem rest

abbrev pub rm_tokens : Rm → List Token → List Token
rm_tokens (rms.Reg r) rest = reg_tokens r rest
rm_tokens (rms.Mem mem) rest = mem_tokens mem rest

abbrev pub imm_tokens : ℤ → List Token → List Token
imm_tokens (pos n) rest = token true (decimal n) ∷ rest
imm_tokens (negsuc n) rest = token true (codes "-") ∷ token false (decimal (suc n)) ∷ rest

abbrev pub src_tokens : Src → List Token → List Token
src_tokens (srcs.Reg r) rest = reg_tokens r rest
src_tokens (srcs.Mem mem) rest = mem_tokens mem rest
src_tokens (srcs.Imm n) rest = imm_tokens n rest

abbrev pub operand_tokens : Instr → List Token
operand_tokens (instrs.Mov dst src) = reg_tokens dst (comma_tokens (rm_tokens src []))
operand_tokens (instrs.MovImm dst imm) = reg_tokens dst (comma_tokens (number_tokens imm []))
operand_tokens (instrs.Store mem src) = mem_tokens mem (comma_tokens (reg_tokens src []))
operand_tokens (instrs.Lea dst mem) = reg_tokens dst (comma_tokens (address_tokens mem []))
operand_tokens (instrs.Bin op dst src) = reg_tokens dst (comma_tokens (src_tokens src []))
operand_tokens (instrs.Test a b) = reg_tokens a (comma_tokens (reg_tokens b []))
operand_tokens (instrs.Un op dst) = reg_tokens dst []
operand_tokens (instrs.Adcx dst src) = reg_tokens dst (comma_tokens (rm_tokens src []))
operand_tokens (instrs.Adox dst src) = reg_tokens dst (comma_tokens (rm_tokens src []))
operand_tokens (instrs.Mulx hi lo src) = reg_tokens hi (comma_tokens (reg_tokens lo (comma_tokens (rm_tokens src []))))
operand_tokens (instrs.Mul src) = rm_tokens src []
operand_tokens (instrs.Imul dst src) = reg_tokens dst (comma_tokens (rm_tokens src []))
operand_tokens (instrs.Shl dst by) = reg_tokens dst (comma_tokens (number_tokens by []))
operand_tokens (instrs.Shr dst by) = reg_tokens dst (comma_tokens (number_tokens by []))
operand_tokens (instrs.Shrd dst src by) =
    reg_tokens dst (comma_tokens (reg_tokens src (comma_tokens (number_tokens by []))))
operand_tokens (instrs.Shlx dst src count) =
    reg_tokens dst (comma_tokens (rm_tokens src (comma_tokens (reg_tokens count []))))
operand_tokens (instrs.Shrx dst src count) =
    reg_tokens dst (comma_tokens (rm_tokens src (comma_tokens (reg_tokens count []))))
operand_tokens (instrs.Set cond dst) = byte_reg_tokens dst []
operand_tokens (instrs.Movzx dst src) = reg_tokens dst (comma_tokens (byte_reg_tokens src []))
operand_tokens (instrs.Cmov cond dst src) = reg_tokens dst (comma_tokens (rm_tokens src []))
operand_tokens instrs.Clc = []
operand_tokens instrs.Ret = []

abbrev pub instr_tokens : Instr → List Token
instr_tokens i = token true (mnemonic_text (mnemonic_of i)) ∷ operand_tokens i
