-- The text of a listing, after the GNU assembler's Intel syntax: four header lines, and a line for each
-- instruction. Numbers are decimal, and a comment names the operation that owns a line.
use Rattle.std.specs.Prelude.{ℕ, suc, zero, List, [], ◌++◌, Option, Some, None, ℤ, pos, negsuc, codes, decimal}
use Rattle.std.specs.List.{flat_map}
use Rattle.std.specs.Fmt.{signed_decimal}
use Rattle.x86_instr.specs.declared.operand.Index.{Index}
use Rattle.x86_instr.specs.declared.operand.Mem.{Mem}
use Rattle.x86_instr.specs.declared.operand.Rm.{Rm}
use Rattle.x86_instr.specs.declared.operand.Rm.TheVariants as rms
use Rattle.x86_instr.specs.declared.operand.Src.{Src}
use Rattle.x86_instr.specs.declared.operand.Src.TheVariants as srcs
use Rattle.x86_instr.specs.declared.instr.Instr.{Instr}
use Rattle.x86_instr.specs.declared.instr.Instr.TheVariants as instrs
use Rattle.x86_instr.specs.declared.line.Line.{Line}
use Rattle.x86_instr.specs.Mnemonics.{mnemonic_of}
use Rattle.x86_instr.specs.Listings.{NamedLines}
use Rattle.asm_operands.specs.Names.{reg_text, byte_reg_text, mnemonic_text}

-- nothing where there is no index
unfoldable pub index_text : Option Index → List ℕ
index_text None = []
index_text (Some index) = codes " + " ++ (reg_text index.reg ++ (codes "*" ++ decimal index.scale))

-- nothing for 0, and the sign before the number
unfoldable pub displacement_text : ℤ → List ℕ
displacement_text (pos zero) = []
displacement_text (pos (suc n)) = codes " + " ++ decimal (suc n)
displacement_text (negsuc n) = codes " - " ++ decimal (suc n)

-- [base + index * scale + displacement]
unfoldable pub address_text : Mem → List ℕ
address_text mem = (codes "[" ++ reg_text mem.base)
    ++ (index_text mem.index ++ (displacement_text mem.disp ++ codes "]"))

unfoldable pub mem_text : Mem → List ℕ
mem_text mem = codes "qword ptr " ++ address_text mem

unfoldable pub rm_text : Rm → List ℕ
rm_text (rms.Reg r) = reg_text r
rm_text (rms.Mem mem) = mem_text mem

unfoldable pub src_text : Src → List ℕ
src_text (srcs.Reg r) = reg_text r
src_text (srcs.Mem mem) = mem_text mem
src_text (srcs.Imm n) = signed_decimal n

-- the first operand, behind the mnemonic
unfoldable pub first : List ℕ → List ℕ
first operand = codes " " ++ operand

-- each other operand
unfoldable pub next : List ℕ → List ℕ
next operand = codes ", " ++ operand

-- the operands, the destination first
unfoldable pub operands_text : Instr → List ℕ
operands_text (instrs.Mov dst src) = first (reg_text dst) ++ next (rm_text src)
operands_text (instrs.MovImm dst imm) = first (reg_text dst) ++ next (decimal imm)
operands_text (instrs.Store mem src) = first (mem_text mem) ++ next (reg_text src)
operands_text (instrs.Lea dst mem) = first (reg_text dst) ++ next (address_text mem)
operands_text (instrs.Bin op dst src) = first (reg_text dst) ++ next (src_text src)
operands_text (instrs.Test a b) = first (reg_text a) ++ next (reg_text b)
operands_text (instrs.Un op dst) = first (reg_text dst)
operands_text (instrs.Adcx dst src) = first (reg_text dst) ++ next (rm_text src)
operands_text (instrs.Adox dst src) = first (reg_text dst) ++ next (rm_text src)
operands_text (instrs.Mulx hi lo src) = first (reg_text hi) ++ (next (reg_text lo) ++ next (rm_text src))
operands_text (instrs.Mul src) = first (rm_text src)
operands_text (instrs.Imul dst src) = first (reg_text dst) ++ next (rm_text src)
operands_text (instrs.Shl dst by) = first (reg_text dst) ++ next (decimal by)
operands_text (instrs.Shr dst by) = first (reg_text dst) ++ next (decimal by)
operands_text (instrs.Shrd dst src by) = first (reg_text dst) ++ (next (reg_text src) ++ next (decimal by))
operands_text (instrs.Shlx dst src count) = first (reg_text dst) ++ (next (rm_text src) ++ next (reg_text count))
operands_text (instrs.Shrx dst src count) = first (reg_text dst) ++ (next (rm_text src) ++ next (reg_text count))
operands_text (instrs.Set cond dst) = first (byte_reg_text dst)
operands_text (instrs.Movzx dst src) = first (reg_text dst) ++ next (byte_reg_text src)
operands_text (instrs.Cmov cond dst src) = first (reg_text dst) ++ next (rm_text src)
operands_text instrs.Clc = []
operands_text instrs.Ret = []

unfoldable pub instr_text : Instr → List ℕ
instr_text instr = mnemonic_text (mnemonic_of instr) ++ operands_text instr

unfoldable pub owner_text : Option ℕ → List ℕ
owner_text None = []
owner_text (Some op) = codes " # " ++ decimal op

unfoldable pub line_text : Line → List ℕ
line_text line = codes "    " ++ (instr_text line.instr ++ (owner_text line.owner ++ codes "\n"))

unfoldable pub header_text : List ℕ → List ℕ
header_text name = codes ".intel_syntax noprefix\n.text\n.globl " ++ (name ++ (codes "\n" ++ (name ++ codes ":\n")))

unfoldable pub text_of : NamedLines → List ℕ
text_of listing = header_text listing.name ++ flat_map line_text listing.lines
