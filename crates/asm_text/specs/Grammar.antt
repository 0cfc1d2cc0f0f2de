-- What a line of a text may be, over its tokens: blank, one of the four header lines, or an instruction, which
-- is its mnemonic and its operands with commas, the destination first (Intel Software Developer's Manual,
-- volume 1, section 1.3.3, and volume 2, section 3.1.1.3; the directives are those of the GNU assembler's manual).
use Rattle.std.specs.Prelude.{◌≡◌, ◌<◌, ℕ, true, false, List, [], ◌∷◌, map, Option, Some, None, codes}
use Rattle.base.specs.declared.limits.TheConstants.{MAX_OPERATIONS}
use Rattle.base.specs.Identifiers.{is_identifier}
use Rattle.x86_instr.specs.declared.operand.Reg.{Reg}
use Rattle.x86_instr.specs.declared.operand.Mem.{Mem}
use Rattle.x86_instr.specs.declared.operand.Rm.{Rm}
use Rattle.x86_instr.specs.declared.operand.Src.{Src}
use Rattle.x86_instr.specs.declared.instr.Instr.{Instr}
use Rattle.x86_instr.specs.declared.instr.Instr.TheVariants as instrs
use Rattle.x86_instr.specs.Mnemonics.{mnemonic_of}
use Rattle.asm_tokens.specs.Tokens.{Token, token, tokens, is_spaced}
use Rattle.base.specs.Numbers.{numeral}
use Rattle.asm_tokens.specs.Lines.{code_part, comment_part}
use Rattle.asm_operands.specs.Names.{mnemonic_text}
use Rattle.asm_operands.specs.Grammar.{IsToken, IsRegister, IsByteRegister, IsMemory, IsRm, IsSrc, IsWide, IsCount}
use Rattle.asm_text.specs.Items.{Item, blank, syntax_line, text_line, global, label, code}

-- ---- operands

-- an operand of an instruction, by the kind that the instruction has at its place
pub data Operand : Type 0 where
  register : Reg → Operand
  byte_register : Reg → Operand
  memory : Mem → Operand
  register_or_memory : Rm → Operand
  source : Src → Operand
  word : ℕ → Operand
  count : ℕ → Operand

-- the tokens begin with the operand, and these stand behind it
abbrev pub IsOperand : List Token → Operand → List Token → Type 0
IsOperand ts (register r) rest = IsRegister ts r rest
IsOperand ts (byte_register r) rest = IsByteRegister ts r rest
IsOperand ts (memory mem) rest = IsMemory ts mem rest
IsOperand ts (register_or_memory src) rest = IsRm ts src rest
IsOperand ts (source src) rest = IsSrc ts src rest
IsOperand ts (word n) rest = IsWide ts n rest
IsOperand ts (count n) rest = IsCount ts n rest

-- an operand, a comma, and more
pub record IsFollowed (ts : List Token) (operand : Operand) (More : List Token → Type 0) : Type 0 where
  pub behind : List Token
  pub next : List Token
  pub first : IsOperand ts operand behind
  pub comma : IsToken (codes ",") behind next
  pub more : More next

-- the tokens are the operands with commas between them
abbrev pub AreOperands : List Token → List Operand → Type 0
AreOperands ts [] = ts ≡ []
AreOperands ts (operand ∷ []) = IsOperand ts operand []
AreOperands ts (operand ∷ other ∷ others) = IsFollowed ts operand (λ next. AreOperands next (other ∷ others))

-- where there are operands, a blank stands before the first
abbrev pub IsParted : List Operand → List Token → Type 0
IsParted [] ts = Unit {0}
IsParted (operand ∷ operands) ts = is_spaced ts ≡ true

-- ---- instructions

abbrev pub operands_of : Instr → List Operand
operands_of (instrs.Mov dst src) = register dst ∷ register_or_memory src ∷ []
operands_of (instrs.MovImm dst imm) = register dst ∷ word imm ∷ []
operands_of (instrs.Store mem src) = memory mem ∷ register src ∷ []
operands_of (instrs.Lea dst mem) = register dst ∷ memory mem ∷ []
operands_of (instrs.Bin op dst src) = register dst ∷ source src ∷ []
operands_of (instrs.Test a b) = register a ∷ register b ∷ []
operands_of (instrs.Un op dst) = register dst ∷ []
operands_of (instrs.Adcx dst src) = register dst ∷ register_or_memory src ∷ []
operands_of (instrs.Adox dst src) = register dst ∷ register_or_memory src ∷ []
operands_of (instrs.Mulx hi lo src) = register hi ∷ register lo ∷ register_or_memory src ∷ []
operands_of (instrs.Mul src) = register_or_memory src ∷ []
operands_of (instrs.Imul dst src) = register dst ∷ register_or_memory src ∷ []
operands_of (instrs.Shl dst by) = register dst ∷ count by ∷ []
operands_of (instrs.Shr dst by) = register dst ∷ count by ∷ []
operands_of (instrs.Shrd dst src by) = register dst ∷ register src ∷ count by ∷ []
operands_of (instrs.Shlx dst src by) = register dst ∷ register_or_memory src ∷ register by ∷ []
operands_of (instrs.Shrx dst src by) = register dst ∷ register_or_memory src ∷ register by ∷ []
operands_of (instrs.Set cond dst) = byte_register dst ∷ []
operands_of (instrs.Movzx dst src) = register dst ∷ byte_register src ∷ []
operands_of (instrs.Cmov cond dst src) = register dst ∷ register_or_memory src ∷ []
operands_of instrs.Clc = []
operands_of instrs.Ret = []

-- the tokens are the instruction
pub record IsInstr (ts : List Token) (instr : Instr) : Type 0 where
  pub rest : List Token
  pub mnemonic : IsToken (mnemonic_text (mnemonic_of instr)) ts rest
  pub parted : IsParted (operands_of instr) rest
  pub operands : AreOperands rest (operands_of instr)

-- ---- owners

-- the comment is the decimal number of an operation
pub record NamesOwner (comment : List ℕ) (op : ℕ) : Type 0 where
  pub first : Token
  pub is : tokens comment ≡ first ∷ []
  pub spelled : numeral 10 first.text ≡ Some op
  pub small : op < MAX_OPERATIONS

-- the owner that a comment names; none where it names no operation
abbrev pub IsOwner : List ℕ → Option ℕ → Type 0
IsOwner comment (Some op) = NamesOwner comment op
IsOwner comment None = (op : ℕ) → ¬ (NamesOwner comment op)

-- ---- lines

abbrev pub texts : List Token → List (List ℕ)
texts ts = map (λ t. t.text) ts

-- an identifier and a colon with no blank between them
pub record IsLabel (ts : List Token) (name : List ℕ) : Type 0 where
  pub first : Token
  pub is : ts ≡ first ∷ token false (codes ":") ∷ []
  pub spelled : name ≡ first.text
  pub identifier : is_identifier name ≡ true

-- what a line with these tokens and this comment is
abbrev pub IsLine : List Token → List ℕ → Item → Type 0
IsLine ts comment blank = ts ≡ []
IsLine ts comment syntax_line = texts ts ≡ codes ".intel_syntax" ∷ codes "noprefix" ∷ []
IsLine ts comment text_line = texts ts ≡ codes ".text" ∷ []
IsLine ts comment (global name) = (texts ts ≡ codes ".globl" ∷ name ∷ []) × (is_identifier name ≡ true)
IsLine ts comment (label name) = IsLabel ts name
IsLine ts comment (code line) = IsInstr ts line.instr × IsOwner comment line.owner

-- what a line is
abbrev pub IsItem : List ℕ → Item → Type 0
IsItem line item = IsLine (tokens (code_part line)) (comment_part line) item
