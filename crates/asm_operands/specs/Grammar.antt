-- How operands are written. Each relation says that tokens begin with an operand, and which ones stand behind
-- it. The forms are those of Intel's syntax (Intel Software Developer's Manual, volume 1, section 1.3.3, and volume 2,
-- section 3.1.1.3; GNU assembler manual, "AT&T Syntax versus Intel Syntax").
use Rattle.std.specs.Prelude.{◌≡◌, ℕ, Bool, true, false, List, ◌∷◌, Option, Some, None, ℤ, pos, codes}
use Rattle.x86_instr.specs.declared.operand.Reg.{Reg}
use Rattle.x86_instr.specs.declared.operand.Index.{Index}
use Rattle.x86_instr.specs.declared.operand.Mem.{Mem}
use Rattle.x86_instr.specs.declared.operand.Rm.{Rm}
use Rattle.x86_instr.specs.declared.operand.Rm.TheVariants as rms
use Rattle.x86_instr.specs.declared.operand.Src.{Src}
use Rattle.x86_instr.specs.declared.operand.Src.TheVariants as srcs
use Rattle.x86_instr.specs.Ranges.{is_shift_count, is_scale, is_index_reg}
use Rattle.asm_tokens.specs.Tokens.{Token, is_spaced}
use Rattle.base.specs.Numbers.{word}
use Rattle.asm_operands.specs.Names.{reg_text, byte_reg_text}
use Rattle.asm_operands.specs.Operands.{signed_of, word_of}

-- a token of these bytes
pub record IsToken (text : List ℕ) (ts rest : List Token) : Type 0 where
  pub first : Token
  pub is : ts ≡ first ∷ rest
  pub spelled : text ≡ first.text

abbrev pub IsRegister : List Token → Reg → List Token → Type 0
IsRegister ts r rest = IsToken (reg_text r) ts rest

abbrev pub IsByteRegister : List Token → Reg → List Token → Type 0
IsByteRegister ts r rest = IsToken (byte_reg_text r) ts rest

-- a decimal or hexadecimal number
pub record IsNumber (ts : List Token) (n : ℕ) (rest : List Token) : Type 0 where
  pub first : Token
  pub is : ts ≡ first ∷ rest
  pub spelled : word first.text ≡ Some n

-- ---- memory

-- `[`, or `qword ptr [`
pub data IsOpened (ts rest : List Token) : Type 0 where
  bare : IsToken (codes "[") ts rest → IsOpened ts rest
  named : (a b : List Token) → IsToken (codes "qword") ts a → IsToken (codes "ptr") a b → IsToken (codes "[") b rest
      → IsOpened ts rest

-- `*` and a scale; nothing is a scale of 1
pub data IsScale (ts : List Token) (s : ℕ) (rest : List Token) : Type 0 where
  absent : s ≡ 1 → ts ≡ rest → IsScale ts s rest
  given : (a : List Token) → IsToken (codes "*") ts a → IsNumber a s rest → is_scale s ≡ true → IsScale ts s rest

-- `+` and a register, which is not `rsp`, with its scale; nothing is no index
abbrev pub IsIndex : List Token → Option Index → List Token → Type 0
IsIndex ts None rest = ts ≡ rest
IsIndex ts (Some index) rest =
    (a : List Token) × (b : List Token) × IsToken (codes "+") ts a × IsRegister a index.reg b
    × (is_index_reg index.reg ≡ true) × IsScale b index.scale rest

-- a number with this sign, from -2^31 to 2^31 - 1
pub record IsOffset (minus : Bool) (ts : List Token) (d : ℤ) (rest : List Token) : Type 0 where
  pub size : ℕ
  pub spelled : IsNumber ts size rest
  pub value : signed_of minus size ≡ Some d

-- `+` or `-` and a number; nothing is 0
pub data IsDisplacement (ts : List Token) (d : ℤ) (rest : List Token) : Type 0 where
  absent : d ≡ pos 0 → ts ≡ rest → IsDisplacement ts d rest
  plus : (a : List Token) → IsToken (codes "+") ts a → IsOffset false a d rest → IsDisplacement ts d rest
  minus : (a : List Token) → IsToken (codes "-") ts a → IsOffset true a d rest → IsDisplacement ts d rest

-- `[base]`, in it an index and a displacement
pub record IsMemory (ts : List Token) (mem : Mem) (rest : List Token) : Type 0 where
  pub inner : List Token
  pub based : List Token
  pub indexed : List Token
  pub displaced : List Token
  pub opened : IsOpened ts inner
  pub base : IsRegister inner mem.base based
  pub index : IsIndex based mem.index indexed
  pub displacement : IsDisplacement indexed mem.disp displaced
  pub closed : IsToken (codes "]") displaced rest

-- ---- immediates

-- a number, with `-` before it and no blank between them where it is negative
abbrev pub IsImmediate : List Token → Bool → ℕ → List Token → Type 0
IsImmediate ts false n rest = IsNumber ts n rest
IsImmediate ts true n rest = (a : List Token) × IsToken (codes "-") ts a × (is_spaced a ≡ false) × IsNumber a n rest

-- an immediate from -2^31 to 2^31 - 1
pub record IsSmall (ts : List Token) (n : ℤ) (rest : List Token) : Type 0 where
  pub minus : Bool
  pub size : ℕ
  pub spelled : IsImmediate ts minus size rest
  pub value : signed_of minus size ≡ Some n

-- an immediate from -2^63 to 2^64 - 1, modulo 2^64
pub record IsWide (ts : List Token) (n : ℕ) (rest : List Token) : Type 0 where
  pub minus : Bool
  pub size : ℕ
  pub spelled : IsImmediate ts minus size rest
  pub value : word_of minus size ≡ Some n

-- a number from 1 to 63
abbrev pub IsCount : List Token → ℕ → List Token → Type 0
IsCount ts n rest = IsNumber ts n rest × (is_shift_count n ≡ true)

-- ---- sources

abbrev pub IsRm : List Token → Rm → List Token → Type 0
IsRm ts (rms.Reg r) rest = IsRegister ts r rest
IsRm ts (rms.Mem mem) rest = IsMemory ts mem rest

abbrev pub IsSrc : List Token → Src → List Token → Type 0
IsSrc ts (srcs.Reg r) rest = IsRegister ts r rest
IsSrc ts (srcs.Mem mem) rest = IsMemory ts mem rest
IsSrc ts (srcs.Imm n) rest = IsSmall ts n rest
