-- The names of registers and instructions (Intel Software Developer's Manual, volume 1, section 3.4.1 and table
-- 3-2, and volume 2), in lower case.
use Rattle.std.specs.Prelude.{ℕ, List, [], ◌∷◌, Option, Some, None, if◌then◌else◌, codes}
use Rattle.std.specs.Str.{bytes_eq}
use Rattle.std.specs.Borrow.{Bor}
use Rattle.x86_instr.specs.declared.operand.Reg.{Reg}
use Rattle.x86_instr.specs.declared.operand.Reg.TheVariants.{Rax, Rcx, Rdx, Rbx, Rsp, Rbp, Rsi, Rdi, R8, R9, R10, R11}
use Rattle.x86_instr.specs.declared.operand.Reg.TheVariants.{R12, R13, R14, R15}
use Rattle.x86_instr.specs.declared.mnemonic.Mnemonic.{Mnemonic}
use Rattle.x86_instr.specs.declared.mnemonic.Mnemonic.TheVariants as names
use Rattle.x86_instr.specs.Registers.{registers}

abbrev pub reg_text : Reg → List ℕ
reg_text Rax = codes "rax"
reg_text Rcx = codes "rcx"
reg_text Rdx = codes "rdx"
reg_text Rbx = codes "rbx"
reg_text Rsp = codes "rsp"
reg_text Rbp = codes "rbp"
reg_text Rsi = codes "rsi"
reg_text Rdi = codes "rdi"
reg_text R8 = codes "r8"
reg_text R9 = codes "r9"
reg_text R10 = codes "r10"
reg_text R11 = codes "r11"
reg_text R12 = codes "r12"
reg_text R13 = codes "r13"
reg_text R14 = codes "r14"
reg_text R15 = codes "r15"

-- the low byte of a register
abbrev pub byte_reg_text : Reg → List ℕ
byte_reg_text Rax = codes "al"
byte_reg_text Rcx = codes "cl"
byte_reg_text Rdx = codes "dl"
byte_reg_text Rbx = codes "bl"
byte_reg_text Rsp = codes "spl"
byte_reg_text Rbp = codes "bpl"
byte_reg_text Rsi = codes "sil"
byte_reg_text Rdi = codes "dil"
byte_reg_text R8 = codes "r8b"
byte_reg_text R9 = codes "r9b"
byte_reg_text R10 = codes "r10b"
byte_reg_text R11 = codes "r11b"
byte_reg_text R12 = codes "r12b"
byte_reg_text R13 = codes "r13b"
byte_reg_text R14 = codes "r14b"
byte_reg_text R15 = codes "r15b"

abbrev pub mnemonic_text : Mnemonic → List ℕ
mnemonic_text names.Mov = codes "mov"
mnemonic_text names.Movzx = codes "movzx"
mnemonic_text names.Lea = codes "lea"
mnemonic_text names.Not = codes "not"
mnemonic_text names.Add = codes "add"
mnemonic_text names.Adc = codes "adc"
mnemonic_text names.Sub = codes "sub"
mnemonic_text names.Cmp = codes "cmp"
mnemonic_text names.Sbb = codes "sbb"
mnemonic_text names.Neg = codes "neg"
mnemonic_text names.Inc = codes "inc"
mnemonic_text names.Dec = codes "dec"
mnemonic_text names.And = codes "and"
mnemonic_text names.Or = codes "or"
mnemonic_text names.Xor = codes "xor"
mnemonic_text names.Test = codes "test"
mnemonic_text names.Clc = codes "clc"
mnemonic_text names.Adcx = codes "adcx"
mnemonic_text names.Adox = codes "adox"
mnemonic_text names.Mulx = codes "mulx"
mnemonic_text names.Mul = codes "mul"
mnemonic_text names.Imul = codes "imul"
mnemonic_text names.Shl = codes "shl"
mnemonic_text names.Shr = codes "shr"
mnemonic_text names.Shrd = codes "shrd"
mnemonic_text names.Shlx = codes "shlx"
mnemonic_text names.Shrx = codes "shrx"
mnemonic_text names.Seto = codes "seto"
mnemonic_text names.Setno = codes "setno"
mnemonic_text names.Setc = codes "setc"
mnemonic_text names.Setnc = codes "setnc"
mnemonic_text names.Setz = codes "setz"
mnemonic_text names.Setnz = codes "setnz"
mnemonic_text names.Cmovo = codes "cmovo"
mnemonic_text names.Cmovno = codes "cmovno"
mnemonic_text names.Cmovc = codes "cmovc"
mnemonic_text names.Cmovnc = codes "cmovnc"
mnemonic_text names.Cmovz = codes "cmovz"
mnemonic_text names.Cmovnz = codes "cmovnz"
mnemonic_text names.Ret = codes "ret"

abbrev pub mnemonics : List Mnemonic
mnemonics =
    names.Mov ∷ names.Movzx ∷ names.Lea ∷ names.Not ∷ names.Add ∷ names.Adc ∷ names.Sub ∷ names.Cmp ∷
    names.Sbb ∷ names.Neg ∷ names.Inc ∷ names.Dec ∷ names.And ∷ names.Or ∷ names.Xor ∷ names.Test ∷ names.Clc ∷
    names.Adcx ∷ names.Adox ∷ names.Mulx ∷ names.Mul ∷ names.Imul ∷ names.Shl ∷ names.Shr ∷ names.Shrd ∷
    names.Shlx ∷ names.Shrx ∷ names.Seto ∷ names.Setno ∷ names.Setc ∷ names.Setnc ∷ names.Setz ∷ names.Setnz ∷
    names.Cmovo ∷ names.Cmovno ∷ names.Cmovc ∷ names.Cmovnc ∷ names.Cmovz ∷ names.Cmovnz ∷ names.Ret ∷ []

-- the items, each with its name
abbrev pub with_names : {T : Type 0} → (T → List ℕ) → List T → List (T × List ℕ)
with_names name [] = []
with_names name (x ∷ xs) = (x, name x) ∷ with_names name xs

-- the item of a table whose name the text is
abbrev pub named_in : {T : Type 0} → List (T × List ℕ) → List ℕ → Option T
named_in [] text = None
named_in (row ∷ rows) text = if bytes_eq row.1 text then Some row.0 else named_in rows text

-- the rows of a table in the code
abbrev pub rows_of : {T : Type 0} → List (T × Bor (List ℕ)) → List (T × List ℕ)
rows_of [] = []
rows_of (row ∷ rows) = (row.0, row.1.now) ∷ rows_of rows

unfoldable pub register_named : List ℕ → Option Reg
register_named text = named_in (with_names reg_text registers) text

unfoldable pub byte_register_named : List ℕ → Option Reg
byte_register_named text = named_in (with_names byte_reg_text registers) text

unfoldable pub mnemonic_named : List ℕ → Option Mnemonic
mnemonic_named text = named_in (with_names mnemonic_text mnemonics) text
