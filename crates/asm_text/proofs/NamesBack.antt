-- Names are words.
use Rattle.std.proofs.Common.{◌≡◌, ℕ, ◌<◌, ◌^◌, Bool, true, false, ◌==◌, List, [], ◌∷◌, None, refl, arith, decimal}
use Rattle.std.specs.Str.{bytes_eq}
use Rattle.std.proofs.lemmas.Bool.{ne_eqb}
use Rattle.x86_instr.specs.declared.operand.Reg.{Reg}
use Rattle.x86_instr.specs.declared.operand.Reg.TheVariants.{Rax, Rcx, Rdx, Rbx, Rsp, Rbp, Rsi, Rdi, R8, R9, R10, R11}
use Rattle.x86_instr.specs.declared.operand.Reg.TheVariants.{R12, R13, R14, R15}
use Rattle.x86_instr.specs.declared.mnemonic.Mnemonic.{Mnemonic}
use Rattle.x86_instr.specs.declared.mnemonic.Mnemonic.TheVariants as names
use Rattle.asm_tokens.proofs.Decimals.{written}
use Rattle.asm_tokens.proofs.Spell.{is_word}
use Rattle.asm_operands.specs.Names.{reg_text, byte_reg_text, mnemonic_text, register_named}

pub reg_word : (r : Reg) → is_word (reg_text r) ≡ true
reg_word Rax = refl
reg_word Rcx = refl
reg_word Rdx = refl
reg_word Rbx = refl
reg_word Rsp = refl
reg_word Rbp = refl
reg_word Rsi = refl
reg_word Rdi = refl
reg_word R8 = refl
reg_word R9 = refl
reg_word R10 = refl
reg_word R11 = refl
reg_word R12 = refl
reg_word R13 = refl
reg_word R14 = refl
reg_word R15 = refl

pub byte_reg_word : (r : Reg) → is_word (byte_reg_text r) ≡ true
byte_reg_word Rax = refl
byte_reg_word Rcx = refl
byte_reg_word Rdx = refl
byte_reg_word Rbx = refl
byte_reg_word Rsp = refl
byte_reg_word Rbp = refl
byte_reg_word Rsi = refl
byte_reg_word Rdi = refl
byte_reg_word R8 = refl
byte_reg_word R9 = refl
byte_reg_word R10 = refl
byte_reg_word R11 = refl
byte_reg_word R12 = refl
byte_reg_word R13 = refl
byte_reg_word R14 = refl
byte_reg_word R15 = refl

pub mnemonic_word : (m : Mnemonic) → is_word (mnemonic_text m) ≡ true
mnemonic_word names.Mov = refl
mnemonic_word names.Movzx = refl
mnemonic_word names.Lea = refl
mnemonic_word names.Not = refl
mnemonic_word names.Add = refl
mnemonic_word names.Adc = refl
mnemonic_word names.Sub = refl
mnemonic_word names.Cmp = refl
mnemonic_word names.Sbb = refl
mnemonic_word names.Neg = refl
mnemonic_word names.Inc = refl
mnemonic_word names.Dec = refl
mnemonic_word names.And = refl
mnemonic_word names.Or = refl
mnemonic_word names.Xor = refl
mnemonic_word names.Test = refl
mnemonic_word names.Clc = refl
mnemonic_word names.Adcx = refl
mnemonic_word names.Adox = refl
mnemonic_word names.Mulx = refl
mnemonic_word names.Mul = refl
mnemonic_word names.Imul = refl
mnemonic_word names.Shl = refl
mnemonic_word names.Shr = refl
mnemonic_word names.Shrd = refl
mnemonic_word names.Shlx = refl
mnemonic_word names.Shrx = refl
mnemonic_word names.Seto = refl
mnemonic_word names.Setno = refl
mnemonic_word names.Setc = refl
mnemonic_word names.Setnc = refl
mnemonic_word names.Setz = refl
mnemonic_word names.Setnz = refl
mnemonic_word names.Cmovo = refl
mnemonic_word names.Cmovno = refl
mnemonic_word names.Cmovc = refl
mnemonic_word names.Cmovnc = refl
mnemonic_word names.Cmovz = refl
mnemonic_word names.Cmovnz = refl
mnemonic_word names.Ret = refl

-- a number is no register
pub digit_no_register : (n : ℕ) → n < 2 ^ 64 → register_named (decimal n) ≡ None
unfolding register_named
digit_no_register n fits =
    let w = written n fits in
    let other = ne_eqb 114 w.first (λ e. let high = w.high in omega arith) in
    rw w.is (rw other refl)

-- no mnemonic begins with a dot
abbrev pub begins_dot : List ℕ → Bool
begins_dot [] = false
begins_dot (b ∷ bs) = b == 46

pub no_dot : (text rest : List ℕ) → begins_dot text ≡ false → bytes_eq text (46 ∷ rest) ≡ false
no_dot [] rest h = refl
no_dot (b ∷ bs) rest h = rw h refl

pub mnemonic_no_dot : (m : Mnemonic) → begins_dot (mnemonic_text m) ≡ false
mnemonic_no_dot names.Mov = refl
mnemonic_no_dot names.Movzx = refl
mnemonic_no_dot names.Lea = refl
mnemonic_no_dot names.Not = refl
mnemonic_no_dot names.Add = refl
mnemonic_no_dot names.Adc = refl
mnemonic_no_dot names.Sub = refl
mnemonic_no_dot names.Cmp = refl
mnemonic_no_dot names.Sbb = refl
mnemonic_no_dot names.Neg = refl
mnemonic_no_dot names.Inc = refl
mnemonic_no_dot names.Dec = refl
mnemonic_no_dot names.And = refl
mnemonic_no_dot names.Or = refl
mnemonic_no_dot names.Xor = refl
mnemonic_no_dot names.Test = refl
mnemonic_no_dot names.Clc = refl
mnemonic_no_dot names.Adcx = refl
mnemonic_no_dot names.Adox = refl
mnemonic_no_dot names.Mulx = refl
mnemonic_no_dot names.Mul = refl
mnemonic_no_dot names.Imul = refl
mnemonic_no_dot names.Shl = refl
mnemonic_no_dot names.Shr = refl
mnemonic_no_dot names.Shrd = refl
mnemonic_no_dot names.Shlx = refl
mnemonic_no_dot names.Shrx = refl
mnemonic_no_dot names.Seto = refl
mnemonic_no_dot names.Setno = refl
mnemonic_no_dot names.Setc = refl
mnemonic_no_dot names.Setnc = refl
mnemonic_no_dot names.Setz = refl
mnemonic_no_dot names.Setnz = refl
mnemonic_no_dot names.Cmovo = refl
mnemonic_no_dot names.Cmovno = refl
mnemonic_no_dot names.Cmovc = refl
mnemonic_no_dot names.Cmovnc = refl
mnemonic_no_dot names.Cmovz = refl
mnemonic_no_dot names.Cmovnz = refl
mnemonic_no_dot names.Ret = refl
