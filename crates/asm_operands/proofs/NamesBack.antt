-- Names are found in their tables, and what is found there has the name.
use Rattle.std.proofs.Common.{◌≡◌, ℕ, Bool, true, false, List, [], ◌∷◌, Some, cond, refl, sym, ap, ◌∙◌}
use Rattle.std.specs.Str.{bytes_eq}
use Rattle.std.proofs.lemmas.Slice.Eq.{bytes_eq-Decides}
use Rattle.x86_instr.specs.declared.operand.Reg.{Reg}
use Rattle.x86_instr.specs.declared.operand.Reg.TheVariants.{Rax, Rcx, Rdx, Rbx, Rsp, Rbp, Rsi, Rdi, R8, R9, R10, R11}
use Rattle.x86_instr.specs.declared.operand.Reg.TheVariants.{R12, R13, R14, R15}
use Rattle.x86_instr.specs.declared.mnemonic.Mnemonic.{Mnemonic}
use Rattle.x86_instr.specs.declared.mnemonic.Mnemonic.TheVariants as names
use Rattle.x86_instr.specs.Registers.{registers}
use Rattle.asm_operands.specs.Names.{reg_text, byte_reg_text, mnemonic_text, mnemonics, with_names, named_in}
use Rattle.asm_operands.specs.Names.{register_named, byte_register_named, mnemonic_named}

pub register_back : (r : Reg) → register_named (reg_text r) ≡ Some r
unfolding register_named
register_back Rax = refl
register_back Rcx = refl
register_back Rdx = refl
register_back Rbx = refl
register_back Rsp = refl
register_back Rbp = refl
register_back Rsi = refl
register_back Rdi = refl
register_back R8 = refl
register_back R9 = refl
register_back R10 = refl
register_back R11 = refl
register_back R12 = refl
register_back R13 = refl
register_back R14 = refl
register_back R15 = refl

pub byte_register_back : (r : Reg) → byte_register_named (byte_reg_text r) ≡ Some r
unfolding byte_register_named
byte_register_back Rax = refl
byte_register_back Rcx = refl
byte_register_back Rdx = refl
byte_register_back Rbx = refl
byte_register_back Rsp = refl
byte_register_back Rbp = refl
byte_register_back Rsi = refl
byte_register_back Rdi = refl
byte_register_back R8 = refl
byte_register_back R9 = refl
byte_register_back R10 = refl
byte_register_back R11 = refl
byte_register_back R12 = refl
byte_register_back R13 = refl
byte_register_back R14 = refl
byte_register_back R15 = refl

pub mnemonic_back : (m : Mnemonic) → mnemonic_named (mnemonic_text m) ≡ Some m
unfolding mnemonic_named
mnemonic_back names.Mov = refl
mnemonic_back names.Movzx = refl
mnemonic_back names.Lea = refl
mnemonic_back names.Not = refl
mnemonic_back names.Add = refl
mnemonic_back names.Adc = refl
mnemonic_back names.Sub = refl
mnemonic_back names.Cmp = refl
mnemonic_back names.Sbb = refl
mnemonic_back names.Neg = refl
mnemonic_back names.Inc = refl
mnemonic_back names.Dec = refl
mnemonic_back names.And = refl
mnemonic_back names.Or = refl
mnemonic_back names.Xor = refl
mnemonic_back names.Test = refl
mnemonic_back names.Clc = refl
mnemonic_back names.Adcx = refl
mnemonic_back names.Adox = refl
mnemonic_back names.Mulx = refl
mnemonic_back names.Mul = refl
mnemonic_back names.Imul = refl
mnemonic_back names.Shl = refl
mnemonic_back names.Shr = refl
mnemonic_back names.Shrd = refl
mnemonic_back names.Shlx = refl
mnemonic_back names.Shrx = refl
mnemonic_back names.Seto = refl
mnemonic_back names.Setno = refl
mnemonic_back names.Setc = refl
mnemonic_back names.Setnc = refl
mnemonic_back names.Setz = refl
mnemonic_back names.Setnz = refl
mnemonic_back names.Cmovo = refl
mnemonic_back names.Cmovno = refl
mnemonic_back names.Cmovc = refl
mnemonic_back names.Cmovnc = refl
mnemonic_back names.Cmovz = refl
mnemonic_back names.Cmovnz = refl
mnemonic_back names.Ret = refl

-- what is found has the name
named_text : {T : Type 0} (name : T → List ℕ) (xs : List T) (text : List ℕ) (x : T)
    → named_in (with_names name xs) text ≡ Some x → name x ≡ text
named_text name [] text x e = cc
named_text {T} name (y ∷ ys) text x e = by_first (bytes_eq (name y) text) (λ h. (bytes_eq-Decides (name y) text).0 h)
    (λ h. named_text name ys text x h) e
  where
    by_first : (b : Bool) → (b ≡ true → name y ≡ text) → (named_in (with_names name ys) text ≡ Some x → name x ≡ text)
        → cond b (Some y) (named_in (with_names name ys) text) ≡ Some x → name x ≡ text
    by_first true same later e = let is : y ≡ x = cc in ap name (sym is) ∙ same refl
    by_first false same later e = later e

pub register_text : (text : List ℕ) (r : Reg) → register_named text ≡ Some r → reg_text r ≡ text
unfolding register_named
register_text text r e = named_text reg_text registers text r e

pub byte_register_text : (text : List ℕ) (r : Reg) → byte_register_named text ≡ Some r → byte_reg_text r ≡ text
unfolding byte_register_named
byte_register_text text r e = named_text byte_reg_text registers text r e

pub mnemonic_of_text : (text : List ℕ) (m : Mnemonic) → mnemonic_named text ≡ Some m → mnemonic_text m ≡ text
unfolding mnemonic_named
mnemonic_of_text text m e = named_text mnemonic_text mnemonics text m e
