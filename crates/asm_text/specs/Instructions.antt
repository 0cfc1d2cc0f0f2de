-- How the code reads; no part of a promise. The instructions, as the tokens of a line say them: the mnemonic, and then
-- its operands with commas, the destination first (`mulx` high, low, source; `shlx` and `shrx` destination, source,
-- count). They are read from the front, one form tried after the other. `Grammar` says by a relation what they read.
use Rattle.std.specs.Prelude.{ℕ, Bool, true, false, List, [], ◌∷◌, Option, Some, None, codes}
use Rattle.x86_instr.specs.declared.operand.Reg.{Reg}
use Rattle.x86_instr.specs.declared.operand.Mem.{Mem}
use Rattle.x86_instr.specs.declared.operand.Rm.{Rm}
use Rattle.x86_instr.specs.declared.operand.Src.{Src}
use Rattle.x86_instr.specs.declared.instr.Cond.{Cond}
use Rattle.x86_instr.specs.declared.instr.Cond.TheVariants as conds
use Rattle.x86_instr.specs.declared.instr.Bin.{Bin}
use Rattle.x86_instr.specs.declared.instr.Bin.TheVariants as bins
use Rattle.x86_instr.specs.declared.instr.Un.{Un}
use Rattle.x86_instr.specs.declared.instr.Un.TheVariants as uns
use Rattle.x86_instr.specs.declared.instr.Instr.{Instr}
use Rattle.x86_instr.specs.declared.instr.Instr.TheVariants as instrs
use Rattle.x86_instr.specs.declared.mnemonic.Mnemonic.{Mnemonic}
use Rattle.x86_instr.specs.declared.mnemonic.Mnemonic.TheVariants as names
use Rattle.base.specs.Options.{◌>>=◌, pick, guard}
use Rattle.asm_tokens.specs.Tokens.{Token, after, is_spaced}
use Rattle.asm_operands.specs.Names.{mnemonic_named}
use Rattle.asm_operands.specs.Operands.{register_at, byte_register_at, memory_at, rm_at, src_at, count_at, wide_at}

abbrev pub is_end : List Token → Bool
is_end [] = true
is_end (t ∷ ts) = false

-- an operand that nothing follows
abbrev pub ended : {A : Type 0} → A × List Token → Option A
ended p = guard (is_end p.1) p.0

-- an operand that a comma follows
abbrev pub comma : {A : Type 0} → A × List Token → Option (A × List Token)
comma p = after (codes ",") p.1 >>= (λ rest. Some (p.0, rest))

-- a blank stands between the mnemonic and its operands
unfoldable pub operands : List Token → Option (List Token)
operands ts = guard (is_spaced ts) ts

-- a register and a comma
unfoldable pub register_comma : List Token → Option (Reg × List Token)
register_comma ts = register_at ts >>= comma

-- the destination register, a comma behind it
unfoldable pub destination : List Token → Option (Reg × List Token)
destination ts = operands ts >>= register_comma

unfoldable pub last_register : List Token → Option Reg
last_register ts = register_at ts >>= ended

unfoldable pub last_byte_register : List Token → Option Reg
last_byte_register ts = byte_register_at ts >>= ended

unfoldable pub last_memory : List Token → Option Mem
last_memory ts = memory_at ts >>= ended

unfoldable pub last_rm : List Token → Option Rm
last_rm ts = rm_at ts >>= ended

unfoldable pub last_src : List Token → Option Src
last_src ts = src_at ts >>= ended

unfoldable pub last_count : List Token → Option ℕ
last_count ts = count_at ts >>= ended

unfoldable pub last_wide : List Token → Option ℕ
last_wide ts = wide_at ts >>= ended

-- the forms of `mov`
unfoldable pub mov_to_register : Reg → List Token → Option Instr
mov_to_register dst ts = pick (last_rm ts) (λ src. Some (instrs.Mov dst src))
    (last_wide ts >>= (λ imm. Some (instrs.MovImm dst imm)))

unfoldable pub store : List Token → Option Instr
store ts = memory_at ts >>= comma >>= (λ m. last_register m.1 >>= (λ src. Some (instrs.Store m.0 src)))

unfoldable pub mov : List Token → Option Instr
mov ts = pick (destination ts) (λ d. mov_to_register d.0 d.1) (operands ts >>= store)

unfoldable pub lea : List Token → Option Instr
lea ts = destination ts >>= (λ d. last_memory d.1 >>= (λ mem. Some (instrs.Lea d.0 mem)))

unfoldable pub bin : Bin → List Token → Option Instr
bin op ts = destination ts >>= (λ d. last_src d.1 >>= (λ src. Some (instrs.Bin op d.0 src)))

unfoldable pub test_row : List Token → Option Instr
test_row ts = destination ts >>= (λ a. last_register a.1 >>= (λ b. Some (instrs.Test a.0 b)))

unfoldable pub un : Un → List Token → Option Instr
un op ts = operands ts >>= last_register >>= (λ dst. Some (instrs.Un op dst))

-- a destination register and a register or memory source
unfoldable pub register_rm : List Token → Option (Reg × Rm)
register_rm ts = destination ts >>= (λ d. last_rm d.1 >>= (λ src. Some (d.0, src)))

unfoldable pub adcx : List Token → Option Instr
adcx ts = register_rm ts >>= (λ p. Some (instrs.Adcx p.0 p.1))

unfoldable pub adox : List Token → Option Instr
adox ts = register_rm ts >>= (λ p. Some (instrs.Adox p.0 p.1))

unfoldable pub mulx : List Token → Option Instr
mulx ts = destination ts >>= (λ hi. register_comma hi.1 >>=
    (λ lo. last_rm lo.1 >>= (λ src. Some (instrs.Mulx hi.0 lo.0 src))))

unfoldable pub mul : List Token → Option Instr
mul ts = operands ts >>= last_rm >>= (λ src. Some (instrs.Mul src))

unfoldable pub imul : List Token → Option Instr
imul ts = register_rm ts >>= (λ p. Some (instrs.Imul p.0 p.1))

unfoldable pub register_count : List Token → Option (Reg × ℕ)
register_count ts = destination ts >>= (λ d. last_count d.1 >>= (λ by. Some (d.0, by)))

unfoldable pub shl : List Token → Option Instr
shl ts = register_count ts >>= (λ p. Some (instrs.Shl p.0 p.1))

unfoldable pub shr : List Token → Option Instr
shr ts = register_count ts >>= (λ p. Some (instrs.Shr p.0 p.1))

unfoldable pub shrd : List Token → Option Instr
shrd ts = destination ts >>= (λ d. register_comma d.1 >>=
    (λ s. last_count s.1 >>= (λ by. Some (instrs.Shrd d.0 s.0 by))))

-- a destination register, a source, and the register that holds the count
unfoldable pub counted : List Token → Option (Reg × Rm × Reg)
counted ts = destination ts >>= (λ d. rm_at d.1 >>= comma >>=
    (λ s. last_register s.1 >>= (λ count. Some (d.0, s.0, count))))

unfoldable pub shlx : List Token → Option Instr
shlx ts = counted ts >>= (λ p. Some (instrs.Shlx p.0 p.1 p.2))

unfoldable pub shrx : List Token → Option Instr
shrx ts = counted ts >>= (λ p. Some (instrs.Shrx p.0 p.1 p.2))

unfoldable pub set : Cond → List Token → Option Instr
set cond ts = operands ts >>= last_byte_register >>= (λ dst. Some (instrs.Set cond dst))

unfoldable pub movzx : List Token → Option Instr
movzx ts = destination ts >>= (λ d. last_byte_register d.1 >>= (λ src. Some (instrs.Movzx d.0 src)))

unfoldable pub cmov : Cond → List Token → Option Instr
cmov cond ts = register_rm ts >>= (λ p. Some (instrs.Cmov cond p.0 p.1))

-- no operand
unfoldable pub plain : Instr → List Token → Option Instr
plain instr ts = guard (is_end ts) instr

unfoldable pub instr_named : Mnemonic → List Token → Option Instr
instr_named names.Mov ts = mov ts
instr_named names.Movzx ts = movzx ts
instr_named names.Lea ts = lea ts
instr_named names.Not ts = un uns.Not ts
instr_named names.Add ts = bin bins.Add ts
instr_named names.Adc ts = bin bins.Adc ts
instr_named names.Sub ts = bin bins.Sub ts
instr_named names.Cmp ts = bin bins.Cmp ts
instr_named names.Sbb ts = bin bins.Sbb ts
instr_named names.Neg ts = un uns.Neg ts
instr_named names.Inc ts = un uns.Inc ts
instr_named names.Dec ts = un uns.Dec ts
instr_named names.And ts = bin bins.And ts
instr_named names.Or ts = bin bins.Or ts
instr_named names.Xor ts = bin bins.Xor ts
instr_named names.Test ts = test_row ts
instr_named names.Clc ts = plain instrs.Clc ts
instr_named names.Adcx ts = adcx ts
instr_named names.Adox ts = adox ts
instr_named names.Mulx ts = mulx ts
instr_named names.Mul ts = mul ts
instr_named names.Imul ts = imul ts
instr_named names.Shl ts = shl ts
instr_named names.Shr ts = shr ts
instr_named names.Shrd ts = shrd ts
instr_named names.Shlx ts = shlx ts
instr_named names.Shrx ts = shrx ts
instr_named names.Seto ts = set conds.O ts
instr_named names.Setno ts = set conds.No ts
instr_named names.Setc ts = set conds.C ts
instr_named names.Setnc ts = set conds.Nc ts
instr_named names.Setz ts = set conds.Z ts
instr_named names.Setnz ts = set conds.Nz ts
instr_named names.Cmovo ts = cmov conds.O ts
instr_named names.Cmovno ts = cmov conds.No ts
instr_named names.Cmovc ts = cmov conds.C ts
instr_named names.Cmovnc ts = cmov conds.Nc ts
instr_named names.Cmovz ts = cmov conds.Z ts
instr_named names.Cmovnz ts = cmov conds.Nz ts
instr_named names.Ret ts = plain instrs.Ret ts

unfoldable pub instr_in : List Token → Option Instr
instr_in [] = None
instr_in (t ∷ ts) = mnemonic_named t.text >>= (λ m. instr_named m ts)
