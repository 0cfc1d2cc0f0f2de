-- An instruction that is read is written there by the grammar.
use Rattle.std.proofs.Common.{◌≡◌, ℕ, true, List, [], ◌∷◌, Option, Some, codes, refl, sym, ap, subst, ◌∙◌}
use Rattle.x86_instr.specs.declared.operand.Reg.{Reg}
use Rattle.x86_instr.specs.declared.operand.Mem.{Mem}
use Rattle.x86_instr.specs.declared.operand.Rm.{Rm}
use Rattle.x86_instr.specs.declared.operand.Src.{Src}
use Rattle.x86_instr.specs.declared.instr.Cond.{Cond}
use Rattle.x86_instr.specs.declared.instr.Cond.TheVariants as conds
use Rattle.x86_instr.specs.declared.instr.Bin.{Bin}
use Rattle.x86_instr.specs.declared.instr.Bin.TheVariants as bins
use Rattle.x86_instr.specs.declared.instr.Un.{Un}
use Rattle.x86_instr.specs.declared.instr.Un.TheVariants as uns
use Rattle.x86_instr.specs.declared.instr.Instr.{Instr}
use Rattle.x86_instr.specs.declared.instr.Instr.TheVariants as instrs
use Rattle.x86_instr.specs.declared.mnemonic.Mnemonic.{Mnemonic}
use Rattle.x86_instr.specs.declared.mnemonic.Mnemonic.TheVariants as names
use Rattle.x86_instr.specs.Mnemonics.{mnemonic_of, bin_mnemonic, un_mnemonic, set_mnemonic, cmov_mnemonic}
use Rattle.base.specs.Options.{◌>>=◌}
use Rattle.asm_tokens.specs.Tokens.{Token, after, is_spaced}
use Rattle.asm_operands.specs.Names.{mnemonic_text, mnemonic_named}
use Rattle.asm_operands.specs.Operands.{register_at, byte_register_at, memory_at, rm_at, src_at, count_at, wide_at}
use Rattle.asm_operands.specs.Grammar.{IsToken, IsRegister, IsByteRegister, IsMemory, IsRm, IsSrc, IsWide, IsCount}
use Rattle.asm_operands.proofs.NamesBack.{mnemonic_of_text}
use Rattle.base.proofs.Options.{bind_then, pick_then, guard_some}
use Rattle.asm_operands.proofs.GrammarFound.{token_found, register_found, byte_register_found, memory_found, rm_found}
use Rattle.asm_operands.proofs.GrammarFound.{src_found, wide_found, count_found}
use Rattle.asm_text.specs.Instructions.{is_end, ended, comma, operands, register_comma, destination, last_register}
use Rattle.asm_text.specs.Instructions.{last_byte_register, last_memory, last_rm, last_src, last_count, last_wide}
use Rattle.asm_text.specs.Instructions.{mov_to_register, store, mov, lea, bin, test_row, un, register_rm, adcx, adox}
use Rattle.asm_text.specs.Instructions.{mulx, mul, imul, register_count, shl, shr, shrd, counted, shlx, shrx, set}
use Rattle.asm_text.specs.Instructions.{movzx, cmov, plain, instr_named, instr_in}
use Rattle.asm_text.specs.Grammar.{IsOperand, AreOperands, IsParted, operands_of, register, byte_register, memory}
use Rattle.asm_text.specs.Grammar.{register_or_memory, source, word, count, Operand, IsInstr}

-- ---- operands

pub end_nil : (ts : List Token) → is_end ts ≡ true → ts ≡ []
end_nil [] e = refl
end_nil (t ∷ ts) e = cc

-- a last operand
last_found : {A : Type 0} (at : List Token → Option (A × List Token)) (Is : List Token → A → List Token → Type 0)
    → ((ts : List Token) (p : A × List Token) → at ts ≡ Some p → Is ts p.0 p.1)
    → (ts : List Token) (x : A) → (at ts >>= ended) ≡ Some x → Is ts x []
last_found at Is found ts x e =
    bind_then (at ts) ended x (Is ts x []) (λ p is e.
    let h = guard_some (is_end p.1) p.0 x e in
    subst (λ y. Is ts y []) h.1 (subst (λ rest. Is ts p.0 rest) (end_nil p.1 h.0) (found ts p is))) e

last_register_found : (ts : List Token) (r : Reg) → last_register ts ≡ Some r → IsRegister ts r []
unfolding last_register
last_register_found ts r e = last_found register_at IsRegister register_found ts r e

last_byte_register_found : (ts : List Token) (r : Reg) → last_byte_register ts ≡ Some r → IsByteRegister ts r []
unfolding last_byte_register
last_byte_register_found ts r e = last_found byte_register_at IsByteRegister byte_register_found ts r e

last_memory_found : (ts : List Token) (mem : Mem) → last_memory ts ≡ Some mem → IsMemory ts mem []
unfolding last_memory
last_memory_found ts mem e = last_found memory_at IsMemory memory_found ts mem e

last_rm_found : (ts : List Token) (s : Rm) → last_rm ts ≡ Some s → IsRm ts s []
unfolding last_rm
last_rm_found ts s e = last_found rm_at IsRm rm_found ts s e

last_src_found : (ts : List Token) (s : Src) → last_src ts ≡ Some s → IsSrc ts s []
unfolding last_src
last_src_found ts s e = last_found src_at IsSrc src_found ts s e

last_count_found : (ts : List Token) (n : ℕ) → last_count ts ≡ Some n → IsCount ts n []
unfolding last_count
last_count_found ts n e = last_found count_at IsCount count_found ts n e

last_wide_found : (ts : List Token) (n : ℕ) → last_wide ts ≡ Some n → IsWide ts n []
unfolding last_wide
last_wide_found ts n e = last_found wide_at IsWide wide_found ts n e

-- an operand with a comma behind it
record Comma {A : Type 0} (Is : List Token → A → List Token → Type 0) (ts : List Token)
    (p : A × List Token) : Type 0 where
  behind : List Token
  first : Is ts p.0 behind
  comma : IsToken (codes ",") behind p.1

comma_found : {A : Type 0} (at : List Token → Option (A × List Token)) (Is : List Token → A → List Token → Type 0)
    → ((ts : List Token) (p : A × List Token) → at ts ≡ Some p → Is ts p.0 p.1)
    → (ts : List Token) (p : A × List Token) → (at ts >>= comma) ≡ Some p → Comma Is ts p
comma_found {A} at Is found ts p e =
    bind_then (at ts) comma p (Comma Is ts p) (λ q is e.
    bind_then (after (codes ",") q.1) _ p (Comma Is ts p) (λ rest at_comma e.
    let same : (q.0, rest) ≡ p = cc in
    subst (Comma Is ts) same (record {
      behind = q.1;
      first = found ts q is;
      comma = token_found (codes ",") q.1 rest at_comma;
    })) e) e

register_comma_found : (ts : List Token) (p : Reg × List Token) → register_comma ts ≡ Some p → Comma IsRegister ts p
unfolding register_comma
register_comma_found ts p e = comma_found register_at IsRegister register_found ts p e

operands_found : (ts us : List Token) → operands ts ≡ Some us → (is_spaced ts ≡ true) × (ts ≡ us)
unfolding operands
operands_found ts us e = guard_some (is_spaced ts) ts us e

record Destination (ts : List Token) (p : Reg × List Token) : Type 0 where
  spaced : is_spaced ts ≡ true
  reg : Comma IsRegister ts p

destination_found : (ts : List Token) (p : Reg × List Token) → destination ts ≡ Some p → Destination ts p
unfolding destination
destination_found ts p e =
    bind_then (operands ts) register_comma p (Destination ts p) (λ us is e.
    let h = operands_found ts us is in
    record { spaced = h.0; reg = subst (λ vs. Comma IsRegister vs p) (sym h.1) (register_comma_found us p e) }) e

-- the operands of an instruction
record Written (ts : List Token) (os : List Operand) : Type 0 where
  parted : IsParted os ts
  are : AreOperands ts os

-- a destination and more
from_destination : (ts : List Token) (d : Reg × List Token) (o : Operand) (os : List Operand) → Destination ts d
    → AreOperands d.1 (o ∷ os) → Written ts (register d.0 ∷ o ∷ os)
from_destination ts d o os dest more =
    record {
      parted = dest.spaced;
      are = record {
        behind = dest.reg.behind;
        next = d.1;
        first = dest.reg.first;
        comma = dest.reg.comma;
        more = more;
      };
    }

-- one operand alone
alone : (ts us : List Token) (o : Operand) → (is_spaced ts ≡ true) × (ts ≡ us) → IsOperand us o [] → Written ts (o ∷ [])
alone ts us o h k = record { parted = h.0; are = subst (λ vs. IsOperand vs o []) (sym h.1) k }

register_rm_found : (ts : List Token) (p : Reg × Rm) → register_rm ts ≡ Some p
    → Written ts (register p.0 ∷ register_or_memory p.1 ∷ [])
unfolding register_rm
register_rm_found ts p e =
    bind_then (destination ts) _ p (Written ts (register p.0 ∷ register_or_memory p.1 ∷ [])) (λ d at e.
    bind_then (last_rm d.1) _ p (Written ts (register p.0 ∷ register_or_memory p.1 ∷ [])) (λ src is e.
    let same : (d.0, src) ≡ p = cc in
    subst (λ q. Written ts (register q.0 ∷ register_or_memory q.1 ∷ [])) same
    (from_destination ts d (register_or_memory src) [] (destination_found ts d at) (last_rm_found d.1 src is))) e) e

register_count_found : (ts : List Token) (p : Reg × ℕ) → register_count ts ≡ Some p
    → Written ts (register p.0 ∷ count p.1 ∷ [])
unfolding register_count
register_count_found ts p e =
    bind_then (destination ts) _ p (Written ts (register p.0 ∷ count p.1 ∷ [])) (λ d at e.
    bind_then (last_count d.1) _ p (Written ts (register p.0 ∷ count p.1 ∷ [])) (λ by is e.
    let same : (d.0, by) ≡ p = cc in
    subst (λ q. Written ts (register q.0 ∷ count q.1 ∷ [])) same
    (from_destination ts d (count by) [] (destination_found ts d at) (last_count_found d.1 by is))) e) e

-- a register with a comma behind it, and a last operand
then_last : (ts : List Token) (p : Reg × List Token) (o : Operand) → Comma IsRegister ts p → IsOperand p.1 o []
    → AreOperands ts (register p.0 ∷ o ∷ [])
then_last ts p o c k = record { behind = c.behind; next = p.1; first = c.first; comma = c.comma; more = k }

counted_found : (ts : List Token) (p : Reg × Rm × Reg) → counted ts ≡ Some p
    → Written ts (register p.0 ∷ register_or_memory p.1 ∷ register p.2 ∷ [])
unfolding counted
counted_found ts p e =
    bind_then (destination ts) _ p (Written ts (register p.0 ∷ register_or_memory p.1 ∷ register p.2 ∷ [])) (λ d at e.
    bind_then (rm_at d.1 >>= comma) _ p (Written ts (register p.0 ∷ register_or_memory p.1 ∷ register p.2 ∷ []))
    (λ s is e.
    bind_then (last_register s.1) _ p (Written ts (register p.0 ∷ register_or_memory p.1 ∷ register p.2 ∷ []))
    (λ by was e.
    let same : (d.0, s.0, by) ≡ p = cc in
    let c = comma_found rm_at IsRm rm_found d.1 s is in
    subst (λ q. Written ts (register q.0 ∷ register_or_memory q.1 ∷ register q.2 ∷ [])) same
    (from_destination ts d (register_or_memory s.0) (register by ∷ []) (destination_found ts d at)
    (record {
      behind = c.behind;
      next = s.1;
      first = c.first;
      comma = c.comma;
      more = last_register_found s.1 by was;
    }))) e) e) e

-- ---- instructions

-- the instruction has the mnemonic, and the tokens behind it are its operands
record Found (m : Mnemonic) (ts : List Token) (i : Instr) : Type 0 where
  is : mnemonic_of i ≡ m
  written : Written ts (operands_of i)

mov_to_register_found : (ts : List Token) (d : Reg × List Token) (i : Instr) → Destination ts d
    → mov_to_register d.0 d.1 ≡ Some i → Found names.Mov ts i
unfolding mov_to_register
mov_to_register_found ts d i dest e =
    pick_then (last_rm d.1) _ _ i (Found names.Mov ts i)
    (λ src at e. let same : instrs.Mov d.0 src ≡ i = cc in
    subst (Found names.Mov ts) same (record {
      is = refl;
      written = from_destination ts d (register_or_memory src) [] dest (last_rm_found d.1 src at);
    }))
    (λ gone e.
    bind_then (last_wide d.1) _ i (Found names.Mov ts i) (λ imm at e. let same : instrs.MovImm d.0 imm ≡ i = cc in
    subst (Found names.Mov ts) same (record {
      is = refl;
      written = from_destination ts d (word imm) [] dest (last_wide_found d.1 imm at);
    })) e) e

store_found : (ts us : List Token) (i : Instr) → (is_spaced ts ≡ true) × (ts ≡ us) → store us ≡ Some i
    → Found names.Mov ts i
unfolding store
store_found ts us i h e =
    bind_then (memory_at us >>= comma) _ i (Found names.Mov ts i) (λ m at e.
    bind_then (last_register m.1) _ i (Found names.Mov ts i) (λ src is e.
    let same : instrs.Store m.0 src ≡ i = cc in
    let c = comma_found memory_at IsMemory memory_found us m at in
    let are : AreOperands us (memory m.0 ∷ register src ∷ []) =
    record {
      behind = c.behind;
      next = m.1;
      first = c.first;
      comma = c.comma;
      more = last_register_found m.1 src is;
    } in
    subst (Found names.Mov ts) same (record {
      is = refl;
      written = record {
        parted = h.0;
        are = subst (λ vs. AreOperands vs (memory m.0 ∷ register src ∷ []))
            (sym h.1) are;
      };
    })) e) e

mov_found : (ts : List Token) (i : Instr) → mov ts ≡ Some i → Found names.Mov ts i
unfolding mov
mov_found ts i e =
    pick_then (destination ts) _ _ i (Found names.Mov ts i)
    (λ d at e. mov_to_register_found ts d i (destination_found ts d at) e)
    (λ gone e. bind_then (operands ts) store i (Found names.Mov ts i)
    (λ us is e. store_found ts us i (operands_found ts us is) e) e) e

lea_found : (ts : List Token) (i : Instr) → lea ts ≡ Some i → Found names.Lea ts i
unfolding lea
lea_found ts i e =
    bind_then (destination ts) _ i (Found names.Lea ts i) (λ d at e.
    bind_then (last_memory d.1) _ i (Found names.Lea ts i) (λ mem is e. let same : instrs.Lea d.0 mem ≡ i = cc in
    subst (Found names.Lea ts) same (record {
      is = refl;
      written = from_destination ts d (memory mem) [] (destination_found ts d at) (last_memory_found d.1 mem is);
    }))
    e) e

bin_found : (op : Bin) (ts : List Token) (i : Instr) → bin op ts ≡ Some i → Found (bin_mnemonic op) ts i
unfolding bin
bin_found op ts i e =
    bind_then (destination ts) _ i (Found (bin_mnemonic op) ts i) (λ d at e.
    bind_then (last_src d.1) _ i (Found (bin_mnemonic op) ts i)
    (λ src is e. let same : instrs.Bin op d.0 src ≡ i = cc in
    subst (Found (bin_mnemonic op) ts) same
    (record {
      is = refl;
      written = from_destination ts d (source src) [] (destination_found ts d at)
          (last_src_found d.1 src is);
    })) e) e

test_found : (ts : List Token) (i : Instr) → test_row ts ≡ Some i → Found names.Test ts i
unfolding test_row
test_found ts i e =
    bind_then (destination ts) _ i (Found names.Test ts i) (λ a at e.
    bind_then (last_register a.1) _ i (Found names.Test ts i) (λ b is e. let same : instrs.Test a.0 b ≡ i = cc in
    subst (Found names.Test ts) same (record {
      is = refl;
      written = from_destination ts a (register b) [] (destination_found ts a at) (last_register_found a.1 b is);
    }))
    e) e

un_found : (op : Un) (ts : List Token) (i : Instr) → un op ts ≡ Some i → Found (un_mnemonic op) ts i
unfolding un
un_found op ts i e =
    bind_then (operands ts >>= last_register) _ i (Found (un_mnemonic op) ts i) (λ dst at e.
    let same : instrs.Un op dst ≡ i = cc in
    bind_then (operands ts) last_register dst (Found (un_mnemonic op) ts i) (λ us is at.
    subst (Found (un_mnemonic op) ts) same (record {
      is = refl;
      written = alone ts us (register dst) (operands_found ts us is) (last_register_found us dst at);
    })) at) e

adcx_found : (ts : List Token) (i : Instr) → adcx ts ≡ Some i → Found names.Adcx ts i
unfolding adcx
adcx_found ts i e = bind_then (register_rm ts) _ i (Found names.Adcx ts i)
    (λ p at e. let same : instrs.Adcx p.0 p.1 ≡ i = cc in
    subst (Found names.Adcx ts) same (record { is = refl; written = register_rm_found ts p at })) e

adox_found : (ts : List Token) (i : Instr) → adox ts ≡ Some i → Found names.Adox ts i
unfolding adox
adox_found ts i e = bind_then (register_rm ts) _ i (Found names.Adox ts i)
    (λ p at e. let same : instrs.Adox p.0 p.1 ≡ i = cc in
    subst (Found names.Adox ts) same (record { is = refl; written = register_rm_found ts p at })) e

imul_found : (ts : List Token) (i : Instr) → imul ts ≡ Some i → Found names.Imul ts i
unfolding imul
imul_found ts i e = bind_then (register_rm ts) _ i (Found names.Imul ts i)
    (λ p at e. let same : instrs.Imul p.0 p.1 ≡ i = cc in
    subst (Found names.Imul ts) same (record { is = refl; written = register_rm_found ts p at })) e

cmov_found : (cond : Cond) (ts : List Token) (i : Instr) → cmov cond ts ≡ Some i → Found (cmov_mnemonic cond) ts i
unfolding cmov
cmov_found cond ts i e = bind_then (register_rm ts) _ i (Found (cmov_mnemonic cond) ts i)
    (λ p at e. let same : instrs.Cmov cond p.0 p.1 ≡ i = cc in
    subst (Found (cmov_mnemonic cond) ts) same (record { is = refl; written = register_rm_found ts p at })) e

mulx_found : (ts : List Token) (i : Instr) → mulx ts ≡ Some i → Found names.Mulx ts i
unfolding mulx
mulx_found ts i e =
    bind_then (destination ts) _ i (Found names.Mulx ts i) (λ hi at e.
    bind_then (register_comma hi.1) _ i (Found names.Mulx ts i) (λ lo is e.
    bind_then (last_rm lo.1) _ i (Found names.Mulx ts i) (λ src was e. let same : instrs.Mulx hi.0 lo.0 src ≡ i = cc in
    subst (Found names.Mulx ts) same (record {
      is = refl;
      written = from_destination ts hi (register lo.0) (register_or_memory src ∷ []) (destination_found ts hi at)
          (then_last hi.1 lo (register_or_memory src) (register_comma_found hi.1 lo is) (last_rm_found lo.1 src was));
    })) e) e) e

mul_found : (ts : List Token) (i : Instr) → mul ts ≡ Some i → Found names.Mul ts i
unfolding mul
mul_found ts i e =
    bind_then (operands ts >>= last_rm) _ i (Found names.Mul ts i) (λ src at e.
    let same : instrs.Mul src ≡ i = cc in
    bind_then (operands ts) last_rm src (Found names.Mul ts i) (λ us is at.
    subst (Found names.Mul ts) same (record {
      is = refl;
      written = alone ts us (register_or_memory src) (operands_found ts us is) (last_rm_found us src at);
    })) at) e

shl_found : (ts : List Token) (i : Instr) → shl ts ≡ Some i → Found names.Shl ts i
unfolding shl
shl_found ts i e = bind_then (register_count ts) _ i (Found names.Shl ts i)
    (λ p at e. let same : instrs.Shl p.0 p.1 ≡ i = cc in
    subst (Found names.Shl ts) same (record { is = refl; written = register_count_found ts p at })) e

shr_found : (ts : List Token) (i : Instr) → shr ts ≡ Some i → Found names.Shr ts i
unfolding shr
shr_found ts i e = bind_then (register_count ts) _ i (Found names.Shr ts i)
    (λ p at e. let same : instrs.Shr p.0 p.1 ≡ i = cc in
    subst (Found names.Shr ts) same (record { is = refl; written = register_count_found ts p at })) e

shrd_found : (ts : List Token) (i : Instr) → shrd ts ≡ Some i → Found names.Shrd ts i
unfolding shrd
shrd_found ts i e =
    bind_then (destination ts) _ i (Found names.Shrd ts i) (λ d at e.
    bind_then (register_comma d.1) _ i (Found names.Shrd ts i) (λ s is e.
    bind_then (last_count s.1) _ i (Found names.Shrd ts i) (λ by was e. let same : instrs.Shrd d.0 s.0 by ≡ i = cc in
    subst (Found names.Shrd ts) same (record {
      is = refl;
      written = from_destination ts d (register s.0) (count by ∷ []) (destination_found ts d at)
          (then_last d.1 s (count by) (register_comma_found d.1 s is) (last_count_found s.1 by was));
    })) e) e) e

shlx_found : (ts : List Token) (i : Instr) → shlx ts ≡ Some i → Found names.Shlx ts i
unfolding shlx
shlx_found ts i e = bind_then (counted ts) _ i (Found names.Shlx ts i)
    (λ p at e. let same : instrs.Shlx p.0 p.1 p.2 ≡ i = cc in
    subst (Found names.Shlx ts) same (record { is = refl; written = counted_found ts p at })) e

shrx_found : (ts : List Token) (i : Instr) → shrx ts ≡ Some i → Found names.Shrx ts i
unfolding shrx
shrx_found ts i e = bind_then (counted ts) _ i (Found names.Shrx ts i)
    (λ p at e. let same : instrs.Shrx p.0 p.1 p.2 ≡ i = cc in
    subst (Found names.Shrx ts) same (record { is = refl; written = counted_found ts p at })) e

set_found : (cond : Cond) (ts : List Token) (i : Instr) → set cond ts ≡ Some i → Found (set_mnemonic cond) ts i
unfolding set
set_found cond ts i e =
    bind_then (operands ts >>= last_byte_register) _ i (Found (set_mnemonic cond) ts i) (λ dst at e.
    let same : instrs.Set cond dst ≡ i = cc in
    bind_then (operands ts) last_byte_register dst (Found (set_mnemonic cond) ts i) (λ us is at.
    subst (Found (set_mnemonic cond) ts) same
    (record {
      is = refl;
      written = alone ts us (byte_register dst) (operands_found ts us is)
          (last_byte_register_found us dst at);
    })) at) e

movzx_found : (ts : List Token) (i : Instr) → movzx ts ≡ Some i → Found names.Movzx ts i
unfolding movzx
movzx_found ts i e =
    bind_then (destination ts) _ i (Found names.Movzx ts i) (λ d at e.
    bind_then (last_byte_register d.1) _ i (Found names.Movzx ts i)
    (λ src is e. let same : instrs.Movzx d.0 src ≡ i = cc in
    subst (Found names.Movzx ts) same (record {
      is = refl;
      written = from_destination ts d (byte_register src) [] (destination_found ts d at)
          (last_byte_register_found d.1 src is);
    })) e) e

plain_found : (i j : Instr) (ts : List Token) → operands_of i ≡ [] → plain i ts ≡ Some j → Found (mnemonic_of i) ts j
unfolding plain
plain_found i j ts no_operands e =
    let h = guard_some (is_end ts) i j e in
    subst (Found (mnemonic_of i) ts) h.1 (record {
      is = refl;
      written = subst (Written ts) (sym no_operands) (record { parted = tt; are = end_nil ts h.0 });
    })

row_found : (m : Mnemonic) (ts : List Token) (i : Instr) → instr_named m ts ≡ Some i → Found m ts i
unfolding instr_named
row_found names.Mov ts i e = mov_found ts i e
row_found names.Movzx ts i e = movzx_found ts i e
row_found names.Lea ts i e = lea_found ts i e
row_found names.Not ts i e = un_found uns.Not ts i e
row_found names.Add ts i e = bin_found bins.Add ts i e
row_found names.Adc ts i e = bin_found bins.Adc ts i e
row_found names.Sub ts i e = bin_found bins.Sub ts i e
row_found names.Cmp ts i e = bin_found bins.Cmp ts i e
row_found names.Sbb ts i e = bin_found bins.Sbb ts i e
row_found names.Neg ts i e = un_found uns.Neg ts i e
row_found names.Inc ts i e = un_found uns.Inc ts i e
row_found names.Dec ts i e = un_found uns.Dec ts i e
row_found names.And ts i e = bin_found bins.And ts i e
row_found names.Or ts i e = bin_found bins.Or ts i e
row_found names.Xor ts i e = bin_found bins.Xor ts i e
row_found names.Test ts i e = test_found ts i e
row_found names.Clc ts i e = plain_found instrs.Clc i ts refl e
row_found names.Adcx ts i e = adcx_found ts i e
row_found names.Adox ts i e = adox_found ts i e
row_found names.Mulx ts i e = mulx_found ts i e
row_found names.Mul ts i e = mul_found ts i e
row_found names.Imul ts i e = imul_found ts i e
row_found names.Shl ts i e = shl_found ts i e
row_found names.Shr ts i e = shr_found ts i e
row_found names.Shrd ts i e = shrd_found ts i e
row_found names.Shlx ts i e = shlx_found ts i e
row_found names.Shrx ts i e = shrx_found ts i e
row_found names.Seto ts i e = set_found conds.O ts i e
row_found names.Setno ts i e = set_found conds.No ts i e
row_found names.Setc ts i e = set_found conds.C ts i e
row_found names.Setnc ts i e = set_found conds.Nc ts i e
row_found names.Setz ts i e = set_found conds.Z ts i e
row_found names.Setnz ts i e = set_found conds.Nz ts i e
row_found names.Cmovo ts i e = cmov_found conds.O ts i e
row_found names.Cmovno ts i e = cmov_found conds.No ts i e
row_found names.Cmovc ts i e = cmov_found conds.C ts i e
row_found names.Cmovnc ts i e = cmov_found conds.Nc ts i e
row_found names.Cmovz ts i e = cmov_found conds.Z ts i e
row_found names.Cmovnz ts i e = cmov_found conds.Nz ts i e
row_found names.Ret ts i e = plain_found instrs.Ret i ts refl e

pub instr_found : (ts : List Token) (i : Instr) → instr_in ts ≡ Some i → IsInstr ts i
unfolding instr_in
instr_found [] i e = cc
instr_found (t ∷ ts) i e =
    bind_then (mnemonic_named t.text) _ i (IsInstr (t ∷ ts) i) (λ m is e.
    let f = row_found m ts i e in
    record {
      rest = ts;
      mnemonic = record { first = t; is = refl; spelled = ap mnemonic_text f.is ∙ mnemonic_of_text t.text m is };
      parted = f.written.parted;
      operands = f.written.are;
    }) e
