-- Instructions that are written are read back.
use Rattle.std.proofs.Common.{◌≡◌, ℕ, ◌<◌, ◌^◌, true, List, [], Some, refl, ◌∙◌}
use Rattle.x86_instr.specs.declared.operand.Reg.{Reg}
use Rattle.x86_instr.specs.declared.operand.Mem.{Mem}
use Rattle.x86_instr.specs.declared.operand.Rm.{Rm}
use Rattle.x86_instr.specs.declared.operand.Rm.TheVariants as rms
use Rattle.x86_instr.specs.declared.operand.Src.{Src}
use Rattle.x86_instr.specs.declared.instr.Cond.{Cond}
use Rattle.x86_instr.specs.declared.instr.Cond.TheVariants as conds
use Rattle.x86_instr.specs.declared.instr.Bin.{Bin}
use Rattle.x86_instr.specs.declared.instr.Bin.TheVariants as bins
use Rattle.x86_instr.specs.declared.instr.Un.{Un}
use Rattle.x86_instr.specs.declared.instr.Un.TheVariants as uns
use Rattle.x86_instr.specs.declared.instr.Instr.{Instr}
use Rattle.x86_instr.specs.declared.instr.Instr.TheVariants as instrs
use Rattle.x86_instr.specs.Mnemonics.{mnemonic_of, bin_mnemonic, un_mnemonic, set_mnemonic, cmov_mnemonic}
use Rattle.x86_instr.specs.Ranges.{is_shift_count}
use Rattle.asm_tokens.specs.Tokens.{Token}
use Rattle.asm_text.specs.Instructions.{operands, register_comma, destination, last_register, last_byte_register}
use Rattle.asm_text.specs.Instructions.{last_memory, last_rm, last_src, last_count, last_wide, mov_to_register, store}
use Rattle.asm_text.specs.Instructions.{mov, lea, bin, test_row, un, register_rm, adcx, adox, mulx, mul, imul}
use Rattle.asm_text.specs.Instructions.{register_count, shl, shr, shrd, counted, shlx, shrx, set, movzx, cmov, plain}
use Rattle.asm_text.specs.Instructions.{instr_named, instr_in}
use Rattle.x86_instr.specs.Fits.{FitsMem, FitsRm, FitsSrc, FitsInstr}
use Rattle.asm_operands.proofs.NamesBack.{mnemonic_back}
use Rattle.asm_text.proofs.OperandsBack.{register_at_back, byte_register_at_back, address_back, memory_back}
use Rattle.asm_text.proofs.OperandsBack.{memory_no_register, rm_back, number_no_rm, wide_back, src_back, count_back}
use Rattle.asm_text.proofs.Spelled.{reg_tokens, byte_reg_tokens, number_tokens, comma_tokens, address_tokens}
use Rattle.asm_text.proofs.Spelled.{mem_tokens, rm_tokens, src_tokens, operand_tokens, instr_tokens}

register_comma_back : (r : Reg) (rest : List Token) → register_comma (reg_tokens r (comma_tokens rest)) ≡ Some (r, rest)
unfolding register_comma
register_comma_back r rest = rw (register_at_back true r (comma_tokens rest)) refl

destination_back : (r : Reg) (rest : List Token) → destination (reg_tokens r (comma_tokens rest)) ≡ Some (r, rest)
unfolding destination operands
destination_back r rest = rw (register_comma_back r rest) refl

last_register_back : (r : Reg) → last_register (reg_tokens r []) ≡ Some r
unfolding last_register
last_register_back r = rw (register_at_back true r []) refl

last_byte_register_back : (r : Reg) → last_byte_register (byte_reg_tokens r []) ≡ Some r
unfolding last_byte_register
last_byte_register_back r = rw (byte_register_at_back r []) refl

last_rm_back : (s : Rm) → FitsRm s → last_rm (rm_tokens s []) ≡ Some s
unfolding last_rm
last_rm_back s fits = rw (rm_back s [] fits) refl

last_src_back : (s : Src) → FitsSrc s → last_src (src_tokens s []) ≡ Some s
unfolding last_src
last_src_back s fits = rw (src_back s [] fits) refl

last_memory_back : (mem : Mem) → FitsMem mem → last_memory (address_tokens mem []) ≡ Some mem
unfolding last_memory
last_memory_back mem fits = rw (address_back mem [] fits) refl

last_count_back : (n : ℕ) → is_shift_count n ≡ true → last_count (number_tokens n []) ≡ Some n
unfolding last_count
last_count_back n fits = rw (count_back n [] fits) refl

register_rm_back : (dst : Reg) (src : Rm) → FitsRm src
    → register_rm (reg_tokens dst (comma_tokens (rm_tokens src []))) ≡ Some (dst, src)
unfolding register_rm
register_rm_back dst src fits = rw (destination_back dst (rm_tokens src []), last_rm_back src fits) refl

register_count_back : (dst : Reg) (by : ℕ) → is_shift_count by ≡ true
    → register_count (reg_tokens dst (comma_tokens (number_tokens by []))) ≡ Some (dst, by)
unfolding register_count
register_count_back dst by fits = rw (destination_back dst (number_tokens by []), last_count_back by fits) refl

counted_back : (dst : Reg) (src : Rm) (count : Reg) → FitsRm src
    → counted (reg_tokens dst (comma_tokens (rm_tokens src (comma_tokens (reg_tokens count []))))) ≡ Some
    (dst, src, count)
unfolding counted
counted_back dst src count fits = rw (
  destination_back dst (rm_tokens src (comma_tokens (reg_tokens count []))),
  rm_back src (comma_tokens (reg_tokens count [])) fits,
  last_register_back count,
) refl

mov_back : (dst : Reg) (src : Rm) → FitsRm src
    → mov (reg_tokens dst (comma_tokens (rm_tokens src []))) ≡ Some (instrs.Mov dst src)
unfolding mov mov_to_register
mov_back dst src fits = rw (destination_back dst (rm_tokens src []), last_rm_back src fits) refl

mov_imm_back : (dst : Reg) (imm : ℕ) → imm < 2 ^ 64
    → mov (reg_tokens dst (comma_tokens (number_tokens imm []))) ≡ Some (instrs.MovImm dst imm)
unfolding mov mov_to_register last_rm last_wide
mov_imm_back dst imm fits = rw (
  destination_back dst (number_tokens imm []),
  number_no_rm imm [] fits,
  wide_back imm [] fits,
) refl

store_back : (mem : Mem) (src : Reg) → FitsMem mem
    → mov (mem_tokens mem (comma_tokens (reg_tokens src []))) ≡ Some (instrs.Store mem src)
unfolding mov destination operands register_comma store
store_back mem src fits = rw (
  memory_no_register mem (comma_tokens (reg_tokens src [])),
  memory_back mem (comma_tokens (reg_tokens src [])) fits,
  last_register_back src,
) refl

pub bin_row : (op : Bin) (ts : List Token) → instr_named (bin_mnemonic op) ts ≡ bin op ts
unfolding instr_named
bin_row bins.Add ts = refl
bin_row bins.Adc ts = refl
bin_row bins.Sub ts = refl
bin_row bins.Sbb ts = refl
bin_row bins.And ts = refl
bin_row bins.Or ts = refl
bin_row bins.Xor ts = refl
bin_row bins.Cmp ts = refl

pub un_row : (op : Un) (ts : List Token) → instr_named (un_mnemonic op) ts ≡ un op ts
unfolding instr_named
un_row uns.Inc ts = refl
un_row uns.Dec ts = refl
un_row uns.Neg ts = refl
un_row uns.Not ts = refl

pub set_row : (cond : Cond) (ts : List Token) → instr_named (set_mnemonic cond) ts ≡ set cond ts
unfolding instr_named
set_row conds.O ts = refl
set_row conds.No ts = refl
set_row conds.C ts = refl
set_row conds.Nc ts = refl
set_row conds.Z ts = refl
set_row conds.Nz ts = refl

pub cmov_row : (cond : Cond) (ts : List Token) → instr_named (cmov_mnemonic cond) ts ≡ cmov cond ts
unfolding instr_named
cmov_row conds.O ts = refl
cmov_row conds.No ts = refl
cmov_row conds.C ts = refl
cmov_row conds.Nc ts = refl
cmov_row conds.Z ts = refl
cmov_row conds.Nz ts = refl

bin_back : (op : Bin) (dst : Reg) (src : Src) → FitsSrc src
    → bin op (reg_tokens dst (comma_tokens (src_tokens src []))) ≡ Some (instrs.Bin op dst src)
unfolding bin
bin_back op dst src fits = rw (destination_back dst (src_tokens src []), last_src_back src fits) refl

lea_back : (dst : Reg) (mem : Mem) → FitsMem mem
    → lea (reg_tokens dst (comma_tokens (address_tokens mem []))) ≡ Some (instrs.Lea dst mem)
unfolding lea
lea_back dst mem fits = rw (destination_back dst (address_tokens mem []), last_memory_back mem fits) refl

test_back : (a : Reg) (b : Reg) → test_row (reg_tokens a (comma_tokens (reg_tokens b []))) ≡ Some (instrs.Test a b)
unfolding test_row
test_back a b = rw (destination_back a (reg_tokens b []), last_register_back b) refl

un_back : (op : Un) (dst : Reg) → un op (reg_tokens dst []) ≡ Some (instrs.Un op dst)
unfolding un operands
un_back op dst = rw (last_register_back dst) refl

adcx_back : (dst : Reg) (src : Rm) → FitsRm src
    → adcx (reg_tokens dst (comma_tokens (rm_tokens src []))) ≡ Some (instrs.Adcx dst src)
unfolding adcx
adcx_back dst src fits = rw (register_rm_back dst src fits) refl

adox_back : (dst : Reg) (src : Rm) → FitsRm src
    → adox (reg_tokens dst (comma_tokens (rm_tokens src []))) ≡ Some (instrs.Adox dst src)
unfolding adox
adox_back dst src fits = rw (register_rm_back dst src fits) refl

imul_back : (dst : Reg) (src : Rm) → FitsRm src
    → imul (reg_tokens dst (comma_tokens (rm_tokens src []))) ≡ Some (instrs.Imul dst src)
unfolding imul
imul_back dst src fits = rw (register_rm_back dst src fits) refl

mulx_back : (hi : Reg) (lo : Reg) (src : Rm) → FitsRm src
    → mulx (reg_tokens hi (comma_tokens (reg_tokens lo (comma_tokens (rm_tokens src []))))) ≡ Some
    (instrs.Mulx hi lo src)
unfolding mulx
mulx_back hi lo src fits = rw (
  destination_back hi (reg_tokens lo (comma_tokens (rm_tokens src []))),
  register_comma_back lo (rm_tokens src []),
  last_rm_back src fits,
) refl

shl_back : (dst : Reg) (by : ℕ) → is_shift_count by ≡ true
    → shl (reg_tokens dst (comma_tokens (number_tokens by []))) ≡ Some (instrs.Shl dst by)
unfolding shl
shl_back dst by fits = rw (register_count_back dst by fits) refl

shr_back : (dst : Reg) (by : ℕ) → is_shift_count by ≡ true
    → shr (reg_tokens dst (comma_tokens (number_tokens by []))) ≡ Some (instrs.Shr dst by)
unfolding shr
shr_back dst by fits = rw (register_count_back dst by fits) refl

shrd_back : (dst : Reg) (src : Reg) (by : ℕ) → is_shift_count by ≡ true
    → shrd (reg_tokens dst (comma_tokens (reg_tokens src (comma_tokens (number_tokens by []))))) ≡ Some
    (instrs.Shrd dst src by)
unfolding shrd
shrd_back dst src by fits = rw (
  destination_back dst (reg_tokens src (comma_tokens (number_tokens by []))),
  register_comma_back src (number_tokens by []),
  last_count_back by fits,
) refl

shlx_back : (dst : Reg) (src : Rm) (count : Reg) → FitsRm src
    → shlx (reg_tokens dst (comma_tokens (rm_tokens src (comma_tokens (reg_tokens count []))))) ≡ Some
    (instrs.Shlx dst src count)
unfolding shlx
shlx_back dst src count fits = rw (counted_back dst src count fits) refl

shrx_back : (dst : Reg) (src : Rm) (count : Reg) → FitsRm src
    → shrx (reg_tokens dst (comma_tokens (rm_tokens src (comma_tokens (reg_tokens count []))))) ≡ Some
    (instrs.Shrx dst src count)
unfolding shrx
shrx_back dst src count fits = rw (counted_back dst src count fits) refl

set_back : (cond : Cond) (dst : Reg) → set cond (byte_reg_tokens dst []) ≡ Some (instrs.Set cond dst)
unfolding set operands
set_back cond dst = rw (last_byte_register_back dst) refl

movzx_back : (dst : Reg) (src : Reg) → movzx (reg_tokens dst (comma_tokens (byte_reg_tokens src []))) ≡ Some
    (instrs.Movzx dst src)
unfolding movzx
movzx_back dst src = rw (destination_back dst (byte_reg_tokens src []), last_byte_register_back src) refl

cmov_back : (cond : Cond) (dst : Reg) (src : Rm) → FitsRm src
    → cmov cond (reg_tokens dst (comma_tokens (rm_tokens src []))) ≡ Some (instrs.Cmov cond dst src)
unfolding cmov
cmov_back cond dst src fits = rw (register_rm_back dst src fits) refl

-- a source that stands first is spaced
mul_back : (src : Rm) → FitsRm src → mul (rm_tokens src []) ≡ Some (instrs.Mul src)
unfolding mul operands
mul_back (rms.Reg r) fits = rw (last_rm_back (rms.Reg r) fits) refl
mul_back (rms.Mem mem) fits = rw (last_rm_back (rms.Mem mem) fits) refl

plain_back : (i : Instr) → plain i [] ≡ Some i
unfolding plain
plain_back i = refl

-- a mnemonic's operands, written, are read as its instruction
row_back : (i : Instr) → FitsInstr i → instr_named (mnemonic_of i) (operand_tokens i) ≡ Some i
unfolding instr_named
row_back (instrs.Mov dst src) fits = mov_back dst src fits
row_back (instrs.MovImm dst imm) fits = mov_imm_back dst imm fits
row_back (instrs.Store mem src) fits = store_back mem src fits
row_back (instrs.Lea dst mem) fits = lea_back dst mem fits
row_back (instrs.Bin op dst src) fits = bin_row op (reg_tokens dst (comma_tokens (src_tokens src [])))
    ∙ bin_back op dst src fits
row_back (instrs.Test a b) fits = test_back a b
row_back (instrs.Un op dst) fits = un_row op (reg_tokens dst []) ∙ un_back op dst
row_back (instrs.Adcx dst src) fits = adcx_back dst src fits
row_back (instrs.Adox dst src) fits = adox_back dst src fits
row_back (instrs.Mulx hi lo src) fits = mulx_back hi lo src fits
row_back (instrs.Mul src) fits = mul_back src fits
row_back (instrs.Imul dst src) fits = imul_back dst src fits
row_back (instrs.Shl dst by) fits = shl_back dst by fits
row_back (instrs.Shr dst by) fits = shr_back dst by fits
row_back (instrs.Shrd dst src by) fits = shrd_back dst src by fits
row_back (instrs.Shlx dst src count) fits = shlx_back dst src count fits
row_back (instrs.Shrx dst src count) fits = shrx_back dst src count fits
row_back (instrs.Set cond dst) fits = set_row cond (byte_reg_tokens dst []) ∙ set_back cond dst
row_back (instrs.Movzx dst src) fits = movzx_back dst src
row_back (instrs.Cmov cond dst src) fits =
    cmov_row cond (reg_tokens dst (comma_tokens (rm_tokens src []))) ∙ cmov_back cond dst src fits
row_back instrs.Clc fits = plain_back instrs.Clc
row_back instrs.Ret fits = plain_back instrs.Ret

pub instr_back : (i : Instr) → FitsInstr i → instr_in (instr_tokens i) ≡ Some i
unfolding instr_in
instr_back i fits = rw (mnemonic_back (mnemonic_of i)) (row_back i fits)
