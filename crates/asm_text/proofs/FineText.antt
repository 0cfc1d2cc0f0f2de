-- The tokens of an instruction are words that do not go on, and marks.
use Rattle.std.proofs.Common.{◌≡◌, ℕ, ◌<◌, ◌^◌, suc, zero, Bool, true, false, List, [], ◌∷◌, Option, Some, None, ℤ, pos}
use Rattle.std.proofs.Common.{negsuc, codes, decimal, refl, arith, inl, inr}
use Rattle.x86_instr.specs.declared.operand.Reg.{Reg}
use Rattle.x86_instr.specs.declared.operand.Index.{Index}
use Rattle.x86_instr.specs.declared.operand.Mem.{Mem}
use Rattle.x86_instr.specs.declared.operand.Rm.{Rm}
use Rattle.x86_instr.specs.declared.operand.Rm.TheVariants as rms
use Rattle.x86_instr.specs.declared.operand.Src.{Src}
use Rattle.x86_instr.specs.declared.operand.Src.TheVariants as srcs
use Rattle.x86_instr.specs.declared.instr.Instr.{Instr}
use Rattle.x86_instr.specs.declared.instr.Instr.TheVariants as instrs
use Rattle.x86_instr.specs.Mnemonics.{mnemonic_of}
use Rattle.x86_instr.specs.Ranges.{is_shift_count}
use Rattle.asm_tokens.specs.Tokens.{Token, token, goes_on}
use Rattle.asm_tokens.proofs.Spell.{Fine, is_word}
use Rattle.asm_tokens.proofs.Decimals.{written}
use Rattle.asm_operands.specs.Names.{reg_text, byte_reg_text, mnemonic_text}
use Rattle.x86_instr.specs.Fits.{FitsSmall, FitsIndex, FitsMem, FitsRm, FitsSrc, FitsInstr}
use Rattle.asm_text.proofs.NamesBack.{reg_word, byte_reg_word, mnemonic_word}
use Rattle.asm_text.proofs.OperandsBack.{scale_small, count_small}
use Rattle.asm_text.proofs.Spelled.{reg_tokens, byte_reg_tokens, number_tokens, comma_tokens, closing, disp_tokens}
use Rattle.asm_text.proofs.Spelled.{index_tokens, address_tokens, mem_tokens, rm_tokens, imm_tokens, src_tokens}
use Rattle.asm_text.proofs.Spelled.{operand_tokens, instr_tokens}

-- what follows goes on with no word
record Follows (ts : List Token) : Type 0 where
  fine : Fine ts
  ends : goes_on ts ≡ false

nothing : Follows []
nothing = record { fine = tt; ends = refl }

word : (b : Bool) (text : List ℕ) (ts : List Token) → is_word text ≡ true → Follows ts → Fine (token b text ∷ ts)
word b text ts w f = (inr (w, f.ends), f.fine)

spaced : (text : List ℕ) (ts : List Token) → is_word text ≡ true → Follows ts → Follows (token true text ∷ ts)
spaced text ts w f = record { fine = word true text ts w f; ends = refl }

number_word : (n : ℕ) → n < 2 ^ 64 → is_word (decimal n) ≡ true
number_word n fits = let w = written n fits in w.word

fine_reg : (r : Reg) (ts : List Token) → Follows ts → Follows (reg_tokens r ts)
fine_reg r ts f = spaced (reg_text r) ts (reg_word r) f

fine_byte_reg : (r : Reg) (ts : List Token) → Follows ts → Follows (byte_reg_tokens r ts)
fine_byte_reg r ts f = spaced (byte_reg_text r) ts (byte_reg_word r) f

fine_number : (n : ℕ) (ts : List Token) → n < 2 ^ 64 → Follows ts → Follows (number_tokens n ts)
fine_number n ts fits f = spaced (decimal n) ts (number_word n fits) f

fine_comma : (ts : List Token) → Follows ts → Follows (comma_tokens ts)
fine_comma ts f = record { fine = (inl refl, f.fine); ends = refl }

fine_closing : (ts : List Token) → Follows ts → Follows (closing ts)
fine_closing ts f = record { fine = (inl refl, f.fine); ends = refl }

fine_disp : (d : ℤ) (ts : List Token) → FitsSmall d → Follows ts → Follows (disp_tokens d ts)
fine_disp (pos zero) ts fits f = f
fine_disp (pos (suc n)) ts fits f = let g = fine_number (suc n) ts (omega arith) f in
    record { fine = (inl refl, g.fine); ends = refl }
fine_disp (negsuc n) ts fits f = let g = fine_number (suc n) ts (omega arith) f in
    record { fine = (inl refl, g.fine); ends = refl }

fine_index : (i : Option Index) (ts : List Token) → FitsIndex i → Follows ts → Follows (index_tokens i ts)
fine_index None ts fits f = f
fine_index (Some i) ts fits f =
    let scale = word false (decimal i.scale) ts (number_word i.scale (scale_small i.scale fits.1)) f in
    let times : Follows (token false (codes "*") ∷ token false (decimal i.scale) ∷ ts) =
    record { fine = (inl refl, scale); ends = refl } in
    let reg = fine_reg i.reg (token false (codes "*") ∷ token false (decimal i.scale) ∷ ts) times in
    record { fine = (inl refl, reg.fine); ends = refl }

fine_address : (mem : Mem) (ts : List Token) → FitsMem mem → Follows ts → Follows (address_tokens mem ts)
fine_address mem ts fits f =
    let inner = fine_index mem.index (disp_tokens mem.disp (closing ts)) fits.0
    (fine_disp mem.disp (closing ts) fits.1 (fine_closing ts f)) in
    let base = word false (reg_text mem.base) (index_tokens mem.index (disp_tokens mem.disp (closing ts)))
    (reg_word mem.base) inner in
    record { fine = (inl refl, base); ends = refl }

fine_mem : (mem : Mem) (ts : List Token) → FitsMem mem → Follows ts → Follows (mem_tokens mem ts)
fine_mem mem ts fits f = spaced (codes "qword") _ refl (spaced (codes "ptr") _ refl (fine_address mem ts fits f))

fine_rm : (s : Rm) (ts : List Token) → FitsRm s → Follows ts → Follows (rm_tokens s ts)
fine_rm (rms.Reg r) ts fits f = fine_reg r ts f
fine_rm (rms.Mem mem) ts fits f = fine_mem mem ts fits f

fine_imm : (z : ℤ) (ts : List Token) → FitsSmall z → Follows ts → Follows (imm_tokens z ts)
fine_imm (pos n) ts fits f = fine_number n ts (omega arith) f
fine_imm (negsuc n) ts fits f = record {
  fine =
      (inl refl, word false (decimal (suc n)) ts (number_word (suc n) (omega arith)) f);
  ends = refl;
}

fine_src : (s : Src) (ts : List Token) → FitsSrc s → Follows ts → Follows (src_tokens s ts)
fine_src (srcs.Reg r) ts fits f = fine_reg r ts f
fine_src (srcs.Mem mem) ts fits f = fine_mem mem ts fits f
fine_src (srcs.Imm z) ts fits f = fine_imm z ts fits f

fine_count : (n : ℕ) → is_shift_count n ≡ true → Follows (number_tokens n [])
fine_count n fits = fine_number n [] (count_small n fits) nothing

-- a destination and what follows its comma
fine_dst : (r : Reg) (ts : List Token) → Follows ts → Follows (reg_tokens r (comma_tokens ts))
fine_dst r ts f = fine_reg r (comma_tokens ts) (fine_comma ts f)

fine_operands : (i : Instr) → FitsInstr i → Follows (operand_tokens i)
fine_operands (instrs.Mov dst src) fits = fine_dst dst _ (fine_rm src [] fits nothing)
fine_operands (instrs.MovImm dst imm) fits = fine_dst dst _ (fine_number imm [] fits nothing)
fine_operands (instrs.Store mem src) fits = fine_mem mem _ fits (fine_comma _ (fine_reg src [] nothing))
fine_operands (instrs.Lea dst mem) fits = fine_dst dst _ (fine_address mem [] fits nothing)
fine_operands (instrs.Bin op dst src) fits = fine_dst dst _ (fine_src src [] fits nothing)
fine_operands (instrs.Test a b) fits = fine_dst a _ (fine_reg b [] nothing)
fine_operands (instrs.Un op dst) fits = fine_reg dst [] nothing
fine_operands (instrs.Adcx dst src) fits = fine_dst dst _ (fine_rm src [] fits nothing)
fine_operands (instrs.Adox dst src) fits = fine_dst dst _ (fine_rm src [] fits nothing)
fine_operands (instrs.Mulx hi lo src) fits = fine_dst hi _ (fine_dst lo _ (fine_rm src [] fits nothing))
fine_operands (instrs.Mul src) fits = fine_rm src [] fits nothing
fine_operands (instrs.Imul dst src) fits = fine_dst dst _ (fine_rm src [] fits nothing)
fine_operands (instrs.Shl dst by) fits = fine_dst dst _ (fine_count by fits)
fine_operands (instrs.Shr dst by) fits = fine_dst dst _ (fine_count by fits)
fine_operands (instrs.Shrd dst src by) fits = fine_dst dst _ (fine_dst src _ (fine_count by fits))
fine_operands (instrs.Shlx dst src count) fits =
    fine_dst dst _ (fine_rm src _ fits (fine_comma _ (fine_reg count [] nothing)))
fine_operands (instrs.Shrx dst src count) fits =
    fine_dst dst _ (fine_rm src _ fits (fine_comma _ (fine_reg count [] nothing)))
fine_operands (instrs.Set cond dst) fits = fine_byte_reg dst [] nothing
fine_operands (instrs.Movzx dst src) fits = fine_dst dst _ (fine_byte_reg src [] nothing)
fine_operands (instrs.Cmov cond dst src) fits = fine_dst dst _ (fine_rm src [] fits nothing)
fine_operands instrs.Clc fits = nothing
fine_operands instrs.Ret fits = nothing

pub fine_instr : (i : Instr) → FitsInstr i → Fine (instr_tokens i)
fine_instr i fits = word true (mnemonic_text (mnemonic_of i)) (operand_tokens i) (mnemonic_word (mnemonic_of i))
    (fine_operands i fits)
