-- Operands that are written are read back.
use Rattle.std.proofs.Common.{◌≡◌, ℕ, ◌<◌, ◌^◌, suc, zero, Bool, true, false, List, ◌∷◌, Option, Some, None, ℤ, pos}
use Rattle.std.proofs.Common.{negsuc, codes, decimal, refl, arith}
use Rattle.std.proofs.lemmas.Bool.{ne_eqb, lt-ltb, le-leb}
use Rattle.std.proofs.lemmas.Bool.Decides.{nat_tests}
use Rattle.x86_instr.specs.declared.operand.Reg.{Reg}
use Rattle.x86_instr.specs.declared.operand.Index.{Index}
use Rattle.x86_instr.specs.declared.operand.Mem.{Mem}
use Rattle.x86_instr.specs.declared.operand.Rm.{Rm}
use Rattle.x86_instr.specs.declared.operand.Rm.TheVariants as rms
use Rattle.x86_instr.specs.declared.operand.Src.{Src}
use Rattle.x86_instr.specs.declared.operand.Src.TheVariants as srcs
use Rattle.x86_instr.specs.Ranges.{is_scale, is_shift_count}
use Rattle.asm_tokens.specs.Tokens.{Token, token, after}
use Rattle.asm_tokens.proofs.Decimals.{written}
use Rattle.asm_operands.specs.Names.{reg_text, register_named}
use Rattle.asm_operands.specs.Operands.{register_at, byte_register_at, number_at, scale_at, plus_register, scaled}
use Rattle.asm_operands.specs.Operands.{index_at, offset_at, displacement_at, opened, memory_at, rm_at, immediate_at}
use Rattle.asm_operands.specs.Operands.{small_at, wide_at, src_at, count_at}
use Rattle.x86_instr.specs.Fits.{FitsSmall, FitsIndex, FitsMem, FitsRm, FitsSrc}
use Rattle.asm_operands.proofs.NamesBack.{register_back, byte_register_back}
use Rattle.asm_text.proofs.NamesBack.{digit_no_register}
use Rattle.asm_text.proofs.Spelled.{byte_reg_tokens, number_tokens, closing, disp_tokens, index_tokens, address_tokens}
use Rattle.asm_text.proofs.Spelled.{mem_tokens, rm_tokens, imm_tokens, src_tokens}

pub register_at_back : (b : Bool) (r : Reg) (rest : List Token)
    → register_at (token b (reg_text r) ∷ rest) ≡ Some (r, rest)
unfolding register_at
register_at_back b r rest = rw (register_back r) refl

pub byte_register_at_back : (r : Reg) (rest : List Token) → byte_register_at (byte_reg_tokens r rest) ≡ Some (r, rest)
unfolding byte_register_at
byte_register_at_back r rest = rw (byte_register_back r) refl

number_at_back : (b : Bool) (n : ℕ) (rest : List Token) → n < 2 ^ 64
    → number_at (token b (decimal n) ∷ rest) ≡ Some (n, rest)
unfolding number_at
number_at_back b n rest fits = let w = written n fits in rw w.value refl

no_register : (b : Bool) (n : ℕ) (rest : List Token) → n < 2 ^ 64 → register_at (token b (decimal n) ∷ rest) ≡ None
unfolding register_at
no_register b n rest fits = rw (digit_no_register n fits) refl

pub scale_small : (n : ℕ) → is_scale n ≡ true → n < 2 ^ 64
scale_small n h = grind (arith, nat_tests)

pub count_small : (n : ℕ) → is_shift_count n ≡ true → n < 2 ^ 64
count_small n h = grind (arith, nat_tests)

pub disp_back : (d : ℤ) (rest : List Token) → FitsSmall d
    → displacement_at (disp_tokens d (closing rest)) ≡ Some (d, closing rest)
unfolding displacement_at offset_at
disp_back (pos zero) rest fits = refl
disp_back (pos (suc n)) rest fits = rw (
  number_at_back true (suc n) (closing rest) (omega arith),
  lt-ltb (suc n) (2 ^ 31) fits,
) refl
disp_back (negsuc n) rest fits = rw (
  number_at_back true (suc n) (closing rest) (omega arith),
  le-leb (suc n) (2 ^ 31) (omega arith),
) refl

pub index_back : (i : Option Index) (d : ℤ) (rest : List Token) → FitsIndex i → FitsSmall d
    → index_at (index_tokens i (disp_tokens d (closing rest))) ≡ Some (i, disp_tokens d (closing rest))
unfolding index_at plus_register scaled scale_at
index_back None (pos zero) rest fits small = refl
index_back None (pos (suc n)) rest fits small = rw (no_register true (suc n) (closing rest) (omega arith)) refl
index_back None (negsuc n) rest fits small = refl
index_back (Some i) d rest fits small =
    rw (
      register_at_back true i.reg (token false (codes "*") ∷ token false (decimal i.scale)
          ∷ disp_tokens d (closing rest)),
      fits.0,
      number_at_back false i.scale (disp_tokens d (closing rest)) (scale_small i.scale fits.1),
      fits.1,
    ) refl

pub address_back : (mem : Mem) (rest : List Token) → FitsMem mem
    → memory_at (address_tokens mem rest) ≡ Some (mem, rest)
unfolding memory_at opened
address_back mem rest fits =
    rw (
      register_at_back false mem.base (index_tokens mem.index (disp_tokens mem.disp (closing rest))),
      index_back mem.index mem.disp rest fits.0 fits.1,
      disp_back mem.disp rest fits.1,
    ) refl

pub memory_back : (mem : Mem) (rest : List Token) → FitsMem mem → memory_at (mem_tokens mem rest) ≡ Some (mem, rest)
unfolding memory_at opened
memory_back mem rest fits =
    rw (
      register_at_back false mem.base (index_tokens mem.index (disp_tokens mem.disp (closing rest))),
      index_back mem.index mem.disp rest fits.0 fits.1,
      disp_back mem.disp rest fits.1,
    ) refl

-- memory begins with no register
pub memory_no_register : (mem : Mem) (rest : List Token) → register_at (mem_tokens mem rest) ≡ None
unfolding register_at register_named
memory_no_register mem rest = refl

pub rm_back : (s : Rm) (rest : List Token) → FitsRm s → rm_at (rm_tokens s rest) ≡ Some (s, rest)
unfolding rm_at
rm_back (rms.Reg r) rest fits = rw (register_at_back true r rest) refl
rm_back (rms.Mem mem) rest fits = rw (memory_no_register mem rest, memory_back mem rest fits) refl

-- a number is no memory
no_memory : (b : Bool) (n : ℕ) (rest : List Token) → n < 2 ^ 64 → memory_at (token b (decimal n) ∷ rest) ≡ None
unfolding memory_at opened
no_memory b n rest fits =
    let w = written n fits in
    let no_q = ne_eqb w.first 113 (λ e. let high = w.high in omega arith) in
    let no_bracket = ne_eqb w.first 91 (λ e. let high = w.high in omega arith) in
    rw w.is (rw (no_q, no_bracket) refl)

pub number_no_rm : (n : ℕ) (rest : List Token) → n < 2 ^ 64 → rm_at (number_tokens n rest) ≡ None
unfolding rm_at
number_no_rm n rest fits = rw (no_register true n rest fits, no_memory true n rest fits) refl

-- a number is no minus
no_minus : (n : ℕ) (rest : List Token) → n < 2 ^ 64 → after (codes "-") (number_tokens n rest) ≡ None
no_minus n rest fits =
    let w = written n fits in
    let other = ne_eqb w.first 45 (λ e. let low = w.low in omega arith) in
    rw w.is (rw other refl)

plain_immediate : (n : ℕ) (rest : List Token) → n < 2 ^ 64 → immediate_at (number_tokens n rest) ≡ Some (false, n, rest)
unfolding immediate_at
plain_immediate n rest fits = rw (no_minus n rest fits, number_at_back true n rest fits) refl

minus_immediate : (n : ℕ) (rest : List Token) → n < 2 ^ 64
    → immediate_at (token true (codes "-") ∷ token false (decimal n) ∷ rest) ≡ Some (true, n, rest)
unfolding immediate_at
minus_immediate n rest fits = rw (number_at_back false n rest fits) refl

small_back : (z : ℤ) (rest : List Token) → FitsSmall z → small_at (imm_tokens z rest) ≡ Some (z, rest)
unfolding small_at
small_back (pos n) rest fits = rw (plain_immediate n rest (omega arith), lt-ltb n (2 ^ 31) fits) refl
small_back (negsuc n) rest fits = rw (
  minus_immediate (suc n) rest (omega arith),
  le-leb (suc n) (2 ^ 31) (omega arith),
) refl

pub wide_back : (n : ℕ) (rest : List Token) → n < 2 ^ 64 → wide_at (number_tokens n rest) ≡ Some (n, rest)
unfolding wide_at
wide_back n rest fits = rw (plain_immediate n rest fits) refl

minus_no_register : (rest : List Token) → register_at (token true (codes "-") ∷ rest) ≡ None
unfolding register_at register_named
minus_no_register rest = refl

minus_no_memory : (rest : List Token) → memory_at (token true (codes "-") ∷ rest) ≡ None
unfolding memory_at opened
minus_no_memory rest = refl

pub src_back : (s : Src) (rest : List Token) → FitsSrc s → src_at (src_tokens s rest) ≡ Some (s, rest)
unfolding src_at
src_back (srcs.Reg r) rest fits = rw (register_at_back true r rest) refl
src_back (srcs.Mem mem) rest fits = rw (memory_no_register mem rest, memory_back mem rest fits) refl
src_back (srcs.Imm (pos n)) rest fits = rw
    (no_register true n rest (omega arith), no_memory true n rest (omega arith), small_back (pos n) rest fits) refl
src_back (srcs.Imm (negsuc n)) rest fits =
    rw (
      minus_no_register (token false (decimal (suc n)) ∷ rest),
      minus_no_memory (token false (decimal (suc n)) ∷ rest),
      small_back (negsuc n) rest fits,
    ) refl

pub count_back : (n : ℕ) (rest : List Token) → is_shift_count n ≡ true
    → count_at (number_tokens n rest) ≡ Some (n, rest)
unfolding count_at
count_back n rest fits = rw (number_at_back true n rest (count_small n fits), fits) refl
