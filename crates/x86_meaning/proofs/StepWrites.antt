-- The registers and cells after a step: it writes the destination registers alone, and words alone.
use Rattle.std.proofs.Common.{◌≡◌, ℕ, ◌+◌, ◌*◌, ◌/◌, ◌%◌, ◌^◌, ◌<◌, ◌≤◌, ◌==◌, Bool, true, false}
use Rattle.std.proofs.Common.{List, [], ◌∷◌, Option, Some, None, cond, refl, sym, subst, arith}
use Rattle.std.proofs.Common.{lt_of_le_of_lt}
use Rattle.std.specs.Prelude.{IfSome, if◌then◌else◌, option_map, option_and_then, slice_set}
use Rattle.std.specs.Prelude.{ℤ, pos, negsuc}
use Rattle.std.specs.FinMap as map
use Rattle.std.specs.Int.{cast_unsigned, w64}
use Rattle.std.proofs.lemmas.Bool.Decides.{nat_tests}
use Rattle.std.proofs.lemmas.Nat.{and_le_l, or_lt, xor_lt, mul-lt}
use Rattle.std.proofs.Math.Nat.{mod-lt, div-le_self, div-lt_iff_lt-mul}
use Rattle.x86_instr.specs.declared.operand.Reg.{Reg}
use Rattle.x86_instr.specs.declared.operand.Reg.TheVariants.{Rax, Rdx}
use Rattle.x86_instr.specs.declared.operand.Rm.{Rm}
use Rattle.x86_instr.specs.declared.operand.Rm.TheVariants as rms
use Rattle.x86_instr.specs.declared.operand.Src.{Src}
use Rattle.x86_instr.specs.declared.operand.Src.TheVariants as srcs
use Rattle.x86_instr.specs.declared.instr.Bin.{Bin}
use Rattle.x86_instr.specs.declared.instr.Bin.TheVariants.{Add, Adc, Sub, Sbb, And, Or, Xor, Cmp}
use Rattle.x86_instr.specs.declared.instr.Un.{Un}
use Rattle.x86_instr.specs.declared.instr.Un.TheVariants.{Inc, Dec, Neg, Not}
use Rattle.x86_instr.specs.declared.instr.Instr.{Instr}
use Rattle.x86_instr.specs.declared.instr.Instr.TheVariants as instrs
use Rattle.x86_instr.specs.Fits.{FitsSmall, FitsSrc, FitsInstr}
use Rattle.x86_instr.specs.Ranges.{is_shift_count}
use Rattle.x86_instr.specs.Registers.{number_of}
use Rattle.x86_meaning.specs.declared.state.State.{State}
use Rattle.x86_meaning.specs.Machine.{Cells, IsWord, IsState, reg, step_of, bin_into, un_into, condition_holds}
use Rattle.x86_meaning.specs.Machine.{rm_word, src_word, bit, with_reg}
use Rattle.x86_meaning.specs.Touches.{bin_registers, registers_written}
use Rattle.x86_meaning.proofs.Memory.{get_put}
use Rattle.x86_meaning.proofs.Funnel.{funnel_fits}

-- ---- what a step writes, where words are given only under the condition G

-- the second registers are the first with words in these, the last one that is written first
abbrev pub Writes : Type 0 → List Reg → List ℕ → List ℕ → Type 0
Writes G [] old new = new ≡ old
Writes G (r ∷ rs) old new = (between : List ℕ) × (word : ℕ) × (G → IsWord word)
    × (new ≡ slice_set between (number_of r) word) × Writes G rs old between

-- each cell that holds a word holds one after the step
abbrev pub HoldWords : Type 0 → Cells → Cells → Type 0
HoldWords G old new = (q : ℕ) → G → IfSome (map.get old q) IsWord → IfSome (map.get new q) IsWord

pub record Wrote (G : Type 0) (rs : List Reg) (s t : State) : Type 0 where
  pub regs : Writes G rs s.regs t.regs
  pub cells : HoldWords G s.cells t.cells

-- a step that writes no cell
no_cell : {G : Type 0} {rs : List Reg} (s t : State) → t.cells ≡ s.cells → Writes G rs s.regs t.regs → Wrote G rs s t
no_cell s t e w = record { regs = w; cells = λ q g h. subst (λ m. IfSome (map.get m q) IsWord) (sym e) h }

-- a step that writes one register, or none
one : {G : Type 0} {r : Reg} (s t : State) (word : ℕ) → t.cells ≡ s.cells
    → t.regs ≡ slice_set s.regs (number_of r) word → (G → IsWord word) → Wrote G (r ∷ []) s t
one s t word c e h = no_cell s t c (s.regs, word, h, e, refl)

two : {G : Type 0} {q r : Reg} (s t : State) (second first : ℕ) → t.cells ≡ s.cells
    → t.regs ≡ slice_set (slice_set s.regs (number_of r) first) (number_of q) second → (G → IsWord second)
    → (G → IsWord first) → Wrote G (q ∷ r ∷ []) s t
two {q} {r} s t second first c e h k =
    no_cell s t c (slice_set s.regs (number_of r) first, second, h, e, (s.regs, first, k, refl, refl))

none : {G : Type 0} (s t : State) → t.cells ≡ s.cells → t.regs ≡ s.regs → Wrote G [] s t
none s t c e = no_cell s t c e

-- ---- words

word_after_mod : (n : ℕ) → n % 2 ^ 64 < 2 ^ 64
word_after_mod n = mod-lt n (omega arith)

-- a word divided is a word
word_after_div : (n k : ℕ) → n < 2 ^ 64 → n / k < 2 ^ 64
word_after_div n k h = lt_of_le_of_lt (div-le_self n k) h

-- the high word of a product is a word
high_word : (a b : ℕ) → a < 2 ^ 64 → b < 2 ^ 64 → a * b / 2 ^ 64 < 2 ^ 64
high_word a b h k = (div-lt_iff_lt-mul (omega arith)).1 (mul-lt a b (2 ^ 64) (2 ^ 64) h k)

with_bit : (n : ℕ) (b : Bool) → n < 2 ^ 64 → 256 * (n / 256) + bit b < 2 ^ 64
with_bit n true h = omega arith
with_bit n false h = omega arith

chosen : (b : Bool) (m n : ℕ) → m < 2 ^ 64 → n < 2 ^ 64 → (if b then m else n) < 2 ^ 64
chosen true m n h k = h
chosen false m n h k = k

few_bits : (n : ℕ) → is_shift_count n ≡ true → n ≤ 63
few_bits n e = grind (arith, nat_tests)

-- an immediate with its sign is a word
signed_word : (n : ℤ) → FitsSmall n → cast_unsigned w64 n < 2 ^ 64
signed_word (pos n) h = omega arith
signed_word (negsuc n) h = omega arith

rm_is_word : (s : State) (src : Rm) → IsState s → IfSome (rm_word s src) IsWord
rm_is_word s (rms.Reg r) h = h.registers r
rm_is_word s (rms.Mem mem) h = h.words _

src_is_word : (s : State) (src : Src) → FitsSrc src → IsState s → IfSome (src_word s src) IsWord
src_is_word s (srcs.Reg r) fits h = h.registers r
src_is_word s (srcs.Mem mem) fits h = h.words _
src_is_word s (srcs.Imm n) fits h = signed_word n fits

-- ---- steps that read a word or a flag first

reads : {G : Type 0} (R : State → Type 0) (o : Option ℕ) (f : ℕ → State) → (G → IfSome o IsWord)
    → ((word : ℕ) → (G → IsWord word) → R (f word)) → IfSome (option_map f o) R
reads R None f ok h = tt
reads R (Some word) f ok h = h word ok

reads_then : {G : Type 0} (R : State → Type 0) (o : Option ℕ) (f : ℕ → Option State) → (G → IfSome o IsWord)
    → ((word : ℕ) → (G → IsWord word) → IfSome (f word) R) → IfSome (option_and_then f o) R
reads_then R None f ok h = tt
reads_then R (Some word) f ok h = h word ok

reads_flag : (R : State → Type 0) (o : Option Bool) (f : Bool → State) → ((b : Bool) → R (f b))
    → IfSome (option_map f o) R
reads_flag R None f h = tt
reads_flag R (Some b) f h = h b

-- ---- rows

module _ (G : Type 0) (s : State) (state : G → IsState s) where
  in_reg : (r : Reg) → G → IsWord (reg s r)
  in_reg r g = (state g).registers r

  -- a step that reads a flag, and writes one register
  flag_wrote : (o : Option Bool) (dst : Reg) (word : Bool → ℕ) → ((b : Bool) → G → IsWord (word b))
      → IfSome (option_map (λ b. with_reg dst (word b) s) o) (λ t. Wrote G (dst ∷ []) s t)
  flag_wrote None dst word h = tt
  flag_wrote (Some b) dst word h = one s _ _ refl refl (h b)

  bin_wrote : (op : Bin) (dst : Reg) (word : ℕ) → (G → IsWord word)
      → IfSome (bin_into op dst word s) (λ t. Wrote G (bin_registers op dst) s t)
  bin_wrote Add dst word h = one s _ _ refl refl (λ g. word_after_mod _)
  bin_wrote Adc dst word h = reads_flag _ s.cf _ (λ carry. one s _ _ refl refl (λ g. word_after_mod _))
  bin_wrote Sub dst word h = one s _ _ refl refl (λ g. word_after_mod _)
  bin_wrote Sbb dst word h = reads_flag _ s.cf _ (λ borrow. one s _ _ refl refl (λ g. word_after_mod _))
  bin_wrote And dst word h = one s _ _ refl refl (λ g. lt_of_le_of_lt (and_le_l _ _) (in_reg dst g))
  bin_wrote Or dst word h = one s _ _ refl refl (λ g. or_lt 64 _ _ (in_reg dst g) (h g))
  bin_wrote Xor dst word h = one s _ _ refl refl (λ g. xor_lt 64 _ _ (in_reg dst g) (h g))
  bin_wrote Cmp dst word h = none s _ refl refl

  un_wrote : (op : Un) (dst : Reg) (d : ℕ) → Wrote G (dst ∷ []) s (un_into op dst d s)
  un_wrote Inc dst d = one s _ _ refl refl (λ g. word_after_mod _)
  un_wrote Dec dst d = one s _ _ refl refl (λ g. word_after_mod _)
  un_wrote Neg dst d = one s _ _ refl refl (λ g. word_after_mod _)
  un_wrote Not dst d = one s _ _ refl refl (λ g. omega arith)

  -- the cell of a store holds a word
  put_words : (address word : ℕ) → (G → IsWord word) → HoldWords G s.cells (map.insert s.cells address word)
  put_words address word h q g old =
      subst (λ o. IfSome o IsWord) (sym (get_put s.cells address word q)) (either (q == address))
    where
      either : (b : Bool) → IfSome (cond b (Some word) (map.get s.cells q)) IsWord
      either true = h g
      either false = old

  store_wrote : (address word : ℕ) → (G → IsWord word) → (b : Bool)
      → IfSome (if b then Some (record s { cells = map.insert s.cells address word }) else None) (λ t. Wrote G [] s t)
  store_wrote address word h true = record { regs = refl; cells = put_words address word h }
  store_wrote address word h false = tt

-- what the step is given: a state, and an instruction within its ranges
abbrev pub Given : Instr → State → Type 0
Given i s = IsState s × FitsInstr i

-- each instruction
pub wrote : (i : Instr) (s : State) → IfSome (step_of i s) (λ t. Wrote (Given i s) (registers_written i) s t)
wrote (instrs.Mov dst src) s = reads _ _ _ (λ (g : Given (instrs.Mov dst src) s). rm_is_word s src g.0)
    (λ word h. one s _ _ refl refl h)
wrote (instrs.MovImm dst imm) s = one s _ _ refl refl (λ g. word_after_mod _)
wrote (instrs.Store mem src) s = store_wrote _ s (λ g. g.0) _ _ (λ g. g.0.registers src) _
wrote (instrs.Lea dst mem) s = one s _ _ refl refl (λ g. word_after_mod _)
wrote (instrs.Bin op dst src) s = reads_then _ _ _ (λ (g : Given (instrs.Bin op dst src) s). src_is_word s src g.1 g.0)
    (λ word h. bin_wrote _ s (λ g. g.0) op dst word h)
wrote (instrs.Test a b) s = none s _ refl refl
wrote (instrs.Un op dst) s = un_wrote _ s (λ g. g.0) op dst _
wrote (instrs.Adcx dst src) s = reads_then _ _ _ (λ (g : Given (instrs.Adcx dst src) s). rm_is_word s src g.0)
    (λ word h. reads_flag _ s.cf _ (λ carry. one s _ _ refl refl (λ g. word_after_mod _)))
wrote (instrs.Adox dst src) s = reads_then _ _ _ (λ (g : Given (instrs.Adox dst src) s). rm_is_word s src g.0)
    (λ word h. reads_flag _ s.of _ (λ carry. one s _ _ refl refl (λ g. word_after_mod _)))
wrote (instrs.Mulx hi lo src) s = reads _ _ _ (λ (g : Given (instrs.Mulx hi lo src) s). rm_is_word s src g.0)
    (λ word h. two s _ _ _ refl refl (λ g. high_word _ _ (g.0.registers Rdx) (h g)) (λ g. word_after_mod _))
wrote (instrs.Mul src) s = reads _ _ _ (λ (g : Given (instrs.Mul src) s). rm_is_word s src g.0)
    (λ word h. two s _ _ _ refl refl (λ g. word_after_mod _) (λ g. high_word _ _ (g.0.registers Rax) (h g)))
wrote (instrs.Imul dst src) s = reads _ _ _ (λ (g : Given (instrs.Imul dst src) s). rm_is_word s src g.0)
    (λ word h. one s _ _ refl refl (λ g. word_after_mod _))
wrote (instrs.Shl dst by) s = one s _ _ refl refl (λ g. word_after_mod _)
wrote (instrs.Shr dst by) s = one s _ _ refl refl (λ g. word_after_div _ _ (g.0.registers dst))
wrote (instrs.Shrd dst src by) s = one s _ _ refl refl (λ g. funnel_fits _ _ _ (g.0.registers dst) (few_bits by g.1))
wrote (instrs.Shlx dst src count) s = reads _ _ _ (λ (g : Given (instrs.Shlx dst src count) s). rm_is_word s src g.0)
    (λ word h. one s _ _ refl refl (λ g. word_after_mod _))
wrote (instrs.Shrx dst src count) s = reads _ _ _ (λ (g : Given (instrs.Shrx dst src count) s). rm_is_word s src g.0)
    (λ word h. one s _ _ refl refl (λ g. word_after_div _ _ (h g)))
wrote (instrs.Set flag dst) s = flag_wrote (Given (instrs.Set flag dst) s) s (λ g. g.0) (condition_holds s flag) dst
    (λ b. 256 * (reg s dst / 256) + bit b) (λ b g. with_bit _ b (g.0.registers dst))
wrote (instrs.Movzx dst src) s = one s _ _ refl refl (λ g. omega arith)
wrote (instrs.Cmov flag dst src) s = reads_then _ _ _ (λ (g : Given (instrs.Cmov flag dst src) s). rm_is_word s src g.0)
    (λ word h. flag_wrote (Given (instrs.Cmov flag dst src) s) s (λ g. g.0) (condition_holds s flag) dst
    (λ b. if b then word else reg s dst) (λ b g. chosen b _ _ (h g) (g.0.registers dst)))
wrote instrs.Clc s = none s _ refl refl
wrote instrs.Ret s = none s _ refl refl
