-- What the registers hold after a write, and registers as sixteen variables.
use Rattle.std.proofs.Common.{◌≡◌, ◌≢◌, ℕ, suc, ◌+◌, ◌<◌, List, [], ◌∷◌, length, Some, slice_get, sym, ap, ◌∙◌, subst}
use Rattle.std.proofs.Common.{arith, length-set, get_or-set_same, get_or-set_other}
use Rattle.std.proofs.lemmas.Option.{slice_get_within}
use Rattle.x86_instr.specs.declared.operand.Reg.{Reg}
use Rattle.x86_instr.specs.Registers.{number_of, registers}
use Rattle.x86_instr.proofs.RegisterList.{at_number}
use Rattle.x86_meaning.specs.declared.state.State.{State}
use Rattle.x86_meaning.specs.Machine.{reg, with_reg}

-- ---- writes

-- no two registers have one number
pub number_of-injective : (q r : Reg) → number_of q ≡ number_of r → q ≡ r
number_of-injective q r e =
    let same : Some q ≡ Some r = sym (at_number q) ∙ (ap (slice_get registers) e ∙ at_number r) in cc

-- a register's number is below 16
number_below : (r : Reg) → number_of r < 16
number_below r = slice_get_within registers (number_of r) r (at_number r)

-- a register that is written holds the word
pub reg_written : (r : Reg) (word : ℕ) (s : State) → length s.regs ≡ 16 → reg (with_reg r word s) r ≡ word
reg_written r word s sixteen = get_or-set_same s.regs (number_of r) word 0
    (subst (λ n. number_of r < n) (sym sixteen) (number_below r))

-- the others hold what they held
pub reg_other : (q r : Reg) (word : ℕ) (s : State) → q ≢ r → reg (with_reg r word s) q ≡ reg s q
reg_other q r word s other = get_or-set_other s.regs (number_of r) (number_of q) word 0
    (λ e. other (number_of-injective q r e))

-- a write leaves as many registers
pub length-with_reg : (r : Reg) (word : ℕ) (s : State) → length (with_reg r word s).regs ≡ length s.regs
length-with_reg r word s = length-set s.regs (number_of r) word

-- ---- sixteen variables

-- a list with one word more has a first one
first_of_more : (P : List ℕ → Type 0) (xs : List ℕ) (n : ℕ) → length xs ≡ suc n
    → ((x : ℕ) (rest : List ℕ) → length rest ≡ n → P (x ∷ rest)) → P xs
first_of_more P [] n e f = absurd (omega arith)
first_of_more P (x ∷ rest) n e f = f x rest (omega arith)

-- a list of no words is empty
none_of : (P : List ℕ → Type 0) (xs : List ℕ) → length xs ≡ 0 → P [] → P xs
none_of P [] e p = p
none_of P (x ∷ rest) e p = absurd (omega arith)

-- a list with four words more has four first ones
four_of_more : (P : List ℕ → Type 0) (xs : List ℕ) (n : ℕ) → length xs ≡ n + 4
    → ((a b c d : ℕ) (rest : List ℕ) → length rest ≡ n → P (a ∷ b ∷ c ∷ d ∷ rest)) → P xs
four_of_more P xs n e f =
    first_of_more P xs (n + 3) (omega arith) (λ a aas ea.
    first_of_more (λ ys. P (a ∷ ys)) aas (n + 2) (omega arith) (λ b bbs eb.
    first_of_more (λ ys. P (a ∷ b ∷ ys)) bbs (n + 1) (omega arith) (λ c cs ec.
    first_of_more (λ ys. P (a ∷ b ∷ c ∷ ys)) cs n (omega arith) (λ d ds ed. f a b c d ds ed))))

-- what holds of any sixteen words in a row holds of a list of length 16
pub by_sixteen : (P : List ℕ → Type 0) (xs : List ℕ) → length xs ≡ 16
    → ((r0 r1 r2 r3 r4 r5 r6 r7 r8 r9 r10 r11 r12 r13 r14 r15 : ℕ)
    → P (r0 ∷ r1 ∷ r2 ∷ r3 ∷ r4 ∷ r5 ∷ r6 ∷ r7 ∷ r8 ∷ r9 ∷ r10 ∷ r11 ∷ r12 ∷ r13 ∷ r14 ∷ r15 ∷ []))
    → P xs
by_sixteen P xs e f =
    four_of_more P xs 12 e (λ r0 r1 r2 r3 xs4 e4.
    four_of_more (λ ys. P (r0 ∷ r1 ∷ r2 ∷ r3 ∷ ys)) xs4 8 e4 (λ r4 r5 r6 r7 xs8 e8.
    four_of_more (λ ys. P (r0 ∷ r1 ∷ r2 ∷ r3 ∷ r4 ∷ r5 ∷ r6 ∷ r7 ∷ ys)) xs8 4 e8 (λ r8 r9 r10 r11 xs12 e12.
    four_of_more (λ ys. P (r0 ∷ r1 ∷ r2 ∷ r3 ∷ r4 ∷ r5 ∷ r6 ∷ r7 ∷ r8 ∷ r9 ∷ r10 ∷ r11 ∷ ys)) xs12 0 e12
    (λ r12 r13 r14 r15 xs16 e16.
    none_of (λ ys. P (r0 ∷ r1 ∷ r2 ∷ r3 ∷ r4 ∷ r5 ∷ r6 ∷ r7 ∷ r8 ∷ r9 ∷ r10 ∷ r11 ∷ r12 ∷ r13 ∷ r14 ∷ r15 ∷ ys)) xs16
    e16
    (f r0 r1 r2 r3 r4 r5 r6 r7 r8 r9 r10 r11 r12 r13 r14 r15)))))
