-- Parts of a listing of which no line is owned, ends the listing or names a preserved register: loads, stores, entry
-- and late stores.
use Rattle.std.proofs.Common.{◌≡◌, ℕ, ◌+◌, ◌≤◌, Bool, true, false, List, ◌++◌, length, refl, ap, ◌∙◌}
use Rattle.std.proofs.Common.{arith, Option, Some, None}
use Rattle.std.proofs.lemmas.List.{length-append}
use Rattle.std.proofs.lemmas.List.Folds.{list_all-append}
use Rattle.std.specs.Prelude.{not, ◌&&◌, if◌then◌else◌, is_none}
use Rattle.std.specs.List.{list_all}
use Rattle.word_program.specs.declared.parameter.Role.{Role}
use Rattle.word_program.specs.declared.parameter.Role.TheVariants.{Output, InputArray, InputScalar}
use Rattle.word_program.specs.declared.operation.Operand.{Operand}
use Rattle.word_program.specs.declared.operation.Operand.TheVariants as operands
use Rattle.word_program.specs.declared.operation.Target.{Target}
use Rattle.word_program.specs.declared.operation.Target.TheVariants as targets
use Rattle.word_program.specs.Program.{Source}
use Rattle.x86_instr.specs.declared.operand.Reg.{Reg}
use Rattle.x86_instr.specs.declared.operand.Reg.TheVariants.{Rax, Rcx, Rdx, Rbx, Rsp, Rbp, Rsi, Rdi, R8, R9, R10, R11}
use Rattle.x86_instr.specs.declared.operand.Reg.TheVariants.{R12, R13, R14, R15}
use Rattle.x86_instr.specs.declared.line.Line.{Line}
use Rattle.x86_instr.specs.Listings.{is_ret}
use Rattle.plain_lower.specs.Frame.{role_of, load_input, load, keep, put_out, store}
use Rattle.fast_lower.specs.Named.{preserved, is_same, is_in}

-- the register is none of the preserved ones
abbrev pub is_scratch : Reg → Bool
is_scratch reg = list_all (λ r. not (is_same r reg)) preserved

-- the line goes on, and names no preserved register
abbrev pub is_calm : Line → Bool
is_calm line = not (is_ret line.instr) && list_all (λ r. not (is_in r line.instr)) preserved

-- and no operation owns it
abbrev pub is_quiet : Line → Bool
is_quiet line = is_none line.owner && is_calm line

-- so many lines at most, which all pass
pub record IsPart (test : Line → Bool) (most : ℕ) (lines : List Line) : Type 0 where
  pub short : length lines ≤ most
  pub all : list_all test lines ≡ true

pub both : (test : Line → Bool) (n m : ℕ) (xs ys : List Line) → IsPart test n xs → IsPart test m ys
    → IsPart test (n + m) (xs ++ ys)
both test n m xs ys a b =
    let count = length-append xs ys in
    let first = a.short in
    let second = b.short in
    record {
      short = omega arith;
      all = list_all-append test xs ys ∙ ap (λ c. c && list_all test ys) a.all ∙ b.all;
    }

pub at_most : (test : Line → Bool) (n m : ℕ) (lines : List Line) → n ≤ m → IsPart test n lines → IsPart test m lines
at_most test n m lines w part = let short = part.short in record { short = omega arith; all = part.all }

-- ---- loads

scalar_quiet : (dst : Reg) (param : ℕ) → is_scratch dst ≡ true
    → list_all is_quiet (load_input (Some InputScalar) dst param 0) ≡ true
scalar_quiet dst param e = ap (λ b. b && true) e

array_quiet : (dst : Reg) (param word : ℕ) → is_scratch dst ≡ true
    → list_all is_quiet (load_input (Some InputArray) dst param word) ≡ true
array_quiet Rax param word e = refl
array_quiet Rcx param word e = refl
array_quiet Rdx param word e = refl
array_quiet Rsp param word e = refl
array_quiet Rsi param word e = refl
array_quiet Rdi param word e = refl
array_quiet R8 param word e = refl
array_quiet R9 param word e = refl
array_quiet R10 param word e = refl
array_quiet R11 param word e = refl
array_quiet Rbx param word e = absurd (cc)
array_quiet Rbp param word e = absurd (cc)
array_quiet R12 param word e = absurd (cc)
array_quiet R13 param word e = absurd (cc)
array_quiet R14 param word e = absurd (cc)
array_quiet R15 param word e = absurd (cc)

input_part : (role : Option Role) (dst : Reg) (param word : ℕ) → is_scratch dst ≡ true
    → IsPart is_quiet 2 (load_input role dst param word)
input_part None dst param word e = record { short = omega arith; all = refl }
input_part (Some Output) dst param word e = record { short = omega arith; all = refl }
input_part (Some InputScalar) dst param word e = record { short = omega arith; all = scalar_quiet dst param e }
input_part (Some InputArray) dst param word e = record { short = omega arith; all = array_quiet dst param word e }

pub load_part : (p : Source) (dst : Reg) (x : Operand) → is_scratch dst ≡ true → IsPart is_quiet 2 (load p dst x)
load_part p dst (operands.Literal n) e = record { short = omega arith; all = ap (λ b. b && true) e }
load_part p dst (operands.Input param word) e = input_part (role_of p param) dst param word e
load_part p dst (operands.Value value) e = record { short = omega arith; all = ap (λ b. b && true) e }

-- ---- stores

output_part : (overlap : Bool) (p : Source) (value param word : ℕ) (src : Reg) → is_scratch src ≡ true
    → IsPart is_quiet 2 (if overlap then keep p value src else put_out param word src)
output_part true p value param word src e = record { short = omega arith; all = ap (λ b. b && true) e }
output_part false p value param word src e = record { short = omega arith; all = ap (λ b. b && true) e }

pub store_part : (p : Source) (value : ℕ) (t : Target) (src : Reg) → is_scratch src ≡ true
    → IsPart is_quiet 2 (store p value t src)
store_part p value targets.Value src e = record { short = omega arith; all = ap (λ b. b && true) e }
store_part p value targets.Unused src e = record { short = omega arith; all = refl }
store_part p value (targets.Output param word) src e = output_part p.overlap p value param word src e
