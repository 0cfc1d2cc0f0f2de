-- The part of a symbolic state that the middle of a block changes: five registers, the flags, and the last access.
use Rattle.std.proofs.Common.{◌≡◌, ℕ, true, false, List, [], ◌∷◌, length, Option, refl, ap, subst, ◌∙◌}
use Rattle.std.proofs.Common.{slice_index}
use Rattle.x86_instr.specs.declared.operand.Reg.{Reg}
use Rattle.x86_instr.specs.declared.operand.Reg.TheVariants.{Rax, Rcx, Rdx, Rbx, Rsp, Rbp, Rsi, Rdi, R8, R9, R10, R11}
use Rattle.x86_instr.specs.declared.operand.Reg.TheVariants.{R12, R13, R14, R15}
use Rattle.x86_instr.specs.declared.line.Line.{Line}
use Rattle.x86_meaning.proofs.RegisterLemmas.{by_sixteen}
use Rattle.terms.specs.declared.nodes.Node.{Node}
use Rattle.terms.specs.Tables.{Prefix}
use Rattle.symbolic_state.specs.declared.touch.Touch.{Touch}
use Rattle.symbolic_state.specs.Symbols.{Symbols, node_in}
use Rattle.plain_lower.specs.Blocks.{Place}
use Rattle.plain_checks.proofs.Beside.{AreIn, Beside, is_scratch}
use Rattle.plain_checks.proofs.Leading.{Leads}

-- the nodes of the five registers and of the flags, and the last access
pub record Work : Type 0 where
  pub rax : ℕ
  pub rcx : ℕ
  pub rdx : ℕ
  pub r10 : ℕ
  pub r11 : ℕ
  pub cf : Option ℕ
  pub of : Option ℕ
  pub zf : Option ℕ
  pub touch : Option Touch

-- the state with these; its registers are a list of sixteen, so that reading and writing them computes
abbrev pub state : Symbols → Work → Symbols
state y w = record {
  regs = w.rax ∷ w.rcx ∷ w.rdx ∷ slice_index y.regs 3 ∷ slice_index y.regs 4 ∷ slice_index y.regs 5
      ∷ slice_index y.regs 6 ∷ slice_index y.regs 7 ∷ slice_index y.regs 8 ∷ slice_index y.regs 9 ∷ w.r10 ∷ w.r11
      ∷ slice_index y.regs 12 ∷ slice_index y.regs 13 ∷ slice_index y.regs 14 ∷ slice_index y.regs 15 ∷ [];
  cf = w.cf;
  of = w.of;
  zf = w.zf;
  arrays = y.arrays;
  frame = y.frame;
  overlap = y.overlap;
  touch = w.touch;
}

abbrev pub work_of : Symbols → Work
work_of y = record {
  rax = node_in y Rax;
  rcx = node_in y Rcx;
  rdx = node_in y Rdx;
  r10 = node_in y R10;
  r11 = node_in y R11;
  cf = y.cf;
  of = y.of;
  zf = y.zf;
  touch = y.touch;
}

-- a state is the one with its own
itself : (y : Symbols) → length y.regs ≡ 16 → state y (work_of y) ≡ y
itself y h = by_sixteen (λ regs. state (record y { regs = regs }) (work_of (record y { regs = regs }))
    ≡ record y { regs = regs }) y.regs h
    (λ r0 r1 r2 r3 r4 r5 r6 r7 r8 r9 r10 r11 r12 r13 r14 r15. refl)

-- lines lead on from a state, where they do with its own in place
pub leads_from : {lines : List Line} {t : List Node} {y : Symbols} {Q : List Node → Symbols → Type 0}
    → length y.regs ≡ 16 → (w : Work) → w ≡ work_of y → Leads lines t (state y w) Q → Leads lines t y Q
leads_from {lines} {t} {y} {Q} h w e l =
    subst (λ (z : Symbols). Leads lines t z Q) (ap (state y) e ∙ itself y h) l

pub beside_state : (y : Symbols) (w : Work) → Beside y (state y w)
beside_state y w = record { sixteen = refl; kept = kept_by; arrays = refl; frame = refl; overlap = refl } where
  kept_by : (r : Reg) → is_scratch r ≡ false → node_in (state y w) r ≡ node_in y r
  kept_by Rax e = absurd (let f : true ≡ false = e in cc)
  kept_by Rcx e = absurd (let f : true ≡ false = e in cc)
  kept_by Rdx e = absurd (let f : true ≡ false = e in cc)
  kept_by R10 e = absurd (let f : true ≡ false = e in cc)
  kept_by R11 e = absurd (let f : true ≡ false = e in cc)
  kept_by Rbx e = refl
  kept_by Rsp e = refl
  kept_by Rbp e = refl
  kept_by Rsi e = refl
  kept_by Rdi e = refl
  kept_by R8 e = refl
  kept_by R9 e = refl
  kept_by R12 e = refl
  kept_by R13 e = refl
  kept_by R14 e = refl
  kept_by R15 e = refl

-- what a middle has to lead to: a state in which the results are in their registers
abbrev pub Ends : List Node → Symbols → (ℕ → ℕ) → List Place → List Line → (List Node → Symbols → Type 0) → Type 0
Ends t y results saves rest Q =
    (u : List Node) (w : Work) → Prefix t u → AreIn (state y w) results saves → Leads rest u (state y w) Q
