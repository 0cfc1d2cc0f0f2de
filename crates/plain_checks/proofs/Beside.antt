-- Symbolic states that differ in flags, in registers that a block may change, and in the last access alone.
use Rattle.std.proofs.Common.{◌≡◌, ℕ, List, [], ◌∷◌, Bool, true, false, length, refl, ◌∙◌}
use Rattle.x86_instr.specs.declared.operand.Reg.{Reg}
use Rattle.x86_instr.specs.declared.operand.Reg.TheVariants.{Rax, Rcx, Rdx, Rbx, Rsp, Rbp, Rsi, Rdi, R8, R9, R10, R11}
use Rattle.x86_instr.specs.declared.operand.Reg.TheVariants.{R12, R13, R14, R15}
use Rattle.symbolic_state.specs.Symbols.{Symbols, node_in}
use Rattle.plain_lower.specs.Blocks.{Place}

-- the registers that a block may change
abbrev pub is_scratch : Reg → Bool
is_scratch Rax = true
is_scratch Rcx = true
is_scratch Rdx = true
is_scratch R10 = true
is_scratch R11 = true
is_scratch Rbx = false
is_scratch Rsp = false
is_scratch Rbp = false
is_scratch Rsi = false
is_scratch Rdi = false
is_scratch R8 = false
is_scratch R9 = false
is_scratch R12 = false
is_scratch R13 = false
is_scratch R14 = false
is_scratch R15 = false

pub record Beside (y z : Symbols) : Type 0 where
  pub sixteen : length z.regs ≡ 16
  pub kept : (r : Reg) → is_scratch r ≡ false → node_in z r ≡ node_in y r
  pub arrays : z.arrays ≡ y.arrays
  pub frame : z.frame ≡ y.frame
  pub overlap : z.overlap ≡ y.overlap

pub beside_itself : (y : Symbols) → length y.regs ≡ 16 → Beside y y
beside_itself y h = record { sixteen = h; kept = λ r e. refl; arrays = refl; frame = refl; overlap = refl }

pub beside_then : {y z w : Symbols} → Beside y z → Beside z w → Beside y w
beside_then a b = record {
  sixteen = b.sixteen;
  kept = λ r e. b.kept r e ∙ a.kept r e;
  arrays = b.arrays ∙ a.arrays;
  frame = b.frame ∙ a.frame;
  overlap = b.overlap ∙ a.overlap;
}

-- each register of a row's loads, or of its saves, has the node of its place
abbrev pub AreIn : Symbols → (ℕ → ℕ) → List Place → Type 0
AreIn y nodes [] = Unit {0}
AreIn y nodes (l ∷ ls) = (node_in y l.0 ≡ nodes l.1) × AreIn y nodes ls
