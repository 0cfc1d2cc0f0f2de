-- The symbolic state: which nodes stand in registers, flags and the memory, where that is known.
use Rattle.std.specs.Prelude.{ℕ, Bool, List, Option, Some, None, slice_index, slice_set}
use Rattle.word_program.specs.declared.parameter.Role.{Role}
use Rattle.x86_instr.specs.declared.operand.Reg.{Reg}
use Rattle.x86_instr.specs.declared.instr.Cond.{Cond}
use Rattle.x86_instr.specs.declared.instr.Cond.TheVariants as conds
use Rattle.x86_instr.specs.Registers.{number_of}
use Rattle.symbolic_state.specs.declared.touch.Touch.{Touch}

-- the array of a parameter, word by word; no words for a scalar
pub record Array : Type 0 where
  pub role : Role
  pub words : List (Option ℕ)

pub record Symbols : Type 0 where
  -- the node of each register, by the register's number
  pub regs : List ℕ
  -- the nodes of the flags; None is unknown
  pub cf : Option ℕ
  pub of : Option ℕ
  pub zf : Option ℕ
  -- the memory: arrays by parameter, and the frame's words from its lowest address on
  pub arrays : List Array
  pub frame : List (Option ℕ)
  -- outputs may overlap inputs
  pub overlap : Bool
  -- the cell that the last step accessed
  pub touch : Option Touch

abbrev pub node_in : Symbols → Reg → ℕ
node_in y r = slice_index y.regs (number_of r)

abbrev pub with_node : Reg → ℕ → Symbols → Symbols
with_node r node y = record y { regs = slice_set y.regs (number_of r) node }

abbrev pub with_flags : Option ℕ → Option ℕ → Option ℕ → Symbols → Symbols
with_flags cf of zf y = record y { cf = cf; of = of; zf = zf }

abbrev pub with_cf : ℕ → Symbols → Symbols
with_cf node y = with_flags (Some node) y.of y.zf y

abbrev pub with_of : ℕ → Symbols → Symbols
with_of node y = with_flags y.cf (Some node) y.zf y

abbrev pub with_touch : Option Touch → Symbols → Symbols
with_touch touch y = record y { touch = touch }

-- the result where it is written
abbrev pub write : Option Reg → ℕ → Symbols → Symbols
write None node y = y
write (Some r) node y = with_node r node y

-- the node of a condition's flag, where it is known
abbrev pub condition_node : Symbols → Cond → Option ℕ
condition_node y conds.O = y.of
condition_node y conds.No = y.of
condition_node y conds.C = y.cf
condition_node y conds.Nc = y.cf
condition_node y conds.Z = y.zf
condition_node y conds.Nz = y.zf
