-- What a program is: parameters with bounds, operations in order, and whether outputs may overlap inputs. A
-- parameter's number counts the returns, then the arguments; a value number counts the results of all operations in
-- order.
use Rattle.std.specs.Prelude.{ℕ, ◌-◌, ◌^◌, Bool, List}
use Rattle.word_program.specs.declared.parameter.Param.{Param}
use Rattle.word_program.specs.declared.parameter.Bounds.{Bounds}
use Rattle.word_program.specs.declared.operation.Op.{Op}

pub record Source : Type 0 where
  pub name : List ℕ
  pub params : List Param
  pub ops : List Op
  -- the arrays that the function writes may share memory with those that it reads
  pub overlap : Bool

-- every word
abbrev pub full : Bounds
full = record { low = 0; high = 2 ^ 64 - 1 }
