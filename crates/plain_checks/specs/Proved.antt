-- What holds of the plain listings of a program.
use Rattle.std.specs.Prelude.{◌+◌, ◌*◌, ◌≤◌, List, length}
use Rattle.word_program.specs.Program.{Source}
use Rattle.word_program.specs.Values.{output_count}
use Rattle.op_order.specs.declared.slot.Slot.{Slot}
use Rattle.op_order.specs.Legal.{IsLegal}
use Rattle.op_order.specs.Realises.{Realises}
use Rattle.plain_lower.specs.Plain.{plain_lines, plain_listing}
use Rattle.equiv_validator.specs.Checks.{IsProved}

-- the plain listing of a plan does what the plan says, is proved for the program, and has few lines
pub record IsRightPlain (program : Source) (slots : List Slot) : Type 0 where
  pub realises : Realises program slots (plain_listing program slots)
  pub proved : IsProved program (plain_lines program slots)
  pub few : length (plain_lines program slots) ≤ 16 * length program.ops + 9 + 2 * output_count program.params

-- so it is for each legal plan
abbrev pub HasRightPlain : Source → Type 0
HasRightPlain program = (slots : List Slot) → IsLegal program slots → IsRightPlain program slots
