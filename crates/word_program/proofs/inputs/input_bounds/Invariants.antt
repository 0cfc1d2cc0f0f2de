-- The bounds of the parameters so far come before those that are left.
use Rattle.std.proofs.Common.{◌≡◌, ◌++◌, drop}
use Rattle.word_program.specs.Values as values
use Rattle.word_program.proofs.inputs.input_bounds.Given as goal

abbrev pub invariant-loop-param : goal.invariant-loop-param
invariant-loop-param l = values.input_bounds l.params ≡ l.bounds.items
    ++ values.input_bounds (drop l.param-index l.params)
