-- The words of the parameters so far come before those that are left.
use Rattle.std.proofs.Common.{◌≡◌, ◌++◌, drop}
use Rattle.word_program.specs.Values.{outputs_from}
use Rattle.word_program.proofs.evaluation.outputs.Given as goal

abbrev pub invariant-loop-param : goal.invariant-loop-param
invariant-loop-param l = record {
  count : l.number ≡ l.param-index;
  words : outputs_from l.targets l.so_far 0 l.params ≡ l.words.items
      ++ outputs_from l.targets l.so_far l.number (drop l.param-index l.params);
}
