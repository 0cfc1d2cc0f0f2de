-- The words so far have their nodes.
use Rattle.std.proofs.Common.{◌≡◌, take}
use Rattle.symbolic_state.specs.Written.{words_written}
use Rattle.equiv_validator.specs.Checks as spec
use Rattle.equiv_validator.proofs.ending.other_output.Given as goal

abbrev pub invariant-loop-source : goal.invariant-loop-source
invariant-loop-source l = record {
  number : l.word ≡ l.source-index;
  same : spec.HaveNodes (take l.source-index (words_written l.state)) (take l.source-index l.nodes);
}
