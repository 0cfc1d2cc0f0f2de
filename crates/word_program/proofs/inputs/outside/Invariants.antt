-- The words so far are within their bounds.
use Rattle.std.proofs.Common.{◌≡◌, drop}
use Rattle.word_program.specs.Evaluates as spec
use Rattle.word_program.proofs.inputs.outside.Given as goal

abbrev pub invariant-loop-word : goal.invariant-loop-word
invariant-loop-word l = record {
  count : l.number ≡ l.word-index;
  found : spec.outside 0 l.inputs l.bounds ≡ spec.outside l.number (drop l.word-index l.inputs)
      (drop l.word-index l.bounds);
}
