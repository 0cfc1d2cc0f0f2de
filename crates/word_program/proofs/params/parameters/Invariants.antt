-- What is found in all parts is found in those that are left, behind the parameters so far.
use Rattle.std.proofs.Common.{◌≡◌, ◌+◌, drop, length}
use Rattle.word_program.specs.Rules.{parameter_fault, with_param, parameters_in}
use Rattle.word_program.specs.Walk.{walk}
use Rattle.word_program.proofs.params.parameters.Given as goal

abbrev pub invariant-loop-raw : goal.invariant-loop-raw
invariant-loop-raw l = record {
  count : l.item ≡ l.raw-index;
  room : length l.params ≡ length l.initial.params + l.raw-index;
  fault : walk (parameter_fault l.section) (with_param l.section) l.initial.params 0 l.raws ≡ walk
      (parameter_fault l.section) (with_param l.section) l.params l.item (drop l.raw-index l.raws);
  state : parameters_in l.section l.initial.params l.raws ≡ parameters_in l.section l.params (drop l.raw-index l.raws);
}
