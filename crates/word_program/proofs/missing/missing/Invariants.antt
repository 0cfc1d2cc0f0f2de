-- What is found in all parameters is found in those that are left.
use Rattle.std.proofs.Common.{◌≡◌, drop}
use Rattle.std.specs.List.{AllByRecursion}
use Rattle.word_program.specs.Accepted.{IsParam}
use Rattle.word_program.specs.Rules.{missing_in}
use Rattle.word_program.specs.Walk.{walk}
use Rattle.word_program.proofs.missing.missing.Given as goal

abbrev pub invariant-loop-param : goal.invariant-loop-param
invariant-loop-param l = record {
  count : l.number ≡ l.param-index;
  params : AllByRecursion IsParam (drop l.param-index l.params);
  fault : walk (missing_in l.targets) (λ u p. u) tt 0 l.params ≡ walk (missing_in l.targets) (λ u p. u) tt l.number
      (drop l.param-index l.params);
}
