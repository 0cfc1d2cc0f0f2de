-- What is found in all results is found in those that are left, behind the results so far.
use Rattle.std.proofs.Common.{◌≡◌, ◌++◌, ◌+◌, drop, map, length}
use Rattle.std.specs.Prelude.{fold}
use Rattle.word_program.specs.Rules.{result_fault, with_result, target_of}
use Rattle.word_program.specs.Walk.{walk}
use Rattle.word_program.proofs.body.results.Given as goal

abbrev pub invariant-loop-text : goal.invariant-loop-text
invariant-loop-text l = record {
  count : l.place ≡ l.text-index;
  params : l.scope.params ≡ l.initial.scope.params;
  names : length l.scope.names ≡ length l.initial.scope.names + l.text-index;
  fault : walk (result_fault l.item l.before) with_result l.initial.scope 0 l.texts ≡ walk
      (result_fault l.item l.before) with_result l.scope l.place (drop l.text-index l.texts);
  state : fold with_result l.initial.scope l.texts ≡ fold with_result l.scope (drop l.text-index l.texts);
  value : map (target_of l.initial.scope.params) l.texts ≡ l.targets
      ++ map (target_of l.initial.scope.params) (drop l.text-index l.texts);
}
