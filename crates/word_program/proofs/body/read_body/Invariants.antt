-- What is found in all operations is found in those that are left, behind the operations so far.
use Rattle.std.proofs.Common.{◌≡◌, ◌*◌, ◌≤◌, drop, length}
use Rattle.std.specs.Prelude.{fold}
use Rattle.word_program.specs.Rules.{operation_fault, with_operation, start}
use Rattle.word_program.specs.Walk.{walk}
use Rattle.word_program.proofs.body.read_body.Given as goal

abbrev pub invariant-loop-raw : goal.invariant-loop-raw
invariant-loop-raw l = record {
  count : l.item ≡ l.raw-index;
  names : length l.scope.names ≤ 2 * l.raw-index;
  fault : walk operation_fault with_operation (start l.params) 0 l.body
      ≡ walk operation_fault with_operation l.scope l.item (drop l.raw-index l.body);
  state : fold with_operation (start l.params) l.body ≡ fold with_operation l.scope (drop l.raw-index l.body);
}
