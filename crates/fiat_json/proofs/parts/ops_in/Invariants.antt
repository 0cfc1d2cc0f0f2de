-- What is found of all items is what is found of those that are left, behind the operations so far.
use Rattle.std.proofs.Common.{◌≡◌, [], drop}
use Rattle.std.specs.Prelude.{fold}
use Rattle.serde_json.specs.View.{items_view}
use Rattle.word_program.specs.Walk.{walk}
use Rattle.fiat_json.specs.Shape.{list_of, op_fault, with_op}
use Rattle.fiat_json.proofs.parts.ops_in.Given as goal

abbrev pub invariant-loop-value : goal.invariant-loop-value
invariant-loop-value l = record {
  count : l.item ≡ l.value-index;
  fault : walk op_fault (λ u d. u) tt 0 (list_of (items_view l.list)) ≡ walk op_fault (λ u d. u) tt l.item
      (list_of (items_view (drop l.value-index l.list)));
  state : fold with_op [] (list_of (items_view l.list)) ≡ fold with_op l.ops
      (list_of (items_view (drop l.value-index l.list)));
}
