-- The lists after all places are those after the places that are left.
use Rattle.std.proofs.Common.{◌≡◌, ◌<◌, drop, length}
use Rattle.std.specs.List.{AllByRecursion}
use Rattle.dependency_graph.specs.Transposed.{entered}
use Rattle.dependency_graph.proofs.transpose.enter.Given as goal

abbrev pub invariant-loop-place : goal.invariant-loop-place
invariant-loop-place l = record {
  lists : entered l.number l.initial.lists.items l.places ≡ entered l.number l.lists.items
      (drop l.place-index l.places);
  count : length l.lists.items ≡ length l.initial.lists.items;
  places : AllByRecursion (λ place. place < length l.lists.items) (drop l.place-index l.places);
}
