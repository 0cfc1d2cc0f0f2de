-- The lists after all sources are those after the sources that are left.
use Rattle.std.proofs.Common.{◌≡◌, ◌<◌, drop, length}
use Rattle.std.specs.List.{AllByRecursion}
use Rattle.dependency_graph.specs.Transposed.{entered_all}
use Rattle.dependency_graph.proofs.transpose.enter_all.Given as goal

abbrev pub invariant-loop-source : goal.invariant-loop-source
invariant-loop-source l = record {
  count : l.number ≡ l.source-index;
  lists : entered_all 0 l.initial.lists.items l.sources ≡ entered_all l.number l.lists.items
      (drop l.source-index l.sources);
  size : length l.lists.items ≡ length l.initial.lists.items;
  places : AllByRecursion (AllByRecursion (λ place. place < length l.initial.lists.items))
      (drop l.source-index l.sources);
}
