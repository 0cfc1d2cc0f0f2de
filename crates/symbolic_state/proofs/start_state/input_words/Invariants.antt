-- The words so far are those of the input, and the table is as it was.
use Rattle.std.proofs.Common.{◌≡◌, Some, map}
use Rattle.std.specs.List.{range_with_len}
use Rattle.symbolic_state.specs.Starts.{input_node}
use Rattle.symbolic_state.proofs.start_state.input_words.Given as goal

abbrev pub invariant-loop-word : goal.invariant-loop-word
invariant-loop-word g l = record {
  words : l.words.items ≡ map (λ word. Some (input_node (g.T.Nodes.nodes l.fn.store) l.program.params l.param word))
      (range_with_len 0 l.word);
  table : g.T.Nodes.nodes l.store ≡ g.T.Nodes.nodes l.fn.store;
  fixed : g.T.Interner.fixed l.store ≡ g.T.Interner.fixed l.fn.store;
}
