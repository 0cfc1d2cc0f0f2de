-- The arrays so far come before those of the parameters that are left, and the table is as it was.
use Rattle.std.proofs.Common.{◌≡◌, ◌++◌, drop}
use Rattle.symbolic_state.specs.Starts.{arrays_at_start}
use Rattle.symbolic_state.proofs.start_state.start_arrays.Given as goal

abbrev pub invariant-loop-param : goal.invariant-loop-param
invariant-loop-param g l = record {
  number : l.number ≡ l.param-index;
  arrays : arrays_at_start (g.T.Nodes.nodes l.fn.store) l.program.params 0 l.program.params
      ≡ l.arrays.items ++ arrays_at_start (g.T.Nodes.nodes l.fn.store) l.program.params l.number
      (drop l.param-index l.program.params);
  table : g.T.Nodes.nodes l.store ≡ g.T.Nodes.nodes l.fn.store;
  fixed : g.T.Interner.fixed l.store ≡ g.T.Interner.fixed l.fn.store;
}
