-- The registers are those with the scalars so far, and the table is as it was.
use Rattle.std.proofs.Common.{◌≡◌, drop}
use Rattle.std.specs.List.{range_with_len}
use Rattle.symbolic_state.specs.Starts.{with_scalars}
use Rattle.symbolic_state.proofs.start_state.start_regs.Given as goal

abbrev pub invariant-loop-param : goal.invariant-loop-param
invariant-loop-param g l = record {
  number : l.number ≡ l.param-index;
  regs : with_scalars (g.T.Nodes.nodes l.fn.store) l.program.params 0 l.program.params (range_with_len 0 16)
      ≡ with_scalars (g.T.Nodes.nodes l.fn.store) l.program.params l.number (drop l.param-index l.program.params)
      l.regs;
  table : g.T.Nodes.nodes l.store ≡ g.T.Nodes.nodes l.fn.store;
  fixed : g.T.Interner.fixed l.store ≡ g.T.Interner.fixed l.fn.store;
}
