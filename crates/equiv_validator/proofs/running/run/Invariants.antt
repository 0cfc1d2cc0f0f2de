-- The rest of the run gives what the whole run gives, and each line makes few nodes.
use Rattle.std.proofs.Common.{◌≡◌, ◌+◌, ◌*◌, ◌≤◌, length, drop}
use Rattle.terms.specs.Tables.{Prefix}
use Rattle.symbolic_state.specs.Fitting.{FitsTable}
use Rattle.equiv_validator.specs.Runs.{run_from}
use Rattle.equiv_validator.proofs.running.run.Given as goal

abbrev pub invariant-loop-line : goal.invariant-loop-line
invariant-loop-line g l = record {
  number : l.number ≡ l.line-index + 1;
  run : run_from l.number (drop l.line-index l.lines) (g.T.Nodes.nodes l.store) l.state
      ≡ run_from 1 l.lines (g.T.Nodes.nodes l.initial.store) l.initial.state;
  fits : FitsTable (g.T.Nodes.nodes l.store) l.state;
  grows : Prefix (g.T.Nodes.nodes l.initial.store) (g.T.Nodes.nodes l.store);
  few : length (g.T.Nodes.nodes l.store) ≤ length (g.T.Nodes.nodes l.initial.store) + 16 * l.line-index;
  fixed : g.T.Interner.fixed l.store ≡ g.T.Interner.fixed l.initial.store;
}
