-- The loop over the lines.
use Rattle.std.proofs.Common.{◌≡◌, ◌*◌, ◌≤◌, take}
use Rattle.cost_table.specs.Costs.{cost_of as cost_spec}
use Rattle.cost_table.proofs.table.cost_of.Given as goal

-- the cost of the lines so far
abbrev pub invariant-loop-line : goal.invariant-loop-line
invariant-loop-line l = record {
  is : l.cost ≡ cost_spec (take l.line-index l.lines);
  limit : l.cost ≤ 16 * l.line-index;
}
