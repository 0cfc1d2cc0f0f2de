-- The four sums of the terms so far, none of which is far, and that they fit.
use Rattle.std.proofs.Common.{◌≡◌, ◌≤◌, ◌*◌, ◌^◌, take, false}
use Rattle.std.specs.List.{sum_by, list_any}
use Rattle.terms.specs.Sums.{is_far, up_low, up_high, down_low, down_high}
use Rattle.terms.proofs.sum_interval.sum_interval.Given as goal

abbrev pub invariant-loop-t : goal.invariant-loop-t
invariant-loop-t g l = record {
  near : list_any (is_far (g.N.Nodes.nodes l.nodes)) (take l.t-index l.terms) ≡ false;
  least : l.least ≡ sum_by (up_low (g.N.Nodes.nodes l.nodes)) (take l.t-index l.terms);
  greatest : l.greatest ≡ sum_by (up_high (g.N.Nodes.nodes l.nodes)) (take l.t-index l.terms);
  least_down : l.least_down ≡ sum_by (down_low (g.N.Nodes.nodes l.nodes)) (take l.t-index l.terms);
  greatest_down : l.greatest_down ≡ sum_by (down_high (g.N.Nodes.nodes l.nodes)) (take l.t-index l.terms);
  least_fits : l.least ≤ l.t-index * 2 ^ 100;
  greatest_fits : l.greatest ≤ l.t-index * 2 ^ 100;
  least_down_fits : l.least_down ≤ l.t-index * 2 ^ 100;
  greatest_down_fits : l.greatest_down ≤ l.t-index * 2 ^ 100;
}
