-- Each plan of the walk is legal.
use Rattle.op_order.specs.Legal.{IsLegal}
use Rattle.pass_tests.proofs.walking.failures_from.Given as goal

abbrev pub invariant-loop-turn : goal.invariant-loop-turn
invariant-loop-turn l = IsLegal l.prepared l.plan.slots
