-- The offer is the one that the look asks for.
use Rattle.std.proofs.Common.{ap}
use Rattle.op_order.specs.Plans.{SlotsWithRoom}
use Rattle.search_workers.proofs.Due.{due_made}
use Rattle.search_workers.proofs.finishing.make_turn.Goals as goal

pub settle_due-requires : goal.settle_due-requires
settle_due-requires c = record {
  due = due_made c.args.board.now c.look.new.self c.args.prepared.now c.args.lane c.in-Some.sight
      c.look.new.into.slots c.in_ok-offer.offer c.incumbent.ensures.board c.requires.lane c.requires.program
      c.in-Some.ensures.sight.1 (ap (λ (p : SlotsWithRoom). p.slots) c.in-Some.ensures.into) c.in-Some.ensures.board
      c.in_ok-offer.ensures.offer;
}
