-- The look that the offer is for.
use Rattle.std.proofs.Common.{◌<◌, refl, sym, ◌∙◌, arith, length}
use Rattle.incumbent_board.proofs.Settling.{awaited_is}
use Rattle.incumbent_board.proofs.board.Board.awaited.Goals as goal

pub returns : goal.returns
returns c =
    let low : c.args.lane < length c.self.inside.lanes.items = omega (arith, c.if-len-lane.false, c.len.ensures) in
    rw (← c.self.view_is) (
      _,
      refl,
      awaited_is c.self.inside c.args.lane c.in-Some.seen c.args.offer.now
          c.index.result.now c.index-2.result.now c.self.invariant low c.index.ensures c.in-Some.is
          c.if-offer-lane.false c.index-2.ensures c.if-offer-index.false
          (sym c.program.ensures.program ∙ sym c.deref.ensures ∙ c.if-not-same.ensures.0 refl ∙ c.deref-2.ensures),
    )
