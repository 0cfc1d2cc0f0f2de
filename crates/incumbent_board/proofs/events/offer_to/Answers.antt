-- The answer and what it makes.
use Rattle.std.proofs.Common.{◌∙◌}
use Rattle.incumbent_board.proofs.Played.{offer_played, made_by}
use Rattle.incumbent_board.proofs.events.offer_to.Goals as goal

pub returns : goal.returns
returns c =
    offer_played c.args.board.now c.settle-answer.new.self c.args.lane c.args.offer c.settle-answer.result _
    c.settle-answer.ensures.settled c.settle-answer.ensures.event
    (c.made_by.ensures ∙ made_by c.args.lane c.args.offer c.settle-answer.result)
