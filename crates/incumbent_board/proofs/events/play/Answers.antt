-- The events so far, and one more.
use Rattle.std.proofs.Common.{◌∷◌, [], ◌∙◌}
use Rattle.incumbent_board.proofs.Played.{played_then}
use Rattle.incumbent_board.proofs.events.play.Goals as goal

pub loop-event-preserved : goal.loop-event-preserved
loop-event-preserved c = record {
  played = played_then c.args.board.now c.loop-event.board c.play_one-more.new.board c.loop-event.yielded
      (c.in-Some.event ∷ []) c.loop-event.taken c.play_one-more.result c.loop-event.invariant.played
      c.play_one-more.ensures.played;
  room = c.play_one-more.ensures.room ∙ c.loop-event.invariant.room;
}
