-- The events so far were played, and the plan keeps its room.
use Rattle.std.proofs.Common.{◌≡◌}
use Rattle.incumbent_board.specs.Events.{HasPlayed}
use Rattle.incumbent_board.proofs.events.play.Given as goal

abbrev pub invariant-loop-event : goal.invariant-loop-event
invariant-loop-event l = record {
  played : HasPlayed l.initial.board l.yielded l.board l.taken;
  room : l.into.room ≡ l.initial.into.room;
}
