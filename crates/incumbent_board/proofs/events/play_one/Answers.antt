-- A look plays.
use Rattle.std.proofs.Common.{◌∷◌, [], sym, subst}
use Rattle.incumbent_board.specs.declared.events.Event.{Event}
use Rattle.incumbent_board.specs.Events.{HasPlayed}
use Rattle.incumbent_board.proofs.Played.{look_played, look_answered}
use Rattle.incumbent_board.proofs.events.play_one.Goals as goal

pub returns-in-Look-clause-played : goal.returns-in-Look-clause-played
returns-in-Look-clause-played c =
    subst (λ (e : Event). HasPlayed c.args.board.now (e ∷ []) c.look.new.self 0) (sym c.in-Look.is)
    (look_played c.args.board.now c.look.new.self c.in-Look.lane
    (look_answered c.args.board.now c.look.new.self c.in-Look.lane c.look.result c.look.ensures.sight
    c.look.ensures.board) c.look.ensures.event)
