-- How many entries there are.
use Rattle.incumbent_board.proofs.Inside.{entries_within, entries_whole}
use Rattle.incumbent_board.proofs.board.Board.entries.Goals as goal

pub returns-clause-within : goal.returns-clause-within
returns-clause-within c = rw (← c.self.view_is) (entries_within c.self.inside c.self.invariant)

pub returns-clause-whole : goal.returns-clause-whole
returns-clause-whole c = rw (← c.self.view_is) (entries_whole c.self.inside c.self.invariant)
