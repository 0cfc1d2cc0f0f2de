-- What a board is after some offers more.
use Rattle.std.specs.Prelude.{◌≡◌, List, ◌++◌}
use Rattle.journal_rules.specs.declared.journal.Entry.{Entry}
use Rattle.incumbent_board.specs.Views.{BoardView}

-- it is the board of the same search, and its entries go on from those before
pub record IsLater (old new : BoardView) : Type 0 where
  pub setup : new.setup ≡ old.setup
  pub entries : (more : List Entry) × (new.entries ≡ old.entries ++ more)
