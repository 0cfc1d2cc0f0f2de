-- The reading is the relation.
use Rattle.journal_text.proofs.Outcome.{read_stands, stands_read}
use Rattle.journal_text.proofs.laws.reading_is_the_relation.Goals as goal

pub returns-clause-sound : goal.returns-clause-sound
returns-clause-sound c = read_stands

pub returns-clause-complete : goal.returns-clause-complete
returns-clause-complete c = stands_read
