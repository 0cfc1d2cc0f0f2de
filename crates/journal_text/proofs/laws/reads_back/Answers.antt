-- What is written is read back.
use Rattle.journal_text.proofs.LinesBack.{text_stands}
use Rattle.journal_text.proofs.Outcome.{reads_back}
use Rattle.journal_text.proofs.laws.reads_back.Goals as goal

pub returns-clause-stands : goal.returns-clause-stands
returns-clause-stands c = text_stands

pub returns-clause-read : goal.returns-clause-read
returns-clause-read c = reads_back
