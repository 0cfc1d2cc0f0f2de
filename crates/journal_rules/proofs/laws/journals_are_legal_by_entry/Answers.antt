-- By the lemmas on legal journals.
use Rattle.journal_rules.proofs.Legality.{entry_legal, entry_drawn}
use Rattle.journal_rules.proofs.laws.journals_are_legal_by_entry.Goals as goal

pub returns-clause-entry : goal.returns-clause-entry
returns-clause-entry c = entry_legal

pub returns-clause-drawn : goal.returns-clause-drawn
returns-clause-drawn c = entry_drawn
