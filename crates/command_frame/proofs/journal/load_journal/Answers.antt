-- The bytes of the file are refused.
use Rattle.command_frame.proofs.Journals.{refused_load}
use Rattle.command_frame.proofs.journal.load_journal.Goals as goal

pub returns-in-Ok-clause-refused : goal.returns-in-Ok-clause-refused
returns-in-Ok-clause-refused g c =
    refused_load _ _ _ _ _ c.as_slice.ensures.value c.in-Ok.ensures.content c.read_journal.ensures.refused
