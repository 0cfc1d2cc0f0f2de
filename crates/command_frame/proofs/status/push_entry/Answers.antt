-- The two numbered pieces of the line, joined.
use Rattle.std.proofs.Common.{append_assoc}
use Rattle.command_frame.specs.Status.{entry_text}
use Rattle.command_frame.proofs.status.push_entry.Goals as goal

pub returns : goal.returns
unfolding entry_text
returns c = rw (c.in_ok-push_numbered-2.ensures, c.in_ok-push_numbered.ensures) (simp append_assoc)
