-- The two pieces of the line, joined.
use Rattle.std.proofs.Common.{append_assoc}
use Rattle.command_frame.proofs.status.push_not_proved.Goals as goal

pub returns : goal.returns
returns c = rw (c.in_ok-push_why.ensures, c.in_ok-push_str.ensures.bytes) (simp append_assoc)
