-- The four pieces of the line, joined.
use Rattle.std.proofs.Common.{append_assoc}
use Rattle.command_frame.specs.Status.{program_fault_text}
use Rattle.command_frame.proofs.status.push_program_fault.Goals as goal

pub returns : goal.returns
unfolding program_fault_text
returns c = rw (
  c.in_ok-push_place.ensures,
  c.in_ok-push_str-2.ensures.bytes,
  c.in_ok-push_code.ensures,
  c.in_ok-push_str.ensures.bytes,
) (simp append_assoc)
