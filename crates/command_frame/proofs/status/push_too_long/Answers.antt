-- The five pieces of the line, joined.
use Rattle.std.proofs.Common.{append_assoc}
use Rattle.command_frame.specs.Status.{too_long_text}
use Rattle.command_frame.proofs.status.push_too_long.Goals as goal

pub returns : goal.returns
unfolding too_long_text
returns c =
    rw (
      c.in_ok-push_str-4.ensures.bytes,
      c.in_ok-push_str-3.ensures.bytes,
      c.format.ensures.text,
      c.in_ok-push_str-2.ensures.bytes,
      c.in_ok-push_str.ensures.bytes,
    )
    (simp append_assoc)
