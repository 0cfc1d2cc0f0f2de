-- The ends of `load_from` at which the last piece was not kept: what was taken is that piece after all earlier ones.
use Rattle.std.proofs.Common.{◌++◌, take, arith, length-append, length-take}
use Rattle.std.proofs.KnownBytes.{Consumes-trans}
use Rattle.io_ports.proofs.transfers.load_from.Goals as goal

pub returns-then-count-room-clause-answer : goal.returns-then-count-room-clause-answer
returns-then-count-room-clause-answer g c =
    let last = take c.in_ok-count.count c.read_piece.new.piece in (
      c.loop-bytes.bytes.items ++ last,
      Consumes-trans _ _ _ _ last c.loop-bytes.invariant.taken c.in_ok-count.ensures.bytes.0,
      grind (arith, length-append, length-take),
    )

pub returns-in-Err-clause-answer : goal.returns-in-Err-clause-answer
returns-in-Err-clause-answer g c =
    let last = take c.in_ok-count.count c.read_piece.new.piece in (
      c.loop-bytes.bytes.items ++ last,
      Consumes-trans _ _ _ _ last c.loop-bytes.invariant.taken c.in_ok-count.ensures.bytes.0,
      grind (arith, length-append, length-take),
    )
