-- Where the line for a mnemonic is not there.
use Rattle.equiv_validator.proofs.OwnedLines.{lacks_name}
use Rattle.equiv_validator.proofs.realising.past_lines.Goals as goal

pub returns-in_default : goal.returns-in_default
returns-in_default c =
    lacks_name c.args.lines.now c.loop-name.left.now c.args.op c.args.names.now c.loop-name.name-index _
    c.loop-name-test.true c.loop-name.invariant c.in_default.ensures
