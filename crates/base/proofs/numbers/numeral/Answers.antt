-- At the end no digit is left to read.
use Rattle.std.proofs.Common.{◌∙◌, sym}
use Rattle.base.proofs.Digits.{numeral_end}
use Rattle.base.proofs.numbers.numeral.Goals as goal

pub returns : goal.returns
returns c = sym (c.loop-byte.invariant.read
    ∙ numeral_end c.args.radix c.loop-byte.value c.loop-byte.byte-index c.args.text.now c.loop-byte-test.false
    c.loop-byte.invariant.fits)
