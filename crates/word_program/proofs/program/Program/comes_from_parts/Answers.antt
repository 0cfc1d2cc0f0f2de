-- A program keeps the parts that it is made of.
use Rattle.std.proofs.Common.{subst}
use Rattle.word_program.specs.Accepted.{IsOfParts}
use Rattle.word_program.proofs.program.Program.comes_from_parts.Goals as goal

pub returns : goal.returns
returns c = subst IsOfParts c.self.view_is
    record { parts = c.self.invariant.parts; sound = c.self.invariant.sound; is = c.self.invariant.is }
