-- A program keeps what every program keeps.
use Rattle.std.proofs.Common.{subst}
use Rattle.word_program.specs.Accepted.{IsAccepted}
use Rattle.word_program.proofs.AcceptedLemmas.{kept_accepted}
use Rattle.word_program.proofs.program.Program.params.Goals as goal

pub returns-clause-accepted : goal.returns-clause-accepted
returns-clause-accepted c = subst IsAccepted c.self.view_is (kept_accepted _ _ _ c.self.invariant)
