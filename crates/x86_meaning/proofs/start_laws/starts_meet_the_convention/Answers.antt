-- That every start meets the calling convention.
use Rattle.x86_meaning.proofs.StartsMeet.{meets_convention, needed_there}
use Rattle.x86_meaning.proofs.start_laws.starts_meet_the_convention.Goals as goal

pub returns-clause-meet : goal.returns-clause-meet
returns-clause-meet c = meets_convention

pub returns-clause-there : goal.returns-clause-there
returns-clause-there c = needed_there
