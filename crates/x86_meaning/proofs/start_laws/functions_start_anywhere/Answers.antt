-- That functions start wherever the calling convention lets them.
use Rattle.x86_meaning.proofs.StartsFrom.{starts_from}
use Rattle.x86_meaning.proofs.start_laws.functions_start_anywhere.Goals as goal

pub returns : goal.returns
returns c = starts_from
