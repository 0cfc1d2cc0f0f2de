-- A text stands for one listing.
use Rattle.asm_text.proofs.Outcome.{one_listing}
use Rattle.asm_text.proofs.laws.one_listing.Goals as goal

pub returns : goal.returns
returns c = one_listing
