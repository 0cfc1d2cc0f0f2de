-- The law, from the run of the whole listing.
use Rattle.plain_checks.proofs.Final.{all_right}
use Rattle.plain_checks.proofs.laws.plain_listings_are_proved.Goals as goal

pub returns : goal.returns
returns c = all_right
