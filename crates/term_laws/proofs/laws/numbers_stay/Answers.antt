-- A form that fits makes the same over the longer table.
use Rattle.term_laws.proofs.Stable.{has_later}
use Rattle.term_laws.proofs.laws.numbers_stay.Goals as goal

pub returns : goal.returns
returns c = λ table longer form number i p h. has_later i p h
