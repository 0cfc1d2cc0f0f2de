-- The answer of the reading, said by the relation.
use Rattle.asm_text.proofs.Outcome.{told_ok, told_err}
use Rattle.asm_text.proofs.reading.read.Goals as goal

pub returns-clause-ok : goal.returns-clause-ok
returns-clause-ok c = told_ok c.read_listing.result c.args.bytes.now c.read_listing.ensures.answer

pub returns-clause-err : goal.returns-clause-err
returns-clause-err c = told_err c.read_listing.result c.args.bytes.now c.read_listing.ensures.answer
