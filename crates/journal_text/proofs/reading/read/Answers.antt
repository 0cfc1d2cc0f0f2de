-- The answer of the reading, said by the relation.
use Rattle.std.proofs.Common.{sym}
use Rattle.journal_text.specs.Lines.{full_lines}
use Rattle.journal_text.proofs.Outcome.{first_is, given_ok, given_within, given_err}
use Rattle.journal_text.proofs.reading.read.Goals as goal

pub returns-in-Some-clause-err : goal.returns-in-Some-clause-err
returns-in-Some-clause-err c = first_is (full_lines c.args.bytes.now) c.in-Some.found (sym c.in-Some.ensures)

pub returns-in-None-clause-ok : goal.returns-in-None-clause-ok
returns-in-None-clause-ok c = given_ok c.read_text.result c.args.bytes.now c.read_text.ensures

pub returns-in-None-clause-within : goal.returns-in-None-clause-within
returns-in-None-clause-within c = given_within c.read_text.result c.args.bytes.now c.read_text.ensures

pub returns-in-None-clause-err : goal.returns-in-None-clause-err
returns-in-None-clause-err c =
    given_err c.read_text.result c.args.bytes.now (sym c.in-None.ensures) c.read_text.ensures
