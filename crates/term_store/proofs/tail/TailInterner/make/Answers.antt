-- What the rules make is interned.
use Rattle.std.proofs.Common.{◌∙◌, sym}
use Rattle.term_store.specs.Indexed.{joined_nodes}
use Rattle.term_store.proofs.Interned.{made_there, made_interned}
use Rattle.term_store.proofs.tail.TailInterner.make.Goals as goal

-- src/tail.rt:105:5
pub returns-in-Is-clause-ok : goal.returns-in-Is-clause-ok
returns-in-Is-clause-ok c =
    sym (made_there (joined_nodes c.args.self.now) c.args.form c.in-Is.number
    (sym c.in_ok-number.ensures.rules ∙ c.in-Is.is))

-- src/tail.rt:105:5
pub returns-in-Make-clause-ok : goal.returns-in-Make-clause-ok
returns-in-Make-clause-ok c =
    rw (made_interned (joined_nodes c.args.self.now) c.args.form c.in-Make.node
    (sym c.in_ok-number.ensures.rules ∙ c.in-Make.is))
    c.intern.ensures.ok
