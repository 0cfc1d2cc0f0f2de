-- What the rules make is interned.
use Rattle.std.proofs.Common.{◌∙◌, sym}
use Rattle.term_store.proofs.Interned.{made_there, made_interned}
use Rattle.term_store.proofs.store.StoreInterner.make.Goals as goal

-- src/store.rt:77:5
pub returns-in-Is-clause-ok : goal.returns-in-Is-clause-ok
returns-in-Is-clause-ok c =
    sym (made_there c.args.self.now c.args.form c.in-Is.number (sym c.in_ok-number.ensures.rules ∙ c.in-Is.is))

-- src/store.rt:77:5
pub returns-in-Make-clause-ok : goal.returns-in-Make-clause-ok
returns-in-Make-clause-ok c =
    rw (made_interned c.args.self.now c.args.form c.in-Make.node (sym c.in_ok-number.ensures.rules ∙ c.in-Make.is))
    c.intern.ensures.ok
