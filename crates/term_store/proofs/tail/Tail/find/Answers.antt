-- A node is the base's, or the tail's own.
use Rattle.std.proofs.Common.{◌∙◌, sym}
use Rattle.term_store.proofs.Index.{place_in_base, place_by_index}
use Rattle.term_store.proofs.tail.Tail.find.Goals as goal

-- src/tail.rt:52:5
pub returns-in-Some : goal.returns-in-Some
returns-in-Some c =
    rw (← c.self.view_is)
    (sym (place_in_base c.self.inside.base.now c.self.inside.list.items c.args.node.now c.in-Some.place
    (sym c.in-Some.ensures)))

-- src/tail.rt:52:5
pub returns-in-None : goal.returns-in-None
returns-in-None c =
    rw (← c.self.view_is)
    (sym (place_by_index c.self.inside.base.now c.self.inside.list.items c.self.inside.index c.self.invariant.table
    c.self.invariant.indexed c.args.node.now c.copied.result (sym c.in-None.ensures)
    (sym (c.copied.ensures ∙ c.get.ensures.value))))
