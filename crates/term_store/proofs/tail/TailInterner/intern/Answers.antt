-- The index stays that of the own nodes.
use Rattle.std.proofs.Common.{◌∙◌, sym}
use Rattle.term_store.specs.Indexed.{joined_nodes}
use Rattle.term_store.proofs.Interned.{interned_found, pushed_is_joined}
use Rattle.term_store.proofs.Index.{tail_same, tail_push, joined_length}
use Rattle.term_store.proofs.tail.TailInterner.intern.Goals as goal

-- src/tail.rt:94:13
pub returns-in-Some-clause-ok : goal.returns-in-Some-clause-ok
returns-in-Some-clause-ok c =
    sym (interned_found (joined_nodes c.args.self.now) c.args.node c.in-Some.place (sym c.in-Some.ensures))

-- src/tail.rt:99:9
pub invariant_of-self-in_err-insert : goal.invariant_of-self-in_err-insert
invariant_of-self-in_err-insert c =
    rw c.try_reserve.ensures.items
    (tail_same c.self.inside.base.now c.self.inside.list.items c.self.inside.index c.self.invariant _
    c.in_err-insert.ensures.err)

-- src/tail.rt:92:5
pub invariant_of-self-2 : goal.invariant_of-self-2
invariant_of-self-2 c =
    let place = joined_length c.self.inside.base.now c.self.inside.list.items c.count.result c.len.result
    c.count.ensures.count (c.len.ensures ∙ c.self.inside.list.ok.0) in
    rw c.in_ok-push.ensures.items (rw c.try_reserve.ensures.items
    (tail_push c.self.inside.base.now c.self.inside.list.items c.self.inside.index c.self.invariant _ c.args.node
    (rw (← c.self.view_is) at (sym c.in_default.ensures)) (rw (← c.self.view_is) at c.requires.below)
    (rw (← c.self.view_is) at c.requires.room)
    (rw (c.in_ok-key.ensures.cases, place) at c.in_ok-insert.ensures.updates)))

-- src/tail.rt:92:5
pub returns-clause-ok : goal.returns-clause-ok
returns-clause-ok c =
    let place = joined_length c.self.inside.base.now c.self.inside.list.items c.count.result c.len.result
    c.count.ensures.count (c.len.ensures ∙ c.self.inside.list.ok.0) in
    rw (c.in_ok-push.ensures.items, c.try_reserve.ensures.items, ← c.self.view_is)
    (pushed_is_joined c.self.inside.base.now c.self.inside.list.items c.args.node _
    (rw (← c.self.view_is) at (sym c.in_default.ensures)) place)
