-- The index stays that of the list.
use Rattle.std.proofs.Common.{◌∙◌, sym}
use Rattle.term_store.proofs.Interned.{interned_found, pushed_is_interned}
use Rattle.term_store.proofs.Index.{store_same, store_push}
use Rattle.term_store.proofs.store.StoreInterner.intern.Goals as goal

-- src/store.rt:66:13
pub returns-in-Some-clause-ok : goal.returns-in-Some-clause-ok
returns-in-Some-clause-ok c = sym (interned_found c.args.self.now c.args.node c.in-Some.place (sym c.in-Some.ensures))

-- src/store.rt:71:9
pub invariant_of-self-in_err-insert : goal.invariant_of-self-in_err-insert
invariant_of-self-in_err-insert c =
    rw c.try_reserve.ensures.items
    (store_same c.self.inside.list.items c.self.inside.index c.self.invariant _ c.in_err-insert.ensures.err)

-- src/store.rt:64:5
pub invariant_of-self-2 : goal.invariant_of-self-2
invariant_of-self-2 c =
    rw c.in_ok-push.ensures.items (rw c.try_reserve.ensures.items
    (store_push c.self.inside.list.items c.self.inside.index c.self.invariant _ c.args.node
    (rw c.self.view_is (sym c.in_default.ensures)) (rw c.self.view_is c.requires.below)
    (rw c.self.view_is c.requires.room)
    (rw (c.in_ok-key.ensures.cases, c.len-place.ensures, c.self.inside.list.ok.0) at c.in_ok-insert.ensures.updates)))

-- src/store.rt:64:5
pub returns-clause-ok : goal.returns-clause-ok
returns-clause-ok c =
    rw (c.in_ok-push.ensures.items, c.try_reserve.ensures.items, ← c.self.view_is)
    (pushed_is_interned c.self.inside.list.items c.args.node c.len-place.result
    (rw c.self.view_is (sym c.in_default.ensures)) (c.len-place.ensures ∙ c.self.inside.list.ok.0))
