-- The index finds the place of a node.
use Rattle.std.proofs.Common.{◌∙◌}
use Rattle.term_store.proofs.Index.{store_place}
use Rattle.term_store.proofs.store.Store.find.Goals as goal

-- src/store.rt:41:5
pub returns : goal.returns
returns c =
    rw (← c.self.view_is)
    (c.copied.ensures ∙ c.get.ensures.value
    ∙ store_place c.self.inside.list.items c.self.inside.index c.self.invariant c.args.node.now)
