-- After a place, the lists are as the places that are left want them.
use Rattle.dependency_graph.proofs.TransposeLemmas.{enter_kept}
use Rattle.dependency_graph.proofs.transpose.enter.Goals as goal

pub loop-place-preserved : goal.loop-place-preserved
loop-place-preserved c =
    let before = c.loop-place.invariant in
    let k = enter_kept c.args.number c.args.lists.now.items c.loop-place.lists.items c.args.places.now
    c.loop-place.place-index _ c.index_mut.result.now c.put_last.new.list c.loop-place-test.true
    (record { lists = before.lists; count = before.count; places = before.places }) c.index_mut.ensures.value
    c.in_ok-put_last.ensures in
    record { lists = k.lists; count = k.count; places = k.places }
