-- After a list, the lists are as the lists that are left want them.
use Rattle.std.proofs.Common.{◌∙◌, ap, arith}
use Rattle.dependency_graph.specs.Transposed.{entered}
use Rattle.dependency_graph.proofs.TransposeLemmas.{enter_all_kept}
use Rattle.dependency_graph.proofs.transpose.enter_all.Goals as goal

pub loop-source-preserved : goal.loop-source-preserved
loop-source-preserved c =
    let before = c.loop-source.invariant in
    let is = c.in_ok-enter.ensures ∙ ap (entered c.loop-source.number c.loop-source.lists.items)
    (c.items.ensures ∙ c.source-item.is) in
    let k = enter_all_kept c.loop-source.number c.args.lists.now.items c.loop-source.lists.items c.args.sources.now
    c.loop-source.source-index c.source-item.result _ c.enter.new.lists.items c.loop-source-test.true
    (record { lists = before.lists; size = before.size; places = before.places }) is in
    record { count = omega (arith, before.count); lists = k.lists; size = k.size; places = k.places }
