-- The texts so far, and what follows of the items that are left.
use Rattle.std.proofs.Common.{◌≡◌, [], drop}
use Rattle.serde_json.specs.View.{items_view}
use Rattle.fiat_json.specs.Shape.{list_of, texts_from}
use Rattle.fiat_json.proofs.bounds.texts_in.Given as goal

abbrev pub invariant-loop-value : goal.invariant-loop-value
invariant-loop-value l = texts_from [] (list_of (items_view l.list)) ≡ texts_from l.texts
    (list_of (items_view (drop l.value-index l.list)))
