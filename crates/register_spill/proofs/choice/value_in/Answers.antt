-- The uses of a value are ascending.
use Rattle.std.proofs.Common.{◌≡◌, ◌∙◌, List, ℕ, None, Some, [], sym, subst}
use Rattle.std.specs.Prelude.{slice_index_or}
use Rattle.std.specs.List.Sorted.{IsNonDecreasing}
use Rattle.std.proofs.lemmas.List.{get_or_read}
use Rattle.register_spill.proofs.choice.value_in.Goals as goal

pub distance-next-requires : goal.distance-next-requires
distance-next-requires c =
    let there = subst (λ (n : ℕ). slice_index_or c.args.holders.now n None ≡ Some c.in-Some.value) c.number.ensures
    c.in-Some.is in
    let within = c.requires.values c.args.reg c.in-Some.value there in
    let read = get_or_read c.args.uses.now c.in-Some.value c.index-uses-value.result within c.index-uses-value.is [] in
    subst (λ (l : List ℕ). IsNonDecreasing l) (sym (c.items.ensures ∙ read)) (c.requires.ascending c.in-Some.value)
