-- No value is in a register.
use Rattle.std.proofs.Common.{◌∙◌, ℕ, List, length, ap, sym, subst}
use Rattle.std.specs.List.Sorted.{IsNonDecreasing}
use Rattle.register_spill.specs.Uses.{uses_at}
use Rattle.register_spill.proofs.SpotLemmas.{nothing_placed}
use Rattle.register_spill.proofs.UseLemmas.{all_count, all_rise}
use Rattle.register_spill.proofs.places.Places.new.Goals as goal

pub invariant_of-result : goal.invariant_of-result
invariant_of-result c =
    nothing_placed c.in_ok-spots.spots.items c.in_ok-uses.uses.items c.values.result c.in_ok-spots.ensures
    (ap length c.in_ok-uses.ensures.uses ∙ all_count c.args.program.now c.args.plan.now.slots ∙ sym c.values.ensures)
    (subst (λ (uses : List (List ℕ)). (value : ℕ) → IsNonDecreasing (uses_at uses value))
    (sym c.in_ok-uses.ensures.uses) (all_rise c.args.program.now c.args.plan.now.slots))
