-- The register has the value.
use Rattle.std.proofs.Common.{◌≡◌, ◌<◌, ℕ, Some, true, false, length, sym, subst}
use Rattle.std.specs.Prelude.{slice_set}
use Rattle.register_spill.specs.declared.spot.Spot.TheVariants.{Register}
use Rattle.register_spill.specs.Spots.{Placed, is_free, is_in_register, spot_at}
use Rattle.register_spill.specs.Inside.{IsInside}
use Rattle.register_spill.proofs.SpotLemmas.{entered_inside}
use Rattle.register_spill.proofs.FreeLemmas.{holder_none}
use Rattle.register_spill.proofs.places.Places.enter.Goals as goal

pub invariant_of-self : goal.invariant_of-self
invariant_of-self c =
    let view = sym c.self.view_is in
    let spots = c.self.inside.spots.items in
    let holders = c.self.inside.holders in
    let uses = c.self.inside.uses.items in
    let free = subst (λ (p : Placed). is_free p.spots c.args.reg ≡ true) view c.requires.free in
    subst (λ (n : ℕ). IsInside (slice_set spots c.args.value (Register c.args.reg))
    (slice_set holders n (Some c.args.value)) uses) (sym c.number.ensures)
    (entered_inside spots holders uses c.args.value c.args.reg c.self.invariant
    (subst (λ (p : Placed). c.args.value < length p.spots) view c.requires.value)
    (subst (λ (p : Placed). is_in_register (spot_at p.spots c.args.value) ≡ false) view c.requires.outside)
    (holder_none spots holders uses c.self.invariant c.args.reg free) c.requires.not_stack)
