-- The register has no value.
use Rattle.std.proofs.Common.{◌≡◌, ℕ, None, sym, subst}
use Rattle.std.specs.Prelude.{slice_set}
use Rattle.register_spill.specs.declared.spot.Spot.TheVariants.{Register}
use Rattle.register_spill.specs.Spots.{Placed, spot_at}
use Rattle.register_spill.specs.Inside.{IsInside}
use Rattle.register_spill.proofs.SpotLemmas.{left_inside}
use Rattle.register_spill.proofs.places.Places.leave.Goals as goal

pub invariant_of-self : goal.invariant_of-self
invariant_of-self c =
    let spots = c.self.inside.spots.items in
    let holders = c.self.inside.holders in
    let uses = c.self.inside.uses.items in
    subst (λ (n : ℕ). IsInside (slice_set spots c.args.value c.args.spot) (slice_set holders n None) uses)
    (sym c.number.ensures)
    (left_inside spots holders uses c.args.value c.args.reg c.args.spot c.self.invariant
    (subst (λ (p : Placed). spot_at p.spots c.args.value ≡ Register c.args.reg) (sym c.self.view_is) c.requires.there)
    c.requires.spot)
