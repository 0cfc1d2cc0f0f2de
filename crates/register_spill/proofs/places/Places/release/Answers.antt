-- The value was in no register.
use Rattle.std.proofs.Common.{◌≡◌, ◌<◌, false, length, sym, subst}
use Rattle.std.proofs.lemmas.List.{get_or_read}
use Rattle.register_spill.specs.declared.spot.Spot.{Spot}
use Rattle.register_spill.specs.declared.spot.Spot.TheVariants.{Nowhere}
use Rattle.register_spill.specs.Spots.{Placed, is_in_register}
use Rattle.register_spill.proofs.SpotLemmas.{outside_by, released_inside}
use Rattle.register_spill.proofs.places.Places.release.Goals as goal

pub invariant_of-self : goal.invariant_of-self
invariant_of-self c =
    let spots = c.self.inside.spots.items in
    let within = subst (λ (p : Placed). c.args.value < length p.spots) (sym c.self.view_is) c.requires in
    let read = get_or_read spots c.args.value c.index.result.now within c.index.ensures Nowhere in
    released_inside spots c.self.inside.holders c.self.inside.uses.items c.args.value c.self.invariant within
    (subst (λ (s : Spot). is_in_register s ≡ false) read (outside_by c.index.result.now c.in_default.not-Register))
