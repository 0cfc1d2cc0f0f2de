-- The farthest value leaves its register.
use Rattle.std.proofs.Common.{◌≡◌, ◌∙◌, ◌<◌, ℕ, List, length, Some, None, true, ap, sym, subst}
use Rattle.std.specs.Prelude.{is_some, slice_set}
use Rattle.x86_instr.specs.Registers.{registers}
use Rattle.register_spill.specs.declared.spot.Spot.TheVariants.{Frame, Register}
use Rattle.register_spill.specs.Spots.{Placed, is_free, spot_at}
use Rattle.register_spill.specs.Calls.{first_free, with_spot}
use Rattle.register_spill.specs.Choosing.{farthest_of}
use Rattle.register_spill.proofs.SpotLemmas.{holder_range}
use Rattle.register_spill.proofs.FreeLemmas.{left_free, not_stack}
use Rattle.register_spill.proofs.FarthestLemmas.{chosen, there_is_one}
use Rattle.register_spill.proofs.places.Places.replace.Goals as goal

pub farthest-requires-clause-values : goal.farthest-requires-clause-values
farthest-requires-clause-values c = λ r v e.
    subst (λ (ls : List (List ℕ)). v < length ls) (sym c.as_slice.ensures.value)
    (holder_range c.self.inside.spots.items c.self.inside.holders c.self.inside.uses.items c.self.invariant r v e)

pub unwrap-found-requires : goal.unwrap-found-requires
unwrap-found-requires c =
    let none = subst (λ (p : Placed). first_free p.spots c.args.pinned.bits ≡ None) (sym c.self.view_is)
    c.requires.none_free in
    ap is_some (c.farthest.ensures
    ∙ ap (λ (ls : List (List ℕ)). farthest_of c.self.inside.holders ls c.args.now c.args.pinned.bits registers)
    c.as_slice.ensures.value)
    ∙ there_is_one c.self.inside.spots.items c.self.inside.holders c.self.inside.uses.items c.self.invariant c.args.now
    c.args.pinned.bits none c.requires.some_open

pub leave-requires-clause-there : goal.leave-requires-clause-there
leave-requires-clause-there c =
    (chosen c.self.inside.spots.items c.self.inside.holders c.self.inside.uses.items c.as_slice.result.now
    c.self.invariant c.args.now c.args.pinned.bits c.args.self.now c.farthest.result c.unwrap-found.result
    c.self.view_is
    c.as_slice.ensures.value c.farthest.ensures c.unwrap-found.ensures).there

pub enter-requires-clause-free : goal.enter-requires-clause-free
enter-requires-clause-free c =
    let far = chosen c.self.inside.spots.items c.self.inside.holders c.self.inside.uses.items c.as_slice.result.now
    c.self.invariant c.args.now c.args.pinned.bits c.args.self.now c.farthest.result c.unwrap-found.result
    c.self.view_is
    c.as_slice.ensures.value c.farthest.ensures c.unwrap-found.ensures in
    subst (λ (p : Placed). is_free p.spots c.unwrap-found.result.reg ≡ true) (sym c.leave.ensures)
    (subst (λ (p : Placed). is_free (slice_set p.spots c.unwrap-found.result.value (Frame c.into.result))
    c.unwrap-found.result.reg ≡ true) c.self.view_is
    (left_free c.self.inside.spots.items c.self.inside.holders c.self.inside.uses.items c.self.invariant
    c.unwrap-found.result.value c.into.result c.unwrap-found.result.reg
    (subst (λ (p : Placed). spot_at p.spots c.unwrap-found.result.value ≡ Register c.unwrap-found.result.reg)
    (sym c.self.view_is) far.there)))

pub enter-requires-clause-not_stack : goal.enter-requires-clause-not_stack
enter-requires-clause-not_stack c = not_stack c.args.pinned.bits c.unwrap-found.result.reg
    (chosen c.self.inside.spots.items c.self.inside.holders c.self.inside.uses.items c.as_slice.result.now
    c.self.invariant c.args.now c.args.pinned.bits c.args.self.now c.farthest.result c.unwrap-found.result
    c.self.view_is
    c.as_slice.ensures.value c.farthest.ensures c.unwrap-found.ensures).may_go

pub returns : goal.returns
returns c = record {
  evicts = record {
    other = c.unwrap-found.result.value;
    farthest = chosen c.self.inside.spots.items c.self.inside.holders c.self.inside.uses.items c.as_slice.result.now
        c.self.invariant c.args.now c.args.pinned.bits c.args.self.now c.farthest.result c.unwrap-found.result
        c.self.view_is c.as_slice.ensures.value c.farthest.ensures c.unwrap-found.ensures;
    told = ap (λ (n : ℕ). Some (c.unwrap-found.result.value, n)) c.into-2.ensures;
    change = c.enter.ensures ∙ ap (λ (p : Placed). with_spot p c.args.value (Register c.unwrap-found.result.reg))
        (c.leave.ensures ∙ ap (λ (n : ℕ). with_spot c.args.self.now c.unwrap-found.result.value (Frame n))
        c.into.ensures);
  };
}
