-- The value leaves the flag that it was in.
use Rattle.std.proofs.Common.{◌<◌, ◌∙◌, List, length, sym, subst, refl}
use Rattle.std.specs.Prelude.{slice_set}
use Rattle.std.proofs.lemmas.List.{get_or_read}
use Rattle.flag_tracks.specs.declared.home.Home.{Home}
use Rattle.flag_tracks.specs.declared.home.Home.TheVariants.{Gone}
use Rattle.flag_tracks.specs.declared.tracks.Tracks.TheInside.{Inside}
use Rattle.flag_tracks.specs.Inside.{IsInside}
use Rattle.flag_tracks.proofs.HolderLemmas.{lost_carry, lost_overflow, moved, IsNoFlag, no_flag}
use Rattle.flag_tracks.proofs.tracks.Tracks.lose.Goals as goal
use Rattle.flag_tracks.proofs.tracks.Tracks.lose.Goals.{in-Cf, in-Of, in-Register}

pub invariant_of-self : goal.invariant_of-self
invariant_of-self c =
    let range = subst (λ (hs : List Home). c.args.value < length hs) (sym c.self.view_is) c.requires in
    let read = sym (get_or_read c.self.inside.homes.items c.args.value c.index.result.now range c.index.ensures Gone) in
    elim c.match-index.branch [
      | in-Cf w ↦ subst (λ (s : Inside). IsInside (slice_set s.homes.items c.args.value Gone) s.carry s.overflow)
          (sym w.self-inside-is) (lost_carry c.self.inside.homes.items c.self.inside.carry
          c.self.inside.overflow c.args.value range (read ∙ w.in-Cf.is) c.self.invariant)
      | in-Of w ↦ subst (λ (s : Inside). IsInside (slice_set s.homes.items c.args.value Gone) s.carry s.overflow)
          (sym w.self-inside-is) (lost_overflow c.self.inside.homes.items c.self.inside.carry
          c.self.inside.overflow c.args.value range (read ∙ w.in-Of.is) c.self.invariant)
      | in-Register w ↦ subst (λ (s : Inside). IsInside (slice_set s.homes.items c.args.value Gone) s.carry s.overflow)
          (sym w.self-inside-is) (moved c.self.inside.homes.items c.self.inside.carry
          c.self.inside.overflow c.args.value Gone range
          (subst IsNoFlag (sym read) (no_flag c.index.result.now w.in-Register.is)) (refl, refl) c.self.invariant)
    ]
