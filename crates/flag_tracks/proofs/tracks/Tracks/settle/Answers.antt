-- The value is in the flag that it is put into.
use Rattle.std.proofs.Common.{◌≡◌, ◌<◌, List, length, sym, subst}
use Rattle.std.specs.Prelude.{slice_set}
use Rattle.flag_tracks.specs.Homes.{home_at, emptied, flag_of}
use Rattle.flag_tracks.specs.declared.home.Home.{Home}
use Rattle.flag_tracks.specs.declared.home.Home.TheVariants.{Cf, Of, Gone}
use Rattle.flag_tracks.specs.declared.tracks.Tracks.TheInside.{Inside}
use Rattle.flag_tracks.specs.Inside.{IsInside}
use Rattle.flag_tracks.proofs.HolderLemmas.{moved, put_in_carry, put_in_overflow, no_flag, no_flag_gone}
use Rattle.flag_tracks.proofs.tracks.Tracks.settle.Goals as goal
use Rattle.flag_tracks.proofs.tracks.Tracks.settle.Goals.{in-Cf, in-Of, in-Register}

pub invariant_of-self : goal.invariant_of-self
invariant_of-self c =
    let view = sym c.self.view_is in
    let range = subst (λ (hs : List Home). c.args.value < length hs) view c.requires.range in
    let out = subst (λ (hs : List Home). home_at hs c.args.value ≡ Gone) view c.requires.nowhere in
    let free = subst (λ (hs : List Home). emptied (flag_of c.args.home) hs ≡ hs) view c.requires.free in
    elim c.match-home.branch [
      | in-Cf w ↦ rw w.in-Cf.is (subst (λ (s : Inside). IsInside
          (slice_set s.homes.items c.args.value Cf) s.carry s.overflow)
          (sym w.self-inside-is) (put_in_carry c.self.inside.homes.items c.self.inside.carry
          c.self.inside.overflow c.args.value range out
          (subst (λ (home : Home). emptied
          (flag_of home) c.self.inside.homes.items ≡ c.self.inside.homes.items) w.in-Cf.is free) c.self.invariant))
      | in-Of w ↦ rw w.in-Of.is (subst (λ (s : Inside). IsInside
          (slice_set s.homes.items c.args.value Of) s.carry s.overflow)
          (sym w.self-inside-is) (put_in_overflow c.self.inside.homes.items c.self.inside.carry
          c.self.inside.overflow c.args.value range out
          (subst (λ (home : Home). emptied
          (flag_of home) c.self.inside.homes.items ≡ c.self.inside.homes.items) w.in-Of.is free) c.self.invariant))
      | in-Register w ↦ subst (λ (s : Inside). IsInside
          (slice_set s.homes.items c.args.value c.args.home) s.carry s.overflow)
          (sym w.self-inside-is) (moved c.self.inside.homes.items c.self.inside.carry
          c.self.inside.overflow c.args.value c.args.home range
          (no_flag_gone (home_at c.self.inside.homes.items c.args.value) out)
          (no_flag c.args.home w.in-Register.is) c.self.invariant)
    ]
