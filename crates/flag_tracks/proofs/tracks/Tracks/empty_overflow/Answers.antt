-- The value that was in the overflow flag goes.
use Rattle.std.proofs.Common.{Bool, ap, subst, arith}
use Rattle.x86_instr.specs.Flags.{overflow_only}
use Rattle.flag_tracks.specs.Homes.{emptied}
use Rattle.flag_tracks.specs.Inside.{overflow_if, IsHolder}
use Rattle.flag_tracks.proofs.HomeLemmas.{overflow_not_asked, emptied_free}
use Rattle.flag_tracks.proofs.HolderLemmas.{holder_range, holder_none, emptied_holder}
use Rattle.flag_tracks.proofs.tracks.Tracks.empty_overflow.Goals as goal

pub returns-then-not-asked : goal.returns-then-not-asked
returns-then-not-asked c = overflow_not_asked c.args.self.now c.args.asked c.if-not-asked.true

pub returns-in_default : goal.returns-in_default
returns-in_default c =
    let held = subst (IsHolder overflow_only c.self.inside.homes.items) c.in_default.is c.self.invariant.overflow_is in
    let free = emptied_free overflow_only c.self.inside.homes.items
    (holder_none overflow_only c.self.inside.homes.items held) in
    let asked = ap (λ (asked : Bool). emptied (overflow_if asked) c.args.self.now) c.if-not-asked.false in
    let view = c.self.view_is in cc

pub index_mut-requires : goal.index_mut-requires
index_mut-requires c = let h = holder_range overflow_only c.self.inside.homes.items c.in-Some.value
    (c.self.invariant.overflow_is.has c.in-Some.value c.in-Some.is) in omega arith

pub returns : goal.returns
returns c =
    let gone = emptied_holder overflow_only c.self.inside.homes.items c.self.inside.overflow c.in-Some.value
    c.self.invariant.overflow_is c.in-Some.is in
    let asked = ap (λ (asked : Bool). emptied (overflow_if asked) c.args.self.now) c.if-not-asked.false in
    let view = c.self.view_is in cc
