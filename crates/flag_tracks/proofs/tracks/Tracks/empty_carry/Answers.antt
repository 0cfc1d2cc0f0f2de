-- The value that was in the carry flag goes.
use Rattle.std.proofs.Common.{Bool, ap, subst, arith}
use Rattle.x86_instr.specs.Flags.{carry_only}
use Rattle.flag_tracks.specs.Homes.{emptied}
use Rattle.flag_tracks.specs.Inside.{carry_if, IsHolder}
use Rattle.flag_tracks.proofs.HomeLemmas.{carry_not_asked, emptied_free}
use Rattle.flag_tracks.proofs.HolderLemmas.{holder_range, holder_none, emptied_holder}
use Rattle.flag_tracks.proofs.tracks.Tracks.empty_carry.Goals as goal

pub returns-then-not-asked : goal.returns-then-not-asked
returns-then-not-asked c = carry_not_asked c.args.self.now c.args.asked c.if-not-asked.true

pub returns-in_default : goal.returns-in_default
returns-in_default c =
    let held = subst (IsHolder carry_only c.self.inside.homes.items) c.in_default.is c.self.invariant.carry_is in
    let free = emptied_free carry_only c.self.inside.homes.items
    (holder_none carry_only c.self.inside.homes.items held) in
    let asked = ap (λ (asked : Bool). emptied (carry_if asked) c.args.self.now) c.if-not-asked.false in
    let view = c.self.view_is in cc

pub index_mut-requires : goal.index_mut-requires
index_mut-requires c = let h = holder_range carry_only c.self.inside.homes.items c.in-Some.value
    (c.self.invariant.carry_is.has c.in-Some.value c.in-Some.is) in omega arith

pub returns : goal.returns
returns c =
    let gone = emptied_holder carry_only c.self.inside.homes.items c.self.inside.carry c.in-Some.value
    c.self.invariant.carry_is c.in-Some.is in
    let asked = ap (λ (asked : Bool). emptied (carry_if asked) c.args.self.now) c.if-not-asked.false in
    let view = c.self.view_is in cc
