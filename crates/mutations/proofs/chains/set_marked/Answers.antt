-- One slot more.
use Rattle.std.proofs.Common.{◌≡◌, ◌<◌, length, map, take, drop, ◌∙◌, ap, arith}
use Rattle.std.proofs.lemmas.List.{get_or_default, length-append, length-map, take-append-drop}
use Rattle.std.proofs.lemmas.List.Edits.{map_over_more}
use Rattle.mutations.specs.Marks.{templated_by}
use Rattle.mutations.proofs.chains.set_marked.Goals as goal

pub loop-at-preserved : goal.loop-at-preserved
loop-at-preserved c =
    let within = c.loop-at-test.true in
    let before = c.slots.ensures.slots in
    let same = c.slots-in-loop-at.ensures.slots in
    let f = templated_by c.args.marks.now c.args.number in
    let xs = c.args.plan.now.slots in
    let at = c.loop-at.at in
    let count : length c.loop-at.plan.slots ≡ length xs =
    omega (
      arith,
      ap length c.loop-at.invariant.slots,
      length-append (map f (take at xs)) (drop at xs),
      length-map (take at xs) f,
      length-append (take at xs) (drop at xs),
      ap length (take-append-drop at xs),
    ) in
    let low : at < length xs = rw (← before) within in
    record {
      slots = rw (c.set_slot.ensures, c.templated.ensures, same)
          (map_over_more f xs c.loop-at.plan.slots at _ low c.loop-at.invariant.slots
          (get_or_default c.loop-at.plan.slots at _ _ (omega arith)));
      room = ap (λ v. v.room) c.set_slot.ensures ∙ c.loop-at.invariant.room;
    }
