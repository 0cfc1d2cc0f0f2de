-- The other two answers do not come.
use Rattle.std.proofs.Common.{◌∙◌}
use Rattle.plain_checks.proofs.OtherAnswers.{no_differs, no_not}
use Rattle.plain_checks.proofs.checks.checked_plain.Goals as goal

pub unreachable-requires : goal.unreachable-requires
unreachable-requires c = no_differs c.args.plan _ c.has_right_plain.ensures (c.deref.ensures ∙ c.program.ensures)
    (c.deref-2.ensures ∙ c.program-2.ensures) c.in_ok-listing.ensures c.requires c.in_ok-checked.ensures
    c.in-Differs.is

pub unreachable-requires-in-Not : goal.unreachable-requires-in-Not
unreachable-requires-in-Not c = no_not c.args.plan _ c.has_right_plain.ensures (c.deref.ensures ∙ c.program.ensures)
    (c.deref-2.ensures ∙ c.program-2.ensures) c.in_ok-listing.ensures c.requires c.in_ok-checked.ensures
    c.in-Not.is
