-- The lines make a listing, from the lemma on the lines of the definition.
use Rattle.std.proofs.Common.{sym, ◌∙◌, ap}
use Rattle.plain_lower.specs.Plain.{plain_lines}
use Rattle.plain_lower.proofs.Whole.{is_listing}
use Rattle.plain_lower.proofs.listing.plain.Goals as goal

pub unreachable-requires : goal.unreachable-requires
unreachable-requires c =
    is_listing c.args.program.now c.args.plan.now.slots c.plain_lines.ensures.accepted c.requires c.in_ok-name.name
    c.in_ok-lines.lines (c.in_ok-lines.ensures.lines ∙ ap (plain_lines c.args.program.now) c.slots.ensures.slots) _
    (sym c.new.ensures.listing ∙ c.in-Err.is)
