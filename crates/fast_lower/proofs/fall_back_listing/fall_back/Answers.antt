-- The lines make a listing, and the listing is a fast one.
use Rattle.std.proofs.Common.{rules, sym, ◌∙◌, ap}
use Rattle.fast_lower.specs.FallBack.{fall_back_lines}
use Rattle.fast_lower.proofs.Whole.{is_listing}
use Rattle.fast_lower.proofs.Kept.{is_fast}
use Rattle.fast_lower.proofs.fall_back_listing.fall_back.Goals as goal

pub unreachable-requires : goal.unreachable-requires
unreachable-requires c =
    is_listing c.args.program.now c.args.plan.now.slots c.fall_back_lines.ensures.accepted c.requires
    c.in_ok-name.name c.in_ok-lines.lines
    (c.in_ok-lines.ensures.lines ∙ ap (fall_back_lines c.args.program.now) c.slots.ensures.slots) _
    (sym c.new.ensures.listing ∙ c.in-Err.is)

pub returns-clause-fast : goal.returns-clause-fast
returns-clause-fast c =
    is_fast c.args.program.now c.args.plan.now.slots c.fall_back_lines.ensures.accepted c.requires c.in-Ok.listing
    (search rules)
