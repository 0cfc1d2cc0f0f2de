-- The second form fits the table that the first one leaves.
use Rattle.std.proofs.Common.{sym, subst}
use Rattle.terms.specs.Forms.{FormFits}
use Rattle.program_nodes.proofs.results.push_two.Goals as goal
use Rattle.term_store.proofs.Prefixes.{fits_later}
use Rattle.term_store.proofs.Made.{made_prefix}

pub push_made-requires-2-clause-fits : goal.push_made-requires-2-clause-fits
push_made-requires-2-clause-fits c =
    subst (λ t. FormFits t c.args.second) (sym c.in_ok-push_made.ensures.table)
    (fits_later c.args.second (made_prefix c.args.store.now c.args.first) c.requires.second)
