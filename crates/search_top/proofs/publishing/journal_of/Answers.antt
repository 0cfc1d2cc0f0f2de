-- The journal of a board keeps the limits of its text.
use Rattle.std.proofs.Common.{sym, ap, subst, ◌∙◌}
use Rattle.word_program.specs.Accepted.{IsAccepted}
use Rattle.equiv_validator.specs.Kept.{CheckedListing}
use Rattle.journal_text.specs.Limits.{IsWithin}
use Rattle.search_top.proofs.Within.{journal_within}
use Rattle.search_top.proofs.publishing.journal_of.Goals as goal

pub write-requires : goal.write-requires
write-requires c =
    let board = c.entries.ensures.board in
    let same = c.deref.ensures ∙ c.program.ensures.program
    ∙ ap (λ (k : CheckedListing). k.program) c.incumbent.ensures.incumbent ∙ board.incumbent.program in
    subst IsWithin (sym c.into_journal-journal.ensures)
    (journal_within c.args.board c.args.digest board (subst IsAccepted same c.params.ensures.accepted) c.requires
    c.entries.ensures.within)
