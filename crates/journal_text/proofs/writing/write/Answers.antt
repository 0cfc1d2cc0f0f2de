-- The text that was written is that of a journal within the limits.
use Rattle.std.proofs.Common.{ℕ, List, sym, subst}
use Rattle.journal_text.specs.Lines.{full_lines}
use Rattle.journal_text.specs.Stands.{Stands}
use Rattle.journal_text.proofs.LinesBack.{text_stands}
use Rattle.journal_text.proofs.writing.write.Goals as goal

pub returns-clause-stands : goal.returns-clause-stands
returns-clause-stands c =
    let P : List ℕ → Type 0 = λ bytes. Stands (full_lines bytes) c.args.journal.now in
    subst P (sym c.in_ok-text.ensures.text) (text_stands c.args.journal.now c.requires c.in_ok-text.ensures.typed)
