-- The text that was written is that of a listing whose lines fit.
use Rattle.std.proofs.Common.{ℕ, List, sym, subst}
use Rattle.std.specs.Str.Lines.{lines}
use Rattle.asm_text.specs.Texts.{Stands}
use Rattle.asm_text.proofs.RoundTrip.{text_stands}
use Rattle.asm_text.proofs.writing.write.Goals as goal

pub returns-clause-stands : goal.returns-clause-stands
returns-clause-stands c = λ name.
    let P : List ℕ → Type 0 = λ bytes. Stands (lines bytes) c.args.listing.now in
    subst P (sym c.in_ok-text.ensures.text) (text_stands c.args.listing.now name c.in_ok-text.ensures.fits)
