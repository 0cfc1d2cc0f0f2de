-- Lists of lines that fit their ranges.
use Rattle.std.proofs.Common.{List, [], ◌∷◌, ◌++◌}
use Rattle.x86_instr.specs.declared.line.Line.{Line}
use Rattle.x86_instr.specs.Fits.{FitsInstr, FitsOwner, FitsLines}

-- one line more fits where it fits by itself
pub fits_more : (lines : List Line) (line : Line) → FitsLines lines → FitsInstr line.instr × FitsOwner line.owner
    → FitsLines (lines ++ line ∷ [])
fits_more [] line fits fit = (fit.0, fit.1, tt)
fits_more (l ∷ ls) line fits fit = (fits.0, fits.1, fits_more ls line fits.2 fit)
