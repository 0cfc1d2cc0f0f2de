-- `check`: whether a listing is proved for a program. A proved listing is correct for it.
use Rattle.std.specs.Prelude.{◌≡◌, List, [], ◌∷◌, codes}
use Rattle.x86_meaning.specs.Correct.{IsCorrect}
use Rattle.equiv_validator.specs.Checks.{Fails, IsProved}
use Rattle.command_frame.specs.declared.status.Status.{Status}
use Rattle.command_frame.specs.declared.status.Status.TheVariants as statuses
use Rattle.command_frame.specs.Files.{Content, Program, Listing}
use Rattle.command_frame.specs.Writes.{Output, says}

-- the listing is correct and proved, and that is said
abbrev pub CheckMeans : List Content → Output → Type 0
CheckMeans (Program program ∷ Listing listing ∷ []) output = (output ≡ says (codes "proved\n"))
    × IsCorrect program listing.lines × IsProved program listing.lines
CheckMeans contents output = ⊥

-- it is not proved, by this failure first
abbrev pub CheckRefuses : List Content → Status → Type 0
CheckRefuses (Program program ∷ Listing listing ∷ []) (statuses.Not why) = Fails program listing.lines why
CheckRefuses contents status = ⊥
