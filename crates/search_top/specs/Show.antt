-- `show`: the canonical text of a listing.
use Rattle.std.specs.Prelude.{◌≡◌, List, [], ◌∷◌}
use Rattle.asm_text.specs.Assembly.{text_of}
use Rattle.command_frame.specs.declared.status.Status.{Status}
use Rattle.command_frame.specs.Files.{Content, Listing}
use Rattle.command_frame.specs.Writes.{Output, says}

abbrev pub ShowMeans : List Content → Output → Type 0
ShowMeans (Listing listing ∷ []) output = output ≡ says (text_of listing)
ShowMeans contents output = ⊥

-- every listing has a text
abbrev pub ShowRefuses : List Content → Status → Type 0
ShowRefuses contents status = ⊥
