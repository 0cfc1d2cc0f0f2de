-- A program's file: JSON (RFC 8259), as `serde_json` reads it, and the program that the JSON value is.
use Rattle.std.specs.Prelude.{◌≡◌, ℕ, List, Option, Some, None}
use Rattle.std.specs.Option.{option_or}
use Rattle.std.specs.Str.{IsUtf8}
use Rattle.serde_json.specs.Data.{Data}
use Rattle.serde_json.specs.Read as json
use Rattle.word_text.specs.declared.fault.Place.{Place}
use Rattle.word_program.specs.Program.{Source}
use Rattle.word_program.specs.Walk.{RuleFault}
use Rattle.word_program.specs.Rules.{first_fault, program_of}
use Rattle.fiat_json.specs.declared.fault.ReadFault.{ReadFault}
use Rattle.fiat_json.specs.declared.fault.ReadFault.TheVariants.{NotJson, Program, Memory}
use Rattle.fiat_json.specs.Shape.{shape_fault, raw_program}

-- the bytes are JSON for the value
abbrev pub Reads : List ℕ → Data → Type 0
Reads bytes d = IsUtf8 bytes × (json.read bytes ≡ Some d)

-- the first rule that the document breaks: its form, and then what its parts are
abbrev pub document_fault : Data → Option RuleFault
document_fault d = option_or (shape_fault d) (first_fault (raw_program d))

-- the bytes are JSON for a document that breaks no rule, and this is its program
pub record IsProgram (bytes : List ℕ) (program : Source) : Type 0 where
  pub value : Data
  pub reads : Reads bytes value
  pub accepted : document_fault value ≡ None
  pub is : program ≡ program_of (raw_program value)

-- the bytes are JSON for a document that breaks this rule first, at this place
pub record Breaks (bytes : List ℕ) (code : ℕ) (place : Place) : Type 0 where
  pub value : Data
  pub reads : Reads bytes value
  pub fault : document_fault value ≡ Some (code, place)

-- the bytes are JSON for no value
abbrev pub IsNotJson : List ℕ → Type 0
IsNotJson bytes = (d : Data) → ¬ (Reads bytes d)

-- why no program was read from a file
abbrev pub Causes : List ℕ → ReadFault → Type 0
Causes bytes NotJson = IsNotJson bytes
Causes bytes (Program code place) = Breaks bytes code place
Causes bytes Memory = Unit {0}
