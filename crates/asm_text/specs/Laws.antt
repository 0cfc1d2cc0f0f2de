-- Laws of the text of a listing.
use Rattle.std.specs.Prelude.{◌≡◌, ℕ, true, List, Ok, Err}
use Rattle.std.specs.Str.Lines.{lines}
use Rattle.x86_instr.specs.Listings.{NamedLines}
use Rattle.asm_tokens.specs.Whole.{IsFirstFault}
use Rattle.asm_text.specs.Reading.{read_text}
use Rattle.asm_text.specs.Texts.{Stands}
use Rattle.x86_instr.specs.Fits.{FitsLines}
use Rattle.asm_text.specs.Assembly.{text_of}
use Rattle.base.specs.Identifiers.{is_identifier}

-- what is read stands there
abbrev pub ReadStands : Type 0
ReadStands = (bytes : List ℕ) (v : NamedLines) → read_text bytes ≡ Ok v → Stands (lines bytes) v

-- what stands there is read
abbrev pub StandsRead : Type 0
StandsRead = (bytes : List ℕ) (v : NamedLines) → Stands (lines bytes) v → read_text bytes ≡ Ok v

-- a text stands for one listing
abbrev pub OneListing : Type 0
OneListing = (bytes : List ℕ) (v w : NamedLines) → Stands (lines bytes) v → Stands (lines bytes) w → v ≡ w

-- the line at which the reading fails is the first faulty one
abbrev pub FailsFirst : Type 0
FailsFirst = (bytes : List ℕ) (n : ℕ) → read_text bytes ≡ Err n → IsFirstFault Stands (lines bytes) n

-- and at the first faulty line the reading fails
abbrev pub FirstFails : Type 0
FirstFails = (bytes : List ℕ) (n : ℕ) → IsFirstFault Stands (lines bytes) n → read_text bytes ≡ Err n

-- the text of a listing whose name is an identifier is read as the listing
abbrev pub ReadsBack : Type 0
ReadsBack = (v : NamedLines) → is_identifier v.name ≡ true → FitsLines v.lines → read_text (text_of v) ≡ Ok v

-- and stands for it
abbrev pub TextStands : Type 0
TextStands = (v : NamedLines) → is_identifier v.name ≡ true → FitsLines v.lines → Stands (lines (text_of v)) v
