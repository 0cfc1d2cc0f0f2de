-- How the code reads; no part of a promise. What the answers of its parts say.
use Rattle.std.specs.Prelude.{◌≡◌, ℕ, List, Result, Ok, Err}
use Rattle.x86_instr.specs.declared.line.Line.{Line}
use Rattle.x86_instr.specs.declared.listing.ListingFault.{ListingFault}
use Rattle.x86_instr.specs.declared.listing.ListingFault.TheVariants as causes
use Rattle.x86_instr.specs.Listings.{NamedLines, listing_of}
use Rattle.asm_text.specs.Reading.{read_text}
use Rattle.asm_text.specs.declared.fault.TextFault.{TextFault}
use Rattle.asm_text.specs.declared.fault.TextFault.TheVariants as faults

-- the fault that the reading line by line ends with; want of memory says nothing
abbrev pub Fails : {V : Type 0} → TextFault → Result V ℕ → Type 0
Fails (faults.Line n) read = read ≡ Err n
Fails faults.TooLong read = ⊥
Fails faults.NoReturn read = ⊥
Fails faults.Memory read = Unit {0}

abbrev pub Gives : {X V : Type 0} → (X → V) → Result X TextFault → Result V ℕ → Type 0
Gives view (Ok found) read = read ≡ Ok (view found)
Gives view (Err fault) read = Fails fault read

-- the rules of listings, under the reader's names
abbrev pub under_rules : Result NamedLines ListingFault → Result NamedLines TextFault
under_rules (Ok v) = Ok v
under_rules (Err causes.TooLong) = Err faults.TooLong
under_rules (Err causes.NoReturn) = Err faults.NoReturn

abbrev pub listing_answer : List ℕ → List Line → Result NamedLines TextFault
listing_answer name found = under_rules (listing_of name found)

abbrev pub after_reading : Result NamedLines ℕ → Result NamedLines TextFault
after_reading (Ok v) = listing_answer v.name v.lines
after_reading (Err n) = Err (faults.Line n)

-- what a text is read as, where memory lasts
unfoldable pub answer : List ℕ → Result NamedLines TextFault
answer bytes = after_reading (read_text bytes)

abbrev pub Told : Result NamedLines TextFault → Result NamedLines TextFault → Type 0
Told (Ok v) said = said ≡ Ok v
Told (Err (faults.Line n)) said = said ≡ Err (faults.Line n)
Told (Err faults.TooLong) said = said ≡ Err faults.TooLong
Told (Err faults.NoReturn) said = said ≡ Err faults.NoReturn
Told (Err faults.Memory) said = Unit {0}
