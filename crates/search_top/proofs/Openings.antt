-- The opening of a program, from its listing that was checked.
use Rattle.std.proofs.Common.{◌≡◌, List, ℕ, [], ◌∷◌, ◌++◌, ap, ◌∙◌, subst}
use Rattle.std.specs.Prelude.{codes, decimal}
use Rattle.word_program.specs.Program.{Source}
use Rattle.x86_instr.specs.Listings.{NamedLines}
use Rattle.asm_text.specs.Assembly.{text_of}
use Rattle.cost_table.specs.Costs.{cost_of}
use Rattle.equiv_validator.specs.Kept.{CheckedListing}
use Rattle.search_top.specs.Search.{IsFit, IsOpening, opening_listing}

pub opening_is : {program : Source} (kept : CheckedListing) {text line : List ℕ} → kept.program ≡ program
    → kept.listing ≡ opening_listing program → text ≡ text_of kept.listing
    → line ≡ codes "opening " ++ (decimal (cost_of kept.listing.lines) ++ codes "\n")
    → IsFit kept.program kept.listing → IsOpening program (record { texts = text ∷ []; word = line })
opening_is {program} kept {text} {line} same is t l fit =
    let told : line ≡ codes "opening " ++ (decimal (cost_of (opening_listing program).lines) ++ codes "\n") =
    l ∙ ap (λ (x : NamedLines). codes "opening " ++ (decimal (cost_of x.lines) ++ codes "\n")) is in
    let written : text ≡ text_of (opening_listing program) = t ∙ ap text_of is in
    record {
      is = λ i. record { texts = written i ∷ []; word = told i };
      fit = subst (λ (p : Source). IsFit p (opening_listing program)) same
          (subst (λ (x : NamedLines). IsFit kept.program x) is fit);
    }
