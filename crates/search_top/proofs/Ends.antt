-- The board of a search, by all that it began with.
use Rattle.std.proofs.Common.{◌≡◌, List, ℕ}
use Rattle.word_program.specs.Program.{Source}
use Rattle.cost_table.specs.Costs.{cost_of}
use Rattle.mutations.specs.declared.mutation.Draw.TheVariants.{Two}
use Rattle.journal_rules.specs.Numbers.{Setup}
use Rattle.search_top.specs.Lanes.{setup_of}
use Rattle.search_top.specs.Search.{opening_listing}

pub setup_is : (setup : Setup) (program : Source) (seeds : List ℕ) (turns : ℕ) → setup.program ≡ program
    → setup.draw ≡ Two → setup.seeds ≡ seeds → setup.turns ≡ turns
    → setup.opening ≡ cost_of (opening_listing program).lines → setup ≡ setup_of program seeds turns
setup_is setup program seeds turns p d s t o = λ i. record {
  program = p i;
  draw = d i;
  seeds = s i;
  turns = t i;
  opening = o i;
}
