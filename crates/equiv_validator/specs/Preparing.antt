-- What a prepared program keeps.
use Rattle.std.specs.Prelude.{◌≡◌, ℕ, List}
use Rattle.word_program.specs.Program.{Source}
use Rattle.terms.specs.declared.nodes.Node.{Node}
use Rattle.program_nodes.specs.Sources.{source_made, source_outputs}

-- the table is that of the program's nodes, and beside it stand those of its output words
pub record IsPrepared (program : Source) (table : List Node) (outputs : List ℕ) : Type 0 where
  pub nodes : table ≡ (source_made program).table
  pub words : outputs ≡ source_outputs program
