-- What holds between a table, a program and a symbolic state.
use Rattle.std.specs.Prelude.{◌≡◌, ℕ, ◌/◌, ◌<◌, List, [], ◌∷◌, length, Option, IfSome, if◌then◌else◌}
use Rattle.std.specs.List.{All, AllByRecursion}
use Rattle.word_program.specs.declared.parameter.Param.{Param}
use Rattle.word_program.specs.Program.{Source}
use Rattle.word_program.specs.Values.{is_scalar}
use Rattle.terms.specs.declared.nodes.Node.{Node}
use Rattle.program_nodes.specs.Operands.{IsBit}
use Rattle.symbolic_state.specs.Symbols.{Array, Symbols}

-- the words that are known are nodes of the table
abbrev pub AreKnown : List Node → List (Option ℕ) → Type 0
AreKnown table words = AllByRecursion (λ word. IfSome word (λ number. number < length table)) words

-- The state holds numbers of the table alone, and bits in the flags. So it does over every longer table.
pub record FitsTable (table : List Node) (y : Symbols) : Type 0 where
  pub sixteen : length y.regs ≡ 16
  pub registers : All (λ number. number < length table) y.regs
  pub cf : IfSome y.cf (IsBit table)
  pub of : IfSome y.of (IsBit table)
  pub zf : IfSome y.zf (IsBit table)
  pub arrays : AllByRecursion (λ array. AreKnown table array.words) y.arrays
  pub frame : AreKnown table y.frame

-- the arrays have the roles and lengths of the parameters; a scalar has no words
abbrev pub HaveShapes : List Param → List Array → Type 0
HaveShapes [] [] = Unit {0}
HaveShapes [] (array ∷ arrays) = ⊥
HaveShapes (p ∷ ps) [] = ⊥
HaveShapes (p ∷ ps) (array ∷ arrays) = (array.role ≡ p.role)
    × (length array.words ≡ (if is_scalar p.role then 0 else length p.bounds)) × HaveShapes ps arrays

-- the state is one of this program and of a frame of so many bytes
pub record HasShape (program : Source) (frame : ℕ) (y : Symbols) : Type 0 where
  pub arrays : HaveShapes program.params y.arrays
  pub frame_words : length y.frame ≡ frame / 8
  pub overlap : y.overlap ≡ program.overlap
