-- In a run, the cell that an address names lies where the machine accesses the memory.
use Rattle.std.proofs.Common.{◌≡◌, ℕ, ◌<◌, Bool, List, length, Option, Some, None, refl, ◌∙◌}
use Rattle.base.specs.Options.{◌>>=◌}
use Rattle.x86_instr.specs.Frame.{frame_of}
use Rattle.x86_meaning.specs.Start.{area_words, address_of}
use Rattle.terms.specs.declared.nodes.Node.{Node}
use Rattle.terms.specs.Tables.{IsTable}
use Rattle.symbolic_state.specs.Symbols.{Symbols}
use Rattle.symbolic_state.specs.Cells.{Base, Cell, base_of, cell_at, cell_named, touch_of}
use Rattle.symbolic_state.proofs.Bases.{base_word}
use Rattle.symbolic_state.proofs.Places.{cell_lies, touched_at}
use Rattle.symbolic_state.proofs.Runs.{Run, Shaped, Valued, start_in}

-- the address is that of the cell, which lies in its area, and an access of the cell tells it
pub record IsNamed (r : Run) (y : Symbols) (address : ℕ) (cell : Cell) : Type 0 where
  pub inside : cell.word < area_words r.program.params (frame_of r.lines) cell.area
  pub is : address ≡ address_of r.first (frame_of r.lines) cell.area cell.word
  pub write : (write : Bool) → (touch_of write y cell).write ≡ write
  pub told : (write : Bool) → address ≡ touched_at r.first (touch_of write y cell)

module _ (r : Run) (t : List Node) (y : Symbols) (table : IsTable t) (v : Valued r t) (shape : Shaped r y) (n : ℕ)
    (inside : n < length t) where
  named_by : (o : Option Base) (cell : Cell) → base_of t n ≡ o → (o >>= cell_at y) ≡ Some cell
      → IsNamed r y (r.val n) cell
  named_by None cell e k = cc
  named_by (Some base) cell e k =
      let place = cell_lies r.program r.lines r.inputs r.first r.start y shape base cell k in
      let word = base_word (start_in r) r.val t table v.is v.sound n base inside e in record {
        inside = place.inside;
        is = word ∙ place.is;
        write = place.write;
        told = λ write. word ∙ (place.is ∙ place.told write);
      }

  pub is_named : (cell : Cell) → cell_named t y n ≡ Some cell → IsNamed r y (r.val n) cell
  unfolding cell_named
  is_named cell e = named_by (base_of t n) cell refl e
