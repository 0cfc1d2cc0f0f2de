-- MOV to memory: the machine writes the cell that the address names, and no other one.
use Rattle.std.proofs.Common.{◌≡◌, ℕ, ◌<◌, true, List, length, Option, Some, None, IfSome}
use Rattle.std.proofs.Common.{option_map, slice_index, refl, sym, ap, ◌∙◌, subst, arith}
use Rattle.std.specs.FinMap as map
use Rattle.std.proofs.lemmas.Option.{same_Some}
use Rattle.base.specs.Options.{◌>>=◌}
use Rattle.x86_instr.specs.declared.instr.Instr.{Instr}
use Rattle.x86_instr.specs.declared.instr.Instr.TheVariants as instrs
use Rattle.x86_instr.specs.declared.operand.Mem.{Mem}
use Rattle.x86_instr.specs.declared.operand.Reg.{Reg}
use Rattle.x86_instr.specs.Frame.{frame_of}
use Rattle.x86_instr.specs.Registers.{number_of}
use Rattle.x86_meaning.specs.declared.state.State.{State}
use Rattle.x86_meaning.specs.Machine as machine
use Rattle.x86_meaning.specs.Machine.{effective_address, reg}
use Rattle.x86_meaning.specs.Start.{Area, address_of, area_words}
use Rattle.x86_meaning.specs.Correct.{written_words}
use Rattle.x86_meaning.proofs.Keeping.{keeps_put, put_same_area, written_there}
use Rattle.x86_meaning.proofs.Memory.{get_put_other, get_put_same}
use Rattle.x86_meaning.proofs.Stepping.{stored_there}
use Rattle.terms.specs.declared.nodes.Node.{Node}
use Rattle.terms.specs.Tables.{IsTable}
use Rattle.term_store.specs.Interning.{made}
use Rattle.term_store.proofs.Prefixes.{prefix_length}
use Rattle.symbolic_state.specs.Symbols.{Symbols, node_in, with_touch}
use Rattle.symbolic_state.specs.Cells.{Cell, address_form, cell_named, stored, touch_of}
use Rattle.symbolic_state.specs.Fitting.{FitsTable}
use Rattle.symbolic_state.specs.Agreeing.{FlagAgrees}
use Rattle.symbolic_values.specs.Steps.{store_step}
use Rattle.symbolic_state.proofs.KnownCells.{node_within}
use Rattle.symbolic_state.proofs.LaterTables.{fits_table_later, fits_touch, node_inside}
use Rattle.symbolic_state.proofs.Named.{IsNamed, is_named}
use Rattle.symbolic_state.proofs.AddressForms.{address_fits, address_is}
use Rattle.symbolic_state.proofs.Runs.{Run, Agreed, Shaped}
use Rattle.symbolic_state.proofs.Stored.{Kept, Here, Beside, Apart, IsStored, is_stored}
use Rattle.symbolic_values.proofs.RowResults.{agrees_touch}
use Rattle.symbolic_values.proofs.StepRows.{makes}
use Rattle.symbolic_values.proofs.Wholes.{StepsIn, Whole}

-- ---- the memory

module _ (r : Run) (y : Symbols) (s : State) (shape : Shaped r y) (a : Agreed r y s) (area : Area) (word value : ℕ)
    (inside : word < area_words r.program.params (frame_of r.lines) area) where
  abbrev at : ℕ
  at = address_of r.first (frame_of r.lines) area word

  -- what a word holds after the store
  holds : (node : ℕ) (b : Area) (w n : ℕ) → value ≡ r.val node → Kept r.program y area word node b w n
      → map.get (map.insert s.cells at value) (address_of r.first (frame_of r.lines) b w) ≡ Some (r.val n)
  holds node b w n e (Here i j k) =
      ap (λ address. map.get (map.insert s.cells at value) address)
      (ap (λ c. address_of r.first (frame_of r.lines) c w) i ∙ ap (λ v. address_of r.first (frame_of r.lines) area v) j)
      ∙ (get_put_same s.cells at value ∙ ap Some (e ∙ ap r.val (sym k)))
  holds node b w n e (Beside i j k) =
      ap (λ c. map.get (map.insert s.cells at value) (address_of r.first (frame_of r.lines) c w)) i
      ∙ (put_same_area r.first (frame_of r.lines) s.cells area word w value j
      ∙ (ap (λ c. map.get s.cells (address_of r.first (frame_of r.lines) c w)) (sym i) ∙ a.memory b w n k))
  holds node b w n e (Apart i j k) =
      get_put_other s.cells at value (address_of r.first (frame_of r.lines) b w)
      (λ same. r.start.apart area b (λ o. i (sym o)) j word w inside
      (node_within r.program (frame_of r.lines) y b w n shape k) (sym same))
      ∙ a.memory b w n k

  agrees_stored : (node : ℕ) (z : Symbols) → value ≡ r.val node → IsStored y area word node z
      → word < written_words r.program.params (frame_of r.lines) area
      → Agreed r z (record s { cells = map.insert s.cells at value })
  agrees_stored node z e is writable = record {
    sixteen = a.sixteen;
    registers = λ q. a.registers q ∙ ap (λ (regs : List ℕ). r.val (slice_index regs (number_of q))) (sym is.regs);
    cf = subst (λ flag. FlagAgrees r.val flag s.cf) (sym is.cf) a.cf;
    of = subst (λ flag. FlagAgrees r.val flag s.of) (sym is.of) a.of;
    zf = subst (λ flag. FlagAgrees r.val flag s.zf) (sym is.zf) a.zf;
    memory = λ b w n k. holds node b w n e (is.kept r.program (frame_of r.lines) shape b w n k);
    keeps = keeps_put r.program r.lines r.inputs r.first r.start s.cells area word value a.keeps writable;
  }

-- ---- the step

module _ (t : List Node) (y : Symbols) (table : IsTable t) (fits : FitsTable t y) (mem : Mem) (src : Reg) where
  abbrev Instruction : Instr
  Instruction = instrs.Store mem src

  abbrev with_access : Cell → Symbols → Symbols
  with_access cell z = with_touch (Some (touch_of true y cell)) z

  store_steps : (r : Run) (s : State) (cell : Cell) (z : Symbols) → Shaped r y → Agreed r y s
      → IsNamed r y (effective_address s mem) cell → IsStored y cell.area cell.word (node_in y src) z
      → StepsIn r Instruction s (with_access cell z)
  store_steps r s cell z shape a named is =
      let writable = is.writable r.program (frame_of r.lines) shape named.inside in
      let at = address_of r.first (frame_of r.lines) cell.area cell.word in
      let there =
      written_there r.program r.lines r.inputs r.first r.start s.cells cell.area cell.word a.keeps writable in
      record {
        next = record s { cells = map.insert s.cells at (reg s src) };
        goes = ap (λ p. machine.stored p (reg s src) s) named.is ∙ stored_there s at (reg s src) there;
        agrees = agrees_touch r z _ (Some (touch_of true y cell))
            (agrees_stored r y s shape a cell.area cell.word (reg s src) named.inside (node_in y src) z
            (a.registers src) is
            writable);
        writes = λ address e. record {
          area = cell.area;
          word = cell.word;
          inside = writable;
          is = sym (same_Some (effective_address s mem) address e) ∙ named.is;
        };
        touches = (named.write true, named.told true);
      }

  -- what holds of each state that a store can lead to
  stored_so : (P : Symbols → Type 0) (cell : Cell) (o : Option Symbols)
      → ((z : Symbols) → o ≡ Some z → P (with_access cell z))
      → IfSome (option_map (with_access cell) o) P
  stored_so P cell None f = tt
  stored_so P cell (Some z) f = f z refl

  named_so : (P : Symbols → Type 0) (o : Option Cell)
      → ((cell : Cell) (z : Symbols) → o ≡ Some cell → IsStored y cell.area cell.word (node_in y src) z
      → P (with_access cell z))
      → IfSome (o >>= λ cell. option_map (with_access cell) (stored cell.area cell.word (node_in y src) y)) P
  named_so P None f = tt
  named_so P (Some cell) f = stored_so P cell (stored cell.area cell.word (node_in y src) y)
      (λ z e. f cell z refl (is_stored y cell.area cell.word (node_in y src) z e))

  pub store_whole : Whole Instruction t y (store_step t y mem (node_in y src))
  unfolding store_step
  store_whole =
      let a = made t (address_form y mem) in
      let m = makes t (address_form y mem) table (address_fits t y mem fits) tt in
      let named = cell_named a.table y a.number in
      let longer = prefix_length m.grows.prefix in
      let below = node_inside t y fits src in
      let inside : node_in y src < length a.table = omega arith in
      record {
        grows = m.grows;
        fits = named_so (FitsTable a.table) named (λ cell z k is.
            fits_touch a.table z (Some (touch_of true y cell))
            (is.fits a.table (fits_table_later t a.table m.grows.prefix y fits) inside));
        covers = λ fit r s shape v agrees. named_so (StepsIn r Instruction s) named (λ cell z k is.
            store_steps r s cell z shape agrees
            (subst (λ address. IsNamed r y address cell) (m.word r v ∙ address_is r y s mem agrees)
            (is_named r a.table y m.grows.table v shape a.number m.inside cell k)) is);
      }
