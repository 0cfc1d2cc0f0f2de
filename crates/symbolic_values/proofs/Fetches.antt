-- Sources: a register, a constant, or a word of the memory, which the machine reads too.
use Rattle.std.proofs.Common.{◌≡◌, ℕ, ◌%◌, ◌^◌, ◌<◌, ◌≤◌, false, List, length, Option, Some, None, IfSome}
use Rattle.std.proofs.Common.{option_map, refl}
use Rattle.std.proofs.Common.{sym, ap, ◌∙◌, arith, ℤ, pos, negsuc}
use Rattle.std.specs.Int.{cast_unsigned, w64}
use Rattle.std.specs.FinMap as map
use Rattle.base.specs.Options.{◌>>=◌}
use Rattle.x86_instr.specs.declared.operand.Mem.{Mem}
use Rattle.x86_instr.specs.declared.operand.Reg.{Reg}
use Rattle.x86_instr.specs.declared.operand.Rm.{Rm}
use Rattle.x86_instr.specs.declared.operand.Rm.TheVariants as rms
use Rattle.x86_instr.specs.declared.operand.Src.{Src}
use Rattle.x86_instr.specs.declared.operand.Src.TheVariants as srcs
use Rattle.x86_instr.specs.Access.{rm_access, src_access}
use Rattle.x86_instr.specs.Fits.{FitsMem, FitsSmall, FitsSrc}
use Rattle.x86_meaning.specs.declared.state.State.{State}
use Rattle.x86_meaning.specs.Machine.{effective_address, loaded, reg, rm_word, src_word}
use Rattle.x86_meaning.specs.Touches.{Touched, NoCell, ReadCell, touched_by, written_address}
use Rattle.terms.specs.declared.nodes.Node.{Node}
use Rattle.terms.specs.declared.nodes.Form.TheVariants as forms
use Rattle.terms.specs.Tables.{IsTable}
use Rattle.term_store.specs.Interning.{made}
use Rattle.term_store.proofs.Prefixes.{prefix_length}
use Rattle.symbolic_state.specs.Symbols.{Symbols, node_in}
use Rattle.symbolic_state.specs.Cells.{Cell, address_form, cell_named, node_of, touch_of}
use Rattle.symbolic_state.specs.Fetching.{Fetched, Word, at_hand, fetched_cell, fetched_const, read_cell, rm_fetched}
use Rattle.symbolic_state.specs.Fetching.{src_fetched}
use Rattle.symbolic_state.specs.Fitting.{FitsTable}
use Rattle.symbolic_values.specs.Covering.{TouchAgrees}
use Rattle.symbolic_state.proofs.KnownCells.{node_known}
use Rattle.symbolic_state.proofs.LaterTables.{node_inside}
use Rattle.symbolic_state.proofs.Named.{is_named}
use Rattle.symbolic_state.proofs.AddressForms.{address_fits, address_is}
use Rattle.symbolic_state.proofs.Runs.{Run, Agreed, Shaped, Valued}
use Rattle.symbolic_values.proofs.StepRows.{Grows, grows_not, makes}

-- the machine's source has the node's word, and accesses the cell that the state tells
pub record Reads (r : Run) (word : Option ℕ) (cell : Touched) (w : Word) : Type 0 where
  pub is : word ≡ Some (r.val w.node)
  pub touches : TouchAgrees r.first w.touch cell

-- a source, whose word is `word` where it fits its range, and which accesses `cell`
pub record Fetches (Fits : Type 0) (t : List Node) (y : Symbols) (word : State → Option ℕ) (cell : State → Touched)
    (o : Fetched) : Type 1 where
  pub grows : Grows t o.table
  pub inside : IfSome o.word (λ w. w.node < length o.table)
  pub reads : Fits → (r : Run) (s : State) → Shaped r y → Valued r o.table → Agreed r y s
      → IfSome o.word (Reads r (word s) (cell s))
  pub writes_not : (s : State) → written_address (cell s) ≡ None

module _ (t : List Node) (y : Symbols) (table : IsTable t) (fits : FitsTable t y) where
  -- ---- registers and constants

  reg_fetches : (q : Reg) → Fetches (Unit {0}) t y (λ s. Some (reg s q)) (λ s. NoCell) (at_hand t (node_in y q))
  reg_fetches q = record {
    grows = grows_not t table;
    inside = node_inside t y fits q;
    reads = λ fit r s shape v a. record { is = ap Some (a.registers q); touches = refl };
    writes_not = λ s. refl;
  }

  pub const_fetches : (Fits : Type 0) (n word : ℕ) → (Fits → n % 2 ^ 64 ≡ word)
      → Fetches Fits t y (λ s. Some word) (λ s. NoCell) (fetched_const t n)
  unfolding fetched_const
  const_fetches Fits n word e = let m = makes t (forms.Const (n % 2 ^ 64)) table (omega arith) tt in record {
    grows = m.grows;
    inside = m.inside;
    reads = λ fit r s shape v a. record { is = ap Some (sym (m.word r v ∙ e fit)); touches = refl };
    writes_not = λ s. refl;
  }

  -- ---- memory

  module _ (mem : Mem) where
    abbrev Address : State → ℕ
    Address s = effective_address s mem

    known_at : (r : Run) (s : State) (cell : Cell) (o : Option ℕ) → Agreed r y s
        → (node_of y cell.area cell.word ≡ o) → ((n : ℕ) → o ≡ Some n → loaded s (Address s) ≡ Some (r.val n))
        → TouchAgrees r.first (Some (touch_of false y cell)) (ReadCell (Address s))
        → IfSome (option_map (λ node. record { node = node; touch = Some (touch_of false y cell) }) o)
        (Reads r (loaded s (Address s)) (ReadCell (Address s)))
    known_at r s cell None a e f touch = tt
    known_at r s cell (Some n) a e f touch = record { is = f n refl; touches = touch }

    read_at : (r : Run) (s : State) (u : List Node) (n : ℕ) (o : Option Cell) → Agreed r y s
        → r.val n ≡ Address s → (cell_named u y n ≡ o) → IsTable u → n < length u → Shaped r y → Valued r u
        → IfSome (o >>= read_cell y) (Reads r (loaded s (Address s)) (ReadCell (Address s)))
    read_at r s u n None a e k table_u inside shape v = tt
    read_at r s u n (Some cell) a e k table_u inside shape v =
        let named = is_named r u y table_u v shape n inside cell k in
        known_at r s cell (node_of y cell.area cell.word) a refl
        (λ m is. ap (λ address. map.get s.cells address) (sym e ∙ named.is) ∙ a.memory cell.area cell.word m is)
        (named.write false, sym e ∙ named.told false)

    read_inside : (u : List Node) (o : Option Cell) → length t ≤ length u
        → IfSome (o >>= read_cell y) (λ w. w.node < length u)
    read_inside u None longer = tt
    read_inside u (Some cell) longer = inside_at (node_of y cell.area cell.word) refl where
      inside_at : (o : Option ℕ) → node_of y cell.area cell.word ≡ o
          → IfSome {T = Word} (option_map (λ node. record { node = node; touch = Some (touch_of false y cell) }) o)
          (λ w. w.node < length u)
      inside_at None e = tt
      inside_at (Some n) e = let below = node_known t y cell.area cell.word n fits e in omega arith

    pub cell_fetches : (Fits : Type 0) → Fetches Fits t y (λ s. loaded s (Address s)) (λ s. ReadCell (Address s))
        (fetched_cell t y mem)
    unfolding fetched_cell
    cell_fetches Fits =
        let a = made t (address_form y mem) in
        let m = makes t (address_form y mem) table (address_fits t y mem fits) tt in record {
          grows = m.grows;
          inside = read_inside a.table (cell_named a.table y a.number) (prefix_length m.grows.prefix);
          reads = λ fit r s shape v agrees.
              read_at r s a.table a.number (cell_named a.table y a.number) agrees
              (m.word r v ∙ address_is r y s mem agrees) refl m.grows.table m.inside shape v;
          writes_not = λ s. refl;
        }

  -- ---- sources

  pub rm_fetches : (src : Rm)
      → Fetches (Unit {0}) t y (λ s. rm_word s src) (λ s. touched_by s (rm_access src)) (rm_fetched t y src)
  rm_fetches (rms.Reg r) = reg_fetches r
  rm_fetches (rms.Mem mem) = cell_fetches mem (Unit {0})

  small_word : (n : ℤ) → FitsSmall n → cast_unsigned w64 n % 2 ^ 64 ≡ cast_unsigned w64 n
  small_word (pos n) h = omega arith
  small_word (negsuc n) h = omega arith

  pub src_fetches : (src : Src)
      → Fetches (FitsSrc src) t y (λ s. src_word s src) (λ s. touched_by s (src_access src)) (src_fetched t y src)
  src_fetches (srcs.Reg r) = reg_fetches r
  src_fetches (srcs.Mem mem) = cell_fetches mem (FitsMem mem)
  src_fetches (srcs.Imm n) =
      const_fetches (FitsSmall n) (cast_unsigned w64 n) (cast_unsigned w64 n) (small_word n)
