-- The steps that move a word: a constant or a word of the memory into a register, and a register into the memory.
use Rattle.std.proofs.Common.{◌≡◌, ℕ, ◌^◌, ◌%◌, ◌<◌, true, false, List, Option, Some, None, refl, ◌∙◌, ap}
use Rattle.std.proofs.Common.{arith, option_map}
use Rattle.base.specs.Options.{◌>>=◌}
use Rattle.x86_instr.specs.declared.operand.Mem.{Mem}
use Rattle.x86_instr.specs.declared.operand.Reg.{Reg}
use Rattle.x86_instr.specs.declared.operand.Rm.TheVariants as rms
use Rattle.x86_instr.specs.declared.instr.Instr.TheVariants as instrs
use Rattle.terms.specs.declared.nodes.Node.{Node}
use Rattle.terms.specs.declared.nodes.Form.TheVariants as forms
use Rattle.term_store.specs.Interning.{Interned, made}
use Rattle.term_laws.specs.Numbers.{Has}
use Rattle.symbolic_state.specs.Symbols.{Symbols, node_in, with_node, with_touch}
use Rattle.symbolic_state.specs.Cells.{Cell, address_form, cell_named, node_of, stored, touch_of}
use Rattle.symbolic_state.specs.Fetching.{fetched_cell, fetched_const, read_cell}
use Rattle.symbolic_state.proofs.KnownCells.{same_nodes}
use Rattle.symbolic_state.proofs.Touches.{stored_touch}
use Rattle.symbolic_values.specs.Steps.{Step, goes, on_source, step_of, store_step}

-- the address, which is made first, names the cell
abbrev pub Names : List Node → Symbols → Mem → Cell → Type 0
Names t y mem cell =
    cell_named (made t (address_form y mem)).table y (made t (address_form y mem)).number ≡ Some cell

-- a constant into a register
pub constant_step : (t : List Node) (y : Symbols) (r : Reg) (n number : ℕ) → n < 2 ^ 64 → Has t (forms.Const n) number
    → step_of (instrs.MovImm r n) t y ≡ goes t (with_node r number (with_touch None y))
unfolding step_of fetched_const
constant_step t y r n number w has =
    let same : n % 2 ^ 64 ≡ n = omega (arith, w) in
    ap (λ (m : ℕ). let i = made t (forms.Const m) in goes i.table (with_node r i.number (with_touch None y))) same
    ∙ ap (λ (i : Interned). goes i.table (with_node r i.number (with_touch None y))) has.is

-- a word of the memory into a register
pub word_step : (t : List Node) (y : Symbols) (r : Reg) (mem : Mem) (cell : Cell) (n : ℕ) → Names t y mem cell
    → node_of y cell.area cell.word ≡ Some n
    → step_of (instrs.Mov r (rms.Mem mem)) t y ≡ goes (made t (address_form y mem)).table
    (with_node r n (with_touch (Some (touch_of false y cell)) y))
unfolding step_of fetched_cell cell_named
word_step t y r mem cell n names is =
    let u = (made t (address_form y mem)).table in
    let x = with_touch None y in
    let F : Option Cell → Step = λ o. on_source (record { table = u; word = o >>= read_cell x }) x
    (λ s w v. goes w (with_node r s v)) in
    let G : Option ℕ → Step = λ o. on_source (record {
      table = u;
      word = option_map (λ node. record { node = node; touch = Some (touch_of false x cell) }) o;
    }) x (λ s w v. goes w (with_node r s v)) in
    ap F names ∙ ap G (same_nodes y x refl refl cell.area cell.word ∙ is)

-- a register into the memory
pub put_step : (t : List Node) (y z : Symbols) (r : Reg) (mem : Mem) (cell : Cell) → Names t y mem cell
    → stored cell.area cell.word (node_in y r) y ≡ Some z
    → step_of (instrs.Store mem r) t y ≡ goes (made t (address_form y mem)).table
    (with_touch (Some (touch_of true y cell)) z)
unfolding step_of store_step cell_named
put_step t y z r mem cell names is =
    let u = (made t (address_form y mem)).table in
    let x = with_touch None y in
    let F : Option Cell → Step = λ o. record {
      table = u;
      state = o >>= λ c. option_map (with_touch (Some (touch_of true x c))) (stored c.area c.word (node_in y r) x);
    } in
    let touch = Some (touch_of true x cell) in
    let G : Option Symbols → Step = λ o. record { table = u; state = o } in
    ap F names ∙ (ap G (stored_touch cell.area cell.word (node_in y r) y None touch)
    ∙ ap (λ (o : Option Symbols). G (option_map (with_touch touch) o)) is)
