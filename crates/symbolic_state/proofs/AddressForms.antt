-- Addresses: their forms fit the table, and have the words that the machine computes.
use Rattle.std.proofs.Common.{◌≡◌, ◌≤◌, List, [], ◌∷◌, length, Option, Some, None, refl, arith}
use Rattle.x86_instr.specs.declared.operand.Index.{Index}
use Rattle.x86_instr.specs.declared.operand.Mem.{Mem}
use Rattle.x86_instr.specs.declared.operand.Reg.{Reg}
use Rattle.x86_meaning.specs.declared.state.State.{State}
use Rattle.x86_meaning.specs.Machine.{effective_address, index_word}
use Rattle.terms.specs.declared.nodes.Node.{Node}
use Rattle.terms.specs.Tables.{AreTermsBelow}
use Rattle.terms.specs.Forms.{FormFits}
use Rattle.terms.specs.Meaning.{form_value, weighted}
use Rattle.program_nodes.specs.Terms.{term}
use Rattle.program_nodes.proofs.FormsFit.{terms_below}
use Rattle.symbolic_state.specs.Symbols.{Symbols, node_in}
use Rattle.symbolic_state.specs.Cells.{address_form, index_terms}
use Rattle.symbolic_state.specs.Fitting.{FitsTable}
use Rattle.symbolic_state.proofs.LaterTables.{node_inside}
use Rattle.symbolic_state.proofs.Runs.{Run, Agreed, start_in}

indexes_below : (t : List Node) (y : Symbols) → FitsTable t y → (base : Reg) (index : Option Index)
    → AreTermsBelow (length t) (term 1 (node_in y base) ∷ index_terms y index)
indexes_below t y fits base None = terms_below (length t) (term 1 (node_in y base) ∷ [])
    (node_inside t y fits base, tt)
indexes_below t y fits base (Some index) = terms_below (length t)
    (term 1 (node_in y base) ∷ term index.scale (node_in y index.reg) ∷ [])
    (node_inside t y fits base, (node_inside t y fits index.reg, tt))

few_terms : (y : Symbols) (base : Reg) (index : Option Index)
    → length (term 1 (node_in y base) ∷ index_terms y index) ≤ 16
few_terms y base None = omega arith
few_terms y base (Some index) = omega arith

pub address_fits : (t : List Node) (y : Symbols) (mem : Mem) → FitsTable t y → FormFits t (address_form y mem)
address_fits t y mem fits = (indexes_below t y fits mem.base mem.index, few_terms y mem.base mem.index)

index_is : (r : Run) (y : Symbols) (s : State) (index : Option Index) → Agreed r y s
    → weighted r.val (index_terms y index) ≡ index_word s index
index_is r y s None a = refl
index_is r y s (Some index) a = let e = a.registers index.reg in rw e (omega arith)

-- the address that the machine computes
pub address_is : (r : Run) (y : Symbols) (s : State) (mem : Mem) → Agreed r y s
    → form_value (start_in r) r.val (address_form y mem) ≡ effective_address s mem
address_is r y s mem a =
    let e = a.registers mem.base in let i = index_is r y s mem.index a in omega (arith, e, i)
