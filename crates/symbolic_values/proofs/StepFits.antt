-- After a step the state fits the table, however the step ended.
use Rattle.std.proofs.Common.{◌≡◌, List, Ok, Err, Result, sym, ap, subst}
use Rattle.std.specs.Prelude.{IfOk, OnErr}
use Rattle.x86_instr.specs.declared.instr.Instr.{Instr}
use Rattle.x86_instr.specs.Fits.{FitsInstr}
use Rattle.terms.specs.declared.nodes.Node.{Node}
use Rattle.terms.specs.Tables.{IsTable, Prefix}
use Rattle.symbolic_values.specs.declared.moved.Moved.{Moved}
use Rattle.symbolic_values.specs.declared.moved.Moved.TheVariants.{Done, Stuck}
use Rattle.symbolic_state.specs.Symbols.{Symbols}
use Rattle.symbolic_state.specs.Fitting.{FitsTable}
use Rattle.symbolic_values.specs.Steps.{Step, step_of}
use Rattle.symbolic_values.specs.Moving.{IsStep}
use Rattle.symbolic_state.proofs.LaterTables.{fits_table_later}
use Rattle.symbolic_values.proofs.Covered.{step_fits}

moved_fits : (moved : Moved) (i : Instr) (t u : List Node) (y z : Symbols) → FitsInstr i
    → IsTable t → FitsTable t y → Prefix t u
    → IsStep moved (step_of i t y) u y z → FitsTable u z
moved_fits Done i t u y z ok table fits p e =
    subst (λ (v : List Node). FitsTable v z) (sym (ap (λ (s : Step). s.table) e))
    (step_fits i t y ok table fits z (sym (ap (λ (s : Step). s.state) e)))
moved_fits Stuck i t u y z ok table fits p e = subst (FitsTable u) (sym e.1) (fits_table_later t u p y fits)

pub answered_fits : {E : Type 0} (answer : Result Moved E) (i : Instr) (t u : List Node) (y z : Symbols) → FitsInstr i
    → IsTable t
    → FitsTable t y → Prefix t u → IfOk answer (λ moved. IsStep moved (step_of i t y) u y z) → OnErr answer (z ≡ y)
    → FitsTable u z
answered_fits (Ok moved) i t u y z ok table fits p step err = moved_fits moved i t u y z ok table fits p step
answered_fits (Err e) i t u y z ok table fits p step err = subst (FitsTable u) (sym err) (fits_table_later t u p y fits)
