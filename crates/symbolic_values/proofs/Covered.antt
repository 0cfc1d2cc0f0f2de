-- The facts of a step over a table, one by one: what its table is, that its state fits, and that it covers the
-- machine's step.
use Rattle.std.proofs.Common.{◌≡◌, List, Option, Some, None, IfSome, subst}
use Rattle.word_program.specs.declared.parameter.Param.{Param}
use Rattle.x86_instr.specs.declared.instr.Instr.{Instr}
use Rattle.x86_instr.specs.Fits.{FitsInstr}
use Rattle.x86_instr.specs.Frame.{frame_of}
use Rattle.terms.specs.declared.nodes.Node.{Node}
use Rattle.terms.specs.declared.nodes.Form.{Form}
use Rattle.terms.specs.declared.nodes.Form.TheVariants as forms
use Rattle.terms.specs.Tables.{IsTable}
use Rattle.terms.specs.Grown.{IsGrown}
use Rattle.symbolic_state.specs.Symbols.{Symbols}
use Rattle.symbolic_state.specs.Fitting.{FitsTable}
use Rattle.symbolic_values.specs.Steps.{step_of}
use Rattle.program_nodes.specs.Operands.{IsProgramForm}
use Rattle.symbolic_values.specs.Covering.{Covers}
use Rattle.symbolic_state.proofs.Runs.{Run}
use Rattle.symbolic_values.proofs.AllSteps.{step_whole}
use Rattle.symbolic_values.proofs.RowResults.{agrees_touch}
use Rattle.symbolic_values.proofs.StepRows.{IsPlain}
use Rattle.symbolic_values.proofs.StepTables.{touch_shape}
use Rattle.symbolic_values.proofs.Wholes.{StepsIn}

-- what holds of a value that is there
there : {X : Type 0} (P : X → Type 0) (o : Option X) (x : X) → o ≡ Some x → IfSome o P → P x
there P o x e p = subst (λ v. IfSome v P) e p

-- a plain form is one that may be made for any program
plain_is_of_program : (params : List Param) (f : Form) → IsPlain f → IsProgramForm params f
plain_is_of_program params (forms.Start reg) plain = absurd plain
plain_is_of_program params (forms.In param word low high) plain = absurd plain
plain_is_of_program params _ plain = tt

module _ (i : Instr) (t : List Node) (y : Symbols) (ok : FitsInstr i) (table : IsTable t) (fits : FitsTable t y) where
  pub step_table : IsTable (step_of i t y).table
  step_table = (step_whole i t y ok table fits).grows.table

  -- forms other than a register's start and an input are made
  pub step_grown : (P : Form → Type 0) → ((f : Form) → IsPlain f → P f) → IsGrown P t
      → IsGrown P (step_of i t y).table
  step_grown = (step_whole i t y ok table fits).grows.grown

  pub step_program_grown : (params : List Param) → IsGrown (IsProgramForm params) t
      → IsGrown (IsProgramForm params) (step_of i t y).table
  step_program_grown params = step_grown (IsProgramForm params) (plain_is_of_program params)

  pub step_fits : (z : Symbols) → (step_of i t y).state ≡ Some z → FitsTable (step_of i t y).table z
  step_fits z e = there (FitsTable (step_of i t y).table) (step_of i t y).state z e
      (step_whole i t y ok table fits).fits

pub covers : (i : Instr) (t : List Node) (y : Symbols) → Covers i t y
covers i t y fit table fits program lines inputs first s val start shape z e is sound a =
    let r : Run = record {
      program = program;
      lines = lines;
      inputs = inputs;
      first = first;
      start = start;
      val = val;
    } in
    there (StepsIn r i s) (step_of i t y).state z e
    ((step_whole i t y fit table fits).covers fit r s (touch_shape y None program (frame_of lines) shape)
    (record { is = is; sound = sound }) (agrees_touch r y s None a))
