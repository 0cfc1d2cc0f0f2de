-- Whole steps: from rows, and from rows behind a source.
use Rattle.std.proofs.Common.{◌≡◌, ℕ, ◌<◌, List, length, Option, Some, None, IfSome, sym, ap, ◌∙◌, subst}
use Rattle.x86_instr.specs.declared.instr.Instr.{Instr}
use Rattle.x86_instr.specs.Fits.{FitsInstr}
use Rattle.x86_instr.specs.Frame.{frame_of}
use Rattle.x86_meaning.specs.declared.state.State.{State}
use Rattle.x86_meaning.specs.Machine as machine
use Rattle.x86_meaning.specs.Touches.{Touched, NoCell, touched, written_address}
use Rattle.terms.specs.declared.nodes.Node.{Node}
use Rattle.terms.specs.Tables.{IsTable}
use Rattle.symbolic_state.specs.Symbols.{Symbols, with_touch}
use Rattle.symbolic_state.specs.Fetching.{Fetched, Word}
use Rattle.symbolic_state.specs.Fitting.{FitsTable}
use Rattle.symbolic_values.specs.Steps.{Step, on_source}
use Rattle.symbolic_values.specs.Covering.{IsWritable, Steps, TouchAgrees}
use Rattle.symbolic_state.proofs.LaterTables.{fits_table_later, fits_touch}
use Rattle.symbolic_state.proofs.Runs.{Run, Agreed, Shaped, Valued}
use Rattle.symbolic_state.proofs.Runs.{valued_front}
use Rattle.symbolic_values.proofs.Fetches.{Fetches, Reads}
use Rattle.symbolic_values.proofs.RowResults.{agrees_touch}
use Rattle.symbolic_values.proofs.StepRows.{Goes, Grows, Row}
use Rattle.symbolic_values.proofs.StepRows.{grows_on}

-- the step of the instruction that is told in a run
abbrev pub StepsIn : Run → Instr → State → Symbols → Type 0
StepsIn r i s z = Steps r.program (frame_of r.lines) r.first r.val i s z

-- all that is to be shown of the step of an instruction over a table, from a state in which no access stands
pub record Whole (i : Instr) (t : List Node) (y : Symbols) (o : Step) : Type 1 where
  pub grows : Grows t o.table
  pub fits : IfSome o.state (FitsTable o.table)
  pub covers : FitsInstr i → (r : Run) (s : State) → Shaped r y → Valued r o.table → Agreed r y s
      → IfSome o.state (StepsIn r i s)

-- ---- rows

if_both : {X : Type 0} {P Q R : X → Type 0} (o : Option X) → ((x : X) → P x → Q x → R x) → IfSome o P → IfSome o Q
    → IfSome o R
if_both None f p q = tt
if_both (Some x) f p q = f x p q

-- where nothing is written, there is no address that is
not_written : (r : Run) (cell : Touched) → written_address cell ≡ None → (address : ℕ)
    → written_address cell ≡ Some address → IsWritable r.program.params (frame_of r.lines) r.first address
not_written r cell e address k = cc

-- the step that follows from where the machine goes
steps_so : (r : Run) (i : Instr) (s : State) (y z : Symbols) (o : Option State) → machine.step_of i s ≡ o
    → written_address (touched i s) ≡ None → TouchAgrees r.first y.touch (touched i s) → z.touch ≡ y.touch
    → Goes r o z → StepsIn r i s z
steps_so r i s y z o e writes touch same goes = record {
  next = goes.next;
  goes = e ∙ goes.is;
  agrees = goes.agrees;
  writes = not_written r (touched i s) writes;
  touches = subst (λ t. TouchAgrees r.first t (touched i s)) (sym same) touch;
}

-- a row of an instruction that accesses no memory
pub row_whole : (i : Instr) (t : List Node) (y : Symbols) (next : Run → State → Option State) (o : Step)
    → y.touch ≡ None → ((r : Run) (s : State) → machine.step_of i s ≡ next r s) → ((s : State) → touched i s ≡ NoCell)
    → Row t y next o → Whole i t y o
row_whole i t y next o none e cell row = record {
  grows = row.grows;
  fits = row.fits;
  covers = λ fit r s shape v a. if_both o.state
      (λ z same goes. steps_so r i s y z (next r s) (e r s) (ap written_address (cell s))
      (subst (λ touch. TouchAgrees r.first touch (touched i s)) (sym none) (cell s)) same goes)
      row.touch (row.covers r s v a);
}

-- ---- rows behind a source

module _ (i : Instr) (t : List Node) (y : Symbols) (fits : FitsTable t y) (word : State → Option ℕ)
    (cell : State → Touched) (rest : ℕ → List Node → Symbols → Step) (next : ℕ → State → Option State)
    (e : (s : State) (w : ℕ) → word s ≡ Some w → machine.step_of i s ≡ next w s)
    (accesses : (s : State) → touched i s ≡ cell s) (Fits : Type 0) (in_range : FitsInstr i → Fits) where
  -- the row on the source's node
  abbrev RestRow : List Node → Word → Type 1
  RestRow u w = Row u (with_touch w.touch y) (λ r s. next (r.val w.node) s) (rest w.node u (with_touch w.touch y))

  behind : (u : List Node) (o : Option Word) → Grows t u → IfSome o (λ w. w.node < length u)
      → (Fits → (r : Run) (s : State) → Shaped r y → Valued r u → Agreed r y s → IfSome o (Reads r (word s) (cell s)))
      → ((s : State) → written_address (cell s) ≡ None)
      → ((w : Word) → w.node < length u → FitsTable u (with_touch w.touch y) → RestRow u w)
      → Whole i t y (on_source (record { table = u; word = o }) y rest)
  behind u None grows inside reads writes f = record {
    grows = grows;
    fits = tt;
    covers = λ fit r s shape v a. tt;
  }
  behind u (Some w) grows inside reads writes f =
      let later = with_touch w.touch y in
      let o = rest w.node u later in
      let row = f w inside (fits_touch u y w.touch (fits_table_later t u grows.prefix y fits)) in record {
        grows = grows_on t u o.table grows row.grows;
        fits = row.fits;
        covers = λ fit r s shape v a.
            let read = reads (in_range fit) r s shape (valued_front r u o.table row.grows.prefix v) a in
            if_both o.state
            (λ z same goes. steps_so r i s later z (next (r.val w.node) s) (e s (r.val w.node) read.is)
            (ap written_address (accesses s) ∙ writes s)
            (subst (TouchAgrees r.first w.touch) (sym (accesses s)) read.touches) same goes)
            row.touch (row.covers r s v (agrees_touch r y s w.touch a));
      }

  pub source_whole : (source : Fetched) → Fetches Fits t y word cell source
      → ((w : Word) → w.node < length source.table → IsTable source.table
      → FitsTable source.table (with_touch w.touch y) → RestRow source.table w)
      → Whole i t y (on_source source y rest)
  source_whole source fetch f =
      behind source.table source.word fetch.grows fetch.inside fetch.reads fetch.writes_not
      (λ w inside fits. f w inside fetch.grows.table fits)
