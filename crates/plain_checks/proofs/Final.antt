-- The run of a plain listing from its first line to its last: it is proved.
use Rattle.std.proofs.Common.{◌≡◌, ℕ, ◌<◌, true, List, [], ◌∷◌, ◌++◌, length, refl, sym, ap, ◌∙◌, subst, arith}
use Rattle.std.proofs.Common.{Option, Some, None, append_assoc, append-nil}
use Rattle.std.specs.Prelude.{slice_get}
use Rattle.std.specs.Option.{option_map_or}
use Rattle.std.proofs.lemmas.Option.{get_or_from_slice_get, slice_get_within, slice_get-get_or}
use Rattle.word_program.specs.declared.operation.Op.{Op}
use Rattle.word_program.specs.declared.operation.Operand.{Operand}
use Rattle.word_program.specs.declared.operation.Operand.TheVariants as operands
use Rattle.word_program.specs.declared.operation.Target.TheVariants as targets
use Rattle.word_program.specs.Program.{Source}
use Rattle.word_program.specs.Values.{bits_of, targets_of}
use Rattle.word_program.specs.Accepted.{IsAccepted, IsKept, IsOfParts, IsOperand}
use Rattle.word_program.proofs.AcceptedLemmas.{kept_accepted}
use Rattle.word_program.proofs.OperandKept.{all_get}
use Rattle.x86_instr.specs.declared.operand.Reg.TheVariants.{Rsp}
use Rattle.x86_instr.specs.declared.line.Line.{Line}
use Rattle.terms.specs.declared.nodes.Node.{Node}
use Rattle.terms.specs.Rules.{const_node}
use Rattle.terms.specs.Tables.{node_at}
use Rattle.templates.specs.Table.{templates_of}
use Rattle.symbolic_state.specs.Symbols.{Symbols}
use Rattle.symbolic_state.specs.Starts.{symbols_at_start}
use Rattle.op_order.specs.declared.slot.Slot.{Slot}
use Rattle.op_order.specs.Legal.{IsLegal}
use Rattle.plain_lower.specs.Blocks.{arg_at, block, block_of, row_of}
use Rattle.plain_lower.specs.Frame.{frame_bytes}
use Rattle.plain_lower.specs.Plain.{blocks, entry, exit, late_stores, plain_lines}
use Rattle.equiv_validator.specs.Checks.{HasOutputs, IsProved, is_restored, lost_register}
use Rattle.equiv_validator.specs.Runs.{run_from, run_of}
use Rattle.term_laws.proofs.Stable.{has_const}
use Rattle.plain_checks.specs.Proved.{HasRightPlain}
use Rattle.plain_checks.proofs.Between.{Between, is_done}
use Rattle.plain_checks.proofs.BlockLeads.{MiddleLeads, block_leads, results_of, results_there, unused_elsewhere}
use Rattle.plain_checks.proofs.Ending.{EndsWell, leads_end}
use Rattle.plain_checks.proofs.EntryExit.{entry_leads, exit_ends}
use Rattle.plain_checks.proofs.ExitKeeps.{exit_outputs, exit_registers, exit_stack}
use Rattle.plain_checks.proofs.FrameTaken.{frame_is}
use Rattle.plain_checks.proofs.Leading.{Leads, leads_done}
use Rattle.plain_checks.proofs.Loads.{IsReady}
use Rattle.plain_checks.proofs.Nodes.{IsOperandNode, OpNodes, table_of}
use Rattle.plain_checks.proofs.OperationNodes.{op_nodes}
use Rattle.plain_checks.proofs.NamedReads.{named_reads}
use Rattle.plain_checks.proofs.OutputsAtEnd.{outputs_at_end}
use Rattle.plain_checks.proofs.PlanOrder.{GoesOn, ReadsDone, all_done, done_after, legal_goes}
use Rattle.plain_checks.proofs.Realising.{plain_realises}
use Rattle.plain_checks.proofs.RowLeads.{row_leads, starts_at_zero}
use Rattle.plain_checks.proofs.RowTests.{op_legal, row_loads, row_saves, zero_first}
use Rattle.plain_checks.proofs.ShortListing.{plain_short}
use Rattle.plain_checks.proofs.SourceBase.{source_base}
use Rattle.plain_checks.proofs.TemplateConditions.{all_saved, template_below}
use Rattle.plain_checks.proofs.LateStores.{Written, late_leads}

-- each operand that is a value has a name
abbrev AreNamed : Source → Type 0
AreNamed program = (number : ℕ) (op : Op) → slice_get program.ops number ≡ Some op → (place v : ℕ)
    → slice_get op.args place ≡ Some (operands.Value v) → slice_get (targets_of program.ops) v ≡ Some targets.Value

module _ (program : Source) (accepted : IsAccepted program) (named : AreNamed program) where
  -- ---- a block

  ready : (done : List ℕ) (number : ℕ) (op : Op) → slice_get program.ops number ≡ Some op → ReadsDone program done op
      → (place : ℕ) → place < length op.args
      → IsReady program (λ value. is_done program done value ≡ true) (arg_at op place)
  ready done number op there reads place h =
      let legal = op_legal program.params program.ops [] accepted.ops number op there in
      let here : slice_get op.args place ≡ Some (arg_at op place) = slice_get-get_or op.args place _ h in
      is_ready (arg_at op place) here
      (all_get (IsOperand program.params (length legal.0)) op.args place (arg_at op place) legal.1.reads here)
    where
      is_ready : (operand : Operand) → slice_get op.args place ≡ Some operand
          → IsOperand program.params (length (op_legal program.params program.ops [] accepted.ops number op there).0)
          operand
          → IsReady program (λ value. is_done program done value ≡ true) operand
      is_ready (operands.Literal n) e is = is
      is_ready (operands.Input param word) e is = is
      is_ready (operands.Value value) e is = (reads place value e, named number op there place value e)

  -- a carry that a template leaves out is the constant 0
  nought : (slot : Slot) (op : Op) → slice_get program.ops slot.op ≡ Some op
      → slot.template < length (templates_of op) → (args : ℕ → ℕ) → OpNodes program slot.op op args
      → starts_at_zero op.kind slot.template ≡ true → node_at (table_of program) (args 0) ≡ const_node 0
  nought slot op there template args facts starts =
      let first = zero_first op op.kind slot.template refl template starts in
      let inside = slice_get_within op.args 0 (operands.Literal 0) first in
      let is = get_or_from_slice_get op.args 0 (operands.Literal 0) (operands.Literal 0) first in
      (has_const 0 (subst (λ (o : Operand). IsOperandNode program o (args 0)) is (facts.operands 0 inside))).1

  module _ {Q : List Node → Symbols → Type 0} where
    slot_leads : (done : List ℕ) (slot : Slot) (op : Op) → slice_get program.ops slot.op ≡ Some op
        → slot.template < length (templates_of op) → ReadsDone program done op
        → {rest : List Line} {t : List Node} {y : Symbols} → Between program done t y
        → ((u : List Node) (z : Symbols) → Between program (slot.op ∷ done) u z → Leads rest u z Q)
        → Leads (block program slot ++ rest) t y Q
    unfolding block
    slot_leads done slot op there template reads {rest} {t} {y} between next =
        let nodes = op_nodes program accepted slot.op op there in
        let args = nodes.0 in
        let facts = nodes.1 in
        let row = row_of op.kind slot.template in
        let many = facts.arguments in
        let middle : MiddleLeads program slot.op args row = λ more R u z p sixteen are given.
        row_leads op.kind slot.template slot.op args (results_of program slot.op) (source_base program accepted)
        facts.shift (λ place h. facts.inside place (omega (arith, h, many)))
        (results_there program slot.op op args facts) (nought slot op there template args facts) p sixteen are given in
        let lines : block_of program slot.op row op ≡ block program slot =
        sym (ap (λ (o : Option Op). option_map_or
        (λ (x : Op). block_of program slot.op (row_of x.kind slot.template) x) o []) there) in
        subst (λ (xs : List Line). Leads (xs ++ rest) t y Q) lines
        (block_leads program accepted slot.op op args facts row done (row_loads op.kind slot.template)
        (row_saves op.kind slot.template) between (ready done slot.op op there reads) middle
        (unused_elsewhere op row.saves (λ P unused all place w.
        all_saved P op slot.template template facts.targets unused all place w))
        next)

    blocks_lead : (done : List ℕ) (slots : List Slot) → GoesOn program done slots → {rest : List Line} {t : List Node}
        {y : Symbols} → Between program done t y
        → ((u : List Node) (z : Symbols) → Between program (done_after done slots) u z → Leads rest u z Q)
        → Leads (blocks program slots ++ rest) t y Q
    blocks_lead done [] goes {rest} {t} {y} between next = next t y between
    blocks_lead done (slot ∷ slots) goes {rest} {t} {y} between next =
        let template = template_below program slot.op goes.0 slot.template goes.1 goes.2 in
        subst (λ (xs : List Line). Leads xs t y Q)
        (sym (append_assoc (block program slot) (blocks program slots) rest))
        (slot_leads done slot goes.0 goes.1 template goes.3 between
        (λ u z b. blocks_lead (slot.op ∷ done) slots goes.4 b next))

  -- ---- the end

  -- what holds at `ret`
  abbrev IsEnd : Symbols → Type 0
  IsEnd y = HasOutputs program y × (lost_register y ≡ None) × (is_restored y Rsp ≡ true)

  at_exit : (number : ℕ) (t : List Node) (y : Symbols) → Written program t y
      → EndsWell IsEnd (run_from number (exit program) t y)
  at_exit number t y written =
      let standing = written.standing in
      let e = exit_ends program accepted number t y standing in
      record {
        last = e.last;
        ends = e.ends;
        holds = (
          exit_outputs program y e.last e.given (outputs_at_end program y accepted standing.shapes written.written),
          exit_registers program t y e.last standing e.given,
          exit_stack y e.last e.given,
        );
      }

  module _ (slots : List Slot) (legal : IsLegal program slots) where
    lines_end : EndsWell IsEnd (run_of program (plain_lines program slots))
    unfolding run_of plain_lines
    lines_end =
        let t0 = table_of program in
        let y0 = symbols_at_start t0 program (frame_bytes program) in
        let late = late_stores program in
        let front = entry program ++ (blocks program slots ++ late) in
        let leads : Leads front t0 y0 (Written program) =
        entry_leads program accepted (blocks program slots ++ late) (Written program) (λ u z between.
        blocks_lead [] slots (legal_goes program slots accepted legal) between (λ v w stands.
        subst (λ (xs : List Line). Leads xs v w (Written program)) (append-nil late)
        (late_leads program accepted (done_after [] slots) (all_done program slots legal) stands
        (λ x q is. leads_done is)))) in
        let same : front ++ exit program ≡ plain_lines program slots =
        append_assoc (entry program) (blocks program slots ++ late) (exit program)
        ∙ ap (λ (xs : List Line). entry program ++ xs) (append_assoc (blocks program slots) late (exit program)) in
        subst (λ (bytes : ℕ). EndsWell IsEnd (run_from 1 (plain_lines program slots) t0
        (symbols_at_start t0 program bytes))) (sym (frame_is program slots accepted))
        (subst (λ (xs : List Line). EndsWell IsEnd (run_from 1 xs t0 y0)) same
        (leads_end (exit program) 1 leads (λ n u z is. at_exit n u z is)))

    plain_proved : IsProved program (plain_lines program slots)
    plain_proved = let e = lines_end in record {
      last = e.last;
      ends = e.ends;
      outputs = e.holds.0;
      saved_registers = e.holds.1;
      stack = e.holds.2;
    }

-- each plain listing of a program is right
pub all_right : (program : Source) → IsOfParts program → HasRightPlain program
all_right program made slots legal =
    let kept : IsKept program (targets_of program.ops) (bits_of program.params program.ops) = record {
      parts = made.parts;
      sound = made.sound;
      is = made.is;
      targets_kept = refl;
      bits_kept = refl;
    } in
    let accepted = kept_accepted program _ _ kept in
    record {
      realises = plain_realises program slots legal;
      proved = plain_proved program accepted (named_reads program _ _ kept) slots legal;
      few = plain_short program slots accepted legal;
    }
