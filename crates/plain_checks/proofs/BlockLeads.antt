-- A block leads on: its operands are loaded, its middle computes, and its results are stored.
use Rattle.std.proofs.Common.{◌≡◌, ℕ, suc, ◌+◌, ◌-◌, ◌<◌, Bool, true, false, List, [], ◌∷◌, ◌++◌, length, Some}
use Rattle.std.proofs.Common.{refl, sym, ◌∙◌, ap, subst, arith, ⊎_elim, append_assoc}
use Rattle.std.specs.Prelude.{slice_get, nat_le, nat_lt, ◌||◌, ◌==◌}
use Rattle.std.specs.List.{AllByRecursion}
use Rattle.std.proofs.lemmas.Bool.{true≢false}
use Rattle.std.proofs.lemmas.Option.{get_or_from_slice_get, slice_get-get_or}
use Rattle.base.proofs.Arithmetic.{at_most_by_test, below_by_test, test_of_itself}
use Rattle.word_operations.specs.Operations.{operand_count, result_count}
use Rattle.word_program.specs.declared.operation.Op.{Op}
use Rattle.word_program.specs.declared.operation.Target.TheVariants as targets
use Rattle.word_program.specs.Program.{Source}
use Rattle.word_program.specs.Values.{targets_of}
use Rattle.word_program.specs.Accepted.{IsAccepted}
use Rattle.x86_instr.specs.declared.line.Line.{Line}
use Rattle.terms.specs.declared.nodes.Node.{Node}
use Rattle.terms.specs.Tables.{Prefix}
use Rattle.terms.proofs.Cases.{first_true, second_true, one_true}
use Rattle.term_store.proofs.Prefixes.{prefix_trans}
use Rattle.dependency_graph.specs.Needs.{defines, first_value}
use Rattle.symbolic_state.specs.Symbols.{Symbols}
use Rattle.plain_lower.specs.Blocks.{Place, Row, arg_at, block_of, load_all, store_all, target_at}
use Rattle.plain_checks.proofs.Leading.{Leads}
use Rattle.plain_checks.proofs.Nodes.{HasResults, OpNodes, table_of, value_node}
use Rattle.plain_checks.proofs.Beside.{AreIn, Beside}
use Rattle.plain_checks.proofs.Between.{Between, StandsAs, is_done}
use Rattle.plain_checks.proofs.BetweenLemmas.{Holds, between_holds, holds_between, holds_later}
use Rattle.plain_checks.proofs.Loads.{IsReady}
use Rattle.plain_checks.proofs.RowLoads.{are_loads, loads_then}
use Rattle.plain_checks.proofs.ValueStores.{OrSaved, are_saves, has_place, saved_before, saved_there, stores_then}

-- the nodes of an operation's results, by their places
abbrev pub results_of : Source → ℕ → ℕ → ℕ
results_of program number place = value_node program (first_value program number + place)

-- the middle of a row: with the operands' nodes in the registers of loads, it leads to the results' nodes in those of
-- saves
abbrev pub MiddleLeads : Source → ℕ → (ℕ → ℕ) → Row → Type 1
MiddleLeads program number args row = (rest : List Line) (Q : List Node → Symbols → Type 0) (t : List Node)
    (y : Symbols) → Prefix (table_of program) t → length y.regs ≡ 16 → AreIn y args row.loads
    → ((u : List Node) (z : Symbols) → Prefix t u → Beside y z → AreIn z (results_of program number) row.saves
    → Leads rest u z Q)
    → Leads (row.middle number ++ rest) t y Q

-- the table has the results by their places
pub results_there : (program : Source) (number : ℕ) (op : Op) (args : ℕ → ℕ) → OpNodes program number op args
    → HasResults (table_of program) op.kind (args 0) (args 1) (args 2) (results_of program number 0)
    (results_of program number 1)
results_there program number op args nodes =
    let first = first_value program number in
    let zero_more : first ≡ first + 0 = omega arith in
    let one_more : suc first ≡ first + 1 = omega arith in
    subst (λ (v : ℕ). HasResults (table_of program) op.kind (args 0) (args 1) (args 2) (value_node program v)
    (results_of program number 1)) zero_more
    (subst (λ (v : ℕ). HasResults (table_of program) op.kind (args 0) (args 1) (args 2) (value_node program first)
    (value_node program v)) one_more nodes.results)

-- ---- results that are not in a register

each_has : (saves : List Place) (P : ℕ → Type 0) → ((place : ℕ) → has_place place saves ≡ true → P place)
    → AllByRecursion (λ s. P s.1) saves
each_has [] P f = tt
each_has (s ∷ ss) P f = (
  f s.1 (ap (λ (b : Bool). b || has_place s.1 ss) (test_of_itself s.1)),
  each_has ss P (λ place e. f place (or_else (s.1 == place) (has_place place ss) e)),
)
  where
    or_else : (a b : Bool) → b ≡ true → (a || b) ≡ true
    or_else true b e = refl
    or_else false b e = e

-- where what holds of unused results and of those that are saved holds of all, the others are unused
pub unused_elsewhere : (op : Op) (saves : List Place)
    → ((P : ℕ → Type 0) → ((place : ℕ) → slice_get op.targets place ≡ Some targets.Unused → P place)
    → AllByRecursion (λ s. P s.1) saves → (place : ℕ) → place < length op.targets → P place)
    → (place : ℕ) → place < length op.targets → has_place place saves ≡ false → target_at op place ≡ targets.Unused
unused_elsewhere op saves all =
    let P : ℕ → Type 0 = λ place. has_place place saves ≡ false → target_at op place ≡ targets.Unused in
    all P (λ place e no. get_or_from_slice_get op.targets place targets.Unused targets.Unused e)
    (each_has saves P (λ place yes no. absurd (true≢false (sym yes ∙ no))))

module _ (program : Source) (accepted : IsAccepted program) (number : ℕ) (op : Op) (args : ℕ → ℕ)
    (nodes : OpNodes program number op args) (row : Row) (done : List ℕ) where
  abbrev first : ℕ
  first = first_value program number

  abbrev IsDone : ℕ → Type 0
  IsDone value = is_done program done value ≡ true

  named : (place : ℕ) → place < result_count op.kind
      → slice_get (targets_of program.ops) (first + place) ≡ Some (target_at op place)
  named place below = let many = nodes.targets in
      let within : place < length op.targets = omega (arith, many, below) in
      nodes.target_at place within ∙ slice_get-get_or op.targets place targets.Unused within

  -- a result that is not in a register has no place
  defined : {t : List Node} {y : Symbols} (place : ℕ) (b : Bool) → has_place place row.saves ≡ b
      → place < length op.targets
      → (has_place place row.saves ≡ false → target_at op place ≡ targets.Unused)
      → first + place < length (targets_of program.ops)
      → Holds program (OrSaved first row.saves IsDone) t y
      → StandsAs program y (first + place) (slice_get (targets_of program.ops) (first + place))
  defined {t} {y} place true e below unused inside h =
      h.cells (first + place) inside (saved_there first row.saves IsDone place e)
  defined {t} {y} place false e below unused inside h = let many = nodes.targets in
      subst (StandsAs program y (first + place))
      (sym (named place (omega (arith, many, below)) ∙ ap Some (unused e))) tt

  -- the operation's values stand beside those that stood
  now_done : {t : List Node} {y : Symbols}
      → ((place : ℕ) → place < length op.targets → has_place place row.saves ≡ false
      → target_at op place ≡ targets.Unused)
      → Holds program (OrSaved first row.saves IsDone) t y → Between program (number ∷ done) t y
  now_done {t} {y} unused h = between_holds h (λ value inside is. ⊎_elim
      (λ here. let low = at_most_by_test first value (first_true (nat_le first value)
      (nat_lt value (first_value program (number + 1))) here) in
      let high = below_by_test value (first_value program (number + 1)) (second_true (nat_le first value)
      (nat_lt value (first_value program (number + 1))) here) in
      let one : number + 1 ≡ suc number = omega arith in
      let next : first_value program (number + 1) ≡ first + length op.targets =
      ap (first_value program) one ∙ nodes.next in
      let place = value - first in
      let below : place < length op.targets = omega (arith, low, high, next) in
      let same : first + place ≡ value = omega (arith, low) in
      subst (λ (v : ℕ). StandsAs program y v (slice_get (targets_of program.ops) v)) same
      (defined place (has_place place row.saves) refl below (unused place below) (omega (arith, same, inside)) h))
      (λ before. h.cells value inside (saved_before first row.saves IsDone value before))
      (one_true (defines program number value) (is_done program done value) is))

  pub block_leads : {rest : List Line} {t : List Node} {y : Symbols} {Q : List Node → Symbols → Type 0}
      → are_loads (operand_count op.kind) row.loads ≡ true → are_saves (result_count op.kind) row.saves ≡ true
      → Between program done t y
      → ((place : ℕ) → place < length op.args → IsReady program IsDone (arg_at op place))
      → MiddleLeads program number args row
      → ((place : ℕ) → place < length op.targets → has_place place row.saves ≡ false
      → target_at op place ≡ targets.Unused)
      → ((u : List Node) (z : Symbols) → Between program (number ∷ done) u z → Leads rest u z Q)
      → Leads (block_of program number row op ++ rest) t y Q
  block_leads {rest} {t} {y} {Q} loads saves between ready middle unused next =
      let before = load_all program op row.loads in
      let behind = store_all program first op row.saves in
      let many = nodes.arguments in
      let holds = holds_between between in
      subst (λ (lines : List Line). Leads lines t y Q)
      (sym (append_assoc before (row.middle number ++ behind) rest
      ∙ ap (λ (lines : List Line). before ++ lines) (append_assoc (row.middle number) behind rest)))
      (loads_then program accepted IsDone op args (operand_count op.kind)
      (λ place below. ready place (omega (arith, many, below)))
      (λ place below. nodes.operands place (omega (arith, many, below)))
      row.loads loads holds (λ u z p l.
      middle (behind ++ rest) Q u z (prefix_trans between.standing.more p) l.beside.sixteen l.all (λ w x q b all.
      stores_then program accepted first (result_count op.kind) op named IsDone row.saves saves
      (holds_later (holds_later holds p l.beside) q b) all (λ v s h. next v s (now_done unused h)))))
