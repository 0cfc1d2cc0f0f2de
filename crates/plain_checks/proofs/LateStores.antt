-- The output words at the end: where outputs may overlap inputs, they are written when all values stand in the frame.
use Rattle.std.proofs.Common.{◌≡◌, ◌≢◌, ℕ, suc, ◌+◌, ◌<◌, Bool, true, false, List, [], ◌∷◌, ◌++◌, length, Option, Some}
use Rattle.std.proofs.Common.{refl, sym, ◌∙◌, ap, subst, arith, ⊎_elim, append_assoc}
use Rattle.std.specs.Bool.{MatchBool}
use Rattle.std.specs.Prelude.{slice_get, if◌then◌else◌}
use Rattle.std.proofs.lemmas.Bool.{cases_eq}
use Rattle.std.proofs.lemmas.Option.{same_Some, slice_get_within}
use Rattle.word_program.specs.declared.operation.Target.{Target}
use Rattle.word_program.specs.declared.operation.Target.TheVariants as targets
use Rattle.word_program.specs.Program.{Source}
use Rattle.word_program.specs.Values.{targets_of}
use Rattle.word_program.specs.Accepted.{IsAccepted}
use Rattle.x86_instr.specs.declared.line.Line.{Line}
use Rattle.x86_instr.specs.declared.operand.Reg.TheVariants.{Rax}
use Rattle.x86_meaning.specs.Start as areas
use Rattle.terms.specs.declared.nodes.Node.{Node}
use Rattle.symbolic_state.specs.Symbols.{Symbols}
use Rattle.symbolic_state.specs.Cells.{known, node_of}
use Rattle.symbolic_state.proofs.KnownCells.{same_nodes}
use Rattle.plain_lower.specs.Frame.{store_late}
use Rattle.plain_lower.specs.Plain.{late_from, late_stores}
use Rattle.plain_checks.proofs.Leading.{Leads}
use Rattle.plain_checks.proofs.Nodes.{value_node}
use Rattle.plain_checks.proofs.Between.{Between, Standing, StandsAs, is_done}
use Rattle.plain_checks.proofs.BetweenLemmas.{standing_alike, standing_later}
use Rattle.plain_checks.proofs.WrittenOnce.{target_is_out, written_once}
use Rattle.plain_checks.proofs.Loads.{frame_word_then}
use Rattle.plain_checks.proofs.Stores.{put_out_then, word_alike}

-- each output word has the node of the value that goes there
pub record Written (program : Source) (t : List Node) (y : Symbols) : Type 0 where
  pub standing : Standing program t y
  pub written : (value param word : ℕ)
      → slice_get (targets_of program.ops) value ≡ Some (targets.Output param word)
      → node_of y (areas.Array param) word ≡ Some (value_node program value)

-- the values of output words stand in the frame, and those below a number in their output words too
record Late (program : Source) (below : ℕ) (t : List Node) (y : Symbols) : Type 0 where
  standing : Standing program t y
  slots : (value param word : ℕ) → slice_get (targets_of program.ops) value ≡ Some (targets.Output param word)
      → known y.frame (length program.params + value) ≡ Some (value_node program value)
  written : (value param word : ℕ) → value < below
      → slice_get (targets_of program.ops) value ≡ Some (targets.Output param word)
      → node_of y (areas.Array param) word ≡ Some (value_node program value)

-- no output word
no_output : (target : Target) (param word : ℕ) → Some target ≡ Some (targets.Output param word)
    → ((p w : ℕ) → target ≢ targets.Output p w) → ⊥
no_output target param word e other = other param word (same_Some target (targets.Output param word) e)

-- a value that goes to no output word
late_next : (program : Source) {t : List Node} {y : Symbols} (value : ℕ) (target : Target)
    → slice_get (targets_of program.ops) value ≡ Some target → ((p w : ℕ) → target ≢ targets.Output p w)
    → Late program value t y → Late program (value + 1) t y
late_next program value target named other late = record {
  standing = late.standing;
  slots = late.slots;
  written = λ v param word below is. ⊎_elim
      (λ same. absurd (no_output target param word
      (sym named ∙ (ap (slice_get (targets_of program.ops)) (sym same) ∙ is)) other))
      (λ apart. late.written v param word (omega (arith, below, apart)) is) (cases_eq v value);
}

module _ (program : Source) (accepted : IsAccepted program) {Q : List Node → Symbols → Type 0} where
  output_late : {rest : List Line} {t : List Node} {y : Symbols} (value param word : ℕ)
      → slice_get (targets_of program.ops) value ≡ Some (targets.Output param word) → Late program value t y
      → ((u : List Node) (z : Symbols) → Late program (value + 1) u z → Leads rest u z Q)
      → Leads (store_late program value (targets.Output param word) ++ rest) t y Q
  output_late {rest} {t} {y} value param word named late next =
      let n = value_node program value in
      let out = target_is_out program accepted value param word named in
      frame_word_then program accepted Rax (length program.params + value) n late.standing
      (late.slots value param word named) refl (λ u z p l.
      let here = standing_later late.standing p l.beside in
      put_out_then program accepted param word out Rax n here l.node (λ e. omega (arith, e)) (λ w x q set.
      next w x (record {
        standing = standing_alike here q (word_alike program z x param word n set);
        slots = λ v i j is. ap (λ (words : List (Option ℕ)). known words (length program.params + v))
            (set.frame ∙ l.beside.frame) ∙ late.slots v i j is;
        written = λ v i j below is. ⊎_elim
            (λ same. let both : targets.Output i j ≡ targets.Output param word =
            same_Some (targets.Output i j) (targets.Output param word)
            (sym is ∙ (ap (slice_get (targets_of program.ops)) same ∙ named)) in
            subst (λ (m : ℕ). node_of x (areas.Array i) j ≡ Some (value_node program m)) (sym same)
            (at_target x both set.here))
            (λ apart. set.others i j (λ e f. apart (written_once program accepted v value param word
            (is ∙ ap Some (ap (λ (k : ℕ). targets.Output k j) e ∙ ap (targets.Output param) f)) named))
            (λ o. target_is_out program accepted v i j is)
            ∙ (same_nodes y z l.beside.arrays l.beside.frame (areas.Array i) j
            ∙ late.written v i j (omega (arith, below, apart)) is)) (cases_eq v value);
      })))
    where
      at_target : {i j : ℕ} (x : Symbols) → targets.Output i j ≡ targets.Output param word
          → node_of x (areas.Array param) word ≡ Some (value_node program value)
          → node_of x (areas.Array i) j ≡ Some (value_node program value)
      at_target x both h = cc

  one_late : {rest : List Line} {t : List Node} {y : Symbols} (value : ℕ) (target : Target)
      → slice_get (targets_of program.ops) value ≡ Some target → Late program value t y
      → ((u : List Node) (z : Symbols) → Late program (value + 1) u z → Leads rest u z Q)
      → Leads (store_late program value target ++ rest) t y Q
  one_late {rest} {t} {y} value targets.Value named late next =
      next t y (late_next program value targets.Value named (λ p w e. cc) late)
  one_late {rest} {t} {y} value targets.Unused named late next =
      next t y (late_next program value targets.Unused named (λ p w e. cc) late)
  one_late {rest} {t} {y} value (targets.Output param word) named late next =
      output_late value param word named late next

  late_then : {rest : List Line} {t : List Node} {y : Symbols} (value : ℕ) (ts : List Target)
      → ((k : ℕ) → slice_get ts k ≡ slice_get (targets_of program.ops) (value + k)) → Late program value t y
      → ((u : List Node) (z : Symbols) → Late program (value + length ts) u z → Leads rest u z Q)
      → Leads (late_from program value ts ++ rest) t y Q
  late_then {rest} {t} {y} value [] same late next =
      next t y (subst (λ (n : ℕ). Late program n t y) (omega arith) late)
  late_then {rest} {t} {y} value (target ∷ ts) same late next =
      let here : value + 0 ≡ value = omega arith in
      let all : value + 1 + length ts ≡ value + suc (length ts) = omega arith in
      subst (λ (lines : List Line). Leads lines t y Q)
      (sym (append_assoc (store_late program value target) (late_from program (value + 1) ts) rest))
      (one_late value target (ap (slice_get (targets_of program.ops)) (sym here) ∙ sym (same 0)) late (λ u z l.
      late_then (value + 1) ts
      (λ k. same (suc k) ∙ ap (slice_get (targets_of program.ops)) (omega arith)) l
      (λ w x m. next w x (subst (λ (n : ℕ). Late program n w x) all m))))

  -- ---- all output words

  module _ (done : List ℕ) {rest : List Line} {t : List Node} {y : Symbols}
      (all : (value : ℕ) → value < length (targets_of program.ops) → is_done program done value ≡ true)
      (between : Between program done t y)
      (next : (u : List Node) (z : Symbols) → Written program u z → Leads rest u z Q) where
    stands_by : (b : Bool) → program.overlap ≡ b → (value param word : ℕ)
        → slice_get (targets_of program.ops) value ≡ Some (targets.Output param word)
        → MatchBool b (known y.frame (length program.params + value) ≡ Some (value_node program value))
        (node_of y (areas.Array param) word ≡ Some (value_node program value))
    stands_by b o value param word named =
        let inside = slice_get_within (targets_of program.ops) value (targets.Output param word) named in
        subst (λ (test : Bool). MatchBool test
        (known y.frame (length program.params + value) ≡ Some (value_node program value))
        (node_of y (areas.Array param) word ≡ Some (value_node program value))) o
        (subst (StandsAs program y value) named (between.cells value inside (all value inside)))

    late_by : (b : Bool) → program.overlap ≡ b
        → Leads ((if b then late_from program 0 (targets_of program.ops) else []) ++ rest) t y Q
    late_by true o = late_then 0 (targets_of program.ops)
        (λ k. ap (slice_get (targets_of program.ops)) (omega arith)) (record {
          standing = between.standing;
          slots = stands_by true o;
          written = λ value param word below is. absurd (omega (arith, below));
        }) (λ u z late. next u z (record {
          standing = late.standing;
          written = λ value param word is.
              let inside = slice_get_within (targets_of program.ops) value (targets.Output param word) is in
              late.written value param word (omega (arith, inside)) is;
        }))
    late_by false o = next t y (record { standing = between.standing; written = stands_by false o })

    pub late_leads : Leads (late_stores program ++ rest) t y Q
    late_leads = late_by program.overlap refl
