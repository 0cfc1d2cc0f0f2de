-- The results of an operation are stored: then these values stand too, beside those that stood before.
use Rattle.std.proofs.Common.{◌≡◌, ◌≢◌, ◌⊎◌, ℕ, ◌+◌, ◌<◌, Bool, true, false, List, [], ◌∷◌, ◌++◌, length, Option, Some}
use Rattle.std.proofs.Common.{refl, sym, ◌∙◌, ap, subst, arith, inl, inr, ⊎_elim, append_assoc}
use Rattle.std.specs.Bool.{MatchBool}
use Rattle.std.specs.Prelude.{slice_get, slice_index, not, nat_lt, ◌&&◌, ◌||◌, ◌==◌, if◌then◌else◌}
use Rattle.std.proofs.lemmas.Bool.{cases_eq, true≢false}
use Rattle.std.proofs.lemmas.Bool.Decides.{nat_tests}
use Rattle.std.proofs.lemmas.Option.{same_Some, slice_get_within}
use Rattle.base.specs.Options.{◌>>=◌}
use Rattle.base.proofs.Arithmetic.{below_by_test, equal_by_test}
use Rattle.word_program.specs.declared.parameter.Param.{Param}
use Rattle.word_program.specs.declared.parameter.Role.{Role}
use Rattle.word_program.specs.declared.parameter.Role.TheVariants.{Output, InputArray, InputScalar}
use Rattle.word_program.specs.declared.operation.Op.{Op}
use Rattle.word_program.specs.declared.operation.Target.{Target}
use Rattle.word_program.specs.declared.operation.Target.TheVariants as targets
use Rattle.word_program.specs.Program.{Source}
use Rattle.word_program.specs.Values.{is_input_array, is_output, targets_of}
use Rattle.word_program.specs.Accepted.{IsAccepted}
use Rattle.x86_instr.specs.declared.line.Line.{Line}
use Rattle.x86_instr.specs.declared.operand.Reg.{Reg}
use Rattle.x86_instr.specs.Registers.{number_of}
use Rattle.x86_meaning.specs.Start as areas
use Rattle.terms.specs.declared.nodes.Node.{Node}
use Rattle.terms.specs.Tables.{Prefix}
use Rattle.terms.proofs.Cases.{first_true, second_true, one_true}
use Rattle.term_store.proofs.Prefixes.{prefix_refl}
use Rattle.symbolic_state.specs.Symbols.{Array, Symbols, node_in}
use Rattle.symbolic_state.specs.Cells.{known, node_of}
use Rattle.plain_lower.specs.Frame.{keep, put_out, store}
use Rattle.plain_lower.specs.Blocks.{Place, store_all, target_at}
use Rattle.plain_checks.proofs.Leading.{Leads}
use Rattle.plain_checks.proofs.Nodes.{value_node}
use Rattle.plain_checks.proofs.Beside.{AreIn}
use Rattle.plain_checks.proofs.Between.{Standing, StandsAs}
use Rattle.plain_checks.proofs.BetweenLemmas.{Holds, standing_alike, stands_still}
use Rattle.plain_checks.proofs.WrittenOnce.{target_is_out, written_once}
use Rattle.plain_checks.proofs.MemoryStores.{SlotSet, WordSet}
use Rattle.plain_checks.proofs.Stores.{keep_then, put_out_then, slot_alike, word_alike}

-- ---- one value more

-- an output is no input
out_is_no_input : (role : Role) → is_output role ≡ true → is_input_array role ≡ true → ⊥
out_is_no_input Output e h = true≢false (sym h)
out_is_no_input InputArray e h = true≢false (sym e)
out_is_no_input InputScalar e h = true≢false (sym e)

-- this value, or one that is told
abbrev pub OrValue : ℕ → (ℕ → Type 0) → ℕ → Type 0
OrValue value There other = (other ≡ value) ⊎ There other

module _ (program : Source) (There : ℕ → Type 0) {t u : List Node} {y z : Symbols} (value : ℕ) (target : Target)
    (holds : Holds program There t y) (standing : Standing program u z)
    (named : slice_get (targets_of program.ops) value ≡ Some target) where
  -- the values stand where they did, and the new one stands
  holds_more : ((param word : ℕ) (p : Param) → slice_get program.params param ≡ Some p → is_input_array p.role ≡ true
      → node_of z (areas.Array param) word ≡ node_of y (areas.Array param) word)
      → StandsAs program z value (Some target)
      → ((other : ℕ) → other ≢ value → known z.frame (length program.params + other)
      ≡ known y.frame (length program.params + other))
      → ((other param word : ℕ) → other ≢ value
      → slice_get (targets_of program.ops) other ≡ Some (targets.Output param word) → program.overlap ≡ false
      → node_of z (areas.Array param) word ≡ node_of y (areas.Array param) word)
      → Holds program (OrValue value There) u z
  holds_more inputs new slots outs = record {
    standing = standing;
    inputs = λ param word p there is inside. inputs param word p there is ∙ holds.inputs param word p there is inside;
    cells = λ other inside there. ⊎_elim
        (λ e. subst (λ (w : ℕ). StandsAs program z w (slice_get (targets_of program.ops) w)) (sym e)
        (subst (StandsAs program z value) (sym named) new))
        (λ e. stands_still program y z other (slice_get (targets_of program.ops) other) (slots other e)
        (λ param word is o. outs other param word e is o)
        (holds.cells other inside (⊎_elim (λ same. absurd (e same)) (λ h. h) there)))
        (cases_eq other value);
  }

  holds_kept : SlotSet y (length program.params + value) (value_node program value) z
      → StandsAs program z value (Some target) → Holds program (OrValue value There) u z
  holds_kept set new = holds_more
      (λ param word p there is.
      ap (λ (arrays : List Array). slice_get arrays param >>= λ a. known a.words word) set.arrays)
      new (λ other e. set.others (length program.params + other) (λ same. e (omega (arith, same))))
      (λ other param word e is o.
      ap (λ (arrays : List Array). slice_get arrays param >>= λ a. known a.words word) set.arrays)

module _ (program : Source) (accepted : IsAccepted program) where
  holds_put : (There : ℕ → Type 0) {t u : List Node} {y z : Symbols} (value param word : ℕ)
      → Holds program There t y → Standing program u z
      → slice_get (targets_of program.ops) value ≡ Some (targets.Output param word) → program.overlap ≡ false
      → WordSet program y param word (value_node program value) z → Holds program (OrValue value There) u z
  holds_put There {t} {u} {y} {z} value param word holds standing named o set =
      let out = target_is_out program accepted value param word named in
      let apart = λ (overlap : program.overlap ≡ true). true≢false (sym overlap ∙ o) in
      holds_more program There value (targets.Output param word) holds standing named
      (λ q x p there is. set.others q x
      (λ same. absurd (out_is_no_input p.role
      (ap (λ (r : Param). is_output r.role)
      (same_Some p out.p (sym there ∙ (ap (slice_get program.params) same ∙ out.there))) ∙ out.output) is))
      (λ b. absurd (apart b)))
      (subst (λ (b : Bool). MatchBool b
      (known z.frame (length program.params + value) ≡ Some (value_node program value))
      (node_of z (areas.Array param) word ≡ Some (value_node program value))) (sym o) set.here)
      (λ other e. ap (λ (words : List (Option ℕ)). known words (length program.params + other)) set.frame)
      (λ other q x e is no. set.others q x
      (λ same at. e (written_once program accepted other value param word
      (is ∙ ap Some (ap (λ (r : ℕ). targets.Output r x) same ∙ ap (targets.Output param) at)) named))
      (λ b. absurd (apart b)))

  -- ---- one store

  module _ (There : ℕ → Type 0) {rest : List Line} {t : List Node} {y : Symbols}
      {Q : List Node → Symbols → Type 0} (value : ℕ) (src : Reg) (holds : Holds program There t y)
      (is : node_in y src ≡ value_node program value) (other : number_of src ≢ 11)
      (next : (u : List Node) (z : Symbols) → Prefix t u
      → ((r : Reg) → number_of r ≢ 11 → node_in z r ≡ node_in y r) → Holds program (OrValue value There) u z
      → Leads rest u z Q) where
    kept_then : (target : Target) → slice_get (targets_of program.ops) value ≡ Some target
        → ((z : Symbols) → known z.frame (length program.params + value) ≡ Some (value_node program value)
        → StandsAs program z value (Some target)) → Leads (keep program value src ++ rest) t y Q
    kept_then target named stands = keep_then program accepted value (value_node program value) src holds.standing
        (slice_get_within (targets_of program.ops) value target named) is (λ u z p set.
        next u z p (λ r apart. ap (λ (regs : List ℕ). slice_index regs (number_of r)) set.regs)
        (holds_kept program There value target holds
        (standing_alike holds.standing p
        (slot_alike program t y z value (value_node program value) holds.standing set))
        named set (stands z set.here)))

    put_then : (param word : ℕ) → slice_get (targets_of program.ops) value ≡ Some (targets.Output param word)
        → program.overlap ≡ false → Leads (put_out param word src ++ rest) t y Q
    put_then param word named o = put_out_then program accepted param word
        (target_is_out program accepted value param word named) src (value_node program value) holds.standing is other
        (λ u z p set. next u z p set.kept
        (holds_put There value param word holds
        (standing_alike holds.standing p (word_alike program y z param word (value_node program value) set))
        named o set))

    output_then : (param word : ℕ) (b : Bool)
        → slice_get (targets_of program.ops) value ≡ Some (targets.Output param word)
        → program.overlap ≡ b
        → Leads ((if b then keep program value src else put_out param word src) ++ rest) t y Q
    output_then param word true named o = kept_then (targets.Output param word) named (λ z here.
        subst (λ (b : Bool). MatchBool b
        (known z.frame (length program.params + value) ≡ Some (value_node program value))
        (node_of z (areas.Array param) word ≡ Some (value_node program value))) (sym o) here)
    output_then param word false named o = put_then param word named o

    pub store_then : (target : Target) → slice_get (targets_of program.ops) value ≡ Some target
        → Leads (store program value target src ++ rest) t y Q
    store_then targets.Value named = kept_then targets.Value named (λ z here. here)
    store_then targets.Unused named = next t y (prefix_refl t) (λ r apart. refl)
        (holds_more program There value targets.Unused holds holds.standing named (λ param word p there is. refl) tt
        (λ v e. refl) (λ v param word e there o. refl))
    store_then (targets.Output param word) named = output_then param word program.overlap named refl

-- ---- the stores of a block

-- the registers of results, none of them `r11`, and places among so many results
abbrev pub are_saves : ℕ → List Place → Bool
are_saves count [] = true
are_saves count (s ∷ ss) = not (number_of s.0 == 11) && (nat_lt s.1 count && are_saves count ss)

-- one of these results, counted from a first value, or a value that is told
abbrev pub OrSaved : ℕ → List Place → (ℕ → Type 0) → ℕ → Type 0
OrSaved first [] There value = There value
OrSaved first (s ∷ ss) There value = OrSaved first ss (OrValue (first + s.1) There) value

pub saved_before : (first : ℕ) (saves : List Place) (There : ℕ → Type 0) (value : ℕ) → There value
    → OrSaved first saves There value
saved_before first [] There value h = h
saved_before first (s ∷ ss) There value h = saved_before first ss (OrValue (first + s.1) There) value (inr h)

-- the place is one of these
abbrev pub has_place : ℕ → List Place → Bool
has_place place [] = false
has_place place (s ∷ ss) = (s.1 == place) || has_place place ss

pub saved_there : (first : ℕ) (saves : List Place) (There : ℕ → Type 0) (place : ℕ) → has_place place saves ≡ true
    → OrSaved first saves There (first + place)
saved_there first [] There place e = absurd (true≢false (sym e))
saved_there first (s ∷ ss) There place e = ⊎_elim
    (λ same. saved_before first ss (OrValue (first + s.1) There) (first + place)
    (inl (ap (λ (p : ℕ). first + p) (sym (equal_by_test s.1 place same)))))
    (λ rest. saved_there first ss (OrValue (first + s.1) There) place rest)
    (one_true (s.1 == place) (has_place place ss) e)

is_not_11 : (r : Reg) → not (number_of r == 11) ≡ true → number_of r ≢ 11
is_not_11 r e same = grind (arith, nat_tests)

-- results are in registers other than `r11`
are_still_in : (y z : Symbols) (nodes : ℕ → ℕ) (count : ℕ) (saves : List Place) → are_saves count saves ≡ true
    → ((r : Reg) → number_of r ≢ 11 → node_in z r ≡ node_in y r) → AreIn y nodes saves → AreIn z nodes saves
are_still_in y z nodes count [] e kept all = tt
are_still_in y z nodes count (s ∷ ss) e kept all = (
  kept s.0 (is_not_11 s.0 (first_true (not (number_of s.0 == 11)) (nat_lt s.1 count && are_saves count ss) e)) ∙ all.0,
  are_still_in y z nodes count ss (second_true (nat_lt s.1 count) (are_saves count ss)
      (second_true (not (number_of s.0 == 11)) (nat_lt s.1 count && are_saves count ss) e)) kept all.1,
)

module _ (program : Source) (accepted : IsAccepted program) (first count : ℕ) (op : Op)
    (named : (place : ℕ) → place < count
    → slice_get (targets_of program.ops) (first + place) ≡ Some (target_at op place))
    {rest : List Line} {Q : List Node → Symbols → Type 0} where
  pub stores_then : (There : ℕ → Type 0) {t : List Node} {y : Symbols} (saves : List Place)
      → are_saves count saves ≡ true
      → Holds program There t y → AreIn y (λ place. value_node program (first + place)) saves
      → ((u : List Node) (z : Symbols) → Holds program (OrSaved first saves There) u z → Leads rest u z Q)
      → Leads (store_all program first op saves ++ rest) t y Q
  stores_then There {t} {y} [] e holds all next = next t y holds
  stores_then There {t} {y} (s ∷ ss) e holds all next =
      let other = is_not_11 s.0 (first_true (not (number_of s.0 == 11)) (nat_lt s.1 count && are_saves count ss) e) in
      let more = second_true (not (number_of s.0 == 11)) (nat_lt s.1 count && are_saves count ss) e in
      let below = below_by_test s.1 count (first_true (nat_lt s.1 count) (are_saves count ss) more) in
      let saves = second_true (nat_lt s.1 count) (are_saves count ss) more in
      subst (λ (lines : List Line). Leads lines t y Q)
      (sym (append_assoc (store program (first + s.1) (target_at op s.1) s.0) (store_all program first op ss) rest))
      (store_then program accepted There (first + s.1) s.0 holds all.0 other (λ u z p kept h.
      stores_then (OrValue (first + s.1) There) ss saves h
      (are_still_in y z (λ place. value_node program (first + place)) count ss saves kept all.1) next)
      (target_at op s.1) (named s.1 below))
