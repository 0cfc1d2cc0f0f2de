-- A listing that realises its plan and is proved gets no other answer from the check.
use Rattle.std.proofs.Common.{◌≡◌, ℕ, zero, suc, ◌<◌, ◌≤◌, List, [], ◌∷◌, ◌++◌, length, map, take}
use Rattle.std.proofs.Common.{Option, Some, None, refl, sym, ap, ◌∙◌, subst, arith, ⊎_elim}
use Rattle.std.proofs.lemmas.Bool.{cases_lt, false≢true}
use Rattle.std.proofs.lemmas.List.{append_assoc}
use Rattle.std.specs.Prelude.{slice_get}
use Rattle.word_program.specs.Program.{Source}
use Rattle.x86_instr.specs.declared.line.Line.{Line}
use Rattle.x86_instr.specs.Listings.{NamedLines}
use Rattle.symbolic_state.specs.Symbols.{Symbols}
use Rattle.op_order.specs.declared.slot.Slot.{Slot}
use Rattle.op_order.specs.Plans.{SlotsWithRoom}
use Rattle.op_order.specs.Legal.{IsLegal}
use Rattle.plain_lower.specs.Plain.{plain_listing}
use Rattle.equiv_validator.specs.declared.checked.Answer.{Answer}
use Rattle.equiv_validator.specs.declared.checked.Answer.TheVariants.{Differs, Not}
use Rattle.equiv_validator.specs.Answers.{IsAnswer}
use Rattle.op_order.specs.Realises.{BeginsWith, DiffersFirst, Realises, plan_lines, slot_lines}
use Rattle.equiv_validator.specs.declared.verdict.Why.{Why}
use Rattle.equiv_validator.specs.declared.verdict.Why.TheVariants as whys
use Rattle.program_nodes.specs.Sources.{source_outputs}
use Rattle.symbolic_state.specs.Written.{words_written}
use Rattle.equiv_validator.specs.Checks.{EndsIn, Fails, HaveNodes, IsFirstOther, IsProved, lost_register}
use Rattle.equiv_validator.specs.Runs.{Ended, Stuck}
use Rattle.plain_checks.specs.Proved.{HasRightPlain, IsRightPlain}

-- ---- it differs nowhere

-- the lines of all slots begin with those of the first ones
plan_begins : (program : Source) (slots : List Slot) (n : ℕ)
    → BeginsWith (plan_lines program slots) (plan_lines program (take n slots))
plan_begins program slots zero = (plan_lines program slots, refl)
plan_begins program [] (suc n) = ([], refl)
plan_begins program (slot ∷ slots) (suc n) =
    let rest = plan_begins program slots n in (
      rest.0,
      ap (λ (lines : List _). slot_lines program slot ++ lines) rest.1
          ∙ sym (append_assoc (slot_lines program slot) (plan_lines program (take n slots)) rest.0),
    )

pub never_differs : {program : Source} {slots : List Slot} {listing : NamedLines} {number : ℕ}
    → Realises program slots listing → DiffersFirst program slots listing number → ⊥
never_differs {program} {slots} {listing} {number} realises differs =
    ⊎_elim
    (λ (h : number < length slots).
    let begins = plan_begins program slots (suc number) in
    differs.here h (begins.0, realises ∙ begins.1))
    (λ (h : length slots ≤ number).
    let within = differs.within in
    differs.over (omega arith) realises)
    (cases_lt number (length slots))

-- ---- it has no failure

get_map_some : (ns : List ℕ) (k n : ℕ) → slice_get ns k ≡ Some n → slice_get (map Some ns) k ≡ Some (Some n)
get_map_some [] k n e = absurd (none e) where
  none : {n : ℕ} → None ≡ Some n → ⊥
  none e = cc
get_map_some (m ∷ ns) zero n e = ap Some e
get_map_some (m ∷ ns) (suc k) n e = get_map_some ns k n e

no_other_word : (written : List (Option ℕ)) (nodes : List ℕ) (word source : ℕ) (listing : Option ℕ)
    → HaveNodes written nodes → IsFirstOther written nodes word source listing → ⊥
no_other_word written nodes word source listing have other =
    let found : Some (Some source) ≡ Some listing =
    sym (get_map_some nodes word source other.source_node) ∙ sym (ap (λ ws. slice_get ws word) have)
    ∙ other.listing_node in
    other.differs (inside found)
  where
    inside : Some (Some source) ≡ Some listing → listing ≡ Some source
    inside e = cc

ended_alike : (y z : Symbols) → Ended y ≡ Ended z → y ≡ z
ended_alike y z e = cc

stuck_nowhere : (y : Symbols) (line : ℕ) → Ended y ≡ Stuck line → ⊥
stuck_nowhere y line e = cc

none_lost : {A : Type 0} (x : A) (o : Option A) → o ≡ None → o ≡ Some x → ⊥
none_lost x o e f = cc

module _ {program : Source} {lines : List Line} (proved : IsProved program lines) where
  -- what holds where the run ends holds of the state in which it is proved to end
  at_last : {P : Symbols → Type 0} → EndsIn program lines P → P proved.last
  at_last {P} e = subst P (ended_alike e.last proved.last (sym e.ends ∙ proved.ends)) e.holds

  pub never_fails : (why : Why) → Fails program lines why → ⊥
  never_fails (whys.Stuck line) fails = stuck_nowhere proved.last line (sym proved.ends ∙ fails)
  never_fails (whys.Output word source listing) fails =
      no_other_word (words_written proved.last) (source_outputs program) word source listing proved.outputs
      (at_last fails)
  never_fails (whys.Saved reg) fails =
      let f = at_last fails in none_lost reg (lost_register proved.last) proved.saved_registers f.1
  never_fails whys.Stack fails =
      let f = at_last fails in false≢true (sym f.2 ∙ proved.stack)

-- ---- so a plain listing of a legal plan gets none

module _ {program p q : Source} (plan : SlotsWithRoom) {listing : NamedLines} (answer : Answer)
    (right : HasRightPlain p) (same_p : p ≡ program) (same_q : q ≡ program)
    (is : listing ≡ plain_listing q plan.slots) (legal : IsLegal program plan.slots)
    (says : IsAnswer program plan listing answer) where
  its_right : IsRightPlain program plan.slots
  its_right = subst HasRightPlain same_p right plan.slots legal

  its_listing : listing ≡ plain_listing program plan.slots
  its_listing = is ∙ ap (λ (r : Source). plain_listing r plan.slots) same_q

  pub no_differs : {slot : ℕ} {back : SlotsWithRoom} → answer ≡ Differs slot back → ⊥
  no_differs {slot} {back} e =
      let differs = (subst (IsAnswer program plan listing) e says).1 in
      never_differs (subst (Realises program plan.slots) (sym its_listing) its_right.realises) differs

  pub no_not : {why : Why} {back : SlotsWithRoom} → answer ≡ Not why back → ⊥
  no_not {why} {back} e =
      let fails = (subst (IsAnswer program plan listing) e says).2 in
      never_fails (subst (λ (l : NamedLines). IsProved program l.lines) (sym its_listing) its_right.proved) why fails
