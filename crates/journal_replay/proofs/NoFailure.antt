-- A listing that is proved has no failure, and one that is not has one first failure.
use Rattle.std.proofs.Common.{◌≡◌, ◌≢◌, ◌<◌, ℕ, zero, suc, List, [], ◌∷◌, map, take, Option, Some, None, refl, sym, ap}
use Rattle.std.proofs.Common.{◌∙◌, subst, arith, inl, inr}
use Rattle.std.proofs.lemmas.Bool.{cases_eq, cases_lt, false≢true}
use Rattle.std.specs.Prelude.{slice_get}
use Rattle.word_program.specs.Program.{Source}
use Rattle.x86_instr.specs.declared.line.Line.{Line}
use Rattle.symbolic_state.specs.Symbols.{Symbols}
use Rattle.symbolic_state.specs.Written.{words_written}
use Rattle.program_nodes.specs.Sources.{source_outputs}
use Rattle.equiv_validator.specs.declared.verdict.Why.{Why}
use Rattle.equiv_validator.specs.declared.verdict.Why.TheVariants as whys
use Rattle.equiv_validator.specs.Checks.{EndsIn, Fails, HaveNodes, IsFirstOther, IsProved, lost_register}
use Rattle.equiv_validator.specs.Runs.{Ended, Stuck, run_of}
use Rattle.journal_replay.proofs.Taking.{get_take}

get_map_some : (ns : List ℕ) (k n : ℕ) → slice_get ns k ≡ Some n → slice_get (map Some ns) k ≡ Some (Some n)
get_map_some [] k n e = absurd (none e) where
  none : {n : ℕ} → None ≡ Some n → ⊥
  none e = cc
get_map_some (m ∷ ns) zero n e = ap Some e
get_map_some (m ∷ ns) (suc k) n e = get_map_some ns k n e

-- a word that should have this node has it, where all have theirs
no_other_at : (written : List (Option ℕ)) (nodes : List ℕ) (word source : ℕ) (listing : Option ℕ)
    → HaveNodes written nodes → slice_get nodes word ≡ Some source → slice_get written word ≡ Some listing
    → listing ≢ Some source → ⊥
no_other_at written nodes word source listing have source_is listing_is differs =
    let found : Some (Some source) ≡ Some listing =
    sym (get_map_some nodes word source source_is) ∙ sym (ap (λ ws. slice_get ws word) have) ∙ listing_is in
    differs (inside found)
  where
    inside : Some (Some source) ≡ Some listing → listing ≡ Some source
    inside e = cc

no_other_word : (written : List (Option ℕ)) (nodes : List ℕ) (word source : ℕ) (listing : Option ℕ)
    → HaveNodes written nodes → IsFirstOther written nodes word source listing → ⊥
no_other_word written nodes word source listing have other =
    no_other_at written nodes word source listing have other.source_node other.listing_node other.differs

no_earlier : (written : List (Option ℕ)) (nodes : List ℕ) (word source later other : ℕ) (listing found : Option ℕ)
    → word < later → IsFirstOther written nodes word source listing → IsFirstOther written nodes later other found → ⊥
no_earlier written nodes word source later other listing found low first second =
    no_other_at (take later written) (take later nodes) word source listing second.earlier
    (get_take nodes word later low ∙ first.source_node) (get_take written word later low ∙ first.listing_node)
    first.differs

record AreSame (word source : ℕ) (listing : Option ℕ) (w s : ℕ) (l : Option ℕ) : Type 0 where
  word_is : word ≡ w
  source_is : source ≡ s
  listing_is : listing ≡ l

some_inside : {A : Type 0} (x y : A) → Some x ≡ Some y → x ≡ y
some_inside x y e = cc

other_once : (written : List (Option ℕ)) (nodes : List ℕ) (word source w s : ℕ) (listing l : Option ℕ)
    → IsFirstOther written nodes word source listing → IsFirstOther written nodes w s l
    → AreSame word source listing w s l
other_once written nodes word source w s listing l first second = elim (cases_eq word w) [
  | inl same ↦ record {
    word_is = same;
    source_is = some_inside source s (sym first.source_node ∙ ap (slice_get nodes) same ∙ second.source_node);
    listing_is = some_inside listing l (sym first.listing_node ∙ ap (slice_get written) same ∙ second.listing_node);
  }
  | inr apart ↦ elim (cases_lt word w) [
    | inl low ↦ absurd (no_earlier written nodes word source w s listing l low first second)
    | inr high ↦ absurd (no_earlier written nodes w s word source l listing (omega arith) second first)
  ]
]

stuck_alike : (l m : ℕ) → Stuck l ≡ Stuck m → l ≡ m
stuck_alike l m e = cc

ended_alike : (y z : Symbols) → Ended y ≡ Ended z → y ≡ z
ended_alike y z e = cc

stuck_nowhere : (y : Symbols) (line : ℕ) → Ended y ≡ Stuck line → ⊥
stuck_nowhere y line e = cc

none_lost : {A : Type 0} (x : A) (o : Option A) → o ≡ None → o ≡ Some x → ⊥
none_lost x o e f = cc

module _ {program : Source} {lines : List Line} (proved : IsProved program lines) where
  -- what holds where the run ends holds of the state in which it is proved to end
  at_last : {P : Symbols → Type 0} → EndsIn program lines P → P proved.last
  at_last {P} e = subst P (ended_alike e.last proved.last (sym e.ends ∙ proved.ends)) e.holds

  pub never_fails : (why : Why) → Fails program lines why → ⊥
  never_fails (whys.Stuck line) fails = stuck_nowhere proved.last line (sym proved.ends ∙ fails)
  never_fails (whys.Output word source listing) fails =
      no_other_word (words_written proved.last) (source_outputs program) word source listing proved.outputs
      (at_last fails)
  never_fails (whys.Saved reg) fails =
      let f = at_last fails in none_lost reg (lost_register proved.last) proved.saved_registers f.1
  never_fails whys.Stack fails =
      let f = at_last fails in false≢true (sym f.2 ∙ proved.stack)

-- ---- one first failure

module _ {program : Source} {lines : List Line} where
  -- what holds where the run ends holds of the state in which another failure is told
  at_end : {P Q : Symbols → Type 0} (e : EndsIn program lines P) → EndsIn program lines Q → Q e.last
  at_end {P} {Q} e h = subst Q (ended_alike h.last e.last (sym h.ends ∙ e.ends)) h.holds

  not_stuck : {P : Symbols → Type 0} (line : ℕ) → (run_of program lines).ending ≡ Stuck line → EndsIn program lines P
      → ⊥
  not_stuck line stuck e = stuck_nowhere e.last line (sym e.ends ∙ stuck)

pub fails_once : (program : Source) (lines : List Line) (f h : Why) → Fails program lines f → Fails program lines h
    → f ≡ h
fails_once program lines (whys.Stuck l) (whys.Stuck m) is other = ap whys.Stuck (stuck_alike l m (sym is ∙ other))
fails_once program lines (whys.Stuck l) (whys.Output w s o) is other = absurd (not_stuck l is other)
fails_once program lines (whys.Stuck l) (whys.Saved reg) is other = absurd (not_stuck l is other)
fails_once program lines (whys.Stuck l) whys.Stack is other = absurd (not_stuck l is other)
fails_once program lines (whys.Output w s o) (whys.Stuck m) is other = absurd (not_stuck m other is)
fails_once program lines (whys.Output w s o) (whys.Output v t p) is other =
    let same = other_once (words_written is.last) (source_outputs program) w s v t o p is.holds (at_end is other) in
    let a = same.word_is in
    let b = same.source_is in
    let c = same.listing_is in
    cc
fails_once program lines (whys.Output w s o) (whys.Saved reg) is other =
    let holds = at_end is other in
    absurd (no_other_word (words_written is.last) (source_outputs program) w s o holds.0 is.holds)
fails_once program lines (whys.Output w s o) whys.Stack is other =
    let holds = at_end is other in
    absurd (no_other_word (words_written is.last) (source_outputs program) w s o holds.0 is.holds)
fails_once program lines (whys.Saved reg) (whys.Stuck m) is other = absurd (not_stuck m other is)
fails_once program lines (whys.Saved reg) (whys.Output v t p) is other =
    let holds = is.holds in
    absurd (no_other_word (words_written is.last) (source_outputs program) v t p holds.0 (at_end is other))
fails_once program lines (whys.Saved reg) (whys.Saved r) is other =
    let first = is.holds in
    let second = at_end is other in
    ap whys.Saved (some_inside reg r (sym first.1 ∙ second.1))
fails_once program lines (whys.Saved reg) whys.Stack is other =
    let first = is.holds in
    let second = at_end is other in
    absurd (none_lost reg (lost_register is.last) second.1 first.1)
fails_once program lines whys.Stack (whys.Stuck m) is other = absurd (not_stuck m other is)
fails_once program lines whys.Stack (whys.Output v t p) is other =
    let holds = is.holds in
    absurd (no_other_word (words_written is.last) (source_outputs program) v t p holds.0 (at_end is other))
fails_once program lines whys.Stack (whys.Saved reg) is other =
    let first = is.holds in
    let second = at_end is other in
    absurd (none_lost reg (lost_register is.last) first.1 second.1)
fails_once program lines whys.Stack whys.Stack is other = refl
