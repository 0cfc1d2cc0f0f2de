-- What correctness says of a run from a start, as what it refuses.
use Rattle.std.proofs.Common.{◌≡◌, ◌≢◌, ℕ, zero, suc, ◌+◌, ◌*◌, ◌≤◌, List, [], ◌∷◌, ◌++◌, Some}
use Rattle.std.proofs.Common.{is_some, slice_get, sym, ◌∙◌, subst, arith}
use Rattle.std.specs.List.{AllByRecursion}
use Rattle.std.specs.FinMap as map
use Rattle.word_program.specs.Program.{Source}
use Rattle.word_program.specs.Values.{is_output, output_word}
use Rattle.x86_instr.specs.declared.operand.Reg.TheVariants.{Rbx, Rsp, Rbp, R12, R13, R14, R15}
use Rattle.x86_instr.specs.declared.line.Line.{Line}
use Rattle.x86_instr.specs.Frame.{frame_of}
use Rattle.x86_meaning.specs.declared.state.State.{State}
use Rattle.x86_meaning.specs.Machine.{reg}
use Rattle.x86_meaning.specs.Runs.{Ended, Stuck, EndsKeeping, run_from, states_of}
use Rattle.x86_meaning.specs.Start.{Array, Frame, Return, param_reg, IsStart}
use Rattle.x86_meaning.specs.StartLaws.{HasWord}
use Rattle.x86_meaning.specs.Correct.{IsCorrect, IsOutside, Keeps, Returns}
use Rattle.x86_meaning.specs.Refused.{IsToBeLeft}
use Rattle.x86_meaning.proofs.FreeStates.{has_word, word_below}
use Rattle.x86_meaning.proofs.RunStates.{none_at, stuck_not_ended, ended_state, runs_keep}

-- ---- the states of a run

-- what holds of the states before the last and of the last holds of each
each_state : (P : State → Type 0) (before : List State) (last : State) → AllByRecursion P before → P last → (n : ℕ)
    (t : State) → slice_get (before ++ last ∷ []) n ≡ Some t → P t
each_state P [] last all at_last zero t e = let same : last ≡ t = cc in subst P same at_last
each_state P [] last all at_last (suc n) t e = absurd (none_at n t e)
each_state P (s ∷ before) last all at_last zero t e = let same : s ≡ t = cc in subst P same all.0
each_state P (s ∷ before) last all at_last (suc n) t e = each_state P before last all.1 at_last n t e

module _ (program : Source) (lines : List Line) (inputs : List ℕ) (s : State) (start : IsStart program lines inputs s)
    (correct : IsCorrect program lines) where
  abbrev Kept : State → Type 0
  Kept t = Keeps program.params (frame_of lines) s t.cells

  abbrev Returned : State → Type 0
  Returned t = Returns program (frame_of lines) inputs s t

  run_ends : EndsKeeping Kept Returned 1 lines s
  run_ends = runs_keep Kept Returned lines 1 s (correct.runs inputs s start)

  -- the run is not stuck
  pub never_stuck : (number : ℕ) (t : State) → run_from 1 lines s ≡ Stuck number t → ⊥
  never_stuck number t e = stuck_not_ended t run_ends.last number (sym e ∙ run_ends.ends)

  -- the state at its end is one with what the program asks for
  pub returned : (t : State) → run_from 1 lines s ≡ Ended t → Returned t
  returned t e = subst Returned (ended_state run_ends.last t (sym run_ends.ends ∙ e)) run_ends.at_last

  -- each of its states keeps the memory
  pub each_kept : (n : ℕ) (t : State) → slice_get (states_of lines s) n ≡ Some t → Kept t
  each_kept n t e = each_state Kept run_ends.before run_ends.last run_ends.all_before run_ends.at_last.keeps n t
      (subst (λ states. slice_get states n ≡ Some t) run_ends.states e)

-- an address that is to be left is one of no word that may be written
pub left_outside : (program : Source) (lines : List Line) (inputs : List ℕ) (s : State)
    → IsStart program lines inputs s → (address : ℕ) → IsToBeLeft program lines s address
    → IsOutside program.params (frame_of lines) s address
left_outside program lines inputs s start address left (Array param) word h =
    left.no_output param word (has_word is_output program.params param word h)
left_outside program lines inputs s start address left Frame word h = λ e.
    let begins : frame_of lines ≤ reg s Rsp = start.frame_begins in
    left.not_in_frame (omega (arith, e)) (omega (arith, e, h, begins))
left_outside program lines inputs s start address left Return word h = absurd (omega (arith, h))

pub output_refused : (program : Source) (lines : List Line) (inputs : List ℕ) (s t : State)
    → IsStart program lines inputs s → run_from 1 lines s ≡ Ended t → (param word : ℕ)
    → HasWord is_output program.params param word
    → map.get t.cells (reg s (param_reg param) + 8 * word) ≢ Some (output_word program inputs param word)
    → IsCorrect program lines → ⊥
output_refused program lines inputs s t start ends param word has wrong correct =
    wrong ((returned program lines inputs s start correct t ends).outputs param word
    (word_below is_output program.params param word has))

pub registers_refused : (program : Source) (lines : List Line) (inputs : List ℕ) (s t : State)
    → IsStart program lines inputs s → run_from 1 lines s ≡ Ended t
    → AllByRecursion (λ r. reg t r ≢ reg s r → IsCorrect program lines → ⊥)
    (Rbx ∷ Rbp ∷ R12 ∷ R13 ∷ R14 ∷ R15 ∷ Rsp ∷ [])
registers_refused program lines inputs s t start ends =
    let back = λ (correct : IsCorrect program lines).
    (returned program lines inputs s start correct t ends).registers in (
      λ lost correct. lost (back correct).0,
      (
        λ lost correct. lost (back correct).1.0,
        (
          λ lost correct. lost (back correct).1.1.0,
          (
            λ lost correct. lost (back correct).1.1.1.0,
            (
              λ lost correct. lost (back correct).1.1.1.1.0,
              (
                λ lost correct. lost (back correct).1.1.1.1.1.0,
                (λ lost correct. lost (back correct).1.1.1.1.1.1.0, tt),
              ),
            ),
          ),
        ),
      ),
    )

pub word_refused : (program : Source) (lines : List Line) (inputs : List ℕ) (s t : State)
    → IsStart program lines inputs s → (n : ℕ) → slice_get (states_of lines s) n ≡ Some t → (address : ℕ)
    → IsToBeLeft program lines s address → map.get t.cells address ≢ map.get s.cells address
    → IsCorrect program lines → ⊥
word_refused program lines inputs s t start n at address left changed correct =
    changed ((each_kept program lines inputs s start correct n t at).others address
    (left_outside program lines inputs s start address left))

pub address_refused : (program : Source) (lines : List Line) (inputs : List ℕ) (s t : State)
    → IsStart program lines inputs s → (n : ℕ) → slice_get (states_of lines s) n ≡ Some t → (address : ℕ)
    → is_some (map.get t.cells address) ≢ is_some (map.get s.cells address) → IsCorrect program lines → ⊥
address_refused program lines inputs s t start n at address other correct =
    other ((each_kept program lines inputs s start correct n t at).addresses address)
