-- The states of a run: where they begin and end, that each follows from the one before it by a step, and that
-- `Runs` speaks of them.
use Rattle.std.proofs.Common.{◌≡◌, ℕ, zero, suc, ◌+◌, Bool, true, false, List, [], ◌∷◌, ◌++◌, Option, Some}
use Rattle.std.proofs.Common.{None, MatchOption, MatchBool, slice_get, if◌then◌else◌, refl, sym, ap, ◌∙◌, subst}
use Rattle.std.specs.List.{AllByRecursion}
use Rattle.std.specs.Option.{option_map_or}
use Rattle.x86_instr.specs.declared.line.Line.{Line}
use Rattle.x86_instr.specs.Listings.{is_ret}
use Rattle.x86_meaning.specs.declared.state.State.{State}
use Rattle.x86_meaning.specs.Machine.{step_of}
use Rattle.x86_meaning.specs.Runs.{Runs, Ended, Stuck, EndsKeeping, run_from, state_left, states_of}
use Rattle.x86_meaning.specs.Laws.{FollowsStep, LastState}

-- ---- outcomes

pub stuck_not_ended : (s t : State) (number : ℕ) → Stuck number s ≡ Ended t → ⊥
stuck_not_ended s t number e = cc

pub ended_state : (s t : State) → Ended s ≡ Ended t → s ≡ t
ended_state s t e = cc

-- ---- the last state

-- the first state of a longer list
one_more : (s t : State) (states : List State) → LastState states t → LastState (s ∷ states) t
one_more s t states last = (s ∷ last.0, ap (λ rest. s ∷ rest) last.1)

step_last : (lines : List Line) (number : ℕ) (s : State) (o : Option State)
    → ((t : State) → LastState (states_of lines t) (state_left (run_from (number + 1) lines t)))
    → LastState (s ∷ option_map_or (λ t. states_of lines t) o [])
    (state_left (option_map_or (λ t. run_from (number + 1) lines t) o (Stuck number s)))
step_last lines number s None rest = ([], refl)
step_last lines number s (Some t) rest = one_more s _ (states_of lines t) (rest t)

line_last : (lines : List Line) (number : ℕ) (s : State) (o : Option State) (b : Bool)
    → ((t : State) → LastState (states_of lines t) (state_left (run_from (number + 1) lines t)))
    → LastState (s ∷ (if b then [] else option_map_or (λ t. states_of lines t) o []))
    (state_left (if b then Ended s else option_map_or (λ t. run_from (number + 1) lines t) o (Stuck number s)))
line_last lines number s o true rest = ([], refl)
line_last lines number s o false rest = step_last lines number s o rest

-- the run leaves its last state
pub last_of_states : (lines : List Line) (number : ℕ) (s : State)
    → LastState (states_of lines s) (state_left (run_from number lines s))
last_of_states [] number s = ([], refl)
last_of_states (line ∷ lines) number s =
    line_last lines number s (step_of line.instr s) (is_ret line.instr) (λ t. last_of_states lines (number + 1) t)

-- the first state is that from which the run begins
pub first_of_states : (lines : List Line) (s : State) → slice_get (states_of lines s) 0 ≡ Some s
first_of_states [] s = refl
first_of_states (line ∷ lines) s = refl

-- ---- steps

pub none_at : (n : ℕ) (t : State) → slice_get [] n ≡ Some t → ⊥
none_at zero t e = cc
none_at (suc n) t e = cc

-- a line later
follows_later : (line : Line) (lines : List Line) (s t u : State) (n : ℕ) → is_ret line.instr ≡ false
    → step_of line.instr s ≡ Some u → slice_get (states_of (line ∷ lines) s) (suc n) ≡ slice_get (states_of lines u) n
    → FollowsStep lines u n t → FollowsStep (line ∷ lines) s (suc n) t
follows_later line lines s t u n goes step same later = record {
  line = later.line;
  before = later.before;
  there = later.there;
  goes = later.goes;
  stood = same ∙ later.stood;
  steps = later.steps;
}

second_follows : (line : Line) (lines : List Line) (s t u : State) → is_ret line.instr ≡ false
    → step_of line.instr s ≡ Some u → slice_get (states_of lines u) 0 ≡ Some t → FollowsStep (line ∷ lines) s 0 t
second_follows line lines s t u goes step e =
    let same : Some u ≡ Some t = sym (first_of_states lines u) ∙ e in record {
      line = line;
      before = s;
      there = refl;
      goes = goes;
      stood = refl;
      steps = step ∙ same;
    }

behind_step : (line : Line) (lines : List Line) (s u : State)
    → is_ret line.instr ≡ false → step_of line.instr s ≡ Some u
    → states_of (line ∷ lines) s ≡ s ∷ states_of lines u
    → ((n : ℕ) (t : State) → slice_get (states_of lines u) (suc n) ≡ Some t → FollowsStep lines u n t)
    → (n : ℕ) (t : State) → slice_get (states_of lines u) n ≡ Some t → FollowsStep (line ∷ lines) s n t
behind_step line lines s u goes step same rest zero t e = second_follows line lines s t u goes step e
behind_step line lines s u goes step same rest (suc n) t e =
    follows_later line lines s t u n goes step (ap (λ states. slice_get states (suc n)) same) (rest n t e)

step_follows : (line : Line) (lines : List Line) (s : State) (o : Option State) → is_ret line.instr ≡ false
    → step_of line.instr s ≡ o → states_of (line ∷ lines) s ≡ s ∷ option_map_or (λ u. states_of lines u) o []
    → ((u : State) (n : ℕ) (t : State) → slice_get (states_of lines u) (suc n) ≡ Some t → FollowsStep lines u n t)
    → (n : ℕ) (t : State) → slice_get (option_map_or (λ u. states_of lines u) o []) n ≡ Some t
    → FollowsStep (line ∷ lines) s n t
step_follows line lines s None goes step same rest n t e = absurd (none_at n t e)
step_follows line lines s (Some u) goes step same rest n t e = behind_step line lines s u goes step same (rest u) n t e

line_follows : (line : Line) (lines : List Line) (s : State) (b : Bool) → is_ret line.instr ≡ b
    → ((u : State) (n : ℕ) (t : State) → slice_get (states_of lines u) (suc n) ≡ Some t → FollowsStep lines u n t)
    → (n : ℕ) (t : State)
    → slice_get (if b then [] else option_map_or (λ u. states_of lines u) (step_of line.instr s) []) n ≡ Some t
    → FollowsStep (line ∷ lines) s n t
line_follows line lines s true ret rest n t e = absurd (none_at n t e)
line_follows line lines s false ret rest n t e =
    step_follows line lines s (step_of line.instr s) ret refl
    (ap (λ b. s ∷ (if b then [] else option_map_or (λ u. states_of lines u) (step_of line.instr s) [])) ret) rest n t e

-- each later state is the one to which the state before it steps, by the line between them
pub states_follow : (lines : List Line) (s : State) (n : ℕ) (t : State)
    → slice_get (states_of lines s) (suc n) ≡ Some t → FollowsStep lines s n t
states_follow [] s n t e = absurd (none_at n t e)
states_follow (line ∷ lines) s n t e =
    line_follows line lines s (is_ret line.instr) refl (λ u. states_follow lines u) n t e

-- ---- P in every state before the last, Q in the last

module _ (P Q : State → Type 0) where
  -- a run that goes on behind a state with P
  keeping_later : (lines : List Line) (number : ℕ) (s t : State) → P s → EndsKeeping P Q (number + 1) lines t
      → (before : List State) × (last : State) × (run_from (number + 1) lines t ≡ Ended last)
      × (s ∷ states_of lines t ≡ before ++ last ∷ []) × AllByRecursion P before × Q last
  keeping_later lines number s t p k =
      (s ∷ k.before, k.last, k.ends, ap (λ states. s ∷ states) k.states, (p, k.all_before), k.at_last)

  step_keeps : (lines : List Line) (number : ℕ) (s : State) (o : Option State) → P s
      → ((t : State) → Runs P Q lines t → EndsKeeping P Q (number + 1) lines t)
      → MatchOption o ⊥ (λ t. Runs P Q lines t)
      → (before : List State) × (last : State)
      × (option_map_or (λ t. run_from (number + 1) lines t) o (Stuck number s) ≡ Ended last)
      × (s ∷ option_map_or (λ t. states_of lines t) o [] ≡ before ++ last ∷ []) × AllByRecursion P before × Q last
  step_keeps lines number s None p rest h = absurd h
  step_keeps lines number s (Some t) p rest h = keeping_later lines number s t p (rest t h)

  line_keeps : (lines : List Line) (number : ℕ) (s : State) (o : Option State) (b : Bool)
      → ((t : State) → Runs P Q lines t → EndsKeeping P Q (number + 1) lines t)
      → MatchBool b (Q s) (P s × MatchOption o ⊥ (λ t. Runs P Q lines t))
      → (before : List State) × (last : State)
      × ((if b then Ended s else option_map_or (λ t. run_from (number + 1) lines t) o (Stuck number s)) ≡ Ended last)
      × (s ∷ (if b then [] else option_map_or (λ t. states_of lines t) o []) ≡ before ++ last ∷ [])
      × AllByRecursion P before × Q last
  line_keeps lines number s o true rest q = ([], s, refl, refl, tt, q)
  line_keeps lines number s o false rest h = step_keeps lines number s o h.0 rest h.1

  -- a run that goes through ends so
  pub runs_keep : (lines : List Line) (number : ℕ) (s : State) → Runs P Q lines s → EndsKeeping P Q number lines s
  runs_keep [] number s h = absurd h
  runs_keep (line ∷ lines) number s h =
      let k = line_keeps lines number s (step_of line.instr s) (is_ret line.instr)
      (λ t. runs_keep lines (number + 1) t) h in record {
        before = k.0;
        last = k.1;
        ends = k.2;
        states = k.3;
        all_before = k.4;
        at_last = k.5;
      }

  some_state : (lines : List Line) (t : State) → states_of lines t ≡ [] → ⊥
  some_state [] t e = cc
  some_state (line ∷ lines) t e = cc

  -- the rest of a run, from what is known of the whole
  keeping_rest : (lines : List Line) (number : ℕ) (s t last : State) (before : List State)
      → run_from (number + 1) lines t ≡ Ended last → s ∷ states_of lines t ≡ before ++ last ∷ []
      → AllByRecursion P before → Q last → P s × EndsKeeping P Q (number + 1) lines t
  keeping_rest lines number s t last [] ends states p q =
      let none : states_of lines t ≡ [] = cc in absurd (some_state lines t none)
  keeping_rest lines number s t last (b ∷ before) ends states p q =
      let same : b ≡ s = cc in
      let rest : states_of lines t ≡ before ++ last ∷ [] = cc in (
        subst P same p.0,
        record { before = before; last = last; ends = ends; states = rest; all_before = p.1; at_last = q },
      )

  step_runs : (lines : List Line) (number : ℕ) (s last : State) (before : List State) (o : Option State)
      → ((t : State) → EndsKeeping P Q (number + 1) lines t → Runs P Q lines t)
      → option_map_or (λ t. run_from (number + 1) lines t) o (Stuck number s) ≡ Ended last
      → s ∷ option_map_or (λ t. states_of lines t) o [] ≡ before ++ last ∷ []
      → AllByRecursion P before → Q last → P s × MatchOption o ⊥ (λ t. Runs P Q lines t)
  step_runs lines number s last before None rest ends states p q = absurd (stuck_not_ended s last number ends)
  step_runs lines number s last before (Some t) rest ends states p q =
      let k = keeping_rest lines number s t last before ends states p q in (k.0, rest t k.1)

  line_runs : (lines : List Line) (number : ℕ) (s last : State) (before : List State) (o : Option State) (b : Bool)
      → ((t : State) → EndsKeeping P Q (number + 1) lines t → Runs P Q lines t)
      → (if b then Ended s else option_map_or (λ t. run_from (number + 1) lines t) o (Stuck number s)) ≡ Ended last
      → s ∷ (if b then [] else option_map_or (λ t. states_of lines t) o []) ≡ before ++ last ∷ []
      → AllByRecursion P before → Q last
      → MatchBool b (Q s) (P s × MatchOption o ⊥ (λ t. Runs P Q lines t))
  line_runs lines number s last before o true rest ends states p q = subst Q (sym (ended_state s last ends)) q
  line_runs lines number s last before o false rest ends states p q =
      step_runs lines number s last before o rest ends states p q

  -- and a run that ends so goes through
  pub keeping_runs : (lines : List Line) (number : ℕ) (s : State) → EndsKeeping P Q number lines s → Runs P Q lines s
  keeping_runs [] number s k = absurd (stuck_not_ended s k.last number k.ends)
  keeping_runs (line ∷ lines) number s k =
      line_runs lines number s k.last k.before (step_of line.instr s) (is_ret line.instr)
      (λ t. keeping_runs lines (number + 1) t) k.ends k.states k.all_before k.at_last
