-- What a step leaves, and that steps and runs lead from states to states.
use Rattle.std.proofs.Common.{◌≡◌, ◌≢◌, ℕ, zero, suc, ◌+◌, Bool, true, false, List, [], ◌∷◌, length, Option}
use Rattle.std.proofs.Common.{Some, None, refl, sym, ap, ◌∙◌, subst, length-set, get_or-set_other}
use Rattle.std.specs.Prelude.{IfSome, if◌then◌else◌, slice_index, slice_set}
use Rattle.std.specs.List.{AllByRecursion}
use Rattle.std.specs.Option.{option_map_or}
use Rattle.x86_instr.specs.declared.operand.Reg.{Reg}
use Rattle.x86_instr.specs.declared.instr.Instr.{Instr}
use Rattle.x86_instr.specs.declared.line.Line.{Line}
use Rattle.x86_instr.specs.Fits.{FitsInstr, FitsLines}
use Rattle.x86_instr.specs.Flags.{flags_written}
use Rattle.x86_instr.specs.Listings.{is_ret}
use Rattle.x86_instr.specs.Registers.{number_of}
use Rattle.x86_meaning.specs.declared.state.State.{State}
use Rattle.x86_meaning.specs.Machine.{IsWord, IsState, step_of}
use Rattle.x86_meaning.specs.Runs.{SameAddresses, Ended, Stuck, run_from}
use Rattle.x86_meaning.specs.Touches.{touched, written_address, registers_written}
use Rattle.x86_meaning.specs.StepLaws.{Leaves, last_state}
use Rattle.x86_meaning.proofs.Addresses.{steps}
use Rattle.x86_meaning.proofs.StepReads.{written_alone, other_flags, other_cells}
use Rattle.x86_meaning.proofs.RegisterLemmas.{number_of-injective}
use Rattle.x86_meaning.proofs.StepWrites.{Writes, Wrote, Given, wrote}

-- a step that is not stuck wrote what the table says
wrote_to : (i : Instr) (s t : State) → step_of i s ≡ Some t → Wrote (Given i s) (registers_written i) s t
wrote_to i s t e = subst (λ o. IfSome o (λ u. Wrote (Given i s) (registers_written i) s u)) e (wrote i s)

-- ---- what it leaves

other_registers : (G : Type 0) (rs : List Reg) (old new : List ℕ) (r : Reg) → Writes G rs old new
    → AllByRecursion (λ q. r ≢ q) rs → slice_index new (number_of r) ≡ slice_index old (number_of r)
other_registers G [] old new r w apart = ap (λ xs. slice_index xs (number_of r)) w
other_registers G (q ∷ qs) old new r w apart =
    ap (λ xs. slice_index xs (number_of r)) w.3
    ∙ (get_or-set_other w.0 (number_of q) (number_of r) w.1 0 (λ e. apart.0 (number_of-injective r q e))
    ∙ other_registers G qs old w.0 r w.4 apart.1)

pub leaves : (i : Instr) (s t : State) → step_of i s ≡ Some t → Leaves i s t
leaves i s t e =
    let is : t ≡ _ = written_alone i s t e in record {
      cells = λ q h. other_cells (flags_written i) (written_address (touched i s)) s t is q h;
      flags = other_flags (flags_written i) (written_address (touched i s)) s t is;
      registers = λ r apart. other_registers _ (registers_written i) s.regs t.regs r (wrote_to i s t e).regs apart;
    }

-- ---- states

as_many : (G : Type 0) (rs : List Reg) (old new : List ℕ) → Writes G rs old new → length new ≡ length old
as_many G [] old new w = ap length w
as_many G (q ∷ qs) old new w = ap length w.3 ∙ (length-set w.0 (number_of q) w.1 ∙ as_many G qs old w.0 w.4)

word_in : (xs : List ℕ) (i n word : ℕ) → IsWord word → IsWord (slice_index xs n)
    → IsWord (slice_index (slice_set xs i word) n)
word_in [] i n word h k = k
word_in (x ∷ xs) zero zero word h k = h
word_in (x ∷ xs) zero (suc n) word h k = k
word_in (x ∷ xs) (suc i) zero word h k = k
word_in (x ∷ xs) (suc i) (suc n) word h k = word_in xs i n word h k

words_in : {G : Type 0} (rs : List Reg) (old new : List ℕ) (n : ℕ) → G → Writes G rs old new
    → IsWord (slice_index old n) → IsWord (slice_index new n)
words_in [] old new n g w h = subst (λ xs. IsWord (slice_index xs n)) (sym w) h
words_in (q ∷ qs) old new n g w h = subst (λ xs. IsWord (slice_index xs n)) (sym w.3)
    (word_in w.0 (number_of q) n w.1 (w.2 g) (words_in qs old w.0 n g w.4 h))

pub step_keeps : (i : Instr) (s t : State) → FitsInstr i → IsState s → step_of i s ≡ Some t → IsState t
step_keeps i s t fits state e =
    let w : Wrote (Given i s) (registers_written i) s t = wrote_to i s t e in
    let g : Given i s = (state, fits) in
    let same : SameAddresses s t = subst (λ o. IfSome o (λ u. SameAddresses s u)) e (steps i s) in record {
      sixteen = as_many _ (registers_written i) s.regs t.regs w.regs ∙ state.sixteen;
      registers = λ r. words_in (registers_written i) s.regs t.regs (number_of r) g w.regs (state.registers r);
      addresses = λ address there. state.addresses address (sym (same address) ∙ there);
      words = λ address. w.cells address g (state.words address);
    }

-- a run that goes on behind a step
behind_step : (i : Instr) (lines : List Line) (number : ℕ) (s : State) (o : Option State) → step_of i s ≡ o
    → FitsInstr i → IsState s
    → ((t : State) → IsState t → IsState (last_state (run_from (number + 1) lines t)))
    → IsState (last_state (option_map_or (λ t. run_from (number + 1) lines t) o (Stuck number s)))
behind_step i lines number s None e fits state rest = state
behind_step i lines number s (Some t) e fits state rest = rest t (step_keeps i s t fits state e)

from_line : (line : Line) (lines : List Line) (number : ℕ) (s : State) (b : Bool) → FitsInstr line.instr → IsState s
    → ((t : State) → IsState t → IsState (last_state (run_from (number + 1) lines t)))
    → IsState (last_state (if b then Ended s else
    option_map_or (λ t. run_from (number + 1) lines t) (step_of line.instr s) (Stuck number s)))
from_line line lines number s true fits state rest = state
from_line line lines number s false fits state rest =
    behind_step line.instr lines number s (step_of line.instr s) refl fits state rest

pub run_keeps : (lines : List Line) (number : ℕ) (s : State) → FitsLines lines → IsState s
    → IsState (last_state (run_from number lines s))
run_keeps [] number s fits state = state
run_keeps (line ∷ lines) number s fits state =
    from_line line lines number s (is_ret line.instr) fits.0 state
    (λ t next. run_keeps lines (number + 1) t fits.2 next)
