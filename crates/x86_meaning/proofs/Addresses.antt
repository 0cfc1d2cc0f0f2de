-- That a run keeps the addresses of the memory.
use Rattle.std.proofs.Common.{◌≡◌, ℕ, ◌+◌, Bool, true, false, List, [], ◌∷◌, Option, Some, None, is_some, option_map}
use Rattle.std.proofs.Common.{option_and_then, if◌then◌else◌, refl, sym, ◌∙◌, ap}
use Rattle.std.specs.Prelude.{IfSome}
use Rattle.std.specs.Bool.{MatchBool}
use Rattle.std.specs.Option.{option_map_or}
use Rattle.std.specs.FinMap as map
use Rattle.x86_instr.specs.declared.operand.Reg.{Reg}
use Rattle.x86_instr.specs.declared.instr.Bin.{Bin}
use Rattle.x86_instr.specs.declared.instr.Bin.TheVariants.{Add, Adc, Sub, Sbb, And, Or, Xor, Cmp}
use Rattle.x86_instr.specs.declared.instr.Un.{Un}
use Rattle.x86_instr.specs.declared.instr.Un.TheVariants.{Inc, Dec, Neg, Not}
use Rattle.x86_instr.specs.declared.instr.Instr.{Instr}
use Rattle.x86_instr.specs.declared.instr.Instr.TheVariants as instrs
use Rattle.x86_instr.specs.declared.line.Line.{Line}
use Rattle.x86_instr.specs.Listings.{is_ret}
use Rattle.x86_meaning.specs.declared.state.State.{State}
use Rattle.x86_meaning.specs.Machine.{step_of, bin_into, un_into, condition_holds, rm_word, src_word}
use Rattle.x86_meaning.specs.Runs.{Ended, Stuck, SameAddresses, run_from}
use Rattle.x86_meaning.specs.StepLaws.{last_state}
use Rattle.x86_meaning.proofs.Memory.{has_put}

-- the states of a step have cells at the same addresses
abbrev pub Steps : State → Option State → Type 0
Steps s o = IfSome o (λ t. SameAddresses s t)

-- the same cells have the same addresses
same_cells : (s t : State) → t.cells ≡ s.cells → SameAddresses s t
same_cells s t e address = ap (λ m. is_some (map.get m address)) e

-- a step that leaves the cells
mapped : {X : Type 0} (s : State) (o : Option X) (f : X → State) → ((x : X) → (f x).cells ≡ s.cells)
    → Steps s (option_map f o)
mapped s None f e = tt
mapped s (Some x) f e = same_cells s (f x) (e x)

-- a step that reads a word first
read_first : {X : Type 0} (s : State) (o : Option X) (f : X → Option State) → ((x : X) → Steps s (f x))
    → Steps s (option_and_then f o)
read_first s None f e = tt
read_first s (Some x) f e = e x

-- a store at an address of the memory, or at none
store_at : (s : State) (address word : ℕ) (b : Bool) → is_some (map.get s.cells address) ≡ b
    → Steps s (if b then Some (record s { cells = map.insert s.cells address word }) else None)
store_at s address word false e = tt
store_at s address word true e = λ other. has_put s.cells address word other e

bin_steps : (op : Bin) (dst : Reg) (s : State) (word : ℕ) → Steps s (bin_into op dst word s)
bin_steps Add dst s word = λ address. refl
bin_steps Adc dst s word = mapped s s.cf _ (λ carry. refl)
bin_steps Sub dst s word = λ address. refl
bin_steps Sbb dst s word = mapped s s.cf _ (λ borrow. refl)
bin_steps And dst s word = λ address. refl
bin_steps Or dst s word = λ address. refl
bin_steps Xor dst s word = λ address. refl
bin_steps Cmp dst s word = λ address. refl

un_steps : (op : Un) (dst : Reg) (d : ℕ) (s : State) → SameAddresses s (un_into op dst d s)
un_steps Inc dst d s = λ address. refl
un_steps Dec dst d s = λ address. refl
un_steps Neg dst d s = λ address. refl
un_steps Not dst d s = λ address. refl

-- each instruction
pub steps : (i : Instr) (s : State) → Steps s (step_of i s)
steps (instrs.Mov dst src) s = mapped s (rm_word s src) _ (λ word. refl)
steps (instrs.MovImm dst imm) s = λ address. refl
steps (instrs.Store mem src) s = store_at s _ _ _ refl
steps (instrs.Lea dst mem) s = λ address. refl
steps (instrs.Bin op dst src) s = read_first s (src_word s src) _ (bin_steps op dst s)
steps (instrs.Test a b) s = λ address. refl
steps (instrs.Un op dst) s = un_steps op dst _ s
steps (instrs.Adcx dst src) s = read_first s (rm_word s src) _ (λ word. mapped s s.cf _ (λ carry. refl))
steps (instrs.Adox dst src) s = read_first s (rm_word s src) _ (λ word. mapped s s.of _ (λ carry. refl))
steps (instrs.Mulx hi lo src) s = mapped s (rm_word s src) _ (λ word. refl)
steps (instrs.Mul src) s = mapped s (rm_word s src) _ (λ word. refl)
steps (instrs.Imul dst src) s = mapped s (rm_word s src) _ (λ word. refl)
steps (instrs.Shl dst by) s = λ address. refl
steps (instrs.Shr dst by) s = λ address. refl
steps (instrs.Shrd dst src by) s = λ address. refl
steps (instrs.Shlx dst src count) s = mapped s (rm_word s src) _ (λ word. refl)
steps (instrs.Shrx dst src count) s = mapped s (rm_word s src) _ (λ word. refl)
steps (instrs.Set cond dst) s = mapped s (condition_holds s cond) _ (λ b. refl)
steps (instrs.Movzx dst src) s = λ address. refl
steps (instrs.Cmov cond dst src) s = read_first s (rm_word s src) _
    (λ word. mapped s (condition_holds s cond) _ (λ b. refl))
steps instrs.Clc s = λ address. refl
steps instrs.Ret s = λ address. refl

-- a run that goes on behind a step
goes_on : (lines : List Line) (number : ℕ) (s : State) (o : Option State) → Steps s o
    → ((t : State) → SameAddresses t (last_state (run_from (number + 1) lines t)))
    → SameAddresses s (last_state (option_map_or (λ t. run_from (number + 1) lines t) o (Stuck number s)))
goes_on lines number s None k rest address = refl
goes_on lines number s (Some t) k rest address = rest t address ∙ k address

-- a run from a line
at_line : (line : Line) (lines : List Line) (number : ℕ) (s : State) (b : Bool)
    → ((t : State) → SameAddresses t (last_state (run_from (number + 1) lines t)))
    → SameAddresses s (last_state (if b then Ended s else
    option_map_or (λ t. run_from (number + 1) lines t) (step_of line.instr s) (Stuck number s)))
at_line line lines number s true rest address = refl
at_line line lines number s false rest address =
    goes_on lines number s (step_of line.instr s) (steps line.instr s) rest address

-- the last state of a run has cells at the same addresses as the first
run_addresses : (lines : List Line) (number : ℕ) (s : State) → SameAddresses s (last_state (run_from number lines s))
run_addresses [] number s address = refl
run_addresses (line ∷ lines) number s address =
    at_line line lines number s (is_ret line.instr) (run_addresses lines (number + 1)) address

-- a run that goes on as another one began, from a state between
pub from_between : (lines rest : List Line) (number : ℕ) (s t : State) → run_from number rest t ≡ run_from 1 lines s
    → SameAddresses s t
from_between lines rest number s t e address =
    sym (run_addresses rest number t address)
    ∙ (ap (λ o. is_some (map.get (last_state o).cells address)) e ∙ run_addresses lines 1 s address)

-- a stuck step leaves the state
pub stuck_state : (b : Bool) (P Q : Type 0) (s t : State) → b ≡ false → MatchBool b P (Q × (t ≡ s)) → t ≡ s
stuck_state true P Q s t h m = cc
stuck_state false P Q s t h m = m.1
