-- Listings that copy one word, or seem to: their runs from the stated start on the input 0.
use Rattle.std.proofs.Common.{◌≡◌, ◌≢◌, ℕ, zero, suc, ◌+◌, ◌-◌, ◌*◌, ◌%◌, ◌^◌, ◌<◌, ◌≤◌, false, true, List, [], ◌∷◌}
use Rattle.std.proofs.Common.{Option, Some, None, is_some, MatchOption, MatchBool, Bool, refl, sym, ap, ◌∙◌}
use Rattle.std.proofs.Common.{subst}
use Rattle.std.proofs.Common.{arith}
use Rattle.std.specs.List.{AllByRecursion}
use Rattle.std.specs.FinMap as map
use Rattle.std.proofs.lemmas.Bool.{false≢true}
use Rattle.word_program.specs.declared.parameter.Role.{Role}
use Rattle.word_program.specs.declared.parameter.Role.TheVariants.{Output, InputArray}
use Rattle.word_program.specs.Program.{Source}
use Rattle.word_program.specs.Values.{is_output}
use Rattle.x86_instr.specs.declared.operand.Reg.{Reg}
use Rattle.x86_instr.specs.declared.operand.Reg.TheVariants.{Rax, Rcx, Rbx, Rsp, Rbp, Rsi, Rdi, R12, R13, R14, R15}
use Rattle.x86_instr.specs.declared.line.Line.{Line}
use Rattle.x86_instr.specs.Listings.{is_ret}
use Rattle.x86_instr.specs.Frame.{frame_of}
use Rattle.x86_meaning.specs.declared.state.State.{State}
use Rattle.x86_meaning.specs.Machine.{step_of, reg, with_reg, difference_into}
use Rattle.x86_meaning.specs.Runs.{Runs}
use Rattle.x86_meaning.specs.Start.{param_reg, array_words, IsStart}
use Rattle.x86_meaning.specs.StartLaws.{HasWord}
use Rattle.x86_meaning.specs.Stated.{AreParams, IsStated, filling, stated_cell}
use Rattle.x86_meaning.specs.StatedCells.{stated_cells, stated_regs}
use Rattle.x86_meaning.specs.Correct.{IsCorrect, Keeps, Returns, preserved}
use Rattle.x86_meaning.specs.Refused.{IsToBeLeft, copied_word, copy_by, load, store, ret}
use Rattle.x86_meaning.specs.Refused.{copy_with_input_put_back, copy_with_stack_moved, copy_of_complement}
use Rattle.x86_meaning.proofs.Memory.{get_put_same}
use Rattle.x86_meaning.proofs.Refusing.{left_outside}
use Rattle.x86_meaning.proofs.StatedIsStart.{stated_is_start}
use Rattle.x86_meaning.proofs.StatedRows.{is_stated}
use Rattle.x86_meaning.proofs.Stepping.{past_load, no_load, past_store}

abbrev program : Source
program = copied_word false

abbrev inputs : List ℕ
inputs = 0 ∷ []

-- the one output word is the word 0 of the parameter 0, and the one input word that of the parameter 1
pub by_param : (has_role : Role → Bool) (C : ℕ → ℕ → Type 0) → (has_role Output ≡ true → C 0 0)
    → (has_role InputArray ≡ true → C 1 0) → (param word : ℕ) → HasWord has_role program.params param word
    → C param word
by_param has_role C output input zero word has =
    let below : word < 1 = has.1 in let e : 0 ≡ word = omega (arith, below) in subst (C 0) e (output has.0)
by_param has_role C output input (suc zero) word has =
    let below : word < 1 = has.1 in let e : 0 ≡ word = omega (arith, below) in subst (C 1) e (input has.0)
by_param has_role C output input (suc (suc param)) word has = absurd has

few_words : (param : ℕ) → array_words program.params param ≤ 32
few_words zero = omega arith
few_words (suc zero) = omega arith
few_words (suc (suc param)) = omega arith

limits : AreParams program.params
limits = record { six = omega arith; short = few_words }

-- the stated start
abbrev first : List Line → State
first lines = record {
  regs = stated_regs program.params inputs;
  cf = None;
  of = None;
  zf = None;
  cells = stated_cells program.params (frame_of lines) inputs;
}

stated : (lines : List Line) → IsStated program lines inputs (first lines)
stated lines = is_stated program lines inputs _ _ (frame_of lines) limits refl refl refl

start : (lines : List Line) → IsStart program lines inputs (first lines)
start lines =
    stated_is_start program lines inputs (first lines) limits (omega arith, tt) (stated lines)
    (omega arith, omega arith, tt)

cell : (lines : List Line) (address : ℕ)
    → map.get (first lines).cells address ≡ stated_cell program.params (frame_of lines) inputs address
cell lines address = (stated lines).cells address

module _ (lines : List Line) where
  abbrev Kept : State → Type 0
  Kept t = Keeps program.params (frame_of lines) (first lines) t.cells

  abbrev Returned : State → Type 0
  Returned t = Returns program (frame_of lines) inputs (first lines) t

  run : IsCorrect program lines → Runs Kept Returned lines (first lines)
  run correct = correct.runs inputs (first lines) (start lines)

  -- the first state of a run keeps the memory
  line_kept : (line : Line) (t : State) (o : Option State) (b : Bool) (G : State → Type 0)
      → MatchBool b (Returned t) (Kept t × MatchOption o ⊥ G) → Kept t
  line_kept line t o true G h = h.keeps
  line_kept line t o false G h = h.0

  first_kept : (rest : List Line) (t : State) → Runs Kept Returned rest t → Kept t
  first_kept [] t h = absurd h
  first_kept (line ∷ rest) t h =
      line_kept line t (step_of line.instr t) (is_ret line.instr) (λ u. Runs Kept Returned rest u) h

-- ---- registers

-- a register that is to be given back does not keep what it held
module _ (r : Reg) (to_output : reg (with_reg r 0 (first (copy_by r))) Rdi ≡ 65536)
    (lost : AllByRecursion (λ q. reg (with_reg r 0 (first (copy_by r))) q ≡ reg (first (copy_by r)) q) preserved → ⊥)
  where
    copy_loses : IsCorrect program (copy_by r) → ⊥
    copy_loses correct =
        let h = run (copy_by r) correct in
        let loaded = past_load (first (copy_by r)) _ 131072 0 (λ word. with_reg r word (first (copy_by r))) _ refl
        (cell (copy_by r) 131072) h.1 in
        let address = ap (λ n. (n + 0 + 0) % 2 ^ 64) to_output in
        let stored = past_store (with_reg r 0 (first (copy_by r))) _ 65536 _ _ address
        (ap is_some (cell (copy_by r) 65536)) loaded.1 in
        lost stored.registers

pub registers_lost : AllByRecursion (λ r. IsCorrect program (copy_by r) → ⊥)
    (Rbx ∷ Rbp ∷ R12 ∷ R13 ∷ R14 ∷ R15 ∷ Rsp ∷ [])
registers_lost = (
  copy_loses Rbx refl (λ back. let e = back.0 in omega (arith, e)),
  (
    copy_loses Rbp refl (λ back. let e = back.1.0 in omega (arith, e)),
    (
      copy_loses R12 refl (λ back. let e = back.1.1.0 in omega (arith, e)),
      (
        copy_loses R13 refl (λ back. let e = back.1.1.1.0 in omega (arith, e)),
        (
          copy_loses R14 refl (λ back. let e = back.1.1.1.1.0 in omega (arith, e)),
          (
            copy_loses R15 refl (λ back. let e = back.1.1.1.1.1.0 in omega (arith, e)),
            (copy_loses Rsp refl (λ back. let e = back.1.1.1.1.1.1.0 in omega (arith, e)), tt),
          ),
        ),
      ),
    ),
  ),
)

-- sub rsp, 8: the state behind it
abbrev moved : State
moved =
    let s = first copy_with_stack_moved in difference_into Rsp (reg s Rsp) 8 0 s

pub stack_lost : IsCorrect program copy_with_stack_moved → ⊥
stack_lost correct =
    let h = run copy_with_stack_moved correct in
    let loaded = past_load moved _ 131072 0 (λ word. with_reg Rax word moved) _ refl (cell copy_with_stack_moved 131072)
    h.1.1 in
    let stored = past_store (with_reg Rax 0 moved) _ 65536 _ _ refl (ap is_some (cell copy_with_stack_moved 65536))
    loaded.1 in
    let back = stored.registers.1.1.1.1.1.1.0 in omega (arith, back)

-- ---- words of the memory

pub other_words : (m n : ℕ) → Some m ≡ Some n → m ≡ n
other_words m n e = cc

pub reads_behind : (rest : List Line) → IsCorrect program (load Rax Rsi 1 ∷ rest) → ⊥
reads_behind rest correct =
    let lines = load Rax Rsi 1 ∷ rest in
    let h = run lines correct in no_load (first lines) _ 131080 _ _ refl (cell lines 131080) h.1

-- the input's cell is to be left
input_left : (lines : List Line) → frame_of lines ≡ 0 → IsToBeLeft program lines (first lines) 131072
input_left lines none = record {
  no_output = by_param is_output (λ param word. 131072 ≢ reg (first lines) (param_reg param) + 8 * word)
      (λ is e. omega (arith, e)) (λ is. absurd (false≢true is));
  not_in_frame = λ from to. omega (arith, from, none);
}

-- a run that goes on behind a store of another word to the input's cell does not keep
input_stored : (lines : List Line) → frame_of lines ≡ 0
    → stated_cell program.params (frame_of lines) inputs 131072 ≡ Some 0
    → (word : ℕ) → 0 < word → (s : State) → s.cells ≡ (first lines).cells → (rest : List Line)
    → Runs (Kept lines) (Returned lines) rest (record s { cells = map.insert s.cells 131072 word }) → ⊥
input_stored lines none stands word other s cells rest h =
    let t = record s { cells = map.insert s.cells 131072 word } in
    let same : Some word ≡ Some 0 = sym (get_put_same s.cells 131072 word)
    ∙ ((first_kept lines rest t h).others 131072
    (left_outside program lines inputs (first lines) (start lines) 131072 (input_left lines none))
    ∙ (cell lines 131072 ∙ stands)) in
    let equal = other_words word 0 same in omega (arith, equal, other)

pub stores_to_input : (rest : List Line) → IsCorrect program (store Rsi 0 Rax ∷ rest) → ⊥
stores_to_input rest correct =
    let lines = store Rsi 0 Rax ∷ rest in
    let word = reg (first lines) Rax in
    let h = run lines correct in
    input_stored lines refl refl word (omega arith) (first lines) refl rest
    (past_store (first lines) _ 131072 word _ refl (ap is_some (cell lines 131072)) h.1)

pub puts_input_back : IsCorrect program copy_with_input_put_back → ⊥
puts_input_back correct =
    let lines = copy_with_input_put_back in
    let word = reg (first lines) Rax in
    let h = run lines correct in
    let s = with_reg Rcx 0 (first lines) in
    let loaded = past_load (first lines) _ 131072 0 (λ w. with_reg Rcx w (first lines)) _ refl
    (cell lines 131072) h.1 in
    input_stored lines refl refl word (omega arith) s refl (store Rsi 0 Rcx ∷ copy_by Rax)
    (past_store s _ 131072 word _ refl (ap is_some (cell lines 131072)) loaded.1)

-- ---- the output

pub complement_refused : IsCorrect program copy_of_complement → ⊥
complement_refused correct =
    let lines = copy_of_complement in
    let h = run lines correct in
    let word = 2 ^ 64 - 1 in
    let s = with_reg Rax word (with_reg Rax 0 (first lines)) in
    let loaded = past_load (first lines) _ 131072 0 (λ w. with_reg Rax w (first lines)) _ refl
    (cell lines 131072) h.1 in
    let stored = past_store s _ 65536 word _ refl (ap is_some (cell lines 65536)) loaded.1.1 in
    let same : Some word ≡ Some 0 =
    sym (get_put_same (first lines).cells 65536 word) ∙ stored.outputs 0 0 (omega arith) in
    let equal = other_words word 0 same in omega (arith, equal)

pub nothing_refused : IsCorrect program (ret ∷ []) → ⊥
nothing_refused correct =
    let same : Some filling ≡ Some 0 = sym (cell (ret ∷ []) 65536)
    ∙ (run (ret ∷ []) correct).outputs 0 0 (omega arith) in
    let equal = other_words filling 0 same in omega (arith, equal)
