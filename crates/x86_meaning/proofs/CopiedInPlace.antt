-- A copy of one word that writes before it reads, where output and input are one array.
use Rattle.std.proofs.Common.{◌≡◌, ℕ, ◌%◌, true, List, [], ◌∷◌, Some}
use Rattle.std.proofs.Common.{is_some, refl, sym, ap, ◌∙◌, arith}
use Rattle.std.proofs.lemmas.Bool.{false≢true}
use Rattle.std.specs.FinMap as map
use Rattle.word_program.specs.Program.{Source}
use Rattle.word_program.specs.Values.{is_output, is_input_array, is_scalar, input_word}
use Rattle.x86_instr.specs.declared.operand.Reg.{Reg}
use Rattle.x86_instr.specs.declared.operand.Reg.TheVariants.{Rax, Rsp, Rsi, Rdi}
use Rattle.x86_meaning.specs.declared.state.State.{State}
use Rattle.x86_meaning.specs.Machine.{Cells, IsWord, with_reg}
use Rattle.x86_meaning.specs.Start.{Array, param_reg}
use Rattle.x86_meaning.specs.StartLaws.{HasWord, is_array, MeetConvention, array_word}
use Rattle.x86_meaning.specs.Correct.{IsCorrect}
use Rattle.x86_meaning.specs.Refused.{copied_word, copy_after_write}
use Rattle.x86_meaning.proofs.CopiedWord.{by_param, other_words}
use Rattle.x86_meaning.proofs.Memory.{get_put_same}
use Rattle.x86_meaning.proofs.StartsFrom.{first, first_start, area_holds}
use Rattle.x86_meaning.proofs.Stepping.{past_load, past_store}

abbrev program : Source
program = copied_word true

abbrev inputs : List ℕ
inputs = 0 ∷ []

-- both arrays begin at 65,536
abbrev regs : Reg → ℕ
regs Rdi = 65536
regs Rsi = 65536
regs Rsp = 131064
regs r = 0

abbrev content : ℕ → ℕ
content address = 0

regs_small : (r : Reg) → IsWord (regs r)
regs_small Rdi = omega arith
regs_small Rsi = omega arith
regs_small Rsp = omega arith
regs_small r = omega arith

no_scalar : (C : ℕ → ℕ → Type 0) (param word : ℕ) → HasWord is_scalar program.params param word → C param word
no_scalar C param word has =
    by_param is_scalar C (λ is. absurd (false≢true is)) (λ is. absurd (false≢true is)) param word has

-- each array begins there
begins : (param word : ℕ) → HasWord is_array program.params param word → array_word regs param word ≡ 65536
begins param word has =
    by_param is_array (λ p w. array_word regs p w ≡ 65536) (λ is. refl) (λ is. refl) param word has

same_output : (p q i j : ℕ) → HasWord is_output program.params p i → HasWord is_output program.params q j → p ≡ q
same_output p q i j h k =
    by_param is_output (λ p _. p ≡ 0) (λ is. refl) (λ is. absurd (false≢true is)) p i h
    ∙ sym (by_param is_output (λ q _. q ≡ 0) (λ is. refl) (λ is. absurd (false≢true is)) q j k)

meets : MeetConvention program 0 inputs regs content
meets = record {
  registers = regs_small;
  contents = λ address. omega arith;
  inputs_within = (omega arith, omega arith, tt);
  aligned = λ param word has.
      by_param is_array (λ p _. regs (param_reg p) % 8 ≡ 0) (λ is. refl) (λ is. refl) param word has;
  ends = λ param word has. let e = begins param word has in omega (arith, e);
  frame_begins = omega arith;
  return_ends = omega arith;
  stack_aligned = refl;
  input_arrays = λ param word has.
      by_param is_input_array (λ p w. 0 ≡ input_word program.params inputs p w) (λ is. absurd (false≢true is))
      (λ is. refl)
      param word has;
  scalars = no_scalar (λ p _. regs (param_reg p) ≡ input_word program.params inputs p 0);
  off_stack = λ param word has on.
      let e = begins param word has in let from = on.0 in omega (arith, e, from);
  outputs_apart = λ p q i j other h k. absurd (other (same_output p q i j h k));
  inputs_apart = λ apart. absurd (false≢true (sym apart));
}

abbrev s : State
s = first program copy_after_write inputs regs content meets

-- the output's address is stored, and read again in place of the input
pub write_first_refused : IsCorrect program copy_after_write → ⊥
write_first_refused correct =
    let h = correct.runs inputs s (first_start program copy_after_write inputs regs content meets) in
    let there : map.get s.cells 65536 ≡ Some 0 =
    area_holds program copy_after_write inputs regs content meets (Array 0) 0 (omega arith) in
    let one : Cells = map.insert s.cells 65536 65536 in
    let written = past_store s _ 65536 65536 _ refl (ap is_some there) h.1 in
    let t = record s { cells = one } in
    let held : map.get one 65536 ≡ Some 65536 = get_put_same s.cells 65536 65536 in
    let loaded = past_load t _ 65536 65536 (λ word. with_reg Rax word t) _ refl held written.1 in
    let u = with_reg Rax 65536 t in
    let stored = past_store u _ 65536 65536 _ refl (ap is_some held) loaded.1 in
    let same : Some 65536 ≡ Some 0 = sym (get_put_same one 65536 65536) ∙ stored.outputs 0 0 (omega arith) in
    let equal = other_words 65536 0 same in omega (arith, equal)
