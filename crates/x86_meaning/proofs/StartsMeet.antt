-- That every start meets the calling convention.
use Rattle.std.proofs.Common.{◌≡◌, ◌≢◌, ℕ, ◌+◌, ◌-◌, ◌/◌, ◌%◌, ◌<◌, ◌≤◌, Bool, true, false, List, Option}
use Rattle.std.proofs.Common.{Some}
use Rattle.std.proofs.Common.{None, IsSome, IfSome, IsTrue, slice_get, refl, sym, ap, subst, arith, ◌⊎◌, inl, inr}
use Rattle.std.specs.Option.{option_map_or}
use Rattle.std.specs.FinMap as map
use Rattle.std.proofs.lemmas.Bool.{cases_eq, false≢true}
use Rattle.std.proofs.Math.Numerals.{lt_of_le_of_ne}
use Rattle.word_program.specs.Program.{Source}
use Rattle.word_program.specs.Values.{is_output, is_input_array, is_scalar}
use Rattle.x86_instr.specs.declared.operand.Reg.TheVariants.{Rsp}
use Rattle.x86_instr.specs.declared.line.Line.{Line}
use Rattle.x86_instr.specs.Frame.{frame_of}
use Rattle.x86_meaning.specs.declared.state.State.{State}
use Rattle.x86_meaning.specs.Machine.{IsWord, reg}
use Rattle.x86_meaning.specs.Start.{Array, Frame, Return, param_reg, array_words, address_of}
use Rattle.x86_meaning.specs.Start.{is_output_array, are_arrays_apart, IsStart}
use Rattle.x86_meaning.specs.StartLaws.{HasWord, is_array, IsOnStack, IsNeeded, MeetConvention, array_word, word_at}
use Rattle.x86_meaning.proofs.FrameLimits.{frame_is}
use Rattle.x86_meaning.proofs.FreeStates.{word_below}
use Rattle.x86_meaning.proofs.Keeping.{addresses_apart, array_number, frame-ne-array, output_is_at, output-ne-input}
use Rattle.x86_meaning.proofs.Keeping.{output-le-array, input-le-array}

-- the return cell is no array
return-ne-array : {p : ℕ} → Array p ≢ Return
return-ne-array {p} e = cc

word_or_zero : (o : Option ℕ) → IfSome o IsWord → IsWord (option_map_or (λ word. word) o 0)
word_or_zero None h = omega arith
word_or_zero (Some word) h = h

-- two outputs are apart
outputs_apart : (overlap a b : Bool) → a ≡ true → b ≡ true → IsTrue (are_arrays_apart overlap a b)
outputs_apart overlap true true e f = refl
outputs_apart overlap true false e f = absurd (false≢true f)
outputs_apart overlap false b e f = absurd (false≢true e)

module _ (program : Source) (lines : List Line) (inputs : List ℕ) (s : State)
    (start : IsStart program lines inputs s) where
  abbrev frame : ℕ
  frame = frame_of lines

  -- an address on the stack, at a multiple of 8, is that of the return cell or of a word of the frame
  on_stack : (C : ℕ → Type 0) → C (address_of s frame Return 0)
      → ((word : ℕ) → word < frame / 8 → C (address_of s frame Frame word)) → (address : ℕ)
      → IsOnStack frame (reg s) address → address % 8 ≡ 0 → (address ≡ reg s Rsp) ⊎ (address ≡ reg s Rsp → ⊥)
      → C address
  on_stack C return frame_word address on eight (inl is) =
      let e : address_of s frame Return 0 ≡ address = omega (arith, is) in subst C e return
  on_stack C return frame_word address on eight (inr other) =
      let from : reg s Rsp - frame ≤ address = on.0 in
      let to : address ≤ reg s Rsp = on.1 in
      let under : address < reg s Rsp = lt_of_le_of_ne to other in
      let begins : frame ≤ reg s Rsp = start.frame_begins in
      let eights : frame % 8 ≡ 0 = (frame_is lines).eights in
      let aligned : (reg s Rsp + 8) % 16 ≡ 0 = start.stack_aligned in
      let word = (address - (reg s Rsp - frame)) / 8 in
      let e : address_of s frame Frame word ≡ address = omega (arith, from, under, begins, eights, aligned, eight) in
      subst C e (frame_word word (omega (arith, from, under, begins, eights, aligned, eight)))

  array_aligned : (param word : ℕ) → HasWord is_array program.params param word → reg s (param_reg param) % 8 ≡ 0
  array_aligned param word has =
      let h : word < array_words program.params param = word_below is_array program.params param word has in
      start.aligned param (omega (arith, h))

  off_stack : (param word : ℕ) → HasWord is_array program.params param word
      → IsOnStack frame (reg s) (array_word (reg s) param word) → ⊥
  off_stack param word has on =
      let h : word < array_words program.params param = word_below is_array program.params param word has in
      let eight : reg s (param_reg param) % 8 ≡ 0 = array_aligned param word has in
      on_stack (λ address. array_word (reg s) param word ≡ address → ⊥)
      (start.apart (Array param) Return return-ne-array refl word 0 h (omega arith))
      (λ i k. start.apart (Array param) Frame (λ e. frame-ne-array (sym e)) refl word i h k)
      (array_word (reg s) param word) on (omega (arith, eight))
      (cases_eq (array_word (reg s) param word) (reg s Rsp)) refl

  output_is : (param word : ℕ) → HasWord is_output program.params param word
      → is_output_array program.params param ≡ true
  output_is param word has =
      output_is_at (slice_get program.params param) word (word_below is_output program.params param word has)

  -- a word of an output is one of an array
  output_word_below : (param word : ℕ) → HasWord is_output program.params param word
      → word < array_words program.params param
  output_word_below param word has =
      let h = word_below is_output program.params param word has in
      let le = output-le-array program.params param in omega (arith, h, le)

  input_word_below : (param word : ℕ) → HasWord is_input_array program.params param word
      → word < array_words program.params param
  input_word_below param word has =
      let h = word_below is_input_array program.params param word has in
      let le = input-le-array program.params param in omega (arith, h, le)

  pub meets_convention : MeetConvention program frame inputs (reg s) (word_at s)
  meets_convention = record {
    registers = start.state.registers;
    contents = λ address. word_or_zero (map.get s.cells address) (start.state.words address);
    inputs_within = start.inputs_within;
    aligned = array_aligned;
    ends = λ param word has.
        let h : word < array_words program.params param = word_below is_array program.params param word has in
        let ends = start.ends param (omega (arith, h)) in omega (arith, h, ends);
    frame_begins = start.frame_begins;
    return_ends = start.stack_ends;
    stack_aligned = start.stack_aligned;
    input_arrays = λ param word has. ap (λ o. option_map_or (λ w. w) o 0)
        (start.arrays param word (word_below is_input_array program.params param word has));
    scalars = λ param word has.
        let h = word_below is_scalar program.params param word has in start.scalars param (omega (arith, h));
    off_stack = off_stack;
    outputs_apart = λ p q i j other h k.
        start.apart (Array p) (Array q) (λ e. other (array_number e))
        (outputs_apart program.overlap _ _ (output_is p i h) (output_is q j k)) i j (output_word_below p i h)
        (output_word_below q j k);
    inputs_apart = λ none p q i j h k.
        addresses_apart program lines inputs s start none (Array p) (Array q) i j
        (output-ne-input program.params p q i j (word_below is_output program.params p i h)
        (word_below is_input_array program.params q j k))
        (word_below is_output program.params p i h) (input_word_below q j k);
  }

  -- the memory has what is needed
  pub needed_there : (address : ℕ) → IsNeeded program.params frame (reg s) address → IsSome (map.get s.cells address)
  needed_there address (inl h) =
      subst (λ a. IsSome (map.get s.cells a)) (sym h.3)
      (start.there (Array h.0) h.1 (word_below is_array program.params h.0 h.1 h.2))
  needed_there address (inr h) =
      on_stack (λ a. IsSome (map.get s.cells a)) (start.there Return 0 (omega arith))
      (start.there Frame) address h.0 h.1
      (cases_eq address (reg s Rsp))
