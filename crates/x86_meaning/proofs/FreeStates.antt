-- That start states are free: from one start others follow, by other words in what the calling convention leaves free.
use Rattle.std.proofs.Common.{◌≡◌, ◌≢◌, ℕ, zero, suc, ◌+◌, ◌*◌, ◌%◌, ◌^◌, ◌<◌, ◌≤◌, ◌==◌, Bool, true, false, cond}
use Rattle.std.proofs.Common.{List, length, Option, Some, None, IsSome, IfSome, is_some, slice_get}
use Rattle.std.proofs.Common.{if◌then◌else◌, IsTrue, refl, sym, ap, ◌∙◌, subst, arith}
use Rattle.std.specs.Option.{option_map_or, IsSomeAnd}
use Rattle.std.specs.FinMap as map
use Rattle.std.proofs.lemmas.Bool.Decides.{nat_tests}
use Rattle.word_program.specs.declared.parameter.Param.{Param}
use Rattle.word_program.specs.declared.parameter.Role.{Role}
use Rattle.word_program.specs.Program.{Source}
use Rattle.word_program.specs.Values.{is_input_array}
use Rattle.x86_instr.specs.declared.operand.Reg.{Reg}
use Rattle.x86_instr.specs.declared.operand.Reg.TheVariants.{Rsp}
use Rattle.x86_instr.specs.declared.line.Line.{Line}
use Rattle.x86_instr.specs.Frame.{frame_of}
use Rattle.x86_instr.specs.Registers.{number_of}
use Rattle.x86_meaning.specs.declared.state.State.{State}
use Rattle.x86_meaning.specs.Machine.{IsState, IsWord, reg, with_reg}
use Rattle.x86_meaning.specs.Start.{Area, Array, Frame, Return, param_reg, words_if, array_words, area_words}
use Rattle.x86_meaning.specs.Start.{input_array_words, address_of, IsStart}
use Rattle.x86_meaning.specs.StartLaws.{HasWord, IsFreeRegister, IsNoInput}
use Rattle.x86_meaning.proofs.Keeping.{input-le-array}
use Rattle.x86_meaning.proofs.Memory.{get_put, get_put_other}
use Rattle.x86_meaning.proofs.RegisterLemmas.{number_of-injective, reg_written, reg_other, length-with_reg}
use Rattle.x86_meaning.proofs.StatedIsStart.{array_below, scalar_below}

-- ---- words of parameters

role_has : (b : Bool) (n word : ℕ) → word < (if b then n else 0) → IsTrue b × (word < n)
role_has true n word h = (refl, h)
role_has false n word h = absurd (omega (arith, h))

has_role : (b : Bool) (n word : ℕ) → IsTrue b → word < n → word < (if b then n else 0)
has_role true n word t h = h
has_role false n word t h = cc

param_has : (has_role : Role → Bool) (o : Option Param) (word : ℕ)
    → word < option_map_or (λ p. if has_role p.role then length p.bounds else 0) o 0
    → IsSomeAnd o (λ p. IsTrue (has_role p.role) × (word < length p.bounds))
param_has has_role None word h = absurd (omega (arith, h))
param_has has_role (Some p) word h = role_has (has_role p.role) (length p.bounds) word h

param_words : (test : Role → Bool) (o : Option Param) (word : ℕ)
    → IsSomeAnd o (λ p. IsTrue (test p.role) × (word < length p.bounds))
    → word < option_map_or (λ p. if test p.role then length p.bounds else 0) o 0
param_words test None word h = absurd h
param_words test (Some p) word h = has_role (test p.role) (length p.bounds) word h.0 h.1

-- a number of words is above those that a parameter has
pub has_word : (test : Role → Bool) (params : List Param) (param word : ℕ) → word < words_if test params param
    → HasWord test params param word
has_word test params param word h = param_has test (slice_get params param) word h

pub word_below : (test : Role → Bool) (params : List Param) (param word : ℕ) → HasWord test params param word
    → word < words_if test params param
word_below test params param word h = param_words test (slice_get params param) word h

-- ---- another state

-- A state with the stack pointer, the parameters' registers and the input arrays of a start, and with its cells and
-- perhaps more, is a start.
module _ (program : Source) (lines : List Line) (inputs : List ℕ) (s t : State) (start : IsStart program lines inputs s)
    (state : IsState t) (stack : reg t Rsp ≡ reg s Rsp)
    (passed : (param : ℕ) → param < length program.params → reg t (param_reg param) ≡ reg s (param_reg param))
    (more : (address : ℕ) → IsSome (map.get s.cells address) → IsSome (map.get t.cells address))
    (kept : (param word : ℕ) → word < input_array_words program.params param
    → map.get t.cells (reg s (param_reg param) + 8 * word) ≡ map.get s.cells (reg s (param_reg param) + 8 * word)) where
  same_address : (area : Area) (word : ℕ) → word < area_words program.params (frame_of lines) area
      → address_of t (frame_of lines) area word ≡ address_of s (frame_of lines) area word
  same_address (Array param) word h =
      ap (λ r. r + 8 * word) (passed param (array_below program.params param word h))
  same_address Frame word h = let e : reg t Rsp ≡ reg s Rsp = stack in omega (arith, e)
  same_address Return word h = let e : reg t Rsp ≡ reg s Rsp = stack in omega (arith, e)

  pub starts_too : IsStart program lines inputs t
  starts_too = record {
    state = state;
    inputs_within = start.inputs_within;
    there = λ area word h.
        subst (λ a. IsSome (map.get t.cells a)) (sym (same_address area word h)) (more _ (start.there area word h));
    aligned = λ param h.
        subst (λ r. r % 8 ≡ 0) (sym (passed param (array_below program.params param 0 h))) (start.aligned param h);
    ends = λ param h.
        subst (λ r. r + 8 * array_words program.params param ≤ 2 ^ 64)
        (sym (passed param (array_below program.params param 0 h))) (start.ends param h);
    frame_begins = subst (λ r. frame_of lines ≤ r) (sym stack) start.frame_begins;
    stack_ends = subst (λ r. r + 8 ≤ 2 ^ 64) (sym stack) start.stack_ends;
    stack_aligned = subst (λ r. (r + 8) % 16 ≡ 0) (sym stack) start.stack_aligned;
    arrays = λ param word h.
        let below : word < area_words program.params (frame_of lines) (Array param) =
        let le = input-le-array program.params param in omega (arith, h, le) in
        ap (λ a. map.get t.cells a) (same_address (Array param) word below)
        ∙ (kept param word h ∙ start.arrays param word h);
    scalars = λ param h. passed param (scalar_below program.params param h) ∙ start.scalars param h;
    apart = λ a b other is i j h k e.
        start.apart a b other is i j h k (sym (same_address a i h) ∙ (e ∙ same_address b j k));
  }

-- ---- registers

-- a register that is no parameter's
free_passed : (params : List Param) (r : Reg) → IsFreeRegister params r → (param : ℕ) → param < length params
    → param_reg param ≢ r
free_passed params r free zero h e = free.no_parameter 0 h (ap Some e)
free_passed params r free (suc zero) h e = free.no_parameter 1 h (ap Some e)
free_passed params r free (suc (suc zero)) h e = free.no_parameter 2 h (ap Some e)
free_passed params r free (suc (suc (suc zero))) h e = free.no_parameter 3 h (ap Some e)
free_passed params r free (suc (suc (suc (suc zero)))) h e = free.no_parameter 4 h (ap Some e)
free_passed params r free (suc (suc (suc (suc (suc zero))))) h e = free.no_parameter 5 h (ap Some e)
free_passed params r free (suc (suc (suc (suc (suc (suc param)))))) h e =
    free.no_parameter 0 (omega (arith, h)) (ap Some e)

-- each register holds a word after a write
written_words_small : (q r : Reg) (word : ℕ) (s : State) → IsState s → IsWord word → (b : Bool)
    → (number_of q == number_of r) ≡ b → IsWord (reg (with_reg r word s) q)
written_words_small q r word s state small true is =
    let same : q ≡ r = number_of-injective q r (grind (arith, nat_tests, is)) in
    subst (λ p. IsWord (reg (with_reg r word s) p)) (sym same)
    (subst IsWord (sym (reg_written r word s state.sixteen)) small)
written_words_small q r word s state small false is =
    let other : q ≢ r = λ e. let n : number_of q ≡ number_of r = ap number_of e in
    absurd (grind (arith, nat_tests, is, n)) in
    subst IsWord (sym (reg_other q r word s other)) (state.registers q)

pub with_reg_state : (r : Reg) (word : ℕ) (s : State) → IsState s → IsWord word → IsState (with_reg r word s)
with_reg_state r word s state small = record {
  sixteen = length-with_reg r word s ∙ state.sixteen;
  registers = λ q. written_words_small q r word s state small (number_of q == number_of r) refl;
  addresses = state.addresses;
  words = state.words;
}

pub register_is_free : (program : Source) (lines : List Line) (inputs : List ℕ) (s : State)
    → IsStart program lines inputs s → (r : Reg) (word : ℕ) → IsFreeRegister program.params r → IsWord word
    → IsStart program lines inputs (with_reg r word s)
register_is_free program lines inputs s start r word free small =
    starts_too program lines inputs s (with_reg r word s) start (with_reg_state r word s start.state small)
    (reg_other Rsp r word s (λ e. free.no_stack_pointer (sym e)))
    (λ param h. reg_other (param_reg param) r word s (free_passed program.params r free param h))
    (λ address there. there) (λ param w h. refl)

-- ---- flags

pub free_flags : (program : Source) (lines : List Line) (inputs : List ℕ) (s : State)
    → IsStart program lines inputs s → (cf of zf : Option Bool)
    → IsStart program lines inputs (record { regs = s.regs; cf = cf; of = of; zf = zf; cells = s.cells })
free_flags program lines inputs s start cf of zf =
    starts_too program lines inputs s (record { regs = s.regs; cf = cf; of = of; zf = zf; cells = s.cells }) start
    (record {
      sixteen = start.state.sixteen;
      registers = start.state.registers;
      addresses = start.state.addresses;
      words = start.state.words;
    })
    refl (λ param h. refl) (λ address there. there) (λ param w h. refl)

-- ---- cells

some_after : (b : Bool) (word : ℕ) (o : Option ℕ) → IsSome o → IsSome (cond b (Some word) o)
some_after true word o h = refl
some_after false word o h = h

-- what an address has after a store, from what it has where it is the one of the store and where it is another
after_put : (C : Option ℕ → Type 0) (b : Bool) (word : ℕ) (o : Option ℕ) → (b ≡ true → C (Some word))
    → (b ≡ false → C o) → C (cond b (Some word) o)
after_put C true word o f g = f refl
after_put C false word o f g = g refl

pub put_state : (s : State) (address word : ℕ) → IsState s → IsWord address → address % 8 ≡ 0 → IsWord word
    → IsState (record s { cells = map.insert s.cells address word })
put_state s address word state small eight held = record {
  sixteen = state.sixteen;
  registers = state.registers;
  addresses = λ q there.
      after_put (λ o. IsSome o → IsWord q × (q % 8 ≡ 0)) (q == address) word (map.get s.cells q)
      (λ is _. let e : q ≡ address = grind (arith, nat_tests, is) in (omega (arith, e, small), omega (arith, e, eight)))
      (λ _. state.addresses q) (subst IsSome (get_put s.cells address word q) there);
  words = λ q. subst (λ o. IfSome o IsWord) (sym (get_put s.cells address word q))
      (after_put (λ o. IfSome o IsWord) (q == address) word (map.get s.cells q) (λ _. held) (λ _. state.words q));
}

-- another word, or a further cell, at an address of no input array
pub cell_is_free : (program : Source) (lines : List Line) (inputs : List ℕ) (s : State)
    → IsStart program lines inputs s → (address word : ℕ) → IsWord address → address % 8 ≡ 0 → IsWord word
    → IsNoInput program.params s address
    → IsStart program lines inputs (record s { cells = map.insert s.cells address word })
cell_is_free program lines inputs s start address word small eight held outside =
    starts_too program lines inputs s (record s { cells = map.insert s.cells address word }) start
    (put_state s address word start.state small eight held) refl (λ param h. refl)
    (λ q there. subst IsSome (sym (get_put s.cells address word q)) (some_after (q == address) word _ there))
    (λ param w h.
    get_put_other s.cells address word (reg s (param_reg param) + 8 * w)
    (λ e. outside param w (has_word is_input_array program.params param w h) (sym e)))

-- a further cell is in no input array
pub absent_outside : (program : Source) (lines : List Line) (inputs : List ℕ) (s : State)
    → IsStart program lines inputs s → (address : ℕ) → map.get s.cells address ≡ None
    → IsNoInput program.params s address
absent_outside program lines inputs s start address absent param word has e =
    let held = start.arrays param word (word_below is_input_array program.params param word has) in
    let there : IsSome (map.get s.cells address) = subst (λ a. IsSome (map.get s.cells a)) (sym e) (ap is_some held) in
    let not_there : is_some {T = ℕ} None ≡ true = ap is_some (sym absent) ∙ there in
    cc
