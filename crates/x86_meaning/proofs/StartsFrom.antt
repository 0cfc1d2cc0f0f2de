-- A start from words for the registers and a content of the memory: the memory is put together of the words of the
-- arrays and of the stack.
use Rattle.std.proofs.Common.{◌≡◌, ◌≢◌, ℕ, zero, suc, ◌+◌, ◌-◌, ◌*◌, ◌/◌, ◌%◌, ◌^◌, ◌<◌, ◌≤◌, ◌==◌, Bool, true, false}
use Rattle.std.proofs.Common.{cond, List, length, Option, Some, None, IsSome, IfSome, is_some, slice_get}
use Rattle.std.proofs.Common.{IsTrue, refl, sym, ap, ◌∙◌, subst, arith, ◌⊎◌, inl, inr}
use Rattle.std.specs.Option.{option_map_or, IsSomeAnd}
use Rattle.std.specs.FinMap as map
use Rattle.std.specs.Ordering.{nat_cmp}
use Rattle.std.proofs.lemmas.Bool.{cases_eq, false≢true, not-true}
use Rattle.std.proofs.lemmas.Bool.Decides.{nat_tests}
use Rattle.std.proofs.Math.Logic.{⊎_elim}
use Rattle.word_program.specs.declared.parameter.Param.{Param}
use Rattle.word_program.specs.declared.parameter.Role.{Role}
use Rattle.word_program.specs.declared.parameter.Role.TheVariants.{Output, InputArray, InputScalar}
use Rattle.word_program.specs.Program.{Source}
use Rattle.word_program.specs.Values.{is_output, is_input_array, is_scalar}
use Rattle.x86_instr.specs.declared.operand.Reg.{Reg}
use Rattle.x86_instr.specs.declared.operand.Reg.TheVariants.{Rsp}
use Rattle.x86_instr.specs.declared.line.Line.{Line}
use Rattle.x86_instr.specs.Frame.{frame_of}
use Rattle.x86_meaning.specs.declared.state.State.{State}
use Rattle.x86_meaning.specs.Machine.{Cells, IsState, IsWord}
use Rattle.x86_meaning.specs.Start.{Area, Array, Frame, Return, param_reg, array_words}
use Rattle.x86_meaning.specs.Start.{area_words, address_of, is_output_array, are_arrays_apart, is_apart}
use Rattle.x86_meaning.specs.Start.{IsStart}
use Rattle.x86_meaning.specs.StartLaws.{HasWord, is_array, IsNeeded, MeetConvention, StartsWith, array_word}
use Rattle.x86_meaning.specs.StatedCells.{sixteen, cells_from}
use Rattle.x86_meaning.proofs.FrameLimits.{frame_is}
use Rattle.x86_meaning.proofs.FreeStates.{has_word, word_below}
use Rattle.x86_meaning.proofs.Keeping.{input-le-array}
use Rattle.x86_meaning.proofs.Memory.{get_put}
use Rattle.x86_meaning.proofs.StatedIsStart.{array_below}
use Rattle.x86_meaning.proofs.StatedRows.{below_last, sixteen_word}

-- ---- a memory that has the addresses with P alone, each with its content

abbrev CellOf : (ℕ → ℕ) → Type 0 → ℕ → Option ℕ → Type 0
CellOf content P q o = ((o ≡ Some (content q)) × P) ⊎ ((o ≡ None) × (P → ⊥))

-- the same under another name for P
renamed : (content : ℕ → ℕ) (P Q : Type 0) (q : ℕ) (o : Option ℕ) → (P → Q) → (Q → P) → CellOf content P q o
    → CellOf content Q q o
renamed content P Q q o to from (inl h) = inl (h.0, to h.1)
renamed content P Q q o to from (inr h) = inr (h.0, λ is. h.1 (from is))

put_cell : (content : ℕ → ℕ) (P : Type 0) (q address : ℕ) (o : Option ℕ) (b : Bool) → (q == address) ≡ b
    → CellOf content P q o → CellOf content (P ⊎ (q ≡ address)) q (cond b (Some (content address)) o)
put_cell content P q address o true is h =
    let e : q ≡ address = grind (arith, nat_tests, is) in inl (ap (λ a. Some (content a)) (sym e), inr e)
put_cell content P q address o false is (inl h) = inl (h.0, inl h.1)
put_cell content P q address o false is (inr h) =
    inr (h.0, ⊎_elim h.1 (λ e. absurd (grind (arith, nat_tests, is, e))))

-- one word more
put : (content : ℕ → ℕ) (P : Type 0) (cells : Cells) (q address : ℕ) → CellOf content P q (map.get cells q)
    → CellOf content (P ⊎ (q ≡ address)) q (map.get (map.insert cells address (content address)) q)
put content P cells q address h =
    subst (CellOf content (P ⊎ (q ≡ address)) q) (sym (get_put cells address (content address) q))
    (put_cell content P q address (map.get cells q) (q == address) refl h)

-- the address is that of one of so many words in a row
abbrev InRow : ℕ → ℕ → ℕ → Type 0
InRow first n q = (word : ℕ) × (word < n) × (q ≡ first + 8 * word)

row_longer : (P : Type 0) (first n q : ℕ) → (P ⊎ InRow first n q) ⊎ (q ≡ first + 8 * n) → P ⊎ InRow first (suc n) q
row_longer P first n q (inl (inl p)) = inl p
row_longer P first n q (inl (inr h)) = let below = h.1 in inr (h.0, omega (arith, below), h.2)
row_longer P first n q (inr e) = inr (n, omega arith, e)

row_word : (P : Type 0) (first n q word : ℕ) → word < suc n → q ≡ first + 8 * word → (word ≡ n) ⊎ (word ≡ n → ⊥)
    → (P ⊎ InRow first n q) ⊎ (q ≡ first + 8 * n)
row_word P first n q word h e (inl is) = inr (omega (arith, e, is))
row_word P first n q word h e (inr other) = inl (inr (word, below_last word n h other, e))

row_shorter : (P : Type 0) (first n q : ℕ) → P ⊎ InRow first (suc n) q → (P ⊎ InRow first n q) ⊎ (q ≡ first + 8 * n)
row_shorter P first n q (inl p) = inl (inl p)
row_shorter P first n q (inr h) = row_word P first n q h.0 h.1 h.2 (cases_eq h.0 n)

empty_row : (P : Type 0) (first q : ℕ) → P ⊎ InRow first 0 q → P
empty_row P first q (inl p) = p
empty_row P first q (inr h) = let below = h.1 in absurd (omega (arith, below))

-- a row of words more
put_row : (content : ℕ → ℕ) (P : Type 0) (q first n : ℕ) (cells : Cells) → CellOf content P q (map.get cells q)
    → CellOf content (P ⊎ InRow first n q) q
    (map.get (cells_from first n (λ word. content (first + 8 * word)) cells) q)
unfolding cells_from
put_row content P q first zero cells h =
    renamed content P (P ⊎ InRow first 0 q) q (map.get cells q) inl (empty_row P first q) h
put_row content P q first (suc n) cells h =
    renamed content ((P ⊎ InRow first n q) ⊎ (q ≡ first + 8 * n)) (P ⊎ InRow first (suc n) q) q _
    (row_longer P first n q) (row_shorter P first n q)
    (put content (P ⊎ InRow first n q) (cells_from first n (λ word. content (first + 8 * word)) cells) q (first + 8 * n)
    (put_row content P q first n cells h))

-- ---- the needed cells

module _ (params : List Param) (regs : Reg → ℕ) (content : ℕ → ℕ) where
  -- the arrays of so many parameters
  arrays_put : ℕ → Cells
  arrays_put zero = map.empty
  arrays_put (suc n) =
      cells_from (regs (param_reg n)) (array_words params n) (λ word. content (regs (param_reg n) + 8 * word))
      (arrays_put n)

  -- the address is that of a word of one of these arrays
  abbrev InArrays : ℕ → ℕ → Type 0
  InArrays n q = (param : ℕ) × (word : ℕ) × (param < n) × (word < array_words params param)
      × (q ≡ array_word regs param word)

  more_arrays : (n q : ℕ) → InArrays n q ⊎ InRow (regs (param_reg n)) (array_words params n) q → InArrays (suc n) q
  more_arrays n q (inl h) = let below = h.2 in (h.0, h.1, omega (arith, below), h.3, h.4)
  more_arrays n q (inr h) = (n, h.0, omega arith, h.1, h.2)

  array_of : (n q param word : ℕ) → param < suc n → word < array_words params param → q ≡ array_word regs param word
      → (param ≡ n) ⊎ (param ≡ n → ⊥) → InArrays n q ⊎ InRow (regs (param_reg n)) (array_words params n) q
  array_of n q param word h k e (inl is) =
      inr (word, subst (λ p. word < array_words params p) is k, e ∙ ap (λ p. array_word regs p word) is)
  array_of n q param word h k e (inr other) = inl (param, word, below_last param n h other, k, e)

  fewer_arrays : (n q : ℕ) → InArrays (suc n) q → InArrays n q ⊎ InRow (regs (param_reg n)) (array_words params n) q
  fewer_arrays n q h = array_of n q h.0 h.1 h.2 h.3 h.4 (cases_eq h.0 n)

  put_arrays : (n q : ℕ) → CellOf content (InArrays n q) q (map.get (arrays_put n) q)
  unfolding arrays_put
  put_arrays zero q = inr (map.get-empty nat_cmp q, λ h. let below = h.2 in omega (arith, below))
  put_arrays (suc n) q =
      renamed content (InArrays n q ⊎ InRow (regs (param_reg n)) (array_words params n) q) (InArrays (suc n) q) q _
      (more_arrays n q) (fewer_arrays n q)
      (put_row content (InArrays n q) q (regs (param_reg n)) (array_words params n) (arrays_put n) (put_arrays n q))

  -- with the frame and the return cell
  pub needed_cells : ℕ → Cells
  needed_cells frame = cells_from (regs Rsp - frame) (frame / 8 + 1) (λ word. content (regs Rsp - frame + 8 * word))
      (arrays_put (length params))

  is_needed : (frame q : ℕ) → frame ≤ regs Rsp → frame % 8 ≡ 0 → (regs Rsp + 8) % 16 ≡ 0
      → InArrays (length params) q ⊎ InRow (regs Rsp - frame) (frame / 8 + 1) q → IsNeeded params frame regs q
  is_needed frame q begins eights aligned (inl h) = inl (h.0, h.1, has_word is_array params h.0 h.1 h.3, h.4)
  is_needed frame q begins eights aligned (inr h) =
      let below = h.1 in let e = h.2 in
      inr ((omega (arith, e), omega (arith, begins, eights, below, e)), omega (arith, begins, eights, aligned, e))

  needed_is : (frame q : ℕ) → frame ≤ regs Rsp → frame % 8 ≡ 0 → (regs Rsp + 8) % 16 ≡ 0 → IsNeeded params frame regs q
      → InArrays (length params) q ⊎ InRow (regs Rsp - frame) (frame / 8 + 1) q
  needed_is frame q begins eights aligned (inl h) =
      let k : h.1 < array_words params h.0 = word_below is_array params h.0 h.1 h.2 in
      inl (h.0, h.1, array_below params h.0 h.1 k, k, h.3)
  needed_is frame q begins eights aligned (inr h) =
      let from : regs Rsp - frame ≤ q = h.0.0 in
      let to : q ≤ regs Rsp = h.0.1 in
      let eight : q % 8 ≡ 0 = h.1 in
      inr (
        (q - (regs Rsp - frame)) / 8,
        omega (arith, begins, eights, aligned, from, to, eight),
        omega (arith, begins, eights, aligned, from, to, eight),
      )

  -- each needed address has its content, and no other has a word
  pub needed_cell : (frame q : ℕ) → frame ≤ regs Rsp → frame % 8 ≡ 0 → (regs Rsp + 8) % 16 ≡ 0
      → CellOf content (IsNeeded params frame regs q) q (map.get (needed_cells frame) q)
  unfolding needed_cells
  needed_cell frame q begins eights aligned =
      renamed content (InArrays (length params) q ⊎ InRow (regs Rsp - frame) (frame / 8 + 1) q)
      (IsNeeded params frame regs q) q _ (is_needed frame q begins eights aligned)
      (needed_is frame q begins eights aligned)
      (put_row content (InArrays (length params) q) q (regs Rsp - frame) (frame / 8 + 1) (arrays_put (length params))
      (put_arrays (length params) q))

-- ---- what a cell says

module _ (content : ℕ → ℕ) (P : Type 0) (q : ℕ) where
  holds : (o : Option ℕ) → CellOf content P q o → P → o ≡ Some (content q)
  holds o (inl h) p = h.0
  holds o (inr h) p = absurd (h.1 p)

  is_there : (o : Option ℕ) → CellOf content P q o → IsSome o → P
  is_there o (inl h) some = h.1
  is_there o (inr h) some = let none : is_some {T = ℕ} None ≡ true = ap is_some (sym h.0) ∙ some in cc

  says : (o : Option ℕ) → CellOf content P q o → IfSome o (λ word. word ≡ content q)
  says o (inl h) = subst (λ r. IfSome r (λ word. word ≡ content q)) (sym h.0) refl
  says o (inr h) = subst (λ r. IfSome r (λ word. word ≡ content q)) (sym h.0) tt

  says_word : (o : Option ℕ) → CellOf content P q o → IsWord (content q) → IfSome o IsWord
  says_word o (inl h) small = subst (λ r. IfSome r IsWord) (sym h.0) small
  says_word o (inr h) small = subst (λ r. IfSome r IsWord) (sym h.0) tt

-- ---- roles

role_output : (role : Role) (n word : ℕ) → is_output role ≡ true → IsTrue (is_array role) × (word < n)
    → IsTrue (is_output role) × (word < n)
role_output role n word is h = (is, h.1)

role_input : (role : Role) (n word : ℕ) → is_output role ≡ false → IsTrue (is_array role) × (word < n)
    → IsTrue (is_input_array role) × (word < n)
role_input Output n word is h = cc
role_input InputArray n word is h = (refl, h.1)
role_input InputScalar n word is h = absurd (false≢true h.0)

-- an array that is an output
as_output : (o : Option Param) (word : ℕ) → option_map_or (λ p. is_output p.role) o false ≡ true
    → IsSomeAnd o (λ p. IsTrue (is_array p.role) × (word < length p.bounds))
    → IsSomeAnd o (λ p. IsTrue (is_output p.role) × (word < length p.bounds))
as_output None word is h = h
as_output (Some p) word is h = role_output p.role (length p.bounds) word is h

-- an array that is no output is an input array
as_input : (o : Option Param) (word : ℕ) → option_map_or (λ p. is_output p.role) o false ≡ false
    → IsSomeAnd o (λ p. IsTrue (is_array p.role) × (word < length p.bounds))
    → IsSomeAnd o (λ p. IsTrue (is_input_array p.role) × (word < length p.bounds))
as_input None word is h = h
as_input (Some p) word is h = role_input p.role (length p.bounds) word is h

-- ---- the start

module _ (program : Source) (lines : List Line) (inputs : List ℕ) (regs : Reg → ℕ) (content : ℕ → ℕ)
    (meet : MeetConvention program (frame_of lines) inputs regs content) where
  abbrev pub frame : ℕ
  frame = frame_of lines

  abbrev pub first : State
  first = record {
    regs = sixteen regs;
    cf = None;
    of = None;
    zf = None;
    cells = needed_cells program.params regs content frame;
  }

  abbrev Needed : ℕ → Type 0
  Needed q = IsNeeded program.params frame regs q

  cell : (q : ℕ) → CellOf content (Needed q) q (map.get first.cells q)
  cell q = needed_cell program.params regs content frame q meet.frame_begins (frame_is lines).eights meet.stack_aligned

  -- the address of a word of an area, by what the registers are to hold
  abbrev pub area_at : Area → ℕ → ℕ
  area_at (Array param) word = array_word regs param word
  area_at Frame word = regs Rsp - frame + 8 * word
  area_at Return word = regs Rsp + 8 * word

  address_same : (area : Area) (word : ℕ) → address_of first frame area word ≡ area_at area word
  address_same (Array param) word = ap (λ r. r + 8 * word) (sixteen_word regs (param_reg param))
  address_same Frame word = refl
  address_same Return word = refl

  area_needed : (area : Area) (word : ℕ) → word < area_words program.params frame area → Needed (area_at area word)
  area_needed (Array param) word h = inl (param, word, has_word is_array program.params param word h, refl)
  area_needed Frame word h =
      let begins : frame ≤ regs Rsp = meet.frame_begins in
      let eights : frame % 8 ≡ 0 = (frame_is lines).eights in
      let aligned : (regs Rsp + 8) % 16 ≡ 0 = meet.stack_aligned in
      inr ((omega arith, omega (arith, begins, eights, h)), omega (arith, begins, eights, aligned))
  area_needed Return word h =
      let aligned : (regs Rsp + 8) % 16 ≡ 0 = meet.stack_aligned in
      inr ((omega (arith, h), omega (arith, h)), omega (arith, h, aligned))

  pub area_holds : (area : Area) (word : ℕ) → word < area_words program.params frame area
      → map.get first.cells (area_at area word) ≡ Some (content (area_at area word))
  area_holds area word h =
      holds content (Needed (area_at area word)) (area_at area word) _ (cell (area_at area word))
      (area_needed area word h)

  needed_address : (q : ℕ) → Needed q → IsWord q × (q % 8 ≡ 0)
  needed_address q (inl h) =
      let aligned : regs (param_reg h.0) % 8 ≡ 0 = meet.aligned h.0 h.1 h.2 in
      let ends : array_word regs h.0 h.1 + 8 ≤ 2 ^ 64 = meet.ends h.0 h.1 h.2 in
      let e : q ≡ array_word regs h.0 h.1 = h.3 in (omega (arith, ends, e), omega (arith, aligned, e))
  needed_address q (inr h) =
      let to : q ≤ regs Rsp = h.0.1 in
      let ends : regs Rsp + 8 ≤ 2 ^ 64 = meet.return_ends in (omega (arith, to, ends), h.1)

  first_state : IsState first
  first_state = record {
    sixteen = refl;
    registers = λ r. subst IsWord (sym (sixteen_word regs r)) (meet.registers r);
    addresses = λ q there. needed_address q (is_there content (Needed q) q _ (cell q) there);
    words = λ q. says_word content (Needed q) q _ (cell q) (meet.contents q);
  }

  -- two arrays, by which of them are outputs
  arrays_differ : (p q i j : ℕ) (first_output second_output : Bool) → is_output_array program.params p ≡ first_output
      → is_output_array program.params q ≡ second_output → p ≢ q
      → IsTrue (are_arrays_apart program.overlap first_output second_output)
      → HasWord is_array program.params p i → HasWord is_array program.params q j
      → array_word regs p i ≢ array_word regs q j
  arrays_differ p q i j true true e f other apart h k same =
      meet.outputs_apart p q i j other (as_output (slice_get program.params p) i e h)
      (as_output (slice_get program.params q) j f k) same
  arrays_differ p q i j true false e f other apart h k same =
      meet.inputs_apart (not-true program.overlap apart) p q i j (as_output (slice_get program.params p) i e h)
      (as_input (slice_get program.params q) j f k) same
  arrays_differ p q i j false true e f other apart h k same =
      meet.inputs_apart (not-true program.overlap apart) q p j i (as_output (slice_get program.params q) j f k)
      (as_input (slice_get program.params p) i e h) (sym same)
  arrays_differ p q i j false false e f other apart h k same = absurd (false≢true apart)

  -- an array and a word of the stack
  off_frame : (p i j : ℕ) → i < array_words program.params p → j < frame / 8 → area_at (Array p) i ≢ area_at Frame j
  off_frame p i j h k e =
      let begins : frame ≤ regs Rsp = meet.frame_begins in
      meet.off_stack p i (has_word is_array program.params p i h) (omega (arith, e), omega (arith, e, k, begins))

  off_return : (p i j : ℕ) → i < array_words program.params p → j < 1 → area_at (Array p) i ≢ area_at Return j
  off_return p i j h k e =
      meet.off_stack p i (has_word is_array program.params p i h) (omega (arith, e, k), omega (arith, e, k))

  areas_differ : (a b : Area) (i j : ℕ) → a ≢ b → IsTrue (is_apart program.overlap program.params a b)
      → i < area_words program.params frame a → j < area_words program.params frame b → area_at a i ≢ area_at b j
  areas_differ (Array p) (Array q) i j other apart h k e =
      arrays_differ p q i j (is_output_array program.params p) (is_output_array program.params q) refl refl
      (λ same. other (ap Array same)) apart (has_word is_array program.params p i h)
      (has_word is_array program.params q j k) e
  areas_differ (Array p) Frame i j other apart h k e = off_frame p i j h k e
  areas_differ (Array p) Return i j other apart h k e = off_return p i j h k e
  areas_differ Frame (Array q) i j other apart h k e = off_frame q j i k h (sym e)
  areas_differ Frame Frame i j other apart h k e = other refl
  areas_differ Frame Return i j other apart h k e =
      let begins : frame ≤ regs Rsp = meet.frame_begins in omega (arith, begins, h, k, e)
  areas_differ Return (Array q) i j other apart h k e = off_return q j i k h (sym e)
  areas_differ Return Frame i j other apart h k e =
      let begins : frame ≤ regs Rsp = meet.frame_begins in omega (arith, begins, h, k, e)
  areas_differ Return Return i j other apart h k e = other refl

  array_ends : (param : ℕ) → 0 < array_words program.params param
      → regs (param_reg param) + 8 * array_words program.params param ≤ 2 ^ 64
  array_ends param h =
      let last : array_words program.params param - 1 < array_words program.params param = omega (arith, h) in
      let ends : array_word regs param (array_words program.params param - 1) + 8 ≤ 2 ^ 64 =
      meet.ends param _ (has_word is_array program.params param _ last) in omega (arith, h, ends)

  pub first_start : IsStart program lines inputs first
  first_start = record {
    state = first_state;
    inputs_within = meet.inputs_within;
    there = λ area word h.
        subst (λ a. IsSome (map.get first.cells a)) (sym (address_same area word))
        (ap is_some (area_holds area word h));
    aligned = λ param h. ap (λ r. r % 8) (sixteen_word regs (param_reg param))
        ∙ meet.aligned param 0 (has_word is_array program.params param 0 h);
    ends = λ param h. subst (λ r. r + 8 * array_words program.params param ≤ 2 ^ 64)
        (sym (sixteen_word regs (param_reg param))) (array_ends param h);
    frame_begins = meet.frame_begins;
    stack_ends = meet.return_ends;
    stack_aligned = meet.stack_aligned;
    arrays = λ param word h.
        let within = input-le-array program.params param in
        ap (λ a. map.get first.cells a) (address_same (Array param) word)
        ∙ (area_holds (Array param) word (omega (arith, h, within))
        ∙ ap Some (meet.input_arrays param word (has_word is_input_array program.params param word h)));
    scalars = λ param h. sixteen_word regs (param_reg param)
        ∙ meet.scalars param 0 (has_word is_scalar program.params param 0 h);
    apart = λ a b other apart i j h k e.
        areas_differ a b i j other apart h k (sym (address_same a i) ∙ (e ∙ address_same b j));
  }

  pub starts_from : StartsWith program lines inputs regs content
  starts_from = record {
    state = first;
    start = first_start;
    registers = sixteen_word regs;
    addresses = λ q. (
      is_there content (Needed q) q _ (cell q),
      λ needed. ap is_some (holds content (Needed q) q _ (cell q) needed),
    );
    words = λ q. says content (Needed q) q _ (cell q);
  }
