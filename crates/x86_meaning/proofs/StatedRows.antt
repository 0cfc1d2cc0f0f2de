-- The memory that is put together row by row is that of the stated start state.
use Rattle.std.proofs.Common.{◌≡◌, ◌≢◌, ℕ, zero, suc, ◌+◌, ◌-◌, ◌*◌, ◌/◌, ◌%◌, ◌<◌, ◌≤◌, ◌==◌, Bool, true, false, not}
use Rattle.std.proofs.Common.{nat_le, nat_lt, List, [], ◌∷◌, length, Some, None, slice_index, if◌then◌else◌, refl, sym}
use Rattle.std.proofs.Common.{ap, ◌∙◌, subst, arith, Fits, w64}
use Rattle.std.specs.List.{AllByRecursion}
use Rattle.std.specs.FinMap as map
use Rattle.std.specs.Ordering.{nat_cmp}
use Rattle.std.proofs.lemmas.Bool.Decides.{nat_tests}
use Rattle.word_program.specs.declared.parameter.Param.{Param}
use Rattle.word_program.specs.declared.parameter.Role.{Role}
use Rattle.word_program.specs.declared.parameter.Role.TheVariants.{Output, InputArray, InputScalar}
use Rattle.word_program.specs.Values.{is_scalar}
use Rattle.word_program.specs.Accepted.{IsParam}
use Rattle.word_program.specs.Program.{Source}
use Rattle.x86_instr.specs.declared.operand.Reg.{Reg}
use Rattle.x86_instr.specs.declared.operand.Reg.TheVariants.{Rax, Rcx, Rdx, Rbx, Rsp, Rbp, Rsi, Rdi, R8, R9, R10, R11}
use Rattle.x86_instr.specs.declared.operand.Reg.TheVariants.{R12, R13, R14, R15}
use Rattle.x86_instr.specs.declared.line.Line.{Line}
use Rattle.x86_instr.specs.Frame.{frame_of}
use Rattle.x86_instr.specs.Registers.{number_of}
use Rattle.x86_meaning.specs.Machine.{Cells}
use Rattle.x86_meaning.specs.Start.{array_words}
use Rattle.x86_meaning.specs.Stated.{filling, stack_address, array_address, array_cell, is_stack, stated_cell}
use Rattle.x86_meaning.specs.Stated.{stated_reg, AreParams, AreWords, IsStated}
use Rattle.x86_meaning.specs.StatedCells.{sixteen, cells_from, with_array, with_arrays, stated_cells, stated_regs}
use Rattle.x86_meaning.proofs.Memory.{get_put_same, get_put_other}
use Rattle.x86_meaning.proofs.FrameLimits.{frame_is}
use Rattle.x86_meaning.proofs.StatedIsStart.{array_below}

-- ---- rows

-- no word leaves the memory
pub row_none : (address : ℕ) (word : ℕ → ℕ) (cells : Cells) → cells_from address 0 word cells ≡ cells
unfolding cells_from
row_none address word cells = refl

-- one word more is put behind the others
pub row_more : (address n : ℕ) (word : ℕ → ℕ) (cells : Cells)
    → cells_from address (n + 1) word cells ≡ map.insert (cells_from address n word cells) (address + 8 * n) (word n)
unfolding cells_from
row_more address n word cells = let e : n + 1 ≡ suc n = omega arith in rw e refl

pub rows_none : (params : List Param) (inputs : List ℕ) (cells : Cells) → with_arrays params inputs 0 cells ≡ cells
unfolding with_arrays
rows_none params inputs cells = refl

pub rows_more : (params : List Param) (inputs : List ℕ) (n : ℕ) (cells : Cells)
    → with_arrays params inputs (n + 1) cells ≡ with_array params inputs n (with_arrays params inputs n cells)
unfolding with_arrays
rows_more params inputs n cells = let e : n + 1 ≡ suc n = omega arith in ap (λ k. with_arrays params inputs k cells) e

-- ---- limits

-- a parameter's array has at most 32 words
role_limit : (role : Role) (n : ℕ) → n ≤ 32 → (if not (is_scalar role) then n else 0) ≤ 32
role_limit Output n h = h
role_limit InputArray n h = h
role_limit InputScalar n h = omega arith

words_limit : (params : List Param) → AllByRecursion IsParam params → (param : ℕ) → array_words params param ≤ 32
words_limit [] all param = omega arith
words_limit (p ∷ ps) all zero = role_limit p.role (length p.bounds) all.0.words
words_limit (p ∷ ps) all (suc param) = words_limit ps all.1 param

-- the parameters of every program are few, with short arrays
pub params_limits : (params : List Param) → length params ≤ 6 → AllByRecursion IsParam params → AreParams params
params_limits params six all = record { six = six; short = words_limit params all }

-- ---- what stands at an address

-- a number below the next one, but not this one, is below this one
pub below_last : (i n : ℕ) → i < suc n → i ≢ n → i < n
below_last i n h ne = by_order (nat_lt i n) refl
  where
    by_order : (b : Bool) → nat_lt i n ≡ b → i < n
    by_order true is = grind (arith, nat_tests, is)
    by_order false is = absurd (ne (grind (arith, nat_tests, is, h)))

-- a word of a row stands at its address
at_last : (address n i : ℕ) (word : ℕ → ℕ) (cells : Cells) (b : Bool) → (i == n) ≡ b → i < suc n
    → (i < n → map.get (cells_from address n word cells) (address + 8 * i) ≡ Some (word i))
    → map.get (map.insert (cells_from address n word cells) (address + 8 * n) (word n)) (address + 8 * i) ≡ Some
    (word i)
at_last address n i word cells true is h rest =
    let e : i ≡ n = grind (arith, nat_tests, is) in
    subst (λ k. map.get (map.insert (cells_from address n word cells) (address + 8 * n) (word n)) (address + 8 * k)
    ≡ Some (word k)) (sym e) (get_put_same (cells_from address n word cells) (address + 8 * n) (word n))
at_last address n i word cells false is h rest =
    let ne : i ≢ n = λ e. absurd (grind (arith, nat_tests, is, e)) in
    get_put_other (cells_from address n word cells) (address + 8 * n) (word n) (address + 8 * i)
    (λ e. ne (omega (arith, e))) ∙ rest (below_last i n h ne)

row_in : (address n : ℕ) (word : ℕ → ℕ) (cells : Cells) (i : ℕ) → i < n
    → map.get (cells_from address n word cells) (address + 8 * i) ≡ Some (word i)
unfolding cells_from
row_in address zero word cells i h = absurd (omega arith)
row_in address (suc n) word cells i h = at_last address n i word cells (i == n) refl h (row_in address n word cells i)

-- every other address holds what it held
row_out : (address n : ℕ) (word : ℕ → ℕ) (cells : Cells) (q : ℕ) → ((i : ℕ) → i < n → q ≢ address + 8 * i)
    → map.get (cells_from address n word cells) q ≡ map.get cells q
unfolding cells_from
row_out address zero word cells q out = refl
row_out address (suc n) word cells q out =
    get_put_other (cells_from address n word cells) (address + 8 * n) (word n) q (out n (omega arith))
    ∙ row_out address n word cells q (λ i h. out i (omega (arith, h)))

module _ (params : List Param) (inputs : List ℕ) (short : (param : ℕ) → array_words params param ≤ 32) where
  -- so do those of the arrays
  array_out : (n : ℕ) (cells : Cells) (q : ℕ)
      → ((i w : ℕ) → i < n → w < array_words params i → q ≢ array_address i + 8 * w)
      → map.get (with_arrays params inputs n cells) q ≡ map.get cells q
  unfolding with_arrays
  array_out zero cells q out = refl
  array_out (suc n) cells q out =
      row_out (array_address n) (array_words params n) (array_cell params inputs n)
      (with_arrays params inputs n cells) q (λ w h. out n w (omega arith) h)
      ∙ array_out n cells q (λ i w h. out i w (omega (arith, h)))

  array_last : (n i w : ℕ) (cells : Cells) (b : Bool) → (i == n) ≡ b → i < suc n → w < array_words params i
      → (i < n → map.get (with_arrays params inputs n cells) (array_address i + 8 * w) ≡ Some
      (array_cell params inputs i w))
      → map.get (with_array params inputs n (with_arrays params inputs n cells)) (array_address i + 8 * w) ≡ Some
      (array_cell params inputs i w)
  array_last n i w cells true is h k rest =
      let e : n ≡ i = grind (arith, nat_tests, is) in
      subst (λ m. map.get (with_array params inputs m (with_arrays params inputs n cells)) (array_address i + 8 * w)
      ≡ Some (array_cell params inputs i w)) (sym e)
      (row_in (array_address i) (array_words params i) (array_cell params inputs i)
      (with_arrays params inputs n cells) w k)
  array_last n i w cells false is h k rest =
      let ne : i ≢ n = λ e. absurd (grind (arith, nat_tests, is, e)) in
      let si : array_words params i ≤ 32 = short i in
      let sn : array_words params n ≤ 32 = short n in
      let lt : i < n = below_last i n h ne in
      row_out (array_address n) (array_words params n) (array_cell params inputs n) (with_arrays params inputs n cells)
      (array_address i + 8 * w) (λ v o e. absurd (omega (arith, si, sn, lt, k, o, e)))
      ∙ rest lt

  array_in : (n : ℕ) (cells : Cells) (i w : ℕ) → i < n → w < array_words params i
      → map.get (with_arrays params inputs n cells) (array_address i + 8 * w) ≡ Some (array_cell params inputs i w)
  unfolding with_arrays
  array_in zero cells i w h k = absurd (omega arith)
  array_in (suc n) cells i w h k = array_last n i w cells (i == n) refl h k (λ lt. array_in n cells i w lt k)

-- a choice, from what it is on each side
choose : {A : Type 0} (b : Bool) (x y z : A) → (b ≡ true → z ≡ x) → (b ≡ false → z ≡ y) → z ≡ (if b then x else y)
choose true x y z f g = f refl
choose false x y z f g = g refl

module _ (params : List Param) (frame : ℕ) (inputs : List ℕ) (ok : AreParams params) (most : frame ≤ 32816)
    (eights : frame % 8 ≡ 0) where
  -- an address outside the stack holds what the arrays put there
  off_stack : (q : ℕ) → ((i : ℕ) → i < frame / 8 + 1 → q ≢ stack_address - frame + 8 * i)
      → map.get (stated_cells params frame inputs) q ≡ map.get (with_arrays params inputs (length params) map.empty) q
  off_stack q out = row_out (stack_address - frame) (frame / 8 + 1) (λ _. filling)
      (with_arrays params inputs (length params) map.empty) q out

  -- and nothing where it is in no array
  off_arrays : (q : ℕ) → ((i w : ℕ) → i < length params → w < array_words params i → q ≢ array_address i + 8 * w)
      → map.get (with_arrays params inputs (length params) map.empty) q ≡ None
  off_arrays q out = array_out params inputs ok.short (length params) map.empty q out ∙ map.get-empty nat_cmp q

  in_stack : (q : ℕ) → q % 8 ≡ 0 → is_stack frame q ≡ true → map.get (stated_cells params frame inputs) q ≡ Some filling
  in_stack q eight inside =
      let from : stack_address - frame ≤ q = grind (arith, nat_tests, inside) in
      let to : q ≤ stack_address = grind (arith, nat_tests, inside) in
      let address : stack_address - frame + 8 * ((q - (stack_address - frame)) / 8) ≡ q =
      omega (arith, eight, from, to, most, eights) in
      let within : (q - (stack_address - frame)) / 8 < frame / 8 + 1 = omega (arith, eight, from, to, most, eights) in
      subst (λ p. map.get (stated_cells params frame inputs) p ≡ Some filling) address
      (row_in (stack_address - frame) (frame / 8 + 1) (λ _. filling)
      (with_arrays params inputs (length params) map.empty) ((q - (stack_address - frame)) / 8) within)

  not_stack : (q i : ℕ) → is_stack frame q ≡ false → i < frame / 8 + 1 → q ≢ stack_address - frame + 8 * i
  not_stack q i out h e =
      let from : stack_address - frame ≤ q = omega (arith, e) in
      let to : q ≤ stack_address = omega (arith, e, h, most, eights) in
      absurd (grind (arith, nat_tests, out, from, to))

  -- each address holds what is stated
  pub cells_stated : (q : ℕ) → map.get (stated_cells params frame inputs) q ≡ stated_cell params frame inputs q
  cells_stated q =
      choose (q % 8 == 0) _ _ _
      (λ is. let eight : q % 8 ≡ 0 = grind (arith, nat_tests, is) in
      choose (is_stack frame q) _ _ _
      (λ inside. in_stack q eight inside)
      (λ out. off_stack q (λ i h. not_stack q i out h)
      ∙ choose (nat_le 65536 q) _ _ _
      (λ le. let from : 65536 ≤ q = grind (arith, nat_tests, le) in
      choose (nat_lt (q % 65536 / 8) (array_words params (q / 65536 - 1))) _ _ _
      (λ lt. let within : q % 65536 / 8 < array_words params (q / 65536 - 1) = grind (arith, nat_tests, lt) in
      let few : q / 65536 - 1 < length params = array_below params (q / 65536 - 1) (q % 65536 / 8) within in
      let address : array_address (q / 65536 - 1) + 8 * (q % 65536 / 8) ≡ q = omega (arith, eight, from) in
      subst (λ p. map.get (with_arrays params inputs (length params) map.empty) p ≡ Some
      (array_cell params inputs (q / 65536 - 1) (q % 65536 / 8))) address
      (array_in params inputs ok.short (length params) map.empty (q / 65536 - 1) (q % 65536 / 8) few within))
      (λ ge. off_arrays q (λ i w h k e.
      let s : array_words params i ≤ 32 = ok.short i in
      let six : length params ≤ 6 = ok.six in
      let param : q / 65536 - 1 ≡ i = omega (arith, h, k, s, six, e) in
      let word : q % 65536 / 8 ≡ w = omega (arith, h, k, s, six, e) in
      let kk : q % 65536 / 8 < array_words params (q / 65536 - 1) =
      subst (λ p. q % 65536 / 8 < array_words params p) (sym param) (omega (arith, word, k)) in
      absurd (grind (arith, nat_tests, ge, kk)))))
      (λ gt. off_arrays q (λ i w h k e. let under : q < 65536 = grind (arith, nat_tests, gt) in
      absurd (omega (arith, under, e))))))
      (λ other. let odd : q % 8 ≢ 0 = λ e. absurd (grind (arith, nat_tests, other, e)) in
      off_stack q (λ i h e. absurd (odd (omega (arith, e, most, eights))))
      ∙ off_arrays q (λ i w h k e. absurd (odd (omega (arith, e)))))

-- the word of a register, by the register's number
pub sixteen_word : (f : Reg → ℕ) (r : Reg) → slice_index (sixteen f) (number_of r) ≡ f r
sixteen_word f Rax = refl
sixteen_word f Rcx = refl
sixteen_word f Rdx = refl
sixteen_word f Rbx = refl
sixteen_word f Rsp = refl
sixteen_word f Rbp = refl
sixteen_word f Rsi = refl
sixteen_word f Rdi = refl
sixteen_word f R8 = refl
sixteen_word f R9 = refl
sixteen_word f R10 = refl
sixteen_word f R11 = refl
sixteen_word f R12 = refl
sixteen_word f R13 = refl
sixteen_word f R14 = refl
sixteen_word f R15 = refl

-- the state with these registers and cells is the stated one
pub is_stated : (program : Source) (lines : List Line) (inputs regs : List ℕ) (cells : Cells) (frame : ℕ)
    → AreParams program.params → frame ≡ frame_of lines
    → regs ≡ stated_regs program.params inputs → cells ≡ stated_cells program.params frame inputs
    → IsStated program lines inputs (record { regs = regs; cf = None; of = None; zf = None; cells = cells })
is_stated program lines inputs regs cells frame ok is_frame are_regs are_cells = record {
  sixteen = ap length are_regs;
  registers = λ r. ap (λ words. slice_index words (number_of r)) are_regs
      ∙ sixteen_word (stated_reg program.params inputs) r;
  cf = refl;
  of = refl;
  zf = refl;
  cells = λ q. ap (λ m. map.get m q) (are_cells ∙ ap (λ n. stated_cells program.params n inputs) is_frame)
      ∙ cells_stated program.params (frame_of lines) inputs ok (frame_is lines).most (frame_is lines).eights q;
}

-- words one by one are words
pub are_words : (words : List ℕ) → ((i : ℕ) → Fits w64 (slice_index words i)) → AreWords words
are_words [] each = tt
are_words (w ∷ ws) each = let first : Fits w64 w = each 0 in (omega (arith, first), are_words ws (λ i. each (suc i)))
