-- That the stated start state is a start.
use Rattle.std.proofs.Common.{◌≡◌, ◌≢◌, ℕ, zero, suc, ◌+◌, ◌-◌, ◌*◌, ◌/◌, ◌%◌, ◌^◌, ◌<◌, ◌≤◌, ◌==◌, Bool, true, false}
use Rattle.std.proofs.Common.{not, nat_le, nat_lt, List, [], ◌∷◌, length, Option, Some, None, IsSome, IfSome, is_some}
use Rattle.std.proofs.Common.{slice_get, slice_index, if◌then◌else◌, refl, sym, ap, ◌∙◌, subst, arith}
use Rattle.std.specs.Option.{option_map_or}
use Rattle.std.specs.FinMap as map
use Rattle.std.proofs.lemmas.Bool.Decides.{nat_tests}
use Rattle.word_program.specs.declared.parameter.Param.{Param}
use Rattle.word_program.specs.declared.parameter.Role.{Role}
use Rattle.word_program.specs.declared.parameter.Role.TheVariants.{Output, InputArray, InputScalar}
use Rattle.word_program.specs.Program.{Source}
use Rattle.word_program.specs.Values.{input_word, input_bounds, is_scalar, is_input_array, AreWithin}
use Rattle.x86_instr.specs.declared.operand.Reg.{Reg}
use Rattle.x86_instr.specs.declared.operand.Reg.TheVariants.{Rax, Rcx, Rdx, Rbx, Rsp, Rbp, Rsi, Rdi, R8, R9, R10, R11}
use Rattle.x86_instr.specs.declared.operand.Reg.TheVariants.{R12, R13, R14, R15}
use Rattle.x86_instr.specs.declared.line.Line.{Line}
use Rattle.x86_instr.specs.Frame.{frame_of}
use Rattle.x86_meaning.specs.declared.state.State.{State}
use Rattle.x86_meaning.specs.Machine.{IsWord, reg}
use Rattle.x86_meaning.specs.Start.{Area, Array, Frame, Return, array_words, input_array_words, area_words, words_if}
use Rattle.x86_meaning.specs.Start.{param_reg, address_of, AreApart, IsStart}
use Rattle.x86_meaning.specs.Stated.{filling, stack_address, array_address, role_word, param_word, unused_word}
use Rattle.x86_meaning.specs.Stated.{stated_reg, role_cell, array_cell, array_at, is_stack, stated_cell, IsStated}
use Rattle.x86_meaning.specs.Stated.{AreParams, AreWords}
use Rattle.x86_meaning.proofs.FrameLimits.{frame_is}
use Rattle.x86_meaning.proofs.Keeping.{input-le-array}

-- ---- choices

-- a choice whose test holds
if_true : {A : Type 0} (b : Bool) (x y : A) → b ≡ true → (if b then x else y) ≡ x
if_true b x y e = ap (λ c. if c then x else y) e

-- a choice whose test fails
if_false : {A : Type 0} (b : Bool) (x y : A) → b ≡ false → (if b then x else y) ≡ y
if_false b x y e = ap (λ c. if c then x else y) e

-- ---- parameters

-- a parameter with a word of an array is one of the list
pub array_below : (params : List Param) (i word : ℕ) → word < array_words params i → i < length params
array_below [] i word h = absurd (omega arith)
array_below (p ∷ ps) zero word h = omega arith
array_below (p ∷ ps) (suc i) word h = let r : i < length ps = array_below ps i word h in omega (arith, r)

-- so is one with a scalar
pub scalar_below : (params : List Param) (i : ℕ) → 0 < words_if is_scalar params i → i < length params
scalar_below [] i h = absurd (omega arith)
scalar_below (p ∷ ps) zero h = omega arith
scalar_below (p ∷ ps) (suc i) h = let r : i < length ps = scalar_below ps i h in omega (arith, r)

-- the register of a parameter with an array holds its address
role_address : (role : Role) (n address w word : ℕ) → word < (if not (is_scalar role) then n else 0)
    → role_word role address w ≡ address
role_address Output n address w word h = refl
role_address InputArray n address w word h = refl
role_address InputScalar n address w word h = absurd (omega arith)

address_at : (o : Option Param) (address w other word : ℕ)
    → word < option_map_or (λ p. if not (is_scalar p.role) then length p.bounds else 0) o 0
    → option_map_or (λ p. role_word p.role address w) o other ≡ address
address_at None address w other word h = absurd (omega arith)
address_at (Some p) address w other word h = role_address p.role (length p.bounds) address w word h

-- that of a scalar holds the scalar
role_scalar : (role : Role) (n address w : ℕ) → 0 < (if is_scalar role then n else 0) → role_word role address w ≡ w
role_scalar Output n address w h = absurd (omega arith)
role_scalar InputArray n address w h = absurd (omega arith)
role_scalar InputScalar n address w h = refl

scalar_at : (o : Option Param) (address w other : ℕ)
    → 0 < option_map_or (λ p. if is_scalar p.role then length p.bounds else 0) o 0
    → option_map_or (λ p. role_word p.role address w) o other ≡ w
scalar_at None address w other h = absurd (omega arith)
scalar_at (Some p) address w other h = role_scalar p.role (length p.bounds) address w h

-- a cell of an input array holds the input
role_input : (role : Role) (n w word : ℕ) → word < (if is_input_array role then n else 0) → role_cell role w ≡ w
role_input Output n w word h = absurd (omega arith)
role_input InputArray n w word h = refl
role_input InputScalar n w word h = refl

input_at : (o : Option Param) (w word : ℕ)
    → word < option_map_or (λ p. if is_input_array p.role then length p.bounds else 0) o 0
    → option_map_or (λ p. role_cell p.role w) o filling ≡ w
input_at None w word h = absurd (omega arith)
input_at (Some p) w word h = role_input p.role (length p.bounds) w word h

-- ---- words

-- every item of a list of words is one, and so is what stands for a missing one
word_small : (words : List ℕ) → AreWords words → (i : ℕ) → IsWord (slice_index words i)
word_small [] a i = omega arith
word_small (w ∷ ws) a zero = a.0
word_small (w ∷ ws) a (suc i) = word_small ws a.1 i

role_word_small : (role : Role) (address w : ℕ) → IsWord address → IsWord w → IsWord (role_word role address w)
role_word_small Output address w p h = p
role_word_small InputArray address w p h = p
role_word_small InputScalar address w p h = h

param_word_small : (o : Option Param) (address w other : ℕ) → IsWord address → IsWord w → IsWord other
    → IsWord (option_map_or (λ p. role_word p.role address w) o other)
param_word_small None address w other p h e = e
param_word_small (Some param) address w other p h e = role_word_small param.role address w p h

role_cell_small : (role : Role) (w : ℕ) → IsWord w → IsWord (role_cell role w)
role_cell_small Output w h = omega arith
role_cell_small InputArray w h = h
role_cell_small InputScalar w h = h

cell_small : (o : Option Param) (w : ℕ) → IsWord w → IsWord (option_map_or (λ p. role_cell p.role w) o filling)
cell_small None w h = omega arith
cell_small (Some p) w h = role_cell_small p.role w h

-- ---- what stands at an address

-- a fact about an answer, from the fact at each side of a choice
by_choice : (C : Option ℕ → Type 0) (b : Bool) (x y : Option ℕ) → (b ≡ true → C x) → (b ≡ false → C y)
    → C (if b then x else y)
by_choice C true x y f g = f refl
by_choice C false x y f g = g refl

no_some : is_some {T = ℕ} None ≡ true → ⊥
no_some h = cc

module _ (params : List Param) (frame : ℕ) (inputs : List ℕ) (ok : AreParams params) (words : AreWords inputs)
    (most : frame ≤ 32816) (eights : frame % 8 ≡ 0) where
  -- each input is a word
  input_small : (param word : ℕ) → IsWord (input_word params inputs param word)
  input_small param word = word_small inputs words _

  -- a word of an array stands at its address
  array_stated : (i word : ℕ) → word < array_words params i
      → stated_cell params frame inputs (array_address i + 8 * word) ≡ Some (array_cell params inputs i word)
  array_stated i word h =
      let few : i < length params = array_below params i word h in
      let six : length params ≤ 6 = ok.six in
      let short : array_words params i ≤ 32 = ok.short i in
      let param : (array_address i + 8 * word) / 65536 - 1 ≡ i = omega (arith, few, six, short, h) in
      let offset : (array_address i + 8 * word) % 65536 ≡ 8 * word = omega (arith, few, six, short, h) in
      let back : 8 * word / 8 ≡ word = omega arith in
      let aligned : (array_address i + 8 * word) % 8 ≡ 0 = omega arith in
      let under : array_address i + 8 * word < stack_address - frame = omega (arith, few, six, short, h, most) in
      let above : 65536 ≤ array_address i + 8 * word = omega arith in
      let is_aligned : ((array_address i + 8 * word) % 8 == 0) ≡ true = grind (arith, nat_tests, aligned) in
      let is_under : is_stack frame (array_address i + 8 * word) ≡ false = grind (arith, nat_tests, under) in
      let is_above : nat_le 65536 (array_address i + 8 * word) ≡ true = grind (arith, nat_tests, above) in
      let is_within : nat_lt word (array_words params i) ≡ true = grind (arith, nat_tests, h) in
      if_true _ _ _ is_aligned
      ∙ (if_false _ _ _ is_under
      ∙ (if_true _ _ _ is_above
      ∙ (ap (λ p. array_at params inputs p ((array_address i + 8 * word) % 65536)) param
      ∙ (ap (array_at params inputs i) offset
      ∙ (ap (λ n. if nat_lt n (array_words params i) then Some (array_cell params inputs i n) else None) back
      ∙ if_true _ _ _ is_within)))))

  -- the filling stands in the stack
  stack_stated : (address : ℕ) → address % 8 ≡ 0 → stack_address - frame ≤ address → address ≤ stack_address
      → stated_cell params frame inputs address ≡ Some filling
  stack_stated address aligned from to =
      let is_aligned : (address % 8 == 0) ≡ true = grind (arith, nat_tests, aligned) in
      let is_inside : is_stack frame address ≡ true = grind (arith, nat_tests, from, to) in
      if_true _ _ _ is_aligned ∙ if_true _ _ _ is_inside

  -- an address with a word is a word and a multiple of 8
  address_stated : (address : ℕ) → IsSome (stated_cell params frame inputs address) → IsWord address × (address % 8 ≡ 0)
  address_stated address =
      by_choice (λ o. IsSome o → IsWord address × (address % 8 ≡ 0)) (address % 8 == 0) _ _
      (λ aligned. let eight : address % 8 ≡ 0 = grind (arith, nat_tests, aligned) in
      by_choice (λ o. IsSome o → IsWord address × (address % 8 ≡ 0)) (is_stack frame address) _ _
      (λ inside _. let under : address ≤ stack_address = grind (arith, nat_tests, inside) in
      (omega (arith, under), eight))
      (λ _. by_choice (λ o. IsSome o → IsWord address × (address % 8 ≡ 0)) (nat_le 65536 address) _ _
      (λ _. by_choice (λ o. IsSome o → IsWord address × (address % 8 ≡ 0))
      (nat_lt (address % 65536 / 8) (array_words params (address / 65536 - 1))) _ _
      (λ within _.
      let w : address % 65536 / 8 < array_words params (address / 65536 - 1) = grind (arith, nat_tests, within) in
      let few : address / 65536 - 1 < length params =
      array_below params (address / 65536 - 1) (address % 65536 / 8) w in
      let six : length params ≤ 6 = ok.six in
      (omega (arith, few, six), eight))
      (λ _ n. absurd (no_some n)))
      (λ _ n. absurd (no_some n))))
      (λ _ n. absurd (no_some n))

  -- what stands there is a word
  word_stated : (address : ℕ) → IfSome (stated_cell params frame inputs address) IsWord
  word_stated address =
      by_choice (λ o. IfSome o IsWord) (address % 8 == 0) _ _
      (λ _. by_choice (λ o. IfSome o IsWord) (is_stack frame address) _ _ (λ _. omega arith)
      (λ _. by_choice (λ o. IfSome o IsWord) (nat_le 65536 address) _ _
      (λ _. by_choice (λ o. IfSome o IsWord) (nat_lt (address % 65536 / 8) (array_words params (address / 65536 - 1)))
      _ _
      (λ _. cell_small (slice_get params (address / 65536 - 1)) _
      (input_small (address / 65536 - 1) (address % 65536 / 8)))
      (λ _. tt))
      (λ _. tt)))
      (λ _. tt)

  -- what the register of a parameter holds is a word
  param_small : (i other : ℕ) → i < 6 → IsWord other → IsWord (param_word params inputs i other)
  param_small i other six h = param_word_small (slice_get params i) (array_address i) _ other (omega (arith, six))
      (input_small i 0) h

  -- so is what each register holds
  reg_small : (r : Reg) → IsWord (stated_reg params inputs r)
  reg_small Rax = omega arith
  reg_small Rcx = param_small 3 _ (omega arith) (omega arith)
  reg_small Rdx = param_small 2 _ (omega arith) (omega arith)
  reg_small Rbx = omega arith
  reg_small Rsp = omega arith
  reg_small Rbp = omega arith
  reg_small Rsi = param_small 1 _ (omega arith) (omega arith)
  reg_small Rdi = param_small 0 _ (omega arith) (omega arith)
  reg_small R8 = param_small 4 _ (omega arith) (omega arith)
  reg_small R9 = param_small 5 _ (omega arith) (omega arith)
  reg_small R10 = omega arith
  reg_small R11 = omega arith
  reg_small R12 = omega arith
  reg_small R13 = omega arith
  reg_small R14 = omega arith
  reg_small R15 = omega arith

module _ (program : Source) (lines : List Line) (inputs : List ℕ) (s : State) (ok : AreParams program.params)
    (words : AreWords inputs) (stated : IsStated program lines inputs s) where
  -- a parameter's register holds what is stated
  param_reg_is : (i : ℕ) → i < 6 → reg s (param_reg i) ≡ param_word program.params inputs i (unused_word (param_reg i))
  param_reg_is zero h = stated.registers Rdi
  param_reg_is (suc zero) h = stated.registers Rsi
  param_reg_is (suc (suc zero)) h = stated.registers Rdx
  param_reg_is (suc (suc (suc zero))) h = stated.registers Rcx
  param_reg_is (suc (suc (suc (suc zero)))) h = stated.registers R8
  param_reg_is (suc (suc (suc (suc (suc zero))))) h = stated.registers R9
  param_reg_is (suc (suc (suc (suc (suc (suc i)))))) h = absurd (omega (arith, h))

  -- an array begins at its address
  array_begins : (i word : ℕ) → word < array_words program.params i → reg s (param_reg i) ≡ array_address i
  array_begins i word h =
      let few : i < length program.params = array_below program.params i word h in
      let six : length program.params ≤ 6 = ok.six in
      param_reg_is i (omega (arith, few, six)) ∙ address_at (slice_get program.params i) (array_address i) _ _ word h

  -- a scalar's register holds it
  scalar_held : (i : ℕ) → 0 < words_if is_scalar program.params i
      → reg s (param_reg i) ≡ input_word program.params inputs i 0
  scalar_held i h =
      let few : i < length program.params = scalar_below program.params i h in
      let six : length program.params ≤ 6 = ok.six in
      param_reg_is i (omega (arith, few, six)) ∙ scalar_at (slice_get program.params i) (array_address i) _ _ h

  -- a word of an array is there
  array_held : (i word : ℕ) → word < array_words program.params i
      → map.get s.cells (address_of s (frame_of lines) (Array i) word) ≡ Some (array_cell program.params inputs i word)
  array_held i word h =
      ap (λ r. map.get s.cells (r + 8 * word)) (array_begins i word h)
      ∙ (stated.cells (array_address i + 8 * word)
      ∙ array_stated program.params (frame_of lines) inputs ok words (frame_is lines).most
      (frame_is lines).eights i word h)

  -- the stack is filled
  stack_held : (address : ℕ) → address % 8 ≡ 0 → stack_address - frame_of lines ≤ address → address ≤ stack_address
      → map.get s.cells address ≡ Some filling
  stack_held address aligned from to =
      stated.cells address ∙ stack_stated program.params (frame_of lines) inputs ok words (frame_is lines).most
      (frame_is lines).eights address aligned from to

  -- each area is there
  area_there : (area : Area) (word : ℕ) → word < area_words program.params (frame_of lines) area
      → IsSome (map.get s.cells (address_of s (frame_of lines) area word))
  area_there (Array i) word h = ap is_some (array_held i word h)
  area_there Frame word h =
      let e : reg s Rsp ≡ stack_address = stated.registers Rsp in
      let most : frame_of lines ≤ 32816 = (frame_is lines).most in
      let eights : frame_of lines % 8 ≡ 0 = (frame_is lines).eights in
      ap is_some (stack_held _ (omega (arith, e, most, eights)) (omega (arith, e, most)) (omega (arith, e, most, h)))
  area_there Return word h =
      let e : reg s Rsp ≡ stack_address = stated.registers Rsp in
      ap is_some (stack_held _ (omega (arith, e, h)) (omega (arith, e, h)) (omega (arith, e, h)))

  -- a word of an array stands under the stack
  array_under : (i word : ℕ) → word < array_words program.params i
      → address_of s (frame_of lines) (Array i) word < 458752
  array_under i word h =
      let few : i < length program.params = array_below program.params i word h in
      let six : length program.params ≤ 6 = ok.six in
      let short : array_words program.params i ≤ 32 = ok.short i in
      let e : reg s (param_reg i) ≡ array_address i = array_begins i word h in
      omega (arith, few, six, short, e, h)

  -- two arrays share no cell
  arrays_apart : (p q i j : ℕ) → Array p ≢ Array q → i < array_words program.params p → j < array_words program.params q
      → address_of s (frame_of lines) (Array p) i ≢ address_of s (frame_of lines) (Array q) j
  arrays_apart p q i j other h k e =
      let ep : reg s (param_reg p) ≡ array_address p = array_begins p i h in
      let eq : reg s (param_reg q) ≡ array_address q = array_begins q j k in
      let short_p : array_words program.params p ≤ 32 = ok.short p in
      let short_q : array_words program.params q ≤ 32 = ok.short q in
      let same : p ≡ q = omega (arith, ep, eq, short_p, short_q, h, k, e) in
      other (ap Array same)

  -- no two areas share a cell
  areas_apart : (a b : Area) → a ≢ b → AreApart s program.params (frame_of lines) a b
  areas_apart (Array p) (Array q) other i j h k e = arrays_apart p q i j other h k e
  areas_apart (Array p) Frame other i j h k e =
      let under : address_of s (frame_of lines) (Array p) i < 458752 = array_under p i h in
      let r : reg s Rsp ≡ stack_address = stated.registers Rsp in
      let most : frame_of lines ≤ 32816 = (frame_is lines).most in
      omega (arith, under, r, most, e)
  areas_apart (Array p) Return other i j h k e =
      let under : address_of s (frame_of lines) (Array p) i < 458752 = array_under p i h in
      let r : reg s Rsp ≡ stack_address = stated.registers Rsp in
      omega (arith, under, r, e)
  areas_apart Frame (Array q) other i j h k e =
      let under : address_of s (frame_of lines) (Array q) j < 458752 = array_under q j k in
      let r : reg s Rsp ≡ stack_address = stated.registers Rsp in
      let most : frame_of lines ≤ 32816 = (frame_is lines).most in
      omega (arith, under, r, most, e)
  areas_apart Frame Frame other i j h k e = other refl
  areas_apart Frame Return other i j h k e =
      let r : reg s Rsp ≡ stack_address = stated.registers Rsp in
      let most : frame_of lines ≤ 32816 = (frame_is lines).most in
      omega (arith, r, most, e, h, k)
  areas_apart Return (Array q) other i j h k e =
      let under : address_of s (frame_of lines) (Array q) j < 458752 = array_under q j k in
      let r : reg s Rsp ≡ stack_address = stated.registers Rsp in
      omega (arith, under, r, e)
  areas_apart Return Frame other i j h k e =
      let r : reg s Rsp ≡ stack_address = stated.registers Rsp in
      let most : frame_of lines ≤ 32816 = (frame_is lines).most in
      omega (arith, r, most, e, h, k)
  areas_apart Return Return other i j h k e = other refl

  -- an array does not pass the end of the address space, and is aligned
  array_ends : (i : ℕ) → 0 < array_words program.params i
      → reg s (param_reg i) + 8 * array_words program.params i ≤ 2 ^ 64
  array_ends i h =
      let few : i < length program.params = array_below program.params i 0 h in
      let six : length program.params ≤ 6 = ok.six in
      let short : array_words program.params i ≤ 32 = ok.short i in
      let e : reg s (param_reg i) ≡ array_address i = array_begins i 0 h in
      omega (arith, few, six, short, e)

  array_aligned : (i : ℕ) → 0 < array_words program.params i → reg s (param_reg i) % 8 ≡ 0
  array_aligned i h = let e : reg s (param_reg i) ≡ array_address i = array_begins i 0 h in omega (arith, e)

  -- an input array holds the inputs
  input_held : (i word : ℕ) → word < input_array_words program.params i
      → map.get s.cells (address_of s (frame_of lines) (Array i) word) ≡ Some (input_word program.params inputs i word)
  input_held i word h =
      let le : input_array_words program.params i ≤ array_words program.params i =
      input-le-array program.params i in
      array_held i word (omega (arith, le, h)) ∙ ap Some (input_at (slice_get program.params i) _ word h)

  -- the stated state is a start
  pub stated_is_start : AreWithin inputs (input_bounds program.params) → IsStart program lines inputs s
  stated_is_start within =
      let rsp : reg s Rsp ≡ stack_address = stated.registers Rsp in
      let most : frame_of lines ≤ 32816 = (frame_is lines).most in
      let eights : frame_of lines % 8 ≡ 0 = (frame_is lines).eights in
      record {
        state = record {
          sixteen = stated.sixteen;
          registers = λ r. subst IsWord (sym (stated.registers r))
              (reg_small program.params (frame_of lines) inputs ok words most eights r);
          addresses = λ address there. address_stated program.params
              (frame_of lines) inputs ok words most eights address (subst IsSome (stated.cells address) there);
          words = λ address. subst (λ o. IfSome o IsWord) (sym (stated.cells address))
              (word_stated program.params (frame_of lines) inputs ok words most eights address);
        };
        inputs_within = within;
        there = area_there;
        aligned = array_aligned;
        ends = array_ends;
        frame_begins = omega (arith, rsp, most);
        stack_ends = omega (arith, rsp);
        stack_aligned = omega (arith, rsp);
        arrays = input_held;
        scalars = scalar_held;
        apart = λ a b other _. areas_apart a b other;
      }
