-- The lists that the code collects are the uses of each value.
use Rattle.std.proofs.Common.{◌≡◌, ◌≢◌, ℕ, zero, suc, ◌+◌, ◌-◌, ◌<◌, ◌≤◌, Bool, true, false, List, [], ◌∷◌, ◌++◌}
use Rattle.std.proofs.Common.{length}
use Rattle.std.proofs.Common.{drop, replicate, refl, sym, ap, subst, ◌∙◌, arith, inl, inr}
use Rattle.std.specs.Prelude.{cond, ◌||◌, ◌==◌, Some, map, slice_get, slice_index_or, slice_set}
use Rattle.std.specs.List.{filter, list_any, range_with_len, AllByRecursion}
use Rattle.std.specs.List.Sorted.{IsNonDecreasing}
use Rattle.std.proofs.lemmas.Bool.{cases_lt}
use Rattle.std.proofs.lemmas.Bool.Decides.{nat_tests}
use Rattle.std.proofs.lemmas.List.{append-nil, append_assoc, drop_more, length-append, length-set, length-replicate}
use Rattle.std.proofs.lemmas.List.{get_or-set_same, get_or-set_other, get_or-replicate, get_or_past}
use Rattle.std.proofs.lemmas.List.FromFn.{fill_by_all, get_or-map-range_with_len, length-map-range_with_len}
use Rattle.std.proofs.lemmas.List.FromFn.{length-range_with_len, get_or-range_with_len}
use Rattle.std.proofs.lemmas.List.Kept.{IsNonDecreasingBy-filter}
use Rattle.word_program.specs.declared.operation.Op.{Op}
use Rattle.word_program.specs.declared.operation.Operand.{Operand}
use Rattle.word_program.specs.declared.operation.Operand.TheVariants as operands
use Rattle.word_program.specs.Program.{Source}
use Rattle.word_program.specs.Values.{targets_of}
use Rattle.word_program.specs.Accepted.{IsAccepted}
use Rattle.dependency_graph.specs.Needs.{is_value_in, reads_value_in}
use Rattle.dependency_graph.specs.Transposed.{ends_with, put_last}
use Rattle.op_order.specs.declared.slot.Slot.{Slot}
use Rattle.op_order.specs.Plans.{op_at}
use Rattle.op_order.specs.Windows.{IsDefinedAmong}
use Rattle.op_order.proofs.Definers.{args_defined}
use Rattle.register_spill.specs.Uses.{uses_of, all_uses, uses_at}
use Rattle.register_spill.specs.Entering.{AreOpsWithin, entered_one, entered, args_of, entered_all}

-- ---- one slot at the end of a list

-- each slot of the list is before this one
abbrev pub AreBefore : ℕ → List ℕ → Type 0
AreBefore at list = AllByRecursion (λ n. n < at) list

last_is : (xs : List ℕ) (x : ℕ) → slice_get (xs ++ x ∷ []) (length xs) ≡ Some x
last_is [] x = refl
last_is (y ∷ ys) x = last_is ys x

test_same : (n : ℕ) → (n == n) ≡ true
test_same n = grind (arith, nat_tests)

test_less : (m n : ℕ) → m < n → (m == n) ≡ false
test_less m n h = grind (arith, nat_tests)

last_of : (xs : List ℕ) (x : ℕ) → slice_get (xs ++ x ∷ []) (length (xs ++ x ∷ []) - 1) ≡ Some x
last_of xs x =
    let e : length (xs ++ x ∷ []) - 1 ≡ length xs = omega (arith, length-append xs (x ∷ [])) in
    ap (slice_get (xs ++ x ∷ [])) e ∙ last_is xs x

ends_here : (xs : List ℕ) (x : ℕ) → ends_with x (xs ++ x ∷ []) ≡ true
ends_here xs x = rw (last_of xs x) (test_same x)

-- a list of earlier slots does not end with this one
not_last : (at : ℕ) (list : List ℕ) → AreBefore at list → ends_with at list ≡ false
not_last at [] all = refl
not_last at (x ∷ []) all = test_less x at all.0
not_last at (x ∷ y ∷ ys) all =
    let e : length (x ∷ y ∷ ys) - 1 ≡ suc (length (y ∷ ys) - 1) = omega arith in
    rw e (not_last at (y ∷ ys) all.1)

-- the list, with the slot behind it where the test says so
abbrev marked : ℕ → List ℕ → Bool → List ℕ
marked at list b = list ++ cond b (at ∷ []) []

put_marked : (at : ℕ) (list : List ℕ) (b : Bool) → AreBefore at list
    → put_last at (marked at list b) ≡ list ++ at ∷ []
unfolding put_last
put_marked at list true all = rw (ends_here list at) refl
put_marked at list false all = rw (append-nil list) (rw (not_last at list all) refl)

-- ---- one slot in the lists of its operands

abbrev reads : ℕ → Operand → Bool
reads value = is_value_in value (value + 1)

same_value : (value n : ℕ) → reads value (operands.Value n) ≡ true → n ≡ value
same_value value n e = grind (arith, nat_tests, e)

other_value : (value n : ℕ) → reads value (operands.Value n) ≡ false → value ≢ n
other_value value n e = grind (arith, nat_tests, e)

value_step : (at n value : ℕ) (uses : List (List ℕ)) (list : List ℕ) (b t : Bool) → reads value (operands.Value n) ≡ t
    → value < length uses → AreBefore at list → uses_at uses value ≡ marked at list b
    → uses_at (slice_set uses n (put_last at (uses_at uses n))) value ≡ marked at list (t || b)
value_step at n value uses list b true e h all is =
    let same : n ≡ value = same_value value n e in
    subst (λ (p : ℕ). uses_at (slice_set uses p (put_last at (uses_at uses p))) value ≡ list ++ at ∷ []) (sym same)
    (get_or-set_same uses value (put_last at (uses_at uses value)) [] h ∙ ap (put_last at) is
    ∙ put_marked at list b all)
value_step at n value uses list b false e h all is =
    get_or-set_other uses n value (put_last at (uses_at uses n)) [] (other_value value n e) ∙ is

one_step : (arg : Operand) (at value : ℕ) (uses : List (List ℕ)) (list : List ℕ) (b : Bool) → value < length uses
    → AreBefore at list → uses_at uses value ≡ marked at list b
    → uses_at (entered_one at uses arg) value ≡ marked at list (reads value arg || b)
one_step (operands.Literal word) at value uses list b h all is = is
one_step (operands.Input param word) at value uses list b h all is = is
one_step (operands.Value n) at value uses list b h all is =
    value_step at n value uses list b (reads value (operands.Value n)) refl h all is

pub one_count : (arg : Operand) (at : ℕ) (uses : List (List ℕ)) → length (entered_one at uses arg) ≡ length uses
one_count (operands.Literal word) at uses = refl
one_count (operands.Input param word) at uses = refl
one_count (operands.Value n) at uses = length-set uses n (put_last at (uses_at uses n))

or_turn : (t b r : Bool) → ((t || b) || r) ≡ (b || (t || r))
or_turn true true r = refl
or_turn true false r = refl
or_turn false true r = refl
or_turn false false r = refl

or_false : (c : Bool) → c ≡ (c || false)
or_false true = refl
or_false false = refl

entered_at : (args : List Operand) (at value : ℕ) (uses : List (List ℕ)) (list : List ℕ) (b : Bool)
    → value < length uses → AreBefore at list → uses_at uses value ≡ marked at list b
    → uses_at (entered at uses args) value ≡ marked at list (b || list_any (reads value) args)
entered_at [] at value uses list b h all is = is ∙ ap (marked at list) (or_false b)
entered_at (arg ∷ args) at value uses list b h all is =
    let next = entered_one at uses arg in
    let size : value < length next = omega (arith, h, one_count arg at uses) in
    entered_at args at value next list (reads value arg || b) size all (one_step arg at value uses list b h all is)
    ∙ ap (marked at list) (or_turn (reads value arg) b (list_any (reads value) args))

pub entered_count : (args : List Operand) (at : ℕ) (uses : List (List ℕ)) → length (entered at uses args) ≡ length uses
entered_count [] at uses = refl
entered_count (arg ∷ args) at uses = entered_count args at (entered_one at uses arg) ∙ one_count arg at uses

-- ---- all slots

-- the operation of the slot has the value as an operand
abbrev slot_reads : List Op → ℕ → ℕ → Bool
slot_reads ops value op = list_any (reads value) (args_of ops op)

-- the slots that read a value, where the first one has this number
abbrev uses_from : List Op → ℕ → ℕ → List Slot → List ℕ
uses_from ops value at [] = []
uses_from ops value at (slot ∷ slots) =
    cond (slot_reads ops value slot.op) (at ∷ []) [] ++ uses_from ops value (at + 1) slots

before_more : (list : List ℕ) (at : ℕ) (b : Bool) → AreBefore at list → AreBefore (at + 1) (marked at list b)
before_more [] at true all = (omega arith, tt)
before_more [] at false all = tt
before_more (x ∷ xs) at b all = (omega (arith, all.0), before_more xs at b all.1)

entered_all_at : (slots : List Slot) (ops : List Op) (at value : ℕ) (uses : List (List ℕ)) (list : List ℕ)
    → value < length uses → AreBefore at list → uses_at uses value ≡ list
    → uses_at (entered_all ops at uses slots) value ≡ list ++ uses_from ops value at slots
entered_all_at [] ops at value uses list h all is = is ∙ sym (append-nil list)
entered_all_at (slot ∷ slots) ops at value uses list h all is =
    let args = args_of ops slot.op in
    let one = entered_at args at value uses list false h all (is ∙ sym (append-nil list)) in
    let size : value < length (entered at uses args) = omega (arith, h, entered_count args at uses) in
    let b = slot_reads ops value slot.op in
    entered_all_at slots ops (at + 1) value (entered at uses args) (marked at list b) size
    (before_more list at b all) one
    ∙ append_assoc list (cond b (at ∷ []) []) (uses_from ops value (at + 1) slots)

entered_all_count : (slots : List Slot) (ops : List Op) (at : ℕ) (uses : List (List ℕ))
    → length (entered_all ops at uses slots) ≡ length uses
entered_all_count [] ops at uses = refl
entered_all_count (slot ∷ slots) ops at uses =
    entered_all_count slots ops (at + 1) (entered at uses (args_of ops slot.op))
    ∙ entered_count (args_of ops slot.op) at uses

use_step : (f : Bool) (at : ℕ) (rest : List ℕ) → cond f (at ∷ rest) rest ≡ cond f (at ∷ []) [] ++ rest
use_step true at rest = refl
use_step false at rest = refl

shift : (a i : ℕ) → a + 1 + i ≡ a + suc i
shift a i = omega arith

stay : (a : ℕ) → a ≡ a + 0
stay a = omega arith

zero_more : (i : ℕ) → 0 + i ≡ i
zero_more i = omega arith

-- a test of the slots, which says whether the slot there reads the value
filtered : (slots : List Slot) (ops : List Op) (test : ℕ → Bool) (at value : ℕ)
    → ((i : ℕ) → i < length slots → test (at + i) ≡ slot_reads ops value (op_at slots i))
    → filter test (range_with_len at (length slots)) ≡ uses_from ops value at slots
filtered [] ops test at value says = refl
filtered (slot ∷ slots) ops test at value says =
    let rest = filtered slots ops test (at + 1) value
    (λ i h. ap test (shift at i) ∙ says (suc i) (omega (arith, h))) in
    let here : test at ≡ slot_reads ops value slot.op = ap test (stay at) ∙ says 0 (omega arith) in
    use_step (test at) at (filter test (range_with_len (at + 1) (length slots)))
    ∙ ap (λ b. cond b (at ∷ []) [] ++ filter test (range_with_len (at + 1) (length slots))) here
    ∙ ap (λ l. cond (slot_reads ops value slot.op) (at ∷ []) [] ++ l) rest

uses_from_is : (program : Source) (slots : List Slot) (value : ℕ)
    → uses_of program slots value ≡ uses_from program.ops value 0 slots
unfolding uses_of
uses_from_is program slots value =
    filtered slots program.ops (λ at. reads_value_in program (op_at slots at) value (value + 1)) 0 value
    (λ i h. ap (λ (at : ℕ). reads_value_in program (op_at slots at) value (value + 1)) (zero_more i))

abbrev no_uses : ℕ → List (List ℕ)
no_uses n = replicate n []

no_count : (n : ℕ) → length (no_uses n) ≡ n
no_count n = length-replicate n []

-- entered from the beginning, the lists are the uses
pub uses_are : (program : Source) (slots : List Slot) (values : ℕ) → values ≡ length (targets_of program.ops)
    → entered_all program.ops 0 (replicate values []) slots ≡ all_uses program slots
uses_are program slots values e =
    fill_by_all (uses_of program slots) (entered_all program.ops 0 (replicate values []) slots) values []
    (entered_all_count slots program.ops 0 (replicate values []) ∙ length-replicate values [])
    (λ value h.
    let size : value < length (no_uses values) = omega (arith, h, no_count values) in
    entered_all_at slots program.ops 0 value (replicate values []) [] size tt (get_or-replicate values value [] [] h)
    ∙ sym (uses_from_is program slots value))
    ∙ ap (λ (n : ℕ). map (uses_of program slots) (range_with_len 0 n)) e

-- ---- the uses are ascending

range_rises : (a n : ℕ) → IsNonDecreasing (range_with_len a n)
range_rises a n i j d le w =
    let l = length-range_with_len a n in
    let x = get_or-range_with_len a n i d (omega arith) in
    let y = get_or-range_with_len a n j d (omega arith) in
    omega arith

uses_rise : (program : Source) (slots : List Slot) (value : ℕ) → IsNonDecreasing (uses_of program slots value)
unfolding uses_of
uses_rise program slots value = IsNonDecreasingBy-filter (λ (x : ℕ). x)
    (λ at. reads_value_in program (op_at slots at) value (value + 1)) (range_with_len 0 (length slots))
    (range_rises 0 (length slots))

pub all_rise : (program : Source) (slots : List Slot) (value : ℕ)
    → IsNonDecreasing (uses_at (all_uses program slots) value)
all_rise program slots value = elim (cases_lt value (length (targets_of program.ops))) [
  | inl h ↦ subst (λ (l : List ℕ). IsNonDecreasing l)
      (sym (get_or-map-range_with_len (uses_of program slots) 0 (length (targets_of program.ops)) value value [] h
      (zero_more value))) (uses_rise program slots value)
  | inr h ↦ subst (λ (l : List ℕ). IsNonDecreasing l)
      (sym (get_or_past (all_uses program slots) value []
      (past (length-map-range_with_len (uses_of program slots) 0 (length (targets_of program.ops))) h)))
      (λ i j d le w. absurd (omega arith))
]
  where
    past : {n m v : ℕ} → n ≡ m → m ≤ v → n ≤ v
    past e h = omega arith

pub all_count : (program : Source) (slots : List Slot) → length (all_uses program slots)
    ≡ length (targets_of program.ops)
all_count program slots = length-map-range_with_len (uses_of program slots) 0 (length (targets_of program.ops))

-- ---- along the loops

pub record EnteredOn (at : ℕ) (start now : List (List ℕ)) (rest : List Operand) (whole : List (List ℕ)) : Type 0 where
  pub lists : whole ≡ entered at now rest
  pub count : length now ≡ length start
  pub operands : AllByRecursion (IsDefinedAmong (length now)) rest

pub enter_kept : (at : ℕ) (start now : List (List ℕ)) (args : List Operand) (i : ℕ) (d : Operand)
    (whole new : List (List ℕ)) → i < length args → EnteredOn at start now (drop i args) whole
    → new ≡ entered_one at now (slice_index_or args i d) → EnteredOn at start new (drop (i + 1) args) whole
enter_kept at start now args i d whole new h kept is =
    let arg = slice_index_or args i d in
    let kept_here : EnteredOn at start now (arg ∷ drop (i + 1) args) whole =
    subst (λ (rest : List Operand). EnteredOn at start now rest whole) (drop_more args i d h) kept in
    let size : length new ≡ length now = ap length is ∙ one_count arg at now in
    record {
      lists = kept_here.lists ∙ ap (λ (ls : List (List ℕ)). entered at ls (drop (i + 1) args)) (sym is);
      count = size ∙ kept_here.count;
      operands = subst (λ (n : ℕ). AllByRecursion (IsDefinedAmong n) (drop (i + 1) args))
          (sym size) kept_here.operands.1;
    }

pub enter_all_kept : (ops : List Op) (at : ℕ) (now : List (List ℕ)) (slots : List Slot) (i : ℕ) (d : Slot)
    (whole new : List (List ℕ)) → i < length slots → whole ≡ entered_all ops at now (drop i slots)
    → new ≡ entered at now (args_of ops (slice_index_or slots i d).op)
    → whole ≡ entered_all ops (at + 1) new (drop (i + 1) slots)
enter_all_kept ops at now slots i d whole new h kept is =
    kept ∙ ap (entered_all ops at now) (drop_more slots i d h)
    ∙ ap (λ (ls : List (List ℕ)). entered_all ops (at + 1) ls (drop (i + 1) slots)) (sym is)

-- the operands of an operation that is there
pub args_at : (ops : List Op) (op : ℕ) (o : Op) → op < length ops → (slice_index_or ops op o).args ≡ args_of ops op
args_at [] op o h = absurd (omega arith)
args_at (x ∷ xs) zero o h = refl
args_at (x ∷ xs) (suc n) o h = args_at xs n o (omega arith)

-- the operands of each operation of a program are values of it
within_from : (values : ℕ) (ops : List Op)
    → ((k : ℕ) (d : Op) → k < length ops → AllByRecursion (IsDefinedAmong values) (slice_index_or ops k d).args)
    → AreOpsWithin values ops
within_from values [] all = tt
within_from values (op ∷ ops) all = (
  all 0 op (omega arith),
  within_from values ops (λ k d h. all (suc k) d
      (omega arith)),
)

pub ops_within : (program : Source) → IsAccepted program
    → AreOpsWithin (length (targets_of program.ops)) program.ops
ops_within program accepted = within_from (length (targets_of program.ops)) program.ops
    (args_defined program accepted.ops)
