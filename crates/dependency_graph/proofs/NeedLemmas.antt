-- The lists that the code makes are those of the definitions.
use Rattle.std.proofs.Common.{◌≡◌, ℕ, zero, suc, ◌+◌, ◌-◌, ◌<◌, ◌≤◌, Bool, true, false, List, [], ◌∷◌, ◌++◌, length}
use Rattle.std.proofs.Common.{map, take, replicate, refl, sym, zero-add, ap, subst, ◌∙◌, arith}
use Rattle.std.specs.Prelude.{cond, ◌||◌, ◌&&◌, ◌==◌, nat_lt, nat_le, Some, None, option_to_list, slice_get}
use Rattle.std.specs.Prelude.{slice_index_or}
use Rattle.std.specs.List.{filter, flat_map, list_any, range_with_len, AllByRecursion}
use Rattle.std.specs.Option.{option_map_or}
use Rattle.std.proofs.lemmas.Bool.{true≢false}
use Rattle.std.proofs.lemmas.Bool.Decides.{nat_tests}
use Rattle.std.proofs.lemmas.List.{length-append, length-map, length-replicate}
use Rattle.std.proofs.lemmas.List.Folds.{list_any-append}
use Rattle.std.proofs.lemmas.List.Elements.{filter_agree}
use Rattle.std.proofs.lemmas.List.FromFn.{length-map-range_with_len, get_or-map-range_with_len}
use Rattle.base.proofs.Arithmetic.{not_below_zero}
use Rattle.word_program.specs.declared.operation.Op.{Op}
use Rattle.word_program.specs.declared.operation.Operand.{Operand}
use Rattle.word_program.specs.declared.operation.Operand.TheVariants as operands
use Rattle.word_program.specs.Program.{Source}
use Rattle.word_program.specs.Values.{targets_of}
use Rattle.dependency_graph.specs.Needs.{first_value, operands_of, is_value_in, is_needed, all_ops, needs_of, users_of}
use Rattle.dependency_graph.specs.Needs.{graph_of, has}
use Rattle.dependency_graph.specs.Transposed.{definers_from, definers_of, definer_of, reads_of, holders, transposed}

-- ---- the operation that defines a value

-- how many results the first operations have
abbrev pub results : List Op → ℕ → ℕ
results ops n = length (targets_of (take n ops))

-- the value is a result of the operation with this number
abbrev is_result : List Op → ℕ → ℕ → Bool
is_result ops n value = nat_le (results ops n) value && nat_lt value (results ops (n + 1))

found_at : {X : Type 0} (xs ys : List X) (n : ℕ) → n < length xs → slice_get (xs ++ ys) n ≡ slice_get xs n
found_at [] ys n h = absurd (not_below_zero n h)
found_at (x ∷ xs) ys zero h = refl
found_at (x ∷ xs) ys (suc n) h = found_at xs ys n (omega arith)

found_after : {X : Type 0} (xs ys : List X) (n m : ℕ) → m ≡ length xs + n → slice_get (xs ++ ys) m ≡ slice_get ys n
found_after [] ys n m e = ap (slice_get ys) (e ∙ zero-add n)
found_after (x ∷ xs) ys n zero e = absurd (not_below_zero n (omega (arith, e)))
found_after (x ∷ xs) ys n (suc m) e = found_after xs ys n m (omega (arith, e))

found_same : {X : Type 0} (n : ℕ) (x : X) (k : ℕ) → k < n → slice_get (replicate n x) k ≡ Some x
found_same zero x k h = absurd (not_below_zero k h)
found_same (suc n) x zero h = refl
found_same (suc n) x (suc k) h = found_same n x k (omega arith)

-- a value of the first operation
maker_here : (op : Op) (ops : List Op) (number value : ℕ) → value < length op.targets
    → slice_get (definers_from number (op ∷ ops)) value ≡ Some number
maker_here op ops number value h =
    let size : value < length (replicate (length op.targets) number) =
    omega (arith, h, length-replicate (length op.targets) number) in
    found_at (replicate (length op.targets) number) (definers_from (number + 1) ops) value size
    ∙ found_same (length op.targets) number value h

-- a value of a later one
maker_later : (op : Op) (ops : List Op) (number value : ℕ) → length op.targets ≤ value
    → slice_get (definers_from number (op ∷ ops)) value ≡ slice_get (definers_from (number + 1) ops)
    (value - length op.targets)
maker_later op ops number value h = found_after (replicate (length op.targets) number) (definers_from (number + 1) ops)
    (value - length op.targets) value (omega (arith, h, length-replicate (length op.targets) number))

-- the value is defined by the operation with this number
abbrev has_at : ℕ → List ℕ → ℕ → Bool
has_at number definers value = has number (option_to_list (slice_get definers value))

-- what holds of a value of the first operation, and of one of a later one
by_maker : (op : Op) (ops : List Op) (number n value : ℕ) (test : Bool)
    → (value < length op.targets → (number == n) ≡ test)
    → (length op.targets ≤ value → has_at n (definers_from (number + 1) ops) (value - length op.targets) ≡ test)
    → has_at n (definers_from number (op ∷ ops)) value ≡ test
by_maker op ops number n value test here later = on (nat_lt value (length op.targets)) refl
  where
    or_none : (b : Bool) → (b || false) ≡ b
    or_none true = refl
    or_none false = refl

    on : (b : Bool) → nat_lt value (length op.targets) ≡ b → has_at n (definers_from number (op ∷ ops)) value ≡ test
    on true e =
        let first : value < length op.targets = grind (arith, nat_tests, e) in
        ap (λ o. has n (option_to_list o)) (maker_here op ops number value first) ∙ or_none (number == n) ∙ here first
    on false e =
        let after : length op.targets ≤ value = grind (arith, nat_tests, e) in
        ap (λ o. has n (option_to_list o)) (maker_later op ops number value after) ∙ later after

-- no operation before them defines one of their values
no_smaller : (ops : List Op) (number small value : ℕ) → small < number
    → has_at small (definers_from number ops) value ≡ false
no_smaller [] number small value h = refl
no_smaller (op ∷ ops) number small value h =
    by_maker op ops number small value false (λ e. grind (arith, nat_tests, h))
    (λ e. no_smaller ops (number + 1) small (value - length op.targets) (omega (arith, h)))

pub results_more : (op : Op) (ops : List Op) (n m : ℕ) → m ≡ suc n
    → results (op ∷ ops) m ≡ length op.targets + results ops n
results_more op ops n m e = subst (λ k. results (op ∷ ops) k ≡ length op.targets + results ops n) (sym e)
    (length-append op.targets (targets_of (take n ops)))

-- a result of the first operation
first_result : (op : Op) (ops : List Op) (value : ℕ) (b : Bool) → nat_lt value (length op.targets) ≡ b
    → is_result (op ∷ ops) 0 value ≡ b
first_result op ops value b e = grind (arith, nat_tests, e, results_more op ops 0 1 refl)

later_result : (op : Op) (ops : List Op) (n value : ℕ) → length op.targets ≤ value
    → is_result ops n (value - length op.targets) ≡ is_result (op ∷ ops) (suc n) value
later_result op ops n value h =
    let low : nat_le (results ops n) (value - length op.targets) ≡ nat_le (results (op ∷ ops) (suc n)) value =
    grind (arith, nat_tests, results_more op ops n (suc n) refl, h) in
    let high : nat_lt (value - length op.targets) (results ops (n + 1)) ≡ nat_lt value
    (results (op ∷ ops) (suc n + 1)) = grind
    (arith, nat_tests, results_more op ops (n + 1) (suc n + 1) (omega arith), h) in
    rw (low, high) refl

no_later_result : (op : Op) (ops : List Op) (n value : ℕ) → value < length op.targets
    → is_result (op ∷ ops) (suc n) value ≡ false
no_later_result op ops n value h = grind (arith, nat_tests, h, results_more op ops n (suc n) refl)

no_result : (n value : ℕ) → is_result [] n value ≡ false
no_result zero value = grind (arith, nat_tests)
no_result (suc n) value = grind (arith, nat_tests)

-- the operation of a value is the one that it is a result of
pub maker_is : (ops : List Op) (number n m value : ℕ) → m ≡ number + n
    → has_at m (definers_from number ops) value ≡ is_result ops n value
maker_is [] number n m value e = sym (no_result n value)
maker_is (op ∷ ops) number zero m value e =
    by_maker op ops number m value (is_result (op ∷ ops) 0 value)
    (λ h. let same : (number == m) ≡ true = grind (arith, nat_tests, e) in
    same ∙ sym (first_result op ops value true (grind (arith, nat_tests, h))))
    (λ h. no_smaller ops (number + 1) m (value - length op.targets) (omega (arith, e))
    ∙ sym (first_result op ops value false (grind (arith, nat_tests, h))))
maker_is (op ∷ ops) number (suc n) m value e =
    by_maker op ops number m value (is_result (op ∷ ops) (suc n) value)
    (λ h. let other : (number == m) ≡ false = grind (arith, nat_tests, e) in
    other ∙ sym (no_later_result op ops n value h))
    (λ h. maker_is ops (number + 1) n m (value - length op.targets) (omega (arith, e)) ∙ later_result op ops n value h)

-- ---- the operations that an operation needs

has_append : (m : ℕ) (xs ys : List ℕ) → has m (xs ++ ys) ≡ (has m xs || has m ys)
has_append m xs ys = list_any-append (λ n. n == m) xs ys

-- an operand's operation is this one exactly where the operand is a result of it
reads_operand : (program : Source) (m : ℕ) (operand : Operand)
    → has m (definer_of (definers_of program.ops) operand) ≡ is_value_in (first_value program m)
    (first_value program (m + 1)) operand
unfolding first_value
reads_operand program m (operands.Literal word) = refl
reads_operand program m (operands.Input param word) = refl
reads_operand program m (operands.Value value) = maker_is program.ops 0 m m value (sym (zero-add m))

reads_operands : (program : Source) (m : ℕ) (args : List Operand)
    → has m (flat_map (definer_of (definers_of program.ops)) args) ≡ list_any
    (is_value_in (first_value program m) (first_value program (m + 1))) args
reads_operands program m [] = refl
reads_operands program m (operand ∷ args) =
    has_append m (definer_of (definers_of program.ops) operand) (flat_map (definer_of (definers_of program.ops)) args)
    ∙ ap (λ b. b || has m (flat_map (definer_of (definers_of program.ops)) args)) (reads_operand program m operand)
    ∙ ap (λ b. is_value_in (first_value program m) (first_value program (m + 1)) operand || b)
    (reads_operands program m args)

-- the operations that define the operands of each operation
abbrev pub all_reads : Source → List (List ℕ)
all_reads program = map (reads_of (definers_of program.ops)) program.ops

reads_at : (program : Source) (m : ℕ) (ops : List Op) (n : ℕ)
    → has m (slice_index_or (map (reads_of (definers_of program.ops)) ops) n []) ≡ list_any
    (is_value_in (first_value program m) (first_value program (m + 1)))
    (option_map_or (λ o. o.args) (slice_get ops n) [])
reads_at program m [] n = refl
reads_at program m (op ∷ ops) zero = reads_operands program m op.args
reads_at program m (op ∷ ops) (suc n) = reads_at program m ops n

-- they are those that it needs
reads_need : (program : Source) (op other : ℕ)
    → has other (slice_index_or (all_reads program) op []) ≡ is_needed program op other
unfolding is_needed
reads_need program op other = reads_at program other program.ops op

-- ---- there is nothing past the last operation

no_operand : (first end : ℕ) → end ≤ first → (args : List Operand) → list_any (is_value_in first end) args ≡ false
no_operand first end h [] = refl
no_operand first end h (operands.Literal word ∷ args) = no_operand first end h args
no_operand first end h (operands.Input param word ∷ args) = no_operand first end h args
no_operand first end h (operands.Value value ∷ args) =
    let outside : (nat_le first value && nat_lt value end) ≡ false = grind (arith, nat_tests, h) in
    rw outside (no_operand first end h args)

pub take_past : {X : Type 0} (xs : List X) (n : ℕ) → length xs ≤ n → take n xs ≡ xs
take_past [] zero h = refl
take_past [] (suc n) h = refl
take_past (x ∷ xs) zero h = absurd (not_below_zero 0 (omega (arith, h)))
take_past (x ∷ xs) (suc n) h = ap (λ l. x ∷ l) (take_past xs n (omega arith))

-- an operation that is not there is not needed
pub needed_within : (program : Source) (op other : ℕ) → length program.ops ≤ other → is_needed program op other ≡ false
unfolding is_needed first_value
needed_within program op other h =
    let same : results program.ops (other + 1) ≡ results program.ops other =
    ap (λ ops. length (targets_of ops)) (take_past program.ops (other + 1) (omega arith)
    ∙ sym (take_past program.ops other h)) in
    no_operand (results program.ops other) (results program.ops (other + 1)) (omega (arith, same))
    (operands_of program op)

past : {X : Type 0} (xs : List X) (n : ℕ) → length xs ≤ n → slice_get xs n ≡ None
past [] n h = refl
past (x ∷ xs) zero h = absurd (not_below_zero 0 (omega (arith, h)))
past (x ∷ xs) (suc n) h = past xs n (omega arith)

-- an operation that is not there needs none
pub needs_within : (program : Source) (op other : ℕ) → length program.ops ≤ op → is_needed program op other ≡ false
unfolding is_needed
needs_within program op other h = ap (λ o. list_any
    (is_value_in (first_value program other) (first_value program (other + 1))) (option_map_or (λ p. p.args) o []))
    (past program.ops op h)

-- ---- numbers that pass a test

has_outside : (test : ℕ → Bool) (from count m : ℕ) → m < from → has m (filter test (range_with_len from count)) ≡ false
has_outside test from zero m h = refl
has_outside test from (suc count) m h = on (test from) (has_outside test (from + 1) count m (omega (arith, h)))
  where
    on : (b : Bool) → has m (filter test (range_with_len (from + 1) count)) ≡ false
        → has m (cond b (from ∷ filter test (range_with_len (from + 1) count))
        (filter test (range_with_len (from + 1) count))) ≡ false
    on true rest =
        let other : (from == m) ≡ false = grind (arith, nat_tests, h) in
        rw other rest
    on false rest = rest

-- a number is kept exactly where it is in range and passes
has_filtered : (test : ℕ → Bool) (count from m i : ℕ) → m ≡ from + i
    → has m (filter test (range_with_len from count)) ≡ (nat_lt i count && test m)
has_filtered test zero from m i e = grind (arith, nat_tests)
has_filtered test (suc count) from m zero e =
    let none = has_outside test (from + 1) count m (omega (arith, e)) in
    let same : from ≡ m = omega (arith, e) in
    subst (λ n. has n (filter test (range_with_len from (suc count))) ≡ (nat_lt 0 (suc count) && test n)) same
    (on (test from) (has_outside test (from + 1) count from (omega arith)))
  where
    on : (b : Bool) → has from (filter test (range_with_len (from + 1) count)) ≡ false
        → has from (cond b (from ∷ filter test (range_with_len (from + 1) count))
        (filter test (range_with_len (from + 1) count))) ≡ (nat_lt 0 (suc count) && b)
    on true rest =
        let here : (from == from) ≡ true = grind (arith, nat_tests) in
        let some : nat_lt 0 (suc count) ≡ true = grind (arith, nat_tests) in
        rw (here, some) refl
    on false rest =
        let some : nat_lt 0 (suc count) ≡ true = grind (arith, nat_tests) in
        rw (rest, some) refl
has_filtered test (suc count) from m (suc i) e =
    on (test from) (has_filtered test count (from + 1) m i (omega (arith, e)))
  where
    on : (b : Bool) → has m (filter test (range_with_len (from + 1) count)) ≡ (nat_lt i count && test m)
        → has m (cond b (from ∷ filter test (range_with_len (from + 1) count))
        (filter test (range_with_len (from + 1) count))) ≡ (nat_lt (suc i) (suc count) && test m)
    on true rest =
        let other : (from == m) ≡ false = grind (arith, nat_tests, e) in
        let same : nat_lt (suc i) (suc count) ≡ nat_lt i count = grind (arith, nat_tests) in
        rw (other, same) rest
    on false rest =
        let same : nat_lt (suc i) (suc count) ≡ nat_lt i count = grind (arith, nat_tests) in
        rw same rest

-- a test that fails past the range is what the list of those that pass it has
kept : (test : ℕ → Bool) (count m : ℕ) → (count ≤ m → test m ≡ false)
    → has m (filter test (range_with_len 0 count)) ≡ test m
kept test count m fails = has_filtered test count 0 m m (sym (zero-add m)) ∙ on (nat_lt m count) refl
  where
    on : (b : Bool) → nat_lt m count ≡ b → (b && test m) ≡ test m
    on true e = refl
    on false e =
        let out : count ≤ m = grind (arith, nat_tests, e) in
        sym (fails out)

-- the needs are the operations of which `is_needed` says so, and the users those that say so
pub has_needs : (program : Source) (op other : ℕ) → has other (needs_of program op) ≡ is_needed program op other
unfolding needs_of
has_needs program op other = kept (is_needed program op) (length program.ops) other (needed_within program op other)

pub has_users : (program : Source) (op other : ℕ) → has op (users_of program other) ≡ is_needed program op other
unfolding users_of
has_users program op other = kept (λ user. is_needed program user other) (length program.ops) op
    (needs_within program op other)

-- ---- the lists transposed

map_same : {X Y : Type 0} (f g : X → Y) → ((x : X) → f x ≡ g x) → (xs : List X) → map f xs ≡ map g xs
map_same f g same [] = refl
map_same f g same (x ∷ xs) = ap (λ y. y ∷ map f xs) (same x) ∙ ap (λ ys. g x ∷ ys) (map_same f g same xs)

-- lists of which each holds exactly the numbers that a test says, transposed
transposed_by : (lists : List (List ℕ)) (test : ℕ → ℕ → Bool) (n : ℕ) → length lists ≡ n
    → ((place m : ℕ) → has m (slice_index_or lists place []) ≡ test place m)
    → transposed lists ≡ map (λ m. filter (λ place. test place m) (range_with_len 0 n)) (range_with_len 0 n)
unfolding transposed
transposed_by lists test n count says =
    map_same (holders lists) (λ m. filter (λ place. test place m) (range_with_len 0 n))
    (λ m. ap (λ k. filter (λ place. has m (slice_index_or lists place [])) (range_with_len 0 k)) count
    ∙ filter_agree _ _ (λ place. says place m) (range_with_len 0 n)) (range_with_len 0 (length lists))
    ∙ ap (λ k. map (λ m. filter (λ place. test place m) (range_with_len 0 n)) (range_with_len 0 k)) count

pub reads_count : (program : Source) → length (all_reads program) ≡ length program.ops
reads_count program = length-map program.ops (reads_of (definers_of program.ops))

-- the lists of what is read, transposed, are the users
pub transposed_reads : (program : Source) → transposed (all_reads program) ≡ map (users_of program) (all_ops program)
unfolding users_of
transposed_reads program = transposed_by (all_reads program) (is_needed program) (length program.ops)
    (reads_count program) (reads_need program)

pub users_count : (program : Source) → length (map (users_of program) (all_ops program)) ≡ length program.ops
users_count program = length-map-range_with_len (users_of program) 0 (length program.ops)

pub get_past : {X : Type 0} (xs : List X) (n : ℕ) (other : X) → length xs ≤ n → slice_index_or xs n other ≡ other
get_past [] n other h = refl
get_past (x ∷ xs) zero other h = absurd (not_below_zero 0 (omega (arith, h)))
get_past (x ∷ xs) (suc n) other h = get_past xs n other (omega arith)

users_say : (program : Source) (op user : ℕ)
    → has user (slice_index_or (map (users_of program) (all_ops program)) op []) ≡ is_needed program user op
users_say program op user = on (nat_lt op (length program.ops)) refl
  where
    on : (b : Bool) → nat_lt op (length program.ops) ≡ b
        → has user (slice_index_or (map (users_of program) (all_ops program)) op []) ≡ is_needed program user op
    on true e =
        let there : op < length program.ops = grind (arith, nat_tests, e) in
        ap (has user) (get_or-map-range_with_len (users_of program) 0 (length program.ops) op op [] there
        (zero-add op)) ∙ has_users program user op
    on false e =
        let out : length program.ops ≤ op = grind (arith, nat_tests, e) in
        ap (has user) (get_past (map (users_of program) (all_ops program)) op []
        (omega (arith, out, users_count program))) ∙ sym (needed_within program user op out)

-- the users, transposed, are the needs
pub transposed_users : (program : Source)
    → transposed (map (users_of program) (all_ops program)) ≡ map (needs_of program) (all_ops program)
unfolding needs_of
transposed_users program = transposed_by (map (users_of program) (all_ops program))
    (λ op user. is_needed program user op) (length program.ops) (users_count program) (users_say program)

-- the graph is the users, and they transposed
pub graph_is : (program : Source) (needs users : List (List ℕ)) → users ≡ transposed (all_reads program)
    → needs ≡ transposed users → record { needs = needs; users = users } ≡ graph_of program
graph_is program needs users u n =
    let users_are = u ∙ transposed_reads program in
    let needs_are = n ∙ ap transposed users_are ∙ transposed_users program in
    ap (λ (l : List (List ℕ)). record { needs = l; users = users }) needs_are
    ∙ ap (λ (l : List (List ℕ)). record { needs = map (needs_of program) (all_ops program); users = l }) users_are

-- ---- the numbers of the lists are those of operations

below_by : (list : List ℕ) (n : ℕ) → ((m : ℕ) → n ≤ m → has m list ≡ false) → AllByRecursion (λ m. m < n) list
below_by [] n none = tt
below_by (x ∷ xs) n none = (first (nat_lt x n) refl, below_by xs n (λ m h. rest m (x == m) (none m h)))
  where
    here : (x == x) ≡ true
    here = grind (arith, nat_tests)

    first : (b : Bool) → nat_lt x n ≡ b → x < n
    first true e = grind (arith, nat_tests, e)
    first false e =
        let out : n ≤ x = grind (arith, nat_tests, e) in
        absurd (true≢false (sym (ap (λ b. b || has x xs) here) ∙ none x out))

    rest : (m : ℕ) (b : Bool) → (b || has m xs) ≡ false → has m xs ≡ false
    rest m true e = absurd (true≢false e)
    rest m false e = e

all_below : (lists : List (List ℕ)) (n : ℕ) → ((place m : ℕ) → n ≤ m → has m (slice_index_or lists place []) ≡ false)
    → AllByRecursion (AllByRecursion (λ m. m < n)) lists
all_below [] n none = tt
all_below (list ∷ lists) n none = (below_by list n (none 0), all_below lists n (λ place m h. none (suc place) m h))

pub reads_below : (program : Source) → AllByRecursion (AllByRecursion (λ m. m < length (all_reads program)))
    (all_reads program)
reads_below program = subst (λ n. AllByRecursion (AllByRecursion (λ m. m < n)) (all_reads program))
    (sym (reads_count program)) (all_below (all_reads program) (length program.ops)
    (λ place m h. reads_need program place m ∙ needed_within program place m h))

pub users_below : (program : Source) → AllByRecursion
    (AllByRecursion (λ m. m < length (map (users_of program) (all_ops program))))
    (map (users_of program) (all_ops program))
users_below program = subst (λ n. AllByRecursion (AllByRecursion (λ m. m < n))
    (map (users_of program) (all_ops program))) (sym (users_count program))
    (all_below (map (users_of program) (all_ops program)) (length program.ops)
    (λ place m h. users_say program place m ∙ needs_within program m place h))

-- ---- along the code

pub reads_are : (program : Source) (ops : List Op) (definers : List ℕ) → ops ≡ program.ops → definers ≡ definers_of ops
    → map (reads_of definers) ops ≡ all_reads program
reads_are program ops definers e f = ap (λ l. map (reads_of l) ops) f ∙ ap (λ l. map (reads_of (definers_of l)) l) e
