-- Entering each list's number into the lists that it names transposes the lists.
use Rattle.std.proofs.Common.{◌≡◌, ◌≢◌, ℕ, zero, suc, ◌+◌, ◌-◌, ◌<◌, Bool, true, false, List, [], ◌∷◌, ◌++◌, length}
use Rattle.std.proofs.Common.{drop, replicate, refl, sym, ap, subst, ◌∙◌, arith}
use Rattle.std.specs.Prelude.{cond, ◌||◌, ◌==◌, Some, slice_get, slice_index_or, slice_set}
use Rattle.std.specs.List.{filter, range_with_len, AllByRecursion}
use Rattle.std.proofs.lemmas.Bool.Decides.{nat_tests}
use Rattle.std.proofs.lemmas.List.{append-nil, append_assoc, drop_more, length-append, length-set, length-replicate}
use Rattle.std.proofs.lemmas.List.{get_or-set_same, get_or-set_other, get_or-replicate}
use Rattle.std.proofs.lemmas.List.FromFn.{fill_by_all}
use Rattle.base.proofs.Arithmetic.{not_below_zero}
use Rattle.dependency_graph.specs.Needs.{has}
use Rattle.dependency_graph.specs.Transposed.{holders, transposed, ends_with, put_last, entered, entered_all}

test_same : (n : ℕ) → (n == n) ≡ true
test_same n = grind (arith, nat_tests)

test_less : (m n : ℕ) → m < n → (m == n) ≡ false
test_less m n h = grind (arith, nat_tests)

other_default : (lists : List (List ℕ)) (n : ℕ) (other : List ℕ) → n < length lists
    → slice_index_or lists n other ≡ slice_index_or lists n []
other_default [] n other h = absurd (not_below_zero n h)
other_default (x ∷ xs) zero other h = refl
other_default (x ∷ xs) (suc n) other h = other_default xs n other (omega arith)

-- ---- one number at the end of a list

-- each number of the list is below this one
abbrev pub AreBelow : ℕ → List ℕ → Type 0
AreBelow number list = AllByRecursion (λ n. n < number) list

last_is : (xs : List ℕ) (x : ℕ) → slice_get (xs ++ x ∷ []) (length xs) ≡ Some x
last_is [] x = refl
last_is (y ∷ ys) x = last_is ys x

last_of : (xs : List ℕ) (x : ℕ) → slice_get (xs ++ x ∷ []) (length (xs ++ x ∷ []) - 1) ≡ Some x
last_of xs x =
    let e : length (xs ++ x ∷ []) - 1 ≡ length xs = omega (arith, length-append xs (x ∷ [])) in
    ap (slice_get (xs ++ x ∷ [])) e ∙ last_is xs x

ends_here : (xs : List ℕ) (x : ℕ) → ends_with x (xs ++ x ∷ []) ≡ true
ends_here xs x = rw (last_of xs x) (test_same x)

-- a list whose numbers are below this one does not end with it
not_last : (number : ℕ) (list : List ℕ) → AreBelow number list → ends_with number list ≡ false
not_last number [] all = refl
not_last number (x ∷ []) all = test_less x number all.0
not_last number (x ∷ y ∷ ys) all =
    let e : length (x ∷ y ∷ ys) - 1 ≡ suc (length (y ∷ ys) - 1) = omega arith in
    rw e (not_last number (y ∷ ys) all.1)

put_new : (number : ℕ) (list : List ℕ) → AreBelow number list → put_last number list ≡ list ++ number ∷ []
unfolding put_last
put_new number list all = rw (not_last number list all) refl

put_again : (number : ℕ) (list : List ℕ) → put_last number (list ++ number ∷ []) ≡ list ++ number ∷ []
unfolding put_last
put_again number list = rw (ends_here list number) refl

-- the list, with the number behind it where the test says so
abbrev marked : ℕ → List ℕ → Bool → List ℕ
marked number list b = list ++ cond b (number ∷ []) []

put_marked : (number : ℕ) (list : List ℕ) (b : Bool) → AreBelow number list
    → put_last number (marked number list b) ≡ list ++ number ∷ []
put_marked number list true all = put_again number list
put_marked number list false all = ap (put_last number) (append-nil list) ∙ put_new number list all

-- ---- one number in the lists at some places

-- a list after its number is at one place more
enter_step : (number place m : ℕ) (lists : List (List ℕ)) (list : List ℕ) (b t : Bool) → (place == m) ≡ t
    → m < length lists → AreBelow number list → slice_index_or lists m [] ≡ marked number list b
    → slice_index_or (slice_set lists place (put_last number (slice_index_or lists place []))) m []
    ≡ marked number list (t || b)
enter_step number place m lists list b true e h all is =
    let same : place ≡ m = grind (arith, nat_tests, e) in
    subst (λ p. slice_index_or (slice_set lists p (put_last number (slice_index_or lists p []))) m [] ≡ list ++ number
    ∷ []) (sym same)
    (get_or-set_same lists m (put_last number (slice_index_or lists m [])) [] h ∙ ap (put_last number) is
    ∙ put_marked number list b all)
enter_step number place m lists list b false e h all is =
    let other : m ≢ place = grind (arith, nat_tests, e) in
    get_or-set_other lists place m (put_last number (slice_index_or lists place [])) [] other ∙ is

or_turn : (t b r : Bool) → ((t || b) || r) ≡ (b || (t || r))
or_turn true true r = refl
or_turn true false r = refl
or_turn false true r = refl
or_turn false false r = refl

entered_at : (places : List ℕ) (number m : ℕ) (lists : List (List ℕ)) (list : List ℕ) (b : Bool) → m < length lists
    → AreBelow number list → slice_index_or lists m [] ≡ marked number list b
    → slice_index_or (entered number lists places) m [] ≡ marked number list (b || has m places)
entered_at [] number m lists list b h all is = is ∙ ap (marked number list) (or_false b)
  where
    or_false : (c : Bool) → c ≡ (c || false)
    or_false true = refl
    or_false false = refl
entered_at (place ∷ places) number m lists list b h all is =
    let next = slice_set lists place (put_last number (slice_index_or lists place [])) in
    let one = enter_step number place m lists list b (place == m) refl h all is in
    let size : m < length next = omega (
      arith,
      h,
      length-set lists place (put_last number (slice_index_or lists place [])),
    ) in
    entered_at places number m next list ((place == m) || b) size all one
    ∙ ap (marked number list) (or_turn (place == m) b (has m places))

entered_count : (places : List ℕ) (number : ℕ) (lists : List (List ℕ))
    → length (entered number lists places) ≡ length lists
entered_count [] number lists = refl
entered_count (place ∷ places) number lists =
    let next = slice_set lists place (put_last number (slice_index_or lists place [])) in
    entered_count places number next ∙ length-set lists place (put_last number (slice_index_or lists place []))

-- ---- the numbers of all lists

-- the numbers of the lists that hold m, where the first list has this number
abbrev holders_from : ℕ → ℕ → List (List ℕ) → List ℕ
holders_from number m [] = []
holders_from number m (places ∷ sources) = cond (has m places) (number ∷ []) [] ++ holders_from (number + 1) m sources

below_more : (list : List ℕ) (number : ℕ) (b : Bool) → AreBelow number list
    → AreBelow (number + 1) (marked number list b)
below_more [] number true all = (omega arith, tt)
below_more [] number false all = tt
below_more (x ∷ xs) number b all = (omega (arith, all.0), below_more xs number b all.1)

entered_all_at : (sources : List (List ℕ)) (number m : ℕ) (lists : List (List ℕ)) (list : List ℕ) → m < length lists
    → AreBelow number list → slice_index_or lists m [] ≡ list
    → slice_index_or (entered_all number lists sources) m [] ≡ list ++ holders_from number m sources
entered_all_at [] number m lists list h all is = is ∙ sym (append-nil list)
entered_all_at (places ∷ sources) number m lists list h all is =
    let one = entered_at places number m lists list false h all (is ∙ sym (append-nil list)) in
    let size : m < length (entered number lists places) = omega (arith, h, entered_count places number lists) in
    entered_all_at sources (number + 1) m (entered number lists places) (marked number list (has m places)) size
    (below_more list number (has m places) all) one
    ∙ append_assoc list (cond (has m places) (number ∷ []) []) (holders_from (number + 1) m sources)

entered_all_count : (sources : List (List ℕ)) (number : ℕ) (lists : List (List ℕ))
    → length (entered_all number lists sources) ≡ length lists
entered_all_count [] number lists = refl
entered_all_count (places ∷ sources) number lists =
    entered_all_count sources (number + 1) (entered number lists places) ∙ entered_count places number lists

holders_step : (f : Bool) (number : ℕ) (rest : List ℕ) → cond f (number ∷ rest) rest ≡ cond f (number ∷ []) [] ++ rest
holders_step true number rest = refl
holders_step false number rest = refl

-- a test of the places, which says whether the list there holds m
filtered : (sources : List (List ℕ)) (test : ℕ → Bool) (number m : ℕ)
    → ((i : ℕ) → i < length sources → test (number + i) ≡ has m (slice_index_or sources i []))
    → filter test (range_with_len number (length sources)) ≡ holders_from number m sources
filtered [] test number m says = refl
filtered (places ∷ sources) test number m says =
    let rest = filtered sources test (number + 1) m
    (λ i h. ap test (shift number i) ∙ says (suc i) (omega (arith, h))) in
    let here : test number ≡ has m places = ap test (stay number) ∙ says 0 (omega arith) in
    holders_step (test number) number (filter test (range_with_len (number + 1) (length sources)))
    ∙ ap (λ b. cond b (number ∷ []) [] ++ filter test (range_with_len (number + 1) (length sources))) here
    ∙ ap (λ l. cond (has m places) (number ∷ []) [] ++ l) rest
  where
    shift : (a i : ℕ) → a + 1 + i ≡ a + suc i
    shift a i = omega arith

    stay : (a : ℕ) → a ≡ a + 0
    stay a = omega arith

abbrev empty : ℕ → List (List ℕ)
empty n = replicate n []

empty_at : (n m : ℕ) → m < n → slice_index_or (empty n) m [] ≡ []
empty_at n m h = get_or-replicate n m [] [] h

empty_count : (n : ℕ) → length (empty n) ≡ n
empty_count n = length-replicate n []

transposed_at : (lists : List (List ℕ)) (m : ℕ) → m < length lists
    → slice_index_or (entered_all 0 (empty (length lists)) lists) m [] ≡ holders lists m
transposed_at lists m h =
    let size : m < length (empty (length lists)) = omega (arith, h, empty_count (length lists)) in
    entered_all_at lists 0 m (empty (length lists)) [] size tt (empty_at (length lists) m h)
    ∙ sym (filtered lists (λ place. has m (slice_index_or lists place [])) 0 m
    (λ i k. ap (λ j. has m (slice_index_or lists j [])) (zero_add i)))
  where
    zero_add : (i : ℕ) → 0 + i ≡ i
    zero_add i = omega arith

-- entered from the beginning, the lists are transposed
pub is_transposed : (lists : List (List ℕ)) → entered_all 0 (replicate (length lists) []) lists ≡ transposed lists
unfolding transposed
is_transposed lists = fill_by_all (holders lists) (entered_all 0 (empty (length lists)) lists) (length lists) []
    (entered_all_count lists 0 (empty (length lists)) ∙ empty_count (length lists)) (transposed_at lists)

-- ---- along the loops

-- what stays true after a place
pub record EnteredOn (number : ℕ) (start now : List (List ℕ)) (rest : List ℕ) (whole : List (List ℕ)) : Type 0 where
  pub lists : whole ≡ entered number now rest
  pub count : length now ≡ length start
  pub places : AllByRecursion (λ place. place < length now) rest

pub enter_kept : (number : ℕ) (start now : List (List ℕ)) (places : List ℕ) (i : ℕ) (whole : List (List ℕ))
    (old new : List ℕ) → i < length places → EnteredOn number start now (drop i places) whole
    → old ≡ slice_index_or now (slice_index_or places i 0) old → new ≡ put_last number old
    → EnteredOn number start (slice_set now (slice_index_or places i 0) new) (drop (i + 1) places) whole
enter_kept number start now places i whole old new h kept was is =
    let place = slice_index_or places i 0 in
    let kept_here : EnteredOn number start now (place ∷ drop (i + 1) places) whole =
    subst (λ rest. EnteredOn number start now rest whole) (drop_more places i 0 h) kept in
    let old_is : old ≡ slice_index_or now place [] = was ∙ other_default now place old kept_here.places.0 in
    let set_is : slice_set now place (put_last number (slice_index_or now place [])) ≡ slice_set now place new =
    ap (slice_set now place) (ap (put_last number) (sym old_is) ∙ sym is) in
    let size : length (slice_set now place new) ≡ length now = length-set now place new in
    record {
      lists = kept_here.lists ∙ ap (λ ls. entered number ls (drop (i + 1) places)) set_is;
      count = size ∙ kept_here.count;
      places = subst (λ (n : ℕ). AllByRecursion (λ p. p < n) (drop (i + 1) places)) (sym size) kept_here.places.1;
    }

-- what stays true after a list
pub record EnteredAllOn (number : ℕ) (start now : List (List ℕ)) (rest : List (List ℕ))
    (whole : List (List ℕ)) : Type 0 where
  pub lists : whole ≡ entered_all number now rest
  pub size : length now ≡ length start
  pub places : AllByRecursion (AllByRecursion (λ place. place < length start)) rest

pub enter_all_kept : (number : ℕ) (start now : List (List ℕ)) (sources : List (List ℕ)) (i : ℕ) (other : List ℕ)
    (whole new : List (List ℕ)) → i < length sources → EnteredAllOn number start now (drop i sources) whole
    → new ≡ entered number now (slice_index_or sources i other)
    → EnteredAllOn (number + 1) start new (drop (i + 1) sources) whole
enter_all_kept number start now sources i other whole new h kept is =
    let source = slice_index_or sources i other in
    let kept_here : EnteredAllOn number start now (source ∷ drop (i + 1) sources) whole =
    subst (λ rest. EnteredAllOn number start now rest whole) (drop_more sources i other h) kept in
    record {
      lists = kept_here.lists ∙ ap (λ ls. entered_all (number + 1) ls (drop (i + 1) sources)) (sym is);
      size = ap length is ∙ entered_count source number now ∙ kept_here.size;
      places = kept_here.places.1;
    }
