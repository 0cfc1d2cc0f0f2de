-- The last place of a slot that passes a test.
use Rattle.std.proofs.Common.{◌≡◌, ℕ, zero, suc, ◌+◌, ◌<◌, ◌≤◌, Bool, true, false, List, [], ◌∷◌, ◌++◌, length, get_or}
use Rattle.std.proofs.Common.{take, refl, sym, ◌∙◌, ap, subst, arith}
use Rattle.std.proofs.lemmas.Bool.Decides.{nat_tests}
use Rattle.std.proofs.lemmas.List.{take_more, length-take-le}
use Rattle.std.proofs.lemmas.List.Sums.{prefix_len-le-length}
use Rattle.std.specs.Prelude.{◌||◌, ◌==◌, max, nat_lt, Some, None, if◌then◌else◌}
use Rattle.std.specs.List.{position, position_or_len}
use Rattle.op_order.specs.declared.slot.Slot.{Slot}
use Rattle.op_order.specs.Windows.{through_last, past_last}

up_to_length : (b : Bool) (n m : ℕ) → n ≤ m → through_last b n ≤ suc m
up_to_length true zero m h = omega arith
up_to_length false zero m h = omega arith
up_to_length b (suc n) m h = omega arith

pub past_last-length : (test : Slot → Bool) (xs : List Slot) → past_last test xs ≤ length xs
past_last-length test [] = omega arith
past_last-length test (x ∷ xs) = up_to_length (test x) (past_last test xs) (length xs) (past_last-length test xs)

up_to_here : (b : Bool) (n : ℕ) → b ≡ true → 0 < through_last b n
up_to_here true zero h = omega arith
up_to_here false zero h = absurd (cc)
up_to_here b (suc n) h = omega arith

up_to_more : (b : Bool) (n j : ℕ) → j < n → suc j < through_last b n
up_to_more b zero j h = absurd (omega arith)
up_to_more b (suc n) j h = omega arith

-- no slot that passes stands there or behind
pub past_last-covers : (test : Slot → Bool) (xs : List Slot) (j : ℕ) (d : Slot) → j < length xs
    → test (get_or xs j d) ≡ true → j < past_last test xs
past_last-covers test [] j d w t = absurd (omega arith)
past_last-covers test (x ∷ xs) zero d w t = up_to_here (test x) (past_last test xs) t
past_last-covers test (x ∷ xs) (suc j) d w t =
    up_to_more (test x) (past_last test xs) j (past_last-covers test xs j d (omega arith) t)

passes_here : (test : Slot → Bool) (x : Slot) (xs : List Slot) (k : ℕ) (d : Slot) (b : Bool) → test x ≡ b
    → through_last b zero ≡ suc k → test (get_or (x ∷ xs) k d) ≡ true
passes_here test x xs k d true e h =
    let z : 0 ≡ k = omega arith in
    subst (λ (i : ℕ). test (get_or (x ∷ xs) i d) ≡ true) z e
passes_here test x xs k d false e h = absurd (omega arith)

passes_at : (test : Slot → Bool) (x : Slot) (xs : List Slot) (k : ℕ) (d : Slot) (n : ℕ)
    → ((j : ℕ) → n ≡ suc j → test (get_or xs j d) ≡ true) → through_last (test x) n ≡ suc k
    → test (get_or (x ∷ xs) k d) ≡ true
passes_at test x xs k d zero f h = passes_here test x xs k d (test x) refl h
passes_at test x xs k d (suc n) f h =
    let z : suc n ≡ k = omega arith in
    subst (λ (i : ℕ). test (get_or (x ∷ xs) i d) ≡ true) z (f n refl)

-- and the one before passes
pub past_last-is : (test : Slot → Bool) (xs : List Slot) (k : ℕ) (d : Slot) → past_last test xs ≡ suc k
    → test (get_or xs k d) ≡ true
past_last-is test [] k d h = absurd (omega arith)
past_last-is test (x ∷ xs) k d h = passes_at test x xs k d (past_last test xs) (λ j e. past_last-is test xs j d e) h

-- ---- a loop that goes over the slots

up_to_push : (b c : Bool) (n m : ℕ) → (if b then suc (suc m) else through_last c n) ≡ through_last c
    (if b then suc m else n)
up_to_push true c n m = refl
up_to_push false c n m = refl

pub past_last-push : (test : Slot → Bool) (xs : List Slot) (x : Slot)
    → past_last test (xs ++ x ∷ []) ≡ (if test x then suc (length xs) else past_last test xs)
past_last-push test [] x = refl
past_last-push test (y ∷ xs) x = ap (through_last (test y)) (past_last-push test xs x)
    ∙ sym (up_to_push (test x) (test y) (past_last test xs) (length xs))

-- ---- two tests

left_below : (b : Bool) (m : ℕ) → suc (suc m) ≡ max (through_last b 0) (suc (suc m))
left_below true m = omega arith
left_below false m = omega arith

right_below : (b : Bool) (n : ℕ) → suc (suc n) ≡ max (suc (suc n)) (through_last b 0)
right_below true n = omega arith
right_below false n = omega arith

up_to_or : (b c : Bool) (n m : ℕ) → through_last (b || c) (max n m) ≡ max (through_last b n) (through_last c m)
up_to_or true true zero zero = refl
up_to_or true false zero zero = refl
up_to_or false true zero zero = refl
up_to_or false false zero zero = refl
up_to_or b c zero (suc m) = let e : max 0 (suc m) ≡ suc m = omega arith in ap (through_last (b || c)) e ∙ left_below b m
up_to_or b c (suc n) zero = let e : max (suc n) 0 ≡ suc n = omega arith in
    ap (through_last (b || c)) e ∙ right_below c n
up_to_or b c (suc n) (suc m) =
    let e : max (suc n) (suc m) ≡ suc (max n m) = omega arith in
    let f : suc (suc (max n m)) ≡ max (suc (suc n)) (suc (suc m)) = omega arith in
    ap (through_last (b || c)) e ∙ f

pub past_last-or : (f g : Slot → Bool) (xs : List Slot)
    → past_last (λ x. f x || g x) xs ≡ max (past_last f xs) (past_last g xs)
past_last-or f g [] = refl
past_last-or f g (x ∷ xs) = ap (through_last (f x || g x)) (past_last-or f g xs)
    ∙ up_to_or (f x) (g x) (past_last f xs) (past_last g xs)

-- tests that tell the same
pub past_last-same : (f g : Slot → Bool) (xs : List Slot) → ((x : Slot) → f x ≡ g x) → past_last f xs ≡ past_last g xs
past_last-same f g [] h = refl
past_last-same f g (x ∷ xs) h = ap (through_last (f x)) (past_last-same f g xs h)
    ∙ ap (λ b. through_last b (past_last g xs)) (h x)

-- a test that no slot passes
pub past_last-none : (xs : List Slot) → past_last (λ x. false) xs ≡ 0
past_last-none [] = refl
past_last-none (x ∷ xs) = ap (through_last false) (past_last-none xs)

-- ---- the first place

place_is : (b : Bool) (first count place : ℕ) → nat_lt first count ≡ b → (if b then Some first else None) ≡ Some place
    → first ≡ place
place_is true first count place e h = cc
place_is false first count place e h = absurd (cc)

pub first_place : (test : Slot → Bool) (xs : List Slot) (place : ℕ) → position test xs ≡ Some place
    → position_or_len test xs ≡ place
first_place test xs place h = place_is (nat_lt (position_or_len test xs) (length xs)) (position_or_len test xs)
    (length xs) place refl h

none_is : (b : Bool) (first count : ℕ) → nat_lt first count ≡ b → (if b then Some first else None) ≡ None
    → count ≤ first
none_is true first count e h = absurd (cc)
none_is false first count e h = grind (arith, nat_tests)

pub no_place : (test : Slot → Bool) (xs : List Slot) → position test xs ≡ None → position_or_len test xs ≡ length xs
no_place test xs h =
    let past = none_is (nat_lt (position_or_len test xs) (length xs)) (position_or_len test xs) (length xs) refl h in
    let short : position_or_len test xs ≤ length xs = prefix_len-le-length _ xs in
    omega arith

-- ---- the slots of one operation, as a loop goes over them

if_true : (b : Bool) (m n : ℕ) → b ≡ true → (if b then m else n) ≡ m
if_true true m n e = refl
if_true false m n e = absurd (cc)

if_false : (b : Bool) (m n : ℕ) → b ≡ false → (if b then m else n) ≡ n
if_false true m n e = absurd (cc)
if_false false m n e = refl

past_last-more : (test : Slot → Bool) (slots : List Slot) (i : ℕ) (d : Slot) → i < length slots
    → past_last test (take (i + 1) slots) ≡ (if test (get_or slots i d) then suc (length (take i slots)) else
    past_last test (take i slots))
past_last-more test slots i d w = ap (past_last test) (take_more slots i d w)
    ∙ past_last-push test (take i slots) (get_or slots i d)

pub past_here : (op : ℕ) (slots : List Slot) (i : ℕ) (d : Slot) → i < length slots → (get_or slots i d).op ≡ op
    → past_last (λ slot. slot.op == op) (take (i + 1) slots) ≡ i + 1
past_here op slots i d w e =
    let passes : ((get_or slots i d).op == op) ≡ true = grind (arith, nat_tests, e) in
    let count = length-take-le i slots (omega arith) in
    let n : suc (length (take i slots)) ≡ i + 1 = omega arith in
    past_last-more (λ slot. slot.op == op) slots i d w
    ∙ if_true ((get_or slots i d).op == op) (suc (length (take i slots)))
    (past_last (λ slot. slot.op == op) (take i slots)) passes ∙ n

pub past_not_here : (op : ℕ) (slots : List Slot) (i : ℕ) (d : Slot) → i < length slots
    → ((get_or slots i d).op ≡ op → ⊥) → past_last (λ slot. slot.op == op) (take (i + 1) slots) ≡ past_last
    (λ slot. slot.op == op) (take i slots)
past_not_here op slots i d w e =
    let fails : ((get_or slots i d).op == op) ≡ false = grind (arith, nat_tests, e) in
    past_last-more (λ slot. slot.op == op) slots i d w
    ∙ if_false ((get_or slots i d).op == op) (suc (length (take i slots)))
    (past_last (λ slot. slot.op == op) (take i slots)) fails
