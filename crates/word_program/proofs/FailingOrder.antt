-- The order of faults is total, and the first faults of parts are the first fault of the whole.
use Rattle.std.proofs.Common.{◌≡◌, ℕ, zero, suc, ◌+◌, ◌<◌, ◌≤◌, ◌⊎◌, inl, inr, ◌↔◌, Bool, true, false, ◌&&◌, cond}
use Rattle.std.proofs.Common.{List, [], ◌∷◌, refl, sym, ◌∙◌, ap, subst, arith}
use Rattle.std.proofs.lemmas.Bool.{cases_order}
use Rattle.std.specs.Prelude.{Option, Some, None, ◌==◌, nat_lt, fold, take, slice_get, option_map}
use Rattle.std.specs.Option.{option_or}
use Rattle.std.specs.List.{list_all}
use Rattle.base.proofs.Arithmetic.{below_by_test}
use Rattle.word_text.specs.declared.fault.Place.{Place}
use Rattle.word_text.specs.declared.fault.Section.{Section}
use Rattle.word_text.specs.declared.fault.Section.TheVariants.{Top, Returns, Arguments, Body}
use Rattle.word_program.specs.Walk.{Check, RuleFault, first_code, at, walk}
use Rattle.word_program.specs.Failing.{turn, IsBefore, by_turn, by_item, by_part, by_code}
use Rattle.word_program.proofs.RowLemmas.{and_true}

-- ---- the order

pub before_asym : (f g : RuleFault) → IsBefore f g → IsBefore g f → ⊥
before_asym f g (by_turn t) (by_turn u) = omega arith
before_asym f g (by_turn t) (by_item u i) = omega arith
before_asym f g (by_turn t) (by_part u i p) = omega arith
before_asym f g (by_turn t) (by_code u i p c) = omega arith
before_asym f g (by_item t i) (by_turn u) = omega arith
before_asym f g (by_item t i) (by_item u j) = omega arith
before_asym f g (by_item t i) (by_part u j p) = omega arith
before_asym f g (by_item t i) (by_code u j p c) = omega arith
before_asym f g (by_part t i p) (by_turn u) = omega arith
before_asym f g (by_part t i p) (by_item u j) = omega arith
before_asym f g (by_part t i p) (by_part u j q) = omega arith
before_asym f g (by_part t i p) (by_code u j q c) = omega arith
before_asym f g (by_code t i p c) (by_turn u) = omega arith
before_asym f g (by_code t i p c) (by_item u j) = omega arith
before_asym f g (by_code t i p c) (by_part u j q) = omega arith
before_asym f g (by_code t i p c) (by_code u j q d) = omega arith

-- the section in which a turn is
abbrev section_at : ℕ → Section
section_at n = cond (n == 0) Top (cond (n == 2) Arguments (cond (n == 3) Body Returns))

section_at-turn : (code : ℕ) (section : Section) → section_at (turn code section) ≡ section
section_at-turn code Top = refl
section_at-turn code Returns = by_test (code == 14)
  where
    by_test : (b : Bool) → section_at (cond b 4 1) ≡ Returns
    by_test true = refl
    by_test false = refl
section_at-turn code Arguments = refl
section_at-turn code Body = refl

same_fault : (f g : RuleFault) → turn f.0 f.1.section ≡ turn g.0 g.1.section → f.1.item ≡ g.1.item
    → f.1.inner ≡ g.1.inner → f.0 ≡ g.0 → f ≡ g
same_fault f g t i p c =
    let s : f.1.section ≡ g.1.section =
    sym (section_at-turn f.0 f.1.section) ∙ ap section_at t ∙ section_at-turn g.0 g.1.section in
    λ k. (c k, record { section = s k; item = i k; inner = p k })

-- of two faults one is before the other, or they are the same
pub compare : (f g : RuleFault) → (f ≡ g) ⊎ (IsBefore f g ⊎ IsBefore g f)
compare f g = turns (cases_order (turn f.0 f.1.section) (turn g.0 g.1.section))
  where
    codes : turn f.0 f.1.section ≡ turn g.0 g.1.section → f.1.item ≡ g.1.item → f.1.inner ≡ g.1.inner
        → (f.0 ≡ g.0) ⊎ ((f.0 < g.0) ⊎ (g.0 < f.0)) → (f ≡ g) ⊎ (IsBefore f g ⊎ IsBefore g f)
    codes t i p (inl c) = inl (same_fault f g t i p c)
    codes t i p (inr (inl c)) = inr (inl (by_code t i p c))
    codes t i p (inr (inr c)) = inr (inr (by_code (sym t) (sym i) (sym p) c))

    inners : turn f.0 f.1.section ≡ turn g.0 g.1.section → f.1.item ≡ g.1.item
        → (f.1.inner ≡ g.1.inner) ⊎ ((f.1.inner < g.1.inner) ⊎ (g.1.inner < f.1.inner))
        → (f ≡ g) ⊎ (IsBefore f g ⊎ IsBefore g f)
    inners t i (inl p) = codes t i p (cases_order f.0 g.0)
    inners t i (inr (inl p)) = inr (inl (by_part t i p))
    inners t i (inr (inr p)) = inr (inr (by_part (sym t) (sym i) p))

    items : turn f.0 f.1.section ≡ turn g.0 g.1.section
        → (f.1.item ≡ g.1.item) ⊎ ((f.1.item < g.1.item) ⊎ (g.1.item < f.1.item))
        → (f ≡ g) ⊎ (IsBefore f g ⊎ IsBefore g f)
    items t (inl i) = inners t i (cases_order f.1.inner g.1.inner)
    items t (inr (inl i)) = inr (inl (by_item t i))
    items t (inr (inr i)) = inr (inr (by_item (sym t) i))

    turns : (turn f.0 f.1.section ≡ turn g.0 g.1.section)
        ⊎ ((turn f.0 f.1.section < turn g.0 g.1.section) ⊎ (turn g.0 g.1.section < turn f.0 f.1.section))
        → (f ≡ g) ⊎ (IsBefore f g ⊎ IsBefore g f)
    turns (inl t) = items t (cases_order f.1.item g.1.item)
    turns (inr (inl t)) = inr (inl (by_turn t))
    turns (inr (inr t)) = inr (inr (by_turn t))

-- ---- what is found is the first of the faults that there are

abbrev pub Finds : (RuleFault → Type 0) → Option RuleFault → Type 0
Finds A None = (f : RuleFault) → A f → ⊥
Finds A (Some f) = A f × ((g : RuleFault) → A g → IsBefore g f → ⊥)

pub found_is_first : (A : RuleFault → Type 0) (o : Option RuleFault) (f : RuleFault) → Finds A o
    → (o ≡ Some f) ↔ (A f × ((g : RuleFault) → A g → IsBefore g f → ⊥))
found_is_first A o f finds = (λ e. subst (Finds A) e finds, other o finds)
  where
    decide : (g : RuleFault) → (g ≡ f) ⊎ (IsBefore g f ⊎ IsBefore f g) → Finds A (Some g)
        → A f × ((h : RuleFault) → A h → IsBefore h f → ⊥) → Some g ≡ Some f
    decide g (inl e) finds first = ap Some e
    decide g (inr (inl b)) finds first = absurd (first.1 g finds.0 b)
    decide g (inr (inr b)) finds first = absurd (finds.1 f first.0 b)

    other : (o : Option RuleFault) → Finds A o → A f × ((g : RuleFault) → A g → IsBefore g f → ⊥) → o ≡ Some f
    other None finds first = absurd (finds f first.0)
    other (Some g) finds first = decide g (compare g f) finds first

pub none_is_found : (A : RuleFault → Type 0) (o : Option RuleFault) → Finds A o
    → (o ≡ None) ↔ ((f : RuleFault) → A f → ⊥)
none_is_found A o finds = (λ e. subst (Finds A) e finds, other o finds)
  where
    other : (o : Option RuleFault) → Finds A o → ((f : RuleFault) → A f → ⊥) → o ≡ None
    other None finds none = refl
    other (Some g) finds none = absurd (none g finds.0)

pub finds_as : (A B : RuleFault → Type 0) (o : Option RuleFault) → ((f : RuleFault) → A f → B f)
    → ((f : RuleFault) → B f → A f) → Finds A o → Finds B o
finds_as A B None to back finds = λ f b. finds f (back f b)
finds_as A B (Some f) to back finds = (to f finds.0, λ g b. finds.1 g (back g b))

-- all faults of one kind are before all of another
abbrev pub AllBefore : (RuleFault → Type 0) → (RuleFault → Type 0) → Type 0
AllBefore A B = (f g : RuleFault) → A f → B g → IsBefore f g

-- the first of some faults, else that of others that come after them
pub finds_or : (A B : RuleFault → Type 0) (a b : Option RuleFault) → AllBefore A B → Finds A a
    → (a ≡ None → Finds B b) → Finds (λ f. A f ⊎ B f) (option_or a b)
finds_or A B None b order here there = behind b (there refl)
  where
    behind : (b : Option RuleFault) → Finds B b → Finds (λ f. A f ⊎ B f) b
    behind None finds = λ f. elim [ inl a ↦ here f a | inr b ↦ finds f b ]
    behind (Some g) finds = (inr finds.0, λ f. elim [ inl a ↦ λ before. here f a | inr b ↦ finds.1 f b ])
finds_or A B (Some f) b order here there =
    (inl here.0, λ g. elim [ inl a ↦ here.1 g a | inr b ↦ λ before. before_asym f g (order f g here.0 b) before ])

-- ---- walks

-- a fault of the item with some number, in the state that the items before it leave
abbrev pub Somewhere : {S X : Type 0} → (S → ℕ → X → RuleFault → Type 0) → (S → X → S) → S → ℕ → List X
    → RuleFault → Type 0
Somewhere {S} {X} A next s n xs f =
    (i : ℕ) × (x : X) × (slice_get xs i ≡ Some x) × A (fold next s (take i xs)) (n + i) x f

-- the first fault of a walk is that of the first item that has one, in the state that the items before it leave
pub finds_walk : {S X : Type 0} (A : S → ℕ → X → RuleFault → Type 0) (fault : S → ℕ → X → Option RuleFault)
    (next : S → X → S) → ((s : S) (n : ℕ) (x : X) → Finds (A s n x) (fault s n x))
    → ((s t : S) (n m : ℕ) (x y : X) → n < m → AllBefore (A s n x) (A t m y))
    → (xs : List X) (s : S) (n : ℕ) → Finds (Somewhere A next s n xs) (walk fault next s n xs)
finds_walk A fault next each order [] s n = λ f w. cc w.2
finds_walk {S} {X} A fault next each order (x ∷ xs) s n =
    finds_as (λ f. A s n x f ⊎ Somewhere A next (next s x) (n + 1) xs f) (Somewhere A next s n (x ∷ xs)) _ to back
    (finds_or (A s n x) (Somewhere A next (next s x) (n + 1) xs) (fault s n x) _ later (each s n x)
    (λ e. finds_walk A fault next each order xs (next s x) (n + 1)))
  where
    later : AllBefore (A s n x) (Somewhere A next (next s x) (n + 1) xs)
    later f g a w = order s _ n (n + 1 + w.0) x w.1 (omega arith) f g a w.3

    to : (f : RuleFault) → A s n x f ⊎ Somewhere A next (next s x) (n + 1) xs f → Somewhere A next s n (x ∷ xs) f
    to f (inl a) = let e : n ≡ n + 0 = omega arith in (0, x, refl, subst (λ k. A s k x f) e a)
    to f (inr w) =
        let e : n + 1 + w.0 ≡ n + suc w.0 = omega arith in
        (suc w.0, w.1, w.2, subst (λ k. A (fold next (next s x) (take w.0 xs)) k w.1 f) e w.3)

    at_item : (f : RuleFault) (i : ℕ) (y : X) → slice_get (x ∷ xs) i ≡ Some y
        → A (fold next s (take i (x ∷ xs))) (n + i) y f → A s n x f ⊎ Somewhere A next (next s x) (n + 1) xs f
    at_item f zero y is a =
        let e : n + 0 ≡ n = omega arith in
        let same : y ≡ x = cc in
        inl (subst (λ z. A s n z f) same (subst (λ k. A s k y f) e a))
    at_item f (suc i) y is a =
        let e : n + suc i ≡ n + 1 + i = omega arith in
        inr (i, y, is, subst (λ k. A (fold next (next s x) (take i xs)) k y f) e a)

    back : (f : RuleFault) → Somewhere A next s n (x ∷ xs) f → A s n x f ⊎ Somewhere A next (next s x) (n + 1) xs f
    back f w = at_item f w.0 w.1 w.2 w.3

-- ---- tables

-- each check that fails breaks its rule, where those before it pass
abbrev pub IsSound : (ℕ → Type 0) → List Check → Type 0
IsSound A [] = Unit {0}
IsSound A (check ∷ checks) = (check.1 ≡ true → A check.0) × (check.1 ≡ false → IsSound A checks)

-- the check of this code fails
abbrev pub HasFailed : ℕ → List Check → Type 0
HasFailed code [] = ⊥
HasFailed code (check ∷ checks) = (code ≡ check.0) × (check.1 ≡ true) ⊎ HasFailed code checks

-- the codes rise
abbrev pub are_rising : List Check → Bool
are_rising [] = true
are_rising (check ∷ checks) = list_all (λ later. nat_lt check.0 later.0) checks && are_rising checks

-- no rule is broken, or this is the least code of those that are
abbrev pub FindsCode : (ℕ → Type 0) → Option ℕ → Type 0
FindsCode A None = (code : ℕ) → A code → ⊥
FindsCode A (Some code) = A code × ((d : ℕ) → A d → code ≤ d)

above : (low code : ℕ) (checks : List Check) → list_all (λ later. nat_lt low later.0) checks ≡ true
    → HasFailed code checks → low < code
above low code (check ∷ checks) rising (inl h) =
    let first = (and_true (nat_lt low check.0) _ rising).0 in
    let k = below_by_test low check.0 first in
    omega arith
above low code (check ∷ checks) rising (inr h) =
    above low code checks (and_true (nat_lt low check.0) _ rising).1 h
above low code [] rising h = absurd h

pub finds_code : (A : ℕ → Type 0) (checks : List Check) → are_rising checks ≡ true → IsSound A checks
    → ((code : ℕ) → A code → HasFailed code checks) → FindsCode A (first_code checks)
finds_code A [] rising sound complete = complete
finds_code A (check ∷ checks) rising sound complete =
    by_test check.1 (λ behind. finds_code A checks parts.1 behind) sound complete
  where
    parts : (list_all (λ later. nat_lt check.0 later.0) checks ≡ true) × (are_rising checks ≡ true)
    parts = and_true (list_all (λ later. nat_lt check.0 later.0) checks) _ rising

    least : (b : Bool) (code : ℕ) → (code ≡ check.0) × (b ≡ true) ⊎ HasFailed code checks → check.0 ≤ code
    least b code (inl h) = omega arith
    least b code (inr h) = let k = above check.0 code checks parts.0 h in omega arith

    rest : (code : ℕ) → (code ≡ check.0) × (false ≡ true) ⊎ HasFailed code checks → HasFailed code checks
    rest code (inl h) = absurd (cc h.1)
    rest code (inr h) = h

    by_test : (b : Bool)
        → (IsSound A checks → ((code : ℕ) → A code → HasFailed code checks) → FindsCode A (first_code checks))
        → (b ≡ true → A check.0) × (b ≡ false → IsSound A checks)
        → ((code : ℕ) → A code → (code ≡ check.0) × (b ≡ true) ⊎ HasFailed code checks)
        → FindsCode A (cond b (Some check.0) (first_code checks))
    by_test true behind sound complete = (sound.0 refl, λ code a. least true code (complete code a))
    by_test false behind sound complete = behind (sound.1 refl) (λ code a. rest code (complete code a))

-- a fault at this place
abbrev pub At : Place → (ℕ → Type 0) → RuleFault → Type 0
At place A f = (f.1 ≡ place) × A f.0

not_before : (place : Place) (low code : ℕ) → turn low place.section ≡ turn code place.section → low ≤ code
    → IsBefore (code, place) (low, place) → ⊥
not_before place low code same le (by_turn t) = omega arith
not_before place low code same le (by_item t i) = omega arith
not_before place low code same le (by_part t i p) = omega arith
not_before place low code same le (by_code t i p c) = omega arith

-- the first check of a table at a place, where all its rules have one turn
pub finds_at : (A : ℕ → Type 0) (place : Place) (checks : List Check)
    → ((c d : ℕ) → A c → A d → turn c place.section ≡ turn d place.section) → are_rising checks ≡ true
    → IsSound A checks → ((code : ℕ) → A code → HasFailed code checks) → Finds (At place A) (at place checks)
finds_at A place checks one rising sound complete =
    by_code_found (first_code checks) (finds_code A checks rising sound complete)
  where
    by_code_found : (o : Option ℕ) → FindsCode A o → Finds (At place A) (option_map (λ code. (code, place)) o)
    by_code_found None none = λ f a. none f.0 a.1
    by_code_found (Some code) found = (
      (refl, found.0),
      λ g a before. not_before place code g.0 (one code g.0 found.0 a.1) (found.1 g.0 a.1)
          (subst (λ p. IsBefore (g.0, p) (code, place)) a.0 before),
    )
