-- What is known of the names of results.
use Rattle.std.proofs.Common.{◌≡◌, ℕ, ◌+◌, Bool, true, false, List, [], ◌∷◌, ◌++◌, length, refl, arith, sym, ◌∙◌, ap}
use Rattle.std.proofs.Common.{subst}
use Rattle.std.specs.Prelude.{Option, Some, None, cond}
use Rattle.std.specs.List.{position_from}
use Rattle.std.specs.Option.{option_or}
use Rattle.std.specs.Str.{bytes_eq}
use Rattle.std.proofs.lemmas.Slice.Eq.{bytes_eq-Decides}
use Rattle.base.specs.Identifiers.{is_identifier}
use Rattle.word_program.specs.Rules.{value_named}

-- texts that are equal by their test are the same
pub same_text : (a b : List ℕ) → bytes_eq a b ≡ true → a ≡ b
same_text a b e = (bytes_eq-Decides a b).0 e

-- a test is true or false
pub data Tested (b : Bool) : Type 0 where
  Passes : b ≡ true → Tested b
  Misses : b ≡ false → Tested b

pub tested : (b : Bool) → Tested b
tested true = Passes refl
tested false = Misses refl

-- a name is looked for among those that are there, and then it may be the next one
pub place_more : (names : List (List ℕ)) (x t : List ℕ) (n : ℕ)
    → position_from (λ m. bytes_eq m t) n (names ++ x ∷ []) ≡ option_or (position_from (λ m. bytes_eq m t) n names)
    (cond (bytes_eq x t) (Some (n + length names)) None)
place_more [] x t n = let e : n + 0 ≡ n = omega arith in rw e refl
place_more (m ∷ ms) x t n = more (bytes_eq m t) (place_more ms x t (n + 1))
  where
    more : (b : Bool) → position_from (λ m. bytes_eq m t) (n + 1) (ms ++ x ∷ []) ≡ option_or
        (position_from (λ m. bytes_eq m t) (n + 1) ms) (cond (bytes_eq x t) (Some (n + 1 + length ms)) None)
        → cond b (Some n) (position_from (λ m. bytes_eq m t) (n + 1) (ms ++ x ∷ [])) ≡ option_or
        (cond b (Some n) (position_from (λ m. bytes_eq m t) (n + 1) ms))
        (cond (bytes_eq x t) (Some (n + length (m ∷ ms))) None)
    more true e = refl
    more false e = let k : n + 1 + length ms ≡ n + length (m ∷ ms) = omega arith in rw (← k) e

or_none : (o : Option ℕ) → option_or o None ≡ o
or_none None = refl
or_none (Some n) = refl

-- a text that is no identifier is another than one that is
apart : (x t : List ℕ) → is_identifier x ≡ false → is_identifier t ≡ true → bytes_eq x t ≡ false
apart x t other named = elim (tested (bytes_eq x t)) [
  | Passes e ↦
      let k : false ≡ true = sym other ∙ ap is_identifier (same_text x t e) ∙ named in cc
  | Misses e ↦ e
]

known_unnamed_if : (names : List (List ℕ)) (x t : List ℕ) → is_identifier x ≡ false → (b : Bool) → is_identifier t ≡ b
    → value_named (names ++ x ∷ []) t ≡ value_named names t
known_unnamed_if names x t other false is = rw is refl
known_unnamed_if names x t other true is = rw is (place_more names x t 0 ∙ rw (apart x t other is) (or_none _))

-- what is no identifier is not found, and hides nothing
pub known_unnamed : (names : List (List ℕ)) (x t : List ℕ) → is_identifier x ≡ false
    → value_named (names ++ x ∷ []) t ≡ value_named names t
known_unnamed names x t other = known_unnamed_if names x t other (is_identifier t) refl

known_other : (names : List (List ℕ)) (x t : List ℕ) → bytes_eq x t ≡ false → (b : Bool) → is_identifier t ≡ b
    → value_named (names ++ x ∷ []) t ≡ value_named names t
known_other names x t other false is = rw is refl
known_other names x t other true is = rw is (place_more names x t 0 ∙ rw other (or_none _))

known_itself : (names : List (List ℕ)) (x : List ℕ) → is_identifier x ≡ true → value_named names x ≡ None
    → value_named (names ++ x ∷ []) x ≡ Some (length names)
known_itself names x named new =
    let none : position_from (λ m. bytes_eq m x) 0 names ≡ None = rw named at new in
    let same : bytes_eq x x ≡ true = (bytes_eq-Decides x x).1 refl in
    let e : 0 + length names ≡ length names = omega arith in
    rw named (place_more names x x 0 ∙ rw (none, same, e) refl)

-- a new name is found under the next number
pub known_more : (names : List (List ℕ)) (x t : List ℕ) → is_identifier x ≡ true → value_named names x ≡ None
    → value_named (names ++ x ∷ []) t ≡ cond (bytes_eq x t) (Some (length names)) (value_named names t)
known_more names x t named new = elim (tested (bytes_eq x t)) [
  | Passes e ↦ rw e (subst (λ (y : List ℕ). value_named (names ++ x ∷ []) y ≡ Some (length names)) (same_text x t e)
      (known_itself names x named new))
  | Misses e ↦ rw e (known_other names x t e (is_identifier t) refl)
]
