-- What a list is after an element of it was moved.
use Rattle.std.proofs.Common.{◌≡◌, ℕ, ◌+◌, ◌-◌, ◌<◌, ◌≤◌, List, ◌∷◌, length, get_or, refl, sym, ◌∙◌, subst, arith, inl}
use Rattle.std.proofs.Common.{inr}
use Rattle.std.proofs.lemmas.Bool.{cases_lt, cases_eq}
use Rattle.std.proofs.lemmas.List.Edits.{length-insert, length-remove, get_or-insert_below, get_or-insert_at}
use Rattle.std.proofs.lemmas.List.Edits.{get_or-insert_above, get_or-remove_below, get_or-remove_above}
use Rattle.std.proofs.lemmas.List.Sorted.{IsPermutation-trans, IsPermutation-remove, IsPermutation-insert}
use Rattle.std.specs.List.{insert, remove}
use Rattle.std.specs.List.Sorted.{IsPermutation}

-- the list after its element at one place was moved to another
abbrev pub put : {X : Type 0} → List X → ℕ → ℕ → X → List X
put xs from to x = insert (remove xs from) to x

-- what stands at place k stood at place m
pub record Came (from to k m : ℕ) : Type 0 where
  pub there : k ≡ to → m ≡ from
  pub before : k < to → k < from → m ≡ k
  pub down : k < to → from ≤ k → m ≡ k + 1
  pub up : to < k → k ≤ from → m ≡ k - 1
  pub behind : to < k → from < k → m ≡ k

pub record StoodAt {X : Type 0} (xs : List X) (from to k : ℕ) (d x : X) : Type 0 where
  pub at : ℕ
  pub came : Came from to k at
  pub within : at < length xs
  pub is : x ≡ get_or xs at d

pub length_put : {X : Type 0} (xs : List X) (from to : ℕ) (x : X) → from < length xs → to < length xs
    → length (put xs from to x) ≡ length xs
length_put xs from to x f t =
    let r = length-remove xs from f in
    let i = length-insert (remove xs from) to x (omega arith) in
    omega arith

found_there : {X : Type 0} (xs : List X) (from to : ℕ) (d : X) → from < length xs → to < length xs
    → StoodAt xs from to to d (get_or (put xs from to (get_or xs from d)) to d)
found_there xs from to d f t =
    let r = length-remove xs from f in
    record {
      at = from;
      came = record {
        there = λ h. refl;
        before = λ h. absurd (omega arith);
        down = λ h. absurd (omega arith);
        up = λ h. absurd (omega arith);
        behind = λ h. absurd (omega arith);
      };
      within = f;
      is = get_or-insert_at (remove xs from) to (get_or xs from d) d (omega arith);
    }

found_before : {X : Type 0} (xs : List X) (from to k : ℕ) (d : X) → from < length xs → to < length xs → k < to
    → k < from → StoodAt xs from to k d (get_or (put xs from to (get_or xs from d)) k d)
found_before xs from to k d f t a b =
    let r = length-remove xs from f in
    record {
      at = k;
      came = record {
        there = λ h. omega arith;
        before = λ h g. refl;
        down = λ h g. omega arith;
        up = λ h g. omega arith;
        behind = λ h g. omega arith;
      };
      within = omega arith;
      is = get_or-insert_below (remove xs from) to (get_or xs from d) d k a (omega arith)
          ∙ get_or-remove_below xs from d k b f;
    }

found_down : {X : Type 0} (xs : List X) (from to k : ℕ) (d : X) → from < length xs → to < length xs → k < to → from ≤ k
    → StoodAt xs from to k d (get_or (put xs from to (get_or xs from d)) k d)
found_down xs from to k d f t a b =
    let r = length-remove xs from f in
    record {
      at = k + 1;
      came = record {
        there = λ h. omega arith;
        before = λ h g. omega arith;
        down = λ h g. refl;
        up = λ h g. omega arith;
        behind = λ h g. omega arith;
      };
      within = omega arith;
      is = get_or-insert_below (remove xs from) to (get_or xs from d) d k a (omega arith)
          ∙ get_or-remove_above xs from d k b f;
    }

found_up : {X : Type 0} (xs : List X) (from to j : ℕ) (d : X) → from < length xs → to < length xs → to ≤ j → j < from
    → StoodAt xs from to (j + 1) d (get_or (put xs from to (get_or xs from d)) (j + 1) d)
found_up xs from to j d f t a b =
    let r = length-remove xs from f in
    record {
      at = j;
      came = record {
        there = λ h. omega arith;
        before = λ h g. omega arith;
        down = λ h g. omega arith;
        up = λ h g. omega arith;
        behind = λ h g. omega arith;
      };
      within = omega arith;
      is = get_or-insert_above (remove xs from) to (get_or xs from d) d j a (omega arith)
          ∙ get_or-remove_below xs from d j b f;
    }

found_behind : {X : Type 0} (xs : List X) (from to j : ℕ) (d : X) → from < length xs → to < length xs
    → j + 1 < length xs → to ≤ j → from ≤ j
    → StoodAt xs from to (j + 1) d (get_or (put xs from to (get_or xs from d)) (j + 1) d)
found_behind xs from to j d f t w a b =
    let r = length-remove xs from f in
    record {
      at = j + 1;
      came = record {
        there = λ h. omega arith;
        before = λ h g. omega arith;
        down = λ h g. omega arith;
        up = λ h g. omega arith;
        behind = λ h g. refl;
      };
      within = w;
      is = get_or-insert_above (remove xs from) to (get_or xs from d) d j a (omega arith)
          ∙ get_or-remove_above xs from d j b f;
    }

found_above : {X : Type 0} (xs : List X) (from to j : ℕ) (d : X) → from < length xs → to < length xs
    → j + 1 < length xs → to ≤ j → StoodAt xs from to (j + 1) d (get_or (put xs from to (get_or xs from d)) (j + 1) d)
found_above xs from to j d f t w a = elim (cases_lt j from) [
  | inl b ↦ found_up xs from to j d f t a b
  | inr b ↦
      found_behind xs from to j d f t w a b
]

-- what stands at a place of the list with an element moved stood somewhere before
pub found : {X : Type 0} (xs : List X) (from to k : ℕ) (d : X) → from < length xs → to < length xs → k < length xs
    → StoodAt xs from to k d (get_or (put xs from to (get_or xs from d)) k d)
found xs from to k d f t w = elim (cases_lt k to) [
  | inl a ↦ elim (cases_lt k from) [
    | inl b ↦ found_before xs from to k d f t a b
    | inr b ↦
        found_down xs from to k d f t a b
  ]
  | inr a ↦ elim (cases_eq k to) [
    | inl e ↦ subst (λ (i : ℕ). StoodAt xs from to i d (get_or (put xs from to (get_or xs from d)) i d)) (sym e)
        (found_there xs from to d f t)
    | inr e ↦ let s : (k - 1) + 1 ≡ k = omega arith in
        subst (λ (i : ℕ). StoodAt xs from to i d (get_or (put xs from to (get_or xs from d)) i d)) s
        (found_above xs from to (k - 1) d f t (omega arith) (omega arith))
  ]
]

-- it only moves elements
pub put_permutes : {X : Type 0} (xs : List X) (from to : ℕ) (x : X) → from < length xs → x ≡ get_or xs from x
    → IsPermutation xs (put xs from to x)
put_permutes xs from to x f is = IsPermutation-trans xs (x ∷ remove xs from) (put xs from to x)
    (IsPermutation-remove xs from x f is) (IsPermutation-insert (remove xs from) to x)
