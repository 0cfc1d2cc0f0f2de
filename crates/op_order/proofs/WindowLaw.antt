-- A slot may move to the places of its window, and to no other.
use Rattle.std.proofs.Common.{◌≡◌, ℕ, zero, suc, ◌+◌, ◌-◌, ◌<◌, ◌≤◌, Bool, true, List, length, get_or, refl, sym, ◌∙◌}
use Rattle.std.proofs.Common.{ap, subst, arith, inl, inr, ◌⊎◌}
use Rattle.std.proofs.lemmas.Bool.{cases_lt}
use Rattle.std.proofs.lemmas.List.{get_or_default}
use Rattle.std.proofs.lemmas.List.Sums.{fails_before_first, passes_at_first, prefix_len-le-length}
use Rattle.std.proofs.lemmas.List.Sorted.{IsPermutation-trans, IsPermutation-map, All-permutation}
use Rattle.std.specs.List.{position_or_len, range_with_len}
use Rattle.std.specs.List.Sorted.{IsPermutation}
use Rattle.word_program.specs.Program.{Source}
use Rattle.dependency_graph.specs.Needs.{is_needed}
use Rattle.templates.specs.Table.{count_of}
use Rattle.op_order.specs.declared.slot.Slot.{Slot}
use Rattle.op_order.specs.Plans.{opening_slot, slot_at, op_at, with_slot_moved}
use Rattle.op_order.specs.Legal.{IsLegal, ops_of}
use Rattle.op_order.specs.Windows.{low_of, high_of, IsInWindow}
use Rattle.op_order.proofs.Moves.{Came, StoodAt, found, length_put, put_permutes}
use Rattle.op_order.proofs.LastPlace.{past_last-length, past_last-covers, past_last-is}

-- ---- the ends of a window

-- what the slot needs stands below the low end, and the last of it right below
pub record IsLow (p : Source) (slots : List Slot) (at low : ℕ) : Type 0 where
  pub covers : (j : ℕ) → j < length slots → is_needed p (op_at slots at) (op_at slots j) ≡ true → j < low
  pub is : (k : ℕ) → low ≡ suc k → is_needed p (op_at slots at) (op_at slots k) ≡ true
  pub short : low ≤ length slots

pub low_is : (p : Source) (slots : List Slot) (at : ℕ) → IsLow p slots at (low_of p slots at)
unfolding low_of
low_is p slots at = record {
  covers = λ (j : ℕ). past_last-covers (λ slot. is_needed p (op_at slots at) slot.op) slots j (opening_slot 0);
  is = λ (k : ℕ). past_last-is (λ slot. is_needed p (op_at slots at) slot.op) slots k (opening_slot 0);
  short = past_last-length (λ slot. is_needed p (op_at slots at) slot.op) slots;
}

-- the slot stands at or above the low end
pub low_below : (p : Source) (slots : List Slot) (at : ℕ) → IsLegal p slots → at < length slots → low_of p slots at ≤ at
low_below p slots at legal w = below (low_of p slots at) refl where
  below : (n : ℕ) → low_of p slots at ≡ n → n ≤ at
  below zero e = omega arith
  below (suc k) e =
      let low = low_is p slots at in
      let short = low.short in
      let before = legal.after at k w (omega arith) (low.is k e) in
      omega arith

-- what needs the slot stands above the high end, and the first of it right above
pub record IsHigh (p : Source) (slots : List Slot) (at high : ℕ) : Type 0 where
  pub covers : (j : ℕ) → j < length slots → is_needed p (op_at slots j) (op_at slots at) ≡ true → high < j
  pub is : suc high < length slots → is_needed p (op_at slots (suc high)) (op_at slots at) ≡ true
  pub above : at ≤ high
  pub within : high < length slots

first_covers : (test : Slot → Bool) (slots : List Slot) (j : ℕ) (d : Slot) → test (get_or slots j d) ≡ true
    → position_or_len test slots ≤ j
first_covers test slots j d t = elim (cases_lt j (position_or_len test slots)) [
  | inl lt ↦ let f = fails_before_first test slots j d lt in absurd (cc)
  | inr le ↦ le
]

pub high_is : (p : Source) (slots : List Slot) (at : ℕ) → IsLegal p slots → at < length slots
    → IsHigh p slots at (high_of p slots at)
unfolding high_of
high_is p slots at legal w =
    let test : Slot → Bool = λ slot. is_needed p slot.op (op_at slots at) in
    let first : ℕ = position_or_len test slots in
    let short : first ≤ length slots = prefix_len-le-length _ slots in
    let above : at < first = elim (cases_lt at first) [
      | inl lt ↦ lt
      | inr le ↦ let t : test (get_or slots first (opening_slot 0)) ≡ true =
          passes_at_first test slots (opening_slot 0) (omega arith) in legal.after first at (omega arith) w t
    ] in
    let next : suc (first - 1) ≡ first = omega arith in
    record {
      covers = λ (j : ℕ) (v : j < length slots) (n : is_needed p (op_at slots j) (op_at slots at) ≡ true).
          let c : first ≤ j = first_covers test slots j (opening_slot 0) n in omega arith;
      is = λ (v : suc (first - 1) < length slots).
          let v2 : first < length slots = omega arith in
          let t : test (get_or slots first (opening_slot 0)) ≡ true = passes_at_first test slots (opening_slot 0) v2 in
          subst (λ (k : ℕ). is_needed p (op_at slots k) (op_at slots at) ≡ true) (sym next) t;
      above = omega arith;
      within = omega arith;
    }

-- ---- a slot moved

three : (i t : ℕ) → (i ≡ t) ⊎ ((i < t) ⊎ (t < i))
three i t = elim (cases_lt i t) [
  | inl l ↦ inr (inl l)
  | inr l ↦ elim (cases_lt t i) [ inl g ↦ inr (inr g) | inr g ↦ inl (omega arith) ]
]

-- where the places that stood at m and n stand, by where the later of them went
earlier : (from to low high i j m n : ℕ) → Came from to j n → n < m → (j ≡ to → high < m)
    → (j ≡ to → n ≡ from → high < m → j < i)
    → (j < to → j < from → n ≡ j → j < i) → (to < j → from < j → n ≡ j → j < i)
    → (j < to → from ≤ j → n ≡ j + 1 → j < i) → (to < j → j ≤ from → n ≡ j - 1 → j < i) → j < i
earlier from to low high i j m n b lt g at before behind down up = elim (three j to) [
  | inl h ↦ at h (b.there h) (g h)
  | inr (inl h) ↦ elim (cases_lt j from) [ inl l ↦ before h l (b.before h l) | inr l ↦ down h l (b.down h l) ]
  | inr (inr h) ↦ elim (cases_lt from j) [ inl l ↦ behind h l (b.behind h l) | inr l ↦ up h l (b.up h l) ]
]

-- in a list with a slot moved within its window the order of two places stays as it has to
order_kept : (from to low high i j m n : ℕ) → Came from to i m → Came from to j n → n < m → (i ≡ to → n < low)
    → (j ≡ to → high < m)
    → low ≤ to → to ≤ high → low ≤ from → from ≤ high → j < i
order_kept from to low high i j m n a b lt f g p q r s =
    let go = earlier from to low high i j m n b lt g in
    elim (three i to) [
      | inl e ↦ let a0 = a.there e in let f0 = f e in
          go (λ h l v. omega arith) (λ h l v. omega arith) (λ h l v. omega arith) (λ h l v. omega arith)
          (λ h l v. omega arith)
      | inr (inl e) ↦ elim (cases_lt i from) [
        | inl k ↦ let a0 = a.before e k in go (λ h l v. omega arith) (λ h l v. omega arith) (λ h l v. omega arith)
            (λ h l v. omega arith) (λ h l v. omega arith)
        | inr k ↦ let a0 = a.down e k in go (λ h l v. omega arith) (λ h l v. omega arith) (λ h l v. omega arith)
            (λ h l v. omega arith) (λ h l v. omega arith)
      ]
      | inr (inr e) ↦ elim (cases_lt from i) [
        | inl k ↦ let a0 = a.behind e k in go (λ h l v. omega arith) (λ h l v. omega arith) (λ h l v. omega arith)
            (λ h l v. omega arith) (λ h l v. omega arith)
        | inr k ↦ let a0 = a.up e k in go (λ h l v. omega arith) (λ h l v. omega arith) (λ h l v. omega arith)
            (λ h l v. omega arith) (λ h l v. omega arith)
      ]
    ]

pub moved_length : (slots : List Slot) (from to : ℕ) → from < length slots → to < length slots
    → length (with_slot_moved slots from to) ≡ length slots
unfolding with_slot_moved
moved_length slots from to f t = length_put slots from to (slot_at slots from) f t

pub moved_found : (slots : List Slot) (from to k : ℕ) → from < length slots → to < length slots → k < length slots
    → StoodAt slots from to k (opening_slot 0) (slot_at (with_slot_moved slots from to) k)
unfolding with_slot_moved
moved_found slots from to k f t w = found slots from to k (opening_slot 0) f t w

pub moved_permutes : (slots : List Slot) (from to : ℕ) → from < length slots
    → IsPermutation slots (with_slot_moved slots from to)
unfolding with_slot_moved
moved_permutes slots from to f = put_permutes slots from to (slot_at slots from) f
    (get_or_default slots from (opening_slot 0) (slot_at slots from) f)

-- a legal plan stays legal where a slot moves within its window
pub moved_legal : (p : Source) (slots : List Slot) (from to : ℕ) → IsLegal p slots → from < length slots
    → IsInWindow p slots from to → IsLegal p (with_slot_moved slots from to)
moved_legal p slots from to legal f window =
    let low = low_is p slots from in
    let high = high_is p slots from legal f in
    let below = low_below p slots from legal f in
    let above = high.above in
    let within = high.within in
    let in_low = window.low in
    let in_high = window.high in
    let t : to < length slots = omega arith in
    let count = moved_length slots from to f t in
    let permuted = moved_permutes slots from to f in
    record {
      order = IsPermutation-trans (range_with_len 0 (length p.ops)) (ops_of slots)
          (ops_of (with_slot_moved slots from to)) legal.order
          (IsPermutation-map (λ slot. slot.op) slots (with_slot_moved slots from to) permuted);
      after = λ (i j : ℕ) (v : i < length (with_slot_moved slots from to))
          (w : j < length (with_slot_moved slots from to))
          (n : is_needed p (op_at (with_slot_moved slots from to) i) (op_at (with_slot_moved slots from to) j) ≡ true).
          let a = moved_found slots from to i f t (omega arith) in
          let b = moved_found slots from to j f t (omega arith) in
          let same_a : op_at (with_slot_moved slots from to) i ≡ op_at slots a.at = ap (λ (s : Slot). s.op) a.is in
          let same_b : op_at (with_slot_moved slots from to) j ≡ op_at slots b.at = ap (λ (s : Slot). s.op) b.is in
          let needed : is_needed p (op_at slots a.at) (op_at slots b.at) ≡ true =
          subst (λ (k : ℕ). is_needed p (op_at slots a.at) k ≡ true) same_b
          (subst (λ (k : ℕ). is_needed p k (op_at (with_slot_moved slots from to) j) ≡ true) same_a n) in
          let before = legal.after a.at b.at a.within b.within needed in
          let at_to : i ≡ to → b.at < low_of p slots from = λ (e : i ≡ to).
          low.covers b.at b.within (subst (λ (k : ℕ). is_needed p (op_at slots k) (op_at slots b.at) ≡ true)
          (a.came.there e) needed) in
          let of_to : j ≡ to → high_of p slots from < a.at = λ (e : j ≡ to).
          high.covers a.at a.within (subst (λ (k : ℕ). is_needed p (op_at slots a.at) (op_at slots k) ≡ true)
          (b.came.there e) needed) in
          order_kept from to (low_of p slots from)
          (high_of p slots from) i j a.at b.at a.came b.came before at_to of_to in_low in_high below above;
      templates = All-permutation (λ slot. slot.template < count_of p slot.op) slots
          (with_slot_moved slots from to) permuted legal.templates;
    }

-- where the slot stands after it was moved below what it needs
below_is_illegal : (p : Source) (slots : List Slot) (from to k : ℕ) → IsLegal p slots → from < length slots
    → to < length slots
    → low_of p slots from ≡ suc k → to ≤ k → IsLegal p (with_slot_moved slots from to) → ⊥
below_is_illegal p slots from to k legal f t e le after =
    let low = low_is p slots from in
    let short = low.short in
    let needed = low.is k e in
    let before = legal.after from k f (omega arith) needed in
    let a = moved_found slots from to to f t t in
    let b = moved_found slots from to (suc k) f t (omega arith) in
    let at_a : a.at ≡ from = a.came.there refl in
    let up = b.came.up in
    let at_b : b.at ≡ k = omega arith in
    let same_a : op_at (with_slot_moved slots from to) to ≡ op_at slots from =
    ap (λ (s : Slot). s.op) a.is ∙ ap (op_at slots) at_a in
    let same_b : op_at (with_slot_moved slots from to) (suc k) ≡ op_at slots k =
    ap (λ (s : Slot). s.op) b.is ∙ ap (op_at slots) at_b in
    let count = moved_length slots from to f t in
    let still : is_needed p (op_at (with_slot_moved slots from to) to) (op_at (with_slot_moved slots from to) (suc k))
    ≡ true = rw (same_a, same_b) needed in
    let wrong = after.after to (suc k) (omega arith) (omega arith) still in
    omega arith

above_is_illegal : (p : Source) (slots : List Slot) (from to : ℕ) → IsLegal p slots → from < length slots
    → to < length slots
    → high_of p slots from < to → IsLegal p (with_slot_moved slots from to) → ⊥
above_is_illegal p slots from to legal f t lt after =
    let high = high_is p slots from legal f in
    let above = high.above in
    let needed = high.is (omega arith) in
    let k : ℕ = high_of p slots from in
    let a = moved_found slots from to to f t t in
    let b = moved_found slots from to k f t (omega arith) in
    let at_a : a.at ≡ from = a.came.there refl in
    let down = b.came.down in
    let at_b : b.at ≡ suc k = omega arith in
    let same_a : op_at (with_slot_moved slots from to) to ≡ op_at slots from =
    ap (λ (s : Slot). s.op) a.is ∙ ap (op_at slots) at_a in
    let same_b : op_at (with_slot_moved slots from to) k ≡ op_at slots (suc k) =
    ap (λ (s : Slot). s.op) b.is ∙ ap (op_at slots) at_b in
    let count = moved_length slots from to f t in
    let still : is_needed p (op_at (with_slot_moved slots from to) k) (op_at (with_slot_moved slots from to) to)
    ≡ true = rw (same_a, same_b) needed in
    let wrong = after.after k to (omega arith) (omega arith) still in
    omega arith

low_holds : (p : Source) (slots : List Slot) (from to n : ℕ) → IsLegal p slots → from < length slots → to < length slots
    → IsLegal p (with_slot_moved slots from to) → low_of p slots from ≡ n → n ≤ to
low_holds p slots from to zero legal f t after e = omega arith
low_holds p slots from to (suc k) legal f t after e = elim (cases_lt to (suc k)) [
  | inl lt ↦ absurd (below_is_illegal p slots from to k legal f t e (omega arith) after)
  | inr le ↦ le
]

-- and it is legal after a move only then
pub legal_in_window : (p : Source) (slots : List Slot) (from to : ℕ) → IsLegal p slots → from < length slots
    → to < length slots
    → IsLegal p (with_slot_moved slots from to) → IsInWindow p slots from to
legal_in_window p slots from to legal f t after = record {
  low = low_holds p slots from to (low_of p slots from) legal f t after refl;
  high = elim (cases_lt (high_of p slots from) to) [
    | inl lt ↦ absurd (above_is_illegal p slots from to legal f t lt after)
    | inr le ↦ le
  ];
}
