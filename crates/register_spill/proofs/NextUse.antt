-- The next use in an ascending list of slots stands at the place that parts the slots before `now` from the others.
use Rattle.std.proofs.Common.{◌≡◌, ℕ, zero, suc, ◌+◌, ◌<◌, ◌≤◌, Bool, true, false, List, [], ◌∷◌, length, Some, None}
use Rattle.std.proofs.Common.{refl, sym, ap, ◌∙◌, arith, inl, inr}
use Rattle.std.specs.Prelude.{nat_le, slice_get, slice_index_or}
use Rattle.std.specs.List.{find, filter, range_with_len}
use Rattle.std.proofs.lemmas.Bool.{cond-true, cond-false, le-leb, lt-leb, cases_Bool, cases_eq, cases_lt}
use Rattle.word_program.specs.Program.{Source}
use Rattle.op_order.specs.declared.slot.Slot.{Slot}
use Rattle.register_spill.specs.Uses.{next_use, uses_of, reads_at, IsFirstRead}

pub next_at : (uses : List ℕ) (now i : ℕ) → i ≤ length uses → ((k : ℕ) → k < i → slice_index_or uses k 0 < now)
    → (i < length uses → now ≤ slice_index_or uses i 0) → slice_get uses i ≡ next_use uses now
next_at [] now i within below at = refl
next_at (x ∷ xs) now zero within below at =
    let h : now ≤ x = at (omega arith) in
    sym (cond-true (nat_le now x) (Some x) (find (λ y. nat_le now y) xs) (le-leb now x h))
next_at (x ∷ xs) now (suc i) within below at =
    let h : x < now = below 0 (omega arith) in
    next_at xs now i (omega arith) (λ k l. below (suc k) (omega arith)) (λ l. at (omega arith))
    ∙ sym (cond-false (nat_le now x) (Some x) (find (λ y. nat_le now y) xs) (lt-leb now x h))

-- ---- the next of the numbers that pass a test

record IsFirst (f : ℕ → Bool) (a n now at : ℕ) : Type 0 where
  from : a ≤ at
  within : at < a + n
  not_before : now ≤ at
  passes : f at ≡ true
  first : (other : ℕ) → a ≤ other → now ≤ other → other < at → f other ≡ false

-- one number more in front, which is not the next one
later : (f : ℕ → Bool) (a n now at : ℕ) → (now ≤ a → f a ≡ false) → IsFirst f (a + 1) n now at
    → IsFirst f a (suc n) now at
later f a n now at here rest = record {
  from = let h = rest.from in omega arith;
  within = let h = rest.within in omega arith;
  not_before = rest.not_before;
  passes = rest.passes;
  first = λ other l k m. elim (cases_eq other a) [
    | inl e ↦ ap f e ∙ here (omega arith)
    | inr ne ↦ rest.first other (omega arith) k m
  ];
}

next_from : (f : ℕ → Bool) (n a now at : ℕ) → next_use (filter f (range_with_len a n)) now ≡ Some at
    → IsFirst f a n now at
next_from f zero a now at e = let never : None ≡ Some at = e in absurd cc
next_from f (suc n) a now at e = elim (cases_Bool (f a)) [
  | inr miss ↦ later f a n now at (λ h. miss)
      (next_from f n (a + 1) now at (sym (ap (λ (l : List ℕ). next_use l now) (cond-false (f a) _ _ miss)) ∙ e))
  | inl hit ↦ elim (cases_lt a now) [
    | inl h ↦ later f a n now at (λ k. absurd (omega arith))
        (next_from f n (a + 1) now at (sym (cond-false (nat_le now a) (Some a) _ (lt-leb now a h))
        ∙ sym (ap (λ (l : List ℕ). next_use l now) (cond-true (f a) _ _ hit)) ∙ e))
    | inr h ↦
        let some : Some a ≡ Some at = sym (cond-true (nat_le now a) (Some a) _ (le-leb now a h))
        ∙ sym (ap (λ (l : List ℕ). next_use l now) (cond-true (f a) _ _ hit)) ∙ e in
        let same : a ≡ at = cc in
        record {
          from = omega arith;
          within = omega arith;
          not_before = omega arith;
          passes = ap f (sym same) ∙ hit;
          first = λ other l k m. absurd (omega arith);
        }
  ]
]

none_from : (f : ℕ → Bool) (n a now : ℕ) → next_use (filter f (range_with_len a n)) now ≡ None
    → (at : ℕ) → a ≤ at → at < a + n → now ≤ at → f at ≡ false
none_from f zero a now e at l w k = absurd (omega arith)
none_from f (suc n) a now e at l w k = elim (cases_Bool (f a)) [
  | inr miss ↦ elim (cases_eq at a) [
    | inl same ↦ ap f same ∙ miss
    | inr ne ↦ none_from f n (a + 1) now
        (sym (ap (λ (l : List ℕ). next_use l now) (cond-false (f a) _ _ miss)) ∙ e) at (omega arith) (omega arith) k
  ]
  | inl hit ↦ elim (cases_lt a now) [
    | inl h ↦ none_from f n (a + 1) now (sym (cond-false (nat_le now a) (Some a) _ (lt-leb now a h))
        ∙ sym (ap (λ (l : List ℕ). next_use l now) (cond-true (f a) _ _ hit)) ∙ e) at (omega arith) (omega arith) k
    | inr h ↦
        let never : Some a ≡ None = sym (cond-true (nat_le now a) (Some a) _ (le-leb now a h))
        ∙ sym (ap (λ (l : List ℕ). next_use l now) (cond-true (f a) _ _ hit)) ∙ e in
        absurd cc
  ]
]

pub next_is_first : (program : Source) (slots : List Slot) (value now at : ℕ)
    → next_use (uses_of program slots value) now ≡ Some at → IsFirstRead program slots value now at
unfolding uses_of
next_is_first program slots value now at e =
    let next = next_from (reads_at program slots value) (length slots) 0 now at e in
    record {
      within = let h = next.within in omega arith;
      not_before = next.not_before;
      reads = next.passes;
      first = λ other k m. next.first other (omega arith) k m;
    }

pub none_reads : (program : Source) (slots : List Slot) (value now : ℕ)
    → next_use (uses_of program slots value) now ≡ None → (at : ℕ) → now ≤ at → at < length slots
    → reads_at program slots value at ≡ false
unfolding uses_of
none_reads program slots value now e at k w =
    none_from (reads_at program slots value) (length slots) 0 now e at (omega arith) (omega arith) k
