-- The numbers of a journal: entries behind them change none.
use Rattle.std.proofs.Common.{◌≡◌, ℕ, zero, suc, ◌+◌, ◌<◌, ◌≤◌, Bool, true, false, List, [], ◌∷◌, ◌++◌, length, take}
use Rattle.std.proofs.Common.{refl, sym, ap, subst, ◌∙◌, arith, append_assoc, append-nil, inl, inr}
use Rattle.std.specs.Prelude.{nat_le, Some, slice_get, if◌then◌else◌}
use Rattle.std.proofs.lemmas.Bool.{cases_eq}
use Rattle.std.proofs.lemmas.Bool.Decides.{nat_tests}
use Rattle.std.proofs.lemmas.List.{length-append, get_or_append_left, get_or-append-add}
use Rattle.word_program.specs.Program.{Source}
use Rattle.mutations.specs.Mutations.{applied}
use Rattle.journal_rules.specs.declared.journal.Entry.{Entry}
use Rattle.journal_rules.specs.Numbers.{Setup, Number, number_at, best_at, plan_seen, number_of, numbers_after}
use Rattle.journal_rules.specs.Numbers.{opening_number, numbers_of, plan_at, incumbent_at}
use Rattle.journal_rules.specs.Laws.{HasPlans}
use Rattle.journal_rules.proofs.Lists.{split}

-- ---- numbers of a list

pub number_front : (ns more : List Number) (k : ℕ) → k < length ns → number_at (ns ++ more) k ≡ number_at ns k
number_front ns more k h = get_or_append_left ns more (record { cost = 0; slots = [] }) k h

best_by : (b : Bool) (j at : ℕ) → at ≤ j → (if b then suc j else at) ≤ suc j
best_by true j at h = omega arith
best_by false j at h = omega arith

pub best_most : (ns : List Number) (j : ℕ) → best_at ns j ≤ j
best_most ns zero = omega arith
best_most ns (suc j) = best_by _ j (best_at ns j) (best_most ns j)

pub best_front : (ns more : List Number) (j : ℕ) → j < length ns → best_at (ns ++ more) j ≡ best_at ns j
best_front ns more zero h = refl
best_front ns more (suc j) h =
    let most = best_most ns j in
    rw (
      best_front ns more j (omega arith),
      number_front ns more (suc j) h,
      number_front ns more (best_at ns j) (omega arith),
    ) refl

pub plan_front : (ns more : List Number) (seen : ℕ) → seen < length ns
    → plan_seen (ns ++ more) seen ≡ plan_seen ns seen
plan_front ns more seen h =
    let most = best_most ns seen in
    ap (λ k. (number_at (ns ++ more) k).slots) (best_front ns more seen h)
    ∙ ap (λ (n : Number). n.slots) (number_front ns more (best_at ns seen) (omega arith))

-- ---- numbers of entries

after_push : (p : Source) (ns : List Number) (es : List Entry) (e : Entry)
    → numbers_after p ns (es ++ e ∷ []) ≡ numbers_after p ns es ++ number_of p (numbers_after p ns es) e ∷ []
after_push p ns [] e = refl
after_push p ns (x ∷ es) e = after_push p (ns ++ number_of p ns x ∷ []) es e

after_append : (p : Source) (ns : List Number) (es fs : List Entry)
    → numbers_after p ns (es ++ fs) ≡ numbers_after p (numbers_after p ns es) fs
after_append p ns [] fs = refl
after_append p ns (x ∷ es) fs = after_append p (ns ++ number_of p ns x ∷ []) es fs

after_length : (p : Source) (ns : List Number) (es : List Entry)
    → length (numbers_after p ns es) ≡ length ns + length es
after_length p ns [] = omega arith
after_length p ns (x ∷ es) =
    omega (arith, after_length p (ns ++ number_of p ns x ∷ []) es, length-append ns (number_of p ns x ∷ []))

-- some numbers are the first of these
pub record IsFront (ns all : List Number) : Type 0 where
  pub more : List Number
  pub is : all ≡ ns ++ more

after_front : (p : Source) (ns : List Number) (es : List Entry) → IsFront ns (numbers_after p ns es)
after_front p ns [] = record { more = []; is = sym (append-nil ns) }
after_front p ns (x ∷ es) =
    let front = after_front p (ns ++ number_of p ns x ∷ []) es in
    record {
      more = number_of p ns x ∷ front.more;
      is = front.is ∙ append_assoc ns (number_of p ns x ∷ []) front.more;
    }

pub numbers_push : (setup : Setup) (es : List Entry) (e : Entry) → numbers_of setup (es ++ e ∷ [])
    ≡ numbers_of setup es ++ number_of setup.program (numbers_of setup es) e ∷ []
unfolding numbers_of
numbers_push setup es e = after_push setup.program (opening_number setup ∷ []) es e

pub numbers_length : (setup : Setup) (es : List Entry) → length (numbers_of setup es) ≡ suc (length es)
unfolding numbers_of
numbers_length setup es = omega (arith, after_length setup.program (opening_number setup ∷ []) es)

-- ---- the number of an entry

pub record IsNumbered (setup : Setup) (es : List Entry) (k : ℕ) (e : Entry) : Type 0 where
  pub is : number_at (numbers_of setup es) (suc k) ≡ number_of setup.program (numbers_of setup (take k es)) e
  pub front : IsFront (numbers_of setup (take k es)) (numbers_of setup es)
  pub size : length (numbers_of setup (take k es)) ≡ suc k

seam : (ns more : List Number) (n : Number) (k : ℕ) → length ns ≡ k → number_at (ns ++ n ∷ more) k ≡ n
seam ns more n k e = ap (number_at (ns ++ n ∷ more)) (sym e ∙ add-zero (length ns))
    ∙ get_or-append-add ns (n ∷ more) 0 (record { cost = 0; slots = [] })
  where
    add-zero : (m : ℕ) → m ≡ m + 0
    add-zero m = omega arith

pub numbered : (setup : Setup) (es : List Entry) (k : ℕ) (e : Entry) → slice_get es k ≡ Some e → IsNumbered setup es k e
unfolding numbers_of
numbered setup es k e at =
    let s = split es k e at in
    let p = setup.program in
    let ns : List Number = opening_number setup ∷ [] in
    let front : List Number = numbers_after p ns (take k es) in
    let more = after_front p (front ++ number_of p front e ∷ []) s.rest in
    let all : numbers_after p ns es ≡ front ++ number_of p front e ∷ more.more =
    ap (numbers_after p ns) s.whole ∙ after_append p ns (take k es) (e ∷ s.rest) ∙ more.is
    ∙ append_assoc front (number_of p front e ∷ []) more.more in
    let size : length front ≡ suc k = omega (arith, after_length p ns (take k es), s.count) in
    record {
      is = ap (λ l. number_at l (suc k)) all ∙ seam front more.more (number_of p front e) (suc k) size;
      front = record { more = number_of p front e ∷ more.more; is = all };
      size = size;
    }

pub plan_numbered : (setup : Setup) (es : List Entry) (k seen : ℕ) (e : Entry) → slice_get es k ≡ Some e → seen ≤ k
    → plan_seen (numbers_of setup (take k es)) seen ≡ plan_at setup es (incumbent_at setup es seen)
plan_numbered setup es k seen e at h =
    let n = numbered setup es k e at in
    let size = n.size in
    sym (ap (λ l. plan_seen l seen) n.front.is
    ∙ plan_front (numbers_of setup (take k es)) n.front.more seen (omega arith))

-- ---- the incumbent

-- the number is the last one of least cost among those from 0 to j
record IsBest (ns : List Number) (j at : ℕ) : Type 0 where
  there : at ≤ j
  least : (k : ℕ) → k ≤ j → (number_at ns at).cost ≤ (number_at ns k).cost
  last : (k : ℕ) → at < k → k ≤ j → (number_at ns at).cost < (number_at ns k).cost

best_next : (ns : List Number) (j at : ℕ) (b : Bool)
    → nat_le (number_at ns (suc j)).cost (number_at ns at).cost ≡ b → IsBest ns j at
    → IsBest ns (suc j) (if b then suc j else at)
best_next ns j at true e best =
    let le : (number_at ns (suc j)).cost ≤ (number_at ns at).cost = grind (arith, nat_tests, e) in
    record {
      there = omega arith;
      least = λ k h. elim (cases_eq k (suc j)) [
        | inl same ↦ subst (λ (i : ℕ). (number_at ns (suc j)).cost ≤ (number_at ns i).cost) (sym same) (omega arith)
        | inr other ↦ let l = best.least k (omega (arith, h, other)) in omega arith
      ];
      last = λ k h g. absurd (omega arith);
    }
best_next ns j at false e best =
    let gt : (number_at ns at).cost < (number_at ns (suc j)).cost = grind (arith, nat_tests, e) in
    let there = best.there in
    record {
      there = omega arith;
      least = λ k h. elim (cases_eq k (suc j)) [
        | inl same ↦ subst (λ (i : ℕ). (number_at ns at).cost ≤ (number_at ns i).cost) (sym same) (omega arith)
        | inr other ↦ best.least k (omega (arith, h, other))
      ];
      last = λ k g h. elim (cases_eq k (suc j)) [
        | inl same ↦ subst (λ (i : ℕ). (number_at ns at).cost < (number_at ns i).cost) (sym same) gt
        | inr other ↦ best.last k g (omega (arith, h, other))
      ];
    }

only_zero : (ns : List Number) (k : ℕ) → k ≤ 0 → (number_at ns 0).cost ≤ (number_at ns k).cost
only_zero ns zero h = omega arith
only_zero ns (suc k) h = absurd (omega arith)

best_is : (ns : List Number) (j : ℕ) → IsBest ns j (best_at ns j)
best_is ns zero = record {
  there = omega arith;
  least = only_zero ns;
  last = λ k g h. absurd (omega arith);
}
best_is ns (suc j) = best_next ns j (best_at ns j) _ refl (best_is ns j)

-- ---- the law

first_cost : (setup : Setup) (es : List Entry) → number_at (numbers_of setup es) 0 ≡ opening_number setup
unfolding numbers_of
first_cost setup es =
    let front = after_front setup.program (opening_number setup ∷ []) es in
    ap (λ l. number_at l 0) front.is

pub has_plans : (setup : Setup) (es : List Entry) → HasPlans setup es
has_plans setup es = record {
  count = numbers_length setup es;
  opening_cost = ap (λ (n : Number). n.cost) (first_cost setup es);
  opening_plan = ap (λ (n : Number). n.slots) (first_cost setup es);
  cost = λ k e at. let n = numbered setup es k e at in ap (λ (m : Number). m.cost) n.is;
  plan = λ k e at h. let n = numbered setup es k e at in ap (λ (m : Number). m.slots) n.is
      ∙ ap (applied setup.program e.mutation) (plan_numbered setup es k e.seen e at h);
  incumbent = λ j. let b = best_is (numbers_of setup es) j in
      record { there = b.there; least = b.least; last = b.last };
}
