-- Journals that grow by an entry, and their entries one by one.
use Rattle.std.proofs.Common.{◌≡◌, ℕ, zero, suc, ◌+◌, ◌≤◌, Bool, true, false, List, [], ◌∷◌, ◌++◌, length, take}
use Rattle.std.proofs.Common.{refl, sym, ap, subst, ◌∙◌, arith, append_assoc, append-nil, ◌≢◌}
use Rattle.std.specs.Prelude.{◌==◌, Some, slice_get, slice_index, if◌then◌else◌}
use Rattle.std.proofs.lemmas.List.Sums.{fold-append}
use Rattle.std.proofs.lemmas.Bool.Decides.{nat_tests}
use Rattle.mutations.specs.Words.{words_of}
use Rattle.mutations.specs.Mutations.{drawn}
use Rattle.journal_rules.specs.declared.journal.Entry.{Entry}
use Rattle.journal_rules.specs.Numbers.{Setup, plan_at, parent_of}
use Rattle.journal_rules.specs.Legal.{turns_of, through_last, last_of, mutation_drawn}
use Rattle.journal_rules.specs.Legal.{IsEntry, EachAfter, IsLegalJournal}
use Rattle.journal_rules.proofs.Lists.{split}
use Rattle.journal_rules.proofs.NumberLemmas.{plan_numbered}

-- ---- each entry behind the earlier ones

pub each_push : (P : List Entry → Entry → Type 0) (earlier es : List Entry) (e : Entry) → EachAfter P earlier es
    → P (earlier ++ es) e → EachAfter P earlier (es ++ e ∷ [])
each_push P earlier [] e all here = (subst (λ l. P l e) (append-nil earlier) here, tt)
each_push P earlier (x ∷ es) e all here = (
  all.0,
  each_push P (earlier ++ x ∷ []) es e all.1
      (subst (λ l. P l e) (sym (append_assoc earlier (x ∷ []) es)) here),
)

pub each_at : (P : List Entry → Entry → Type 0) (earlier es : List Entry) (k : ℕ) (e : Entry) → EachAfter P earlier es
    → slice_get es k ≡ Some e → P (earlier ++ take k es) e
each_at P earlier [] k e all at = absurd (cc)
each_at P earlier (x ∷ es) zero e all at =
    let same : x ≡ e = cc in
    subst (λ y. P (earlier ++ []) y) same (subst (λ l. P l x) (sym (append-nil earlier)) all.0)
each_at P earlier (x ∷ es) (suc k) e all at =
    subst (λ l. P l e) (append_assoc earlier (x ∷ []) (take k es))
    (each_at P (earlier ++ x ∷ []) es k e all.1 at)

-- an entry of a legal journal may stand behind the earlier ones
pub entry_legal : (setup : Setup) (es : List Entry) → IsLegalJournal setup es → (k : ℕ) (e : Entry)
    → slice_get es k ≡ Some e → IsEntry setup (take k es) e
entry_legal setup es legal k e at = each_at (IsEntry setup) [] es k e legal at

pub entry_drawn : (setup : Setup) (es : List Entry) → IsLegalJournal setup es → (k : ℕ) (e : Entry)
    → slice_get es k ≡ Some e → e.mutation ≡ drawn setup.program (plan_at setup es (parent_of setup es e))
    (words_of (slice_index setup.seeds e.lane) e.turn) setup.draw
unfolding mutation_drawn
entry_drawn setup es legal k e at =
    let is = entry_legal setup es legal k e at in
    let s = split es k e at in
    let count = s.count in
    let seen = is.seen in
    is.mutation ∙ ap (λ slots. drawn setup.program slots (words_of (slice_index setup.seeds e.lane) e.turn) setup.draw)
    (plan_numbered setup es k e.seen e at (omega arith))

-- ---- one entry more

count_by_one : (lane : ℕ) (es : List Entry) (e : Entry) (b : Bool) → (e.lane == lane) ≡ b
    → turns_of lane (es ++ e ∷ []) ≡ turns_of lane es + (if b then 1 else 0)
count_by_one lane es e b h =
    fold-append (λ (n : ℕ) (x : Entry). n + (if x.lane == lane then 1 else 0)) 0 es (e ∷ [])
    ∙ ap (λ c. turns_of lane es + (if c then 1 else 0)) h

pub turns_same : (lane : ℕ) (es : List Entry) (e : Entry) → e.lane ≡ lane
    → turns_of lane (es ++ e ∷ []) ≡ turns_of lane es + 1
turns_same lane es e h = count_by_one lane es e true (grind (arith, nat_tests, h))

pub turns_other : (lane : ℕ) (es : List Entry) (e : Entry) → e.lane ≢ lane
    → turns_of lane (es ++ e ∷ []) ≡ turns_of lane es
turns_other lane es e h =
    let more = count_by_one lane es e false (grind (arith, nat_tests, h)) in
    omega arith

through_most : (b : Bool) (n m : ℕ) → n ≤ m → through_last b n ≤ suc m
through_most true zero m h = omega arith
through_most false zero m h = omega arith
through_most b (suc n) m h = omega arith

pub last_most : (lane : ℕ) (es : List Entry) → last_of lane es ≤ length es
last_most lane [] = omega arith
last_most lane (e ∷ es) = through_most (e.lane == lane) (last_of lane es) (length es) (last_most lane es)

-- an entry of another lane
pub last_other : (lane : ℕ) (es : List Entry) (e : Entry) → (e.lane == lane) ≡ false
    → last_of lane (es ++ e ∷ []) ≡ last_of lane es
last_other lane [] e h = rw h refl
last_other lane (x ∷ es) e h = ap (through_last (x.lane == lane)) (last_other lane es e h)
