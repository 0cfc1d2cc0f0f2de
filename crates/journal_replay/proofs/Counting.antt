-- A legal journal has no more entries than all lanes have turns.
use Rattle.std.proofs.Common.{◌≡◌, ◌≢◌, ◌+◌, ◌*◌, ◌<◌, ◌≤◌, ℕ, zero, suc, List, [], ◌∷◌, ◌++◌, length}
use Rattle.std.proofs.Common.{refl, sym, ap, subst, ◌∙◌, arith, inl, inr, append_assoc, append-nil}
use Rattle.std.proofs.lemmas.Bool.{cases_eq}
use Rattle.std.proofs.lemmas.List.{length-append}
use Rattle.journal_rules.specs.declared.journal.Entry.{Entry}
use Rattle.journal_rules.specs.Numbers.{Setup}
use Rattle.journal_rules.specs.Legal.{turns_of, IsEntry, EachAfter, IsLegalJournal, IsWhole}
use Rattle.journal_rules.proofs.Legality.{turns_same, turns_other}

-- the entries of the first lanes, so many
total : ℕ → List Entry → ℕ
total zero es = 0
total (suc lanes) es = total lanes es + turns_of lanes es

total_past : (lanes : ℕ) (es : List Entry) (e : Entry) → lanes ≤ e.lane → total lanes (es ++ e ∷ []) ≡ total lanes es
unfolding total
total_past zero es e high = refl
total_past (suc lanes) es e high =
    let other : e.lane ≢ lanes = λ same. omega arith in
    let first = total_past lanes es e (omega arith) in
    let last = turns_other lanes es e other in
    omega arith

total_more : (lanes : ℕ) (es : List Entry) (e : Entry) → e.lane < lanes
    → total lanes (es ++ e ∷ []) ≡ total lanes es + 1
unfolding total
total_more zero es e low = absurd (omega arith)
total_more (suc lanes) es e low = elim (cases_eq e.lane lanes) [
  | inl same ↦
      let first = total_past lanes es e (omega arith) in
      let last = turns_same lanes es e same in
      omega arith
  | inr other ↦
      let first = total_more lanes es e (omega arith) in
      let last = turns_other lanes es e other in
      omega arith
]

none : (lanes : ℕ) → total lanes [] ≡ 0
unfolding total
none zero = refl
none (suc lanes) = let before = none lanes in omega arith

-- each entry counts, and no lane has more than its turns
record IsCounted (setup : Setup) (es : List Entry) : Type 0 where
  all : total (length setup.seeds) es ≡ length es
  each : (lane : ℕ) → turns_of lane es ≤ setup.turns

counted_more : (setup : Setup) (es : List Entry) (e : Entry) → IsCounted setup es → IsEntry setup es e
    → IsCounted setup (es ++ e ∷ [])
counted_more setup es e counted is =
    let more = total_more (length setup.seeds) es e is.lane in
    let size = length-append es (e ∷ []) in
    let all = counted.all in
    record {
      all = omega arith;
      each = λ lane. elim (cases_eq e.lane lane) [
        | inl same ↦
            let turns = turns_same lane es e same in
            let turn : e.turn ≡ turns_of lane es = is.turn ∙ ap (λ l. turns_of l es) same in
            let within = is.within in
            omega arith
        | inr other ↦
            let turns = turns_other lane es e other in
            let before = counted.each lane in
            omega arith
      ];
    }

counted_after : (setup : Setup) (earlier es : List Entry) → IsCounted setup earlier
    → EachAfter (IsEntry setup) earlier es → IsCounted setup (earlier ++ es)
counted_after setup earlier [] counted each = subst (IsCounted setup) (sym (append-nil earlier)) counted
counted_after setup earlier (e ∷ es) counted each =
    subst (IsCounted setup) (append_assoc earlier (e ∷ []) es)
    (counted_after setup (earlier ++ e ∷ []) es (counted_more setup earlier e counted each.0) each.1)

legal_counted : (setup : Setup) (es : List Entry) → IsLegalJournal setup es → IsCounted setup es
legal_counted setup es legal = counted_after setup [] es (record {
  all = none (length setup.seeds);
  each = λ lane. omega arith;
}) legal

total_most : (lanes turns : ℕ) (es : List Entry) → ((lane : ℕ) → turns_of lane es ≤ turns)
    → total lanes es ≤ lanes * turns
unfolding total
total_most zero turns es each = omega arith
total_most (suc lanes) turns es each =
    let before = total_most lanes turns es each in
    let last = each lanes in
    let product : suc lanes * turns ≡ lanes * turns + turns = omega arith in
    omega arith

-- a legal journal that is not short is whole
pub whole_is : (setup : Setup) (es : List Entry) → IsLegalJournal setup es
    → length setup.seeds * setup.turns ≤ length es
    → IsWhole setup es
whole_is setup es legal many =
    let counted = legal_counted setup es legal in
    let most = total_most (length setup.seeds) setup.turns es counted.each in
    let all = counted.all in
    omega arith
