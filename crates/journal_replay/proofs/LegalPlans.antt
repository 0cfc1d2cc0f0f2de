-- The plans of a legal journal are legal.
use Rattle.std.proofs.Common.{◌<◌, ℕ, zero, suc, List, [], ◌∷◌, ◌++◌, length, refl, sym, subst}
use Rattle.std.proofs.Common.{arith, inl, inr, append_assoc, append-nil}
use Rattle.std.proofs.lemmas.Bool.{cases_eq}
use Rattle.std.proofs.lemmas.List.{length-append}
use Rattle.std.specs.Prelude.{slice_index}
use Rattle.word_program.specs.Program.{Source}
use Rattle.word_program.specs.Accepted.{IsAccepted}
use Rattle.dependency_graph.proofs.OrderLemmas.{earlier}
use Rattle.op_order.specs.Legal.{IsLegal}
use Rattle.op_order.proofs.LegalLemmas.{opening_legal, has_template_at}
use Rattle.mutations.specs.Mutations.{Fits, applied}
use Rattle.mutations.specs.Words.{words_of}
use Rattle.mutations.proofs.Applied.{legal_after}
use Rattle.mutations.proofs.FitsDrawn.{drawn_fits}
use Rattle.journal_rules.specs.declared.journal.Entry.{Entry}
use Rattle.journal_rules.specs.Numbers.{Setup, Number, number_at, best_at, plan_seen, number_of, numbers_of}
use Rattle.journal_rules.specs.Numbers.{plan_at, incumbent_at}
use Rattle.journal_rules.specs.Legal.{mutation_drawn, IsEntry, EachAfter, IsLegalJournal}
use Rattle.journal_rules.proofs.NumberLemmas.{number_front, best_most, numbers_push, numbers_length}
use Rattle.journal_replay.proofs.Steps.{seam}

AreLegal : Source → List Number → Type 0
AreLegal program ns = (k : ℕ) → k < length ns → IsLegal program (number_at ns k).slots

seen_legal : (program : Source) (ns : List Number) (seen : ℕ) → AreLegal program ns → seen < length ns
    → IsLegal program (plan_seen ns seen)
unfolding AreLegal
seen_legal program ns seen legal low =
    let most = best_most ns seen in
    legal (best_at ns seen) (omega arith)

pushed_legal : (program : Source) (ns : List Number) (n : Number) → AreLegal program ns → IsLegal program n.slots
    → AreLegal program (ns ++ n ∷ [])
unfolding AreLegal
pushed_legal program ns n legal last k low =
    let size = length-append ns (n ∷ []) in
    elim (cases_eq k (length ns)) [
      | inl same ↦ subst (λ (m : Number). IsLegal program m.slots) (sym (seam ns n k (sym same))) last
      | inr other ↦ let before : k < length ns = omega arith in
          subst (λ (m : Number). IsLegal program m.slots) (sym (number_front ns (n ∷ []) k before)) (legal k before)
    ]

drawn_legal : (setup : Setup) (es : List Entry) (e : Entry) → IsAccepted setup.program
    → AreLegal setup.program (numbers_of setup es) → IsEntry setup es e
    → IsLegal setup.program (applied setup.program e.mutation (plan_seen (numbers_of setup es) e.seen))
unfolding mutation_drawn
drawn_legal setup es e accepted legal is =
    let count = numbers_length setup es in
    let seen = is.seen in
    let look = seen_legal setup.program (numbers_of setup es) e.seen legal (omega arith) in
    let fits = drawn_fits setup.program (plan_seen (numbers_of setup es) e.seen)
    (words_of (slice_index setup.seeds e.lane) e.turn) setup.draw accepted look in
    legal_after setup.program e.mutation (plan_seen (numbers_of setup es) e.seen) _ look
    (subst (Fits setup.program (plan_seen (numbers_of setup es) e.seen)) (sym is.mutation) fits) refl

after_legal : (setup : Setup) (earlier es : List Entry) → IsAccepted setup.program
    → AreLegal setup.program (numbers_of setup earlier) → EachAfter (IsEntry setup) earlier es
    → AreLegal setup.program (numbers_of setup (earlier ++ es))
after_legal setup earlier [] accepted legal each =
    subst (λ es. AreLegal setup.program (numbers_of setup es)) (sym (append-nil earlier)) legal
after_legal setup earlier (e ∷ es) accepted legal each =
    subst (λ l. AreLegal setup.program (numbers_of setup l)) (append_assoc earlier (e ∷ []) es)
    (after_legal setup (earlier ++ e ∷ []) es accepted
    (subst (AreLegal setup.program) (sym (numbers_push setup earlier e))
    (pushed_legal setup.program (numbers_of setup earlier) (number_of setup.program (numbers_of setup earlier) e) legal
    (drawn_legal setup earlier e accepted legal each.0))) each.1)

first_legal : (setup : Setup) → IsAccepted setup.program → AreLegal setup.program (numbers_of setup [])
unfolding AreLegal numbers_of
first_legal setup accepted zero low =
    opening_legal setup.program (earlier setup.program accepted) (has_template_at setup.program)
first_legal setup accepted (suc k) low = absurd (omega arith)

-- the plan of the incumbent is legal
pub plan_legal : (setup : Setup) (es : List Entry) → IsAccepted setup.program → IsLegalJournal setup es
    → IsLegal setup.program (plan_at setup es (incumbent_at setup es (length es)))
plan_legal setup es accepted legal =
    let count = numbers_length setup es in
    seen_legal setup.program (numbers_of setup es) (length es)
    (after_legal setup [] es accepted (first_legal setup accepted) legal) (omega arith)
