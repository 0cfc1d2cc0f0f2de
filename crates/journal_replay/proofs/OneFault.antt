-- At most one check is the first that fails.
use Rattle.std.proofs.Common.{◌≡◌, ◌≢◌, ◌<◌, ℕ, suc, List, take, refl, sym, ap, subst, ◌∙◌, arith}
use Rattle.std.proofs.Common.{inl, inr}
use Rattle.std.specs.Prelude.{Some, slice_get}
use Rattle.std.proofs.lemmas.Bool.{cases_lt, cases_eq}
use Rattle.std.proofs.lemmas.List.{take-take}
use Rattle.op_order.proofs.Differing.{differs_once, differs_not_realised}
use Rattle.equiv_validator.specs.declared.verdict.Why.{Why}
use Rattle.journal_rules.specs.declared.journal.Entry.{Entry}
use Rattle.journal_rules.specs.Numbers.{Setup}
use Rattle.journal_rules.specs.Legal.{IsEntry, IsLegalJournal}
use Rattle.journal_rules.proofs.Legality.{entry_legal}
use Rattle.journal_replay.specs.declared.fault.ReplayFault.{ReplayFault}
use Rattle.journal_replay.specs.declared.fault.ReplayFault.TheVariants as faults
use Rattle.journal_replay.specs.Rules.{BreaksFirst, HasFaultyEntry, IsShort, BreaksAt}
use Rattle.journal_replay.specs.Checks.{Given, IsFirstFault, AreOthers, HasDigest, HasEntries, setup_of, last_plan}
use Rattle.journal_replay.proofs.RuleLemmas.{broken_is_none}
use Rattle.journal_replay.proofs.LawLemmas.{none_broken, no_others}
use Rattle.journal_replay.proofs.NoFailure.{fails_once}
use Rattle.journal_replay.proofs.Taking.{get_take}

-- ---- entries

-- no entry before one that breaks a rule, behind legal ones, breaks one
none_before : (setup : Setup) (es : List Entry) (k n rule : ℕ) (e : Entry) → k < n → slice_get es k ≡ Some e
    → IsLegalJournal setup (take n es) → BreaksFirst setup (take k es) e rule → ⊥
none_before setup es k n rule e low there legal breaks =
    let is = entry_legal setup (take n es) legal k e (get_take es k n low ∙ there) in
    broken_is_none setup (take k es) e rule breaks
    (subst (λ l. IsEntry setup l e) (take-take k n es (omega arith)) is)

rule_once : (setup : Setup) (earlier : List Entry) (e : Entry) (r s : ℕ) → BreaksFirst setup earlier e r
    → BreaksFirst setup earlier e s → r ≡ s
rule_once setup earlier e r s one other = elim (cases_eq r s) [
  | inl same ↦ same
  | inr apart ↦ elim (cases_lt r s) [
    | inl low ↦ absurd (one.broken (other.kept r low))
    | inr high ↦ absurd (other.broken (one.kept s (omega arith)))
  ]
]

entry_inside : (e f : Entry) → Some e ≡ Some f → e ≡ f
entry_inside e f same = cc

faulty_once : (setup : Setup) (es : List Entry) (n m r s : ℕ) → HasFaultyEntry setup es n r
    → HasFaultyEntry setup es m s → (n ≡ m) × (r ≡ s)
faulty_once setup es n m r s one other = elim (cases_eq one.at other.at) [
  | inl same ↦
      let entry = entry_inside one.e other.e (sym one.there ∙ ap (slice_get es) same ∙ other.there) in (
        one.count ∙ ap suc same ∙ sym other.count,
        rule_once setup (take other.at es) other.e r s
            (subst (λ x. BreaksFirst setup (take other.at es) x r) entry
            (subst (λ k. BreaksFirst setup (take k es) one.e r) same one.breaks)) other.breaks,
      )
  | inr apart ↦ elim (cases_lt one.at other.at) [
    | inl low ↦ absurd (none_before setup es one.at other.at r one.e low one.there other.legal one.breaks)
    | inr high ↦ absurd (none_before setup es other.at one.at s other.e (omega arith) other.there one.legal
        other.breaks)
  ]
]

not_short : (setup : Setup) (es : List Entry) (n m r s : ℕ) → HasFaultyEntry setup es n r → IsShort setup es m s → ⊥
not_short setup es n m r s faulty short =
    broken_is_none setup (take faulty.at es) faulty.e r faulty.breaks
    (entry_legal setup es short.legal faulty.at faulty.e faulty.there)

breaks_once : (setup : Setup) (es : List Entry) (n m r s : ℕ) → BreaksAt setup es n r → BreaksAt setup es m s
    → (n ≡ m) × (r ≡ s)
breaks_once setup es n m r s one other = elim one [
  | inl faulty ↦ elim other [
    | inl second ↦ faulty_once setup es n m r s faulty second
    | inr short ↦ absurd (not_short setup es n m r s faulty short)
  ]
  | inr short ↦ elim other [
    | inl faulty ↦ absurd (not_short setup es m n s r faulty short)
    | inr second ↦ (short.next ∙ sym second.next, short.sixth ∙ sym second.sixth)
  ]
]

-- ---- the first check that fails

not_digest : (g : Given) (journal program : List ℕ) → IsFirstFault g (faults.Digest journal program) → HasDigest g → ⊥
not_digest g journal program f digest = f.2 (f.0 ∙ digest ∙ sym f.1)

cost_digest : (g : Given) (r t : ℕ) → IsFirstFault g (faults.Cost r t) → HasDigest g
cost_digest g r t f = elim f [
  | inl first ↦ first.0
  | inr last ↦ let before = last.0 in before.0
]

not_entry : (g : Given) (n r : ℕ) → HasEntries g → BreaksAt (setup_of g) g.journal.entries n r → ⊥
not_entry g n r entries = none_broken (setup_of g) g.journal.entries n r entries.0 entries.1

cost_entry : (g : Given) (r t n rule : ℕ) → IsFirstFault g (faults.Cost r t)
    → IsFirstFault g (faults.Entry n rule) → ⊥
cost_entry g r t n rule f h = elim f [
  | inl first ↦ let start = h.0 in no_others r t _ _ start.1 first.1
  | inr last ↦ let before = last.0 in not_entry g n rule before.2 h.1
]

cost_plan : (g : Given) (r t slot : ℕ) → IsFirstFault g (faults.Cost r t) → IsFirstFault g (faults.Realises slot) → ⊥
cost_plan g r t slot f h = elim f [
  | inl first ↦ let before = h.0 in no_others r t _ _ before.1 first.1
  | inr last ↦ differs_not_realised g.program (last_plan g) g.listing slot h.1 last.1
]

cost_proof : (g : Given) (r t : ℕ) (why : Why) → IsFirstFault g (faults.Cost r t)
    → IsFirstFault g (faults.NotProved why) → ⊥
cost_proof g r t why f h = elim f [
  | inl first ↦ let before = h.0 in no_others r t _ _ before.1 first.1
  | inr last ↦ no_others r t _ _ h.2 last.2
]

told_once : (r t s u a b : ℕ) → AreOthers r t a b → AreOthers s u a b → (r ≡ s) × (t ≡ u)
told_once r t s u a b f h = (f.0 ∙ sym h.0, f.1 ∙ sym h.1)

cost_once : (g : Given) (r t s u : ℕ) → IsFirstFault g (faults.Cost r t) → IsFirstFault g (faults.Cost s u)
    → (r ≡ s) × (t ≡ u)
cost_once g r t s u f h = elim f [
  | inl first ↦ elim h [
    | inl second ↦ told_once r t s u _ _ first.1 second.1
    | inr last ↦ let before = last.0 in absurd (no_others r t _ _ before.1 first.1)
  ]
  | inr last ↦ elim h [
    | inl first ↦ let before = last.0 in absurd (no_others s u _ _ before.1 first.1)
    | inr second ↦ told_once r t s u _ _ last.2 second.2
  ]
]

pub one_fault : (g : Given) (f h : ReplayFault) → f ≢ faults.Memory → h ≢ faults.Memory → IsFirstFault g f
    → IsFirstFault g h → f ≡ h
one_fault g faults.Memory h not_f not_h is other = absurd (not_f refl)
one_fault g (faults.Digest j p) faults.Memory not_f not_h is other = absurd (not_h refl)
one_fault g (faults.Digest j p) (faults.Digest k q) not_f not_h is other =
    let first = is.0 ∙ sym other.0 in
    let second = is.1 ∙ sym other.1 in
    cc
one_fault g (faults.Digest j p) (faults.Entry n r) not_f not_h is other =
    let start = other.0 in
    absurd (not_digest g j p is start.0)
one_fault g (faults.Digest j p) (faults.Realises slot) not_f not_h is other =
    let before = other.0 in
    absurd (not_digest g j p is before.0)
one_fault g (faults.Digest j p) (faults.Cost r t) not_f not_h is other =
    absurd (not_digest g j p is (cost_digest g r t other))
one_fault g (faults.Digest j p) (faults.NotProved why) not_f not_h is other =
    let before = other.0 in
    absurd (not_digest g j p is before.0)
one_fault g (faults.Entry n r) faults.Memory not_f not_h is other = absurd (not_h refl)
one_fault g (faults.Entry n r) (faults.Digest j p) not_f not_h is other =
    let start = is.0 in
    absurd (not_digest g j p other start.0)
one_fault g (faults.Entry n r) (faults.Entry m s) not_f not_h is other =
    let same = breaks_once (setup_of g) g.journal.entries n m r s is.1 other.1 in
    ap (λ k. faults.Entry k r) same.0 ∙ ap (faults.Entry m) same.1
one_fault g (faults.Entry n r) (faults.Realises slot) not_f not_h is other =
    let before = other.0 in
    absurd (not_entry g n r before.2 is.1)
one_fault g (faults.Entry n r) (faults.Cost s t) not_f not_h is other = absurd (cost_entry g s t n r other is)
one_fault g (faults.Entry n r) (faults.NotProved why) not_f not_h is other =
    let before = other.0 in
    absurd (not_entry g n r before.2 is.1)
one_fault g (faults.Realises slot) faults.Memory not_f not_h is other = absurd (not_h refl)
one_fault g (faults.Realises slot) (faults.Digest j p) not_f not_h is other =
    let before = is.0 in
    absurd (not_digest g j p other before.0)
one_fault g (faults.Realises slot) (faults.Entry n r) not_f not_h is other =
    let before = is.0 in
    absurd (not_entry g n r before.2 other.1)
one_fault g (faults.Realises slot) (faults.Realises second) not_f not_h is other =
    ap faults.Realises (differs_once g.program (last_plan g) g.listing slot second is.1 other.1)
one_fault g (faults.Realises slot) (faults.Cost r t) not_f not_h is other = absurd (cost_plan g r t slot other is)
one_fault g (faults.Realises slot) (faults.NotProved why) not_f not_h is other =
    absurd (differs_not_realised g.program (last_plan g) g.listing slot is.1 other.1)
one_fault g (faults.Cost r t) faults.Memory not_f not_h is other = absurd (not_h refl)
one_fault g (faults.Cost r t) (faults.Digest j p) not_f not_h is other =
    absurd (not_digest g j p other (cost_digest g r t is))
one_fault g (faults.Cost r t) (faults.Entry n s) not_f not_h is other = absurd (cost_entry g r t n s is other)
one_fault g (faults.Cost r t) (faults.Realises slot) not_f not_h is other = absurd (cost_plan g r t slot is other)
one_fault g (faults.Cost r t) (faults.Cost s u) not_f not_h is other =
    let same = cost_once g r t s u is other in
    ap (λ k. faults.Cost k t) same.0 ∙ ap (faults.Cost s) same.1
one_fault g (faults.Cost r t) (faults.NotProved why) not_f not_h is other = absurd (cost_proof g r t why is other)
one_fault g (faults.NotProved why) faults.Memory not_f not_h is other = absurd (not_h refl)
one_fault g (faults.NotProved why) (faults.Digest j p) not_f not_h is other =
    let before = is.0 in
    absurd (not_digest g j p other before.0)
one_fault g (faults.NotProved why) (faults.Entry n r) not_f not_h is other =
    let before = is.0 in
    absurd (not_entry g n r before.2 other.1)
one_fault g (faults.NotProved why) (faults.Realises slot) not_f not_h is other =
    absurd (differs_not_realised g.program (last_plan g) g.listing slot other.1 is.1)
one_fault g (faults.NotProved why) (faults.Cost r t) not_f not_h is other = absurd (cost_proof g r t why other is)
one_fault g (faults.NotProved why) (faults.NotProved second) not_f not_h is other =
    ap faults.NotProved (fails_once g.program g.listing.lines why second is.3 other.3)
