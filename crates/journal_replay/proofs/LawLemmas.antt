-- What replays is right, and no check fails of it.
use Rattle.std.proofs.Common.{◌≡◌, ◌≢◌, ℕ, List, refl, sym, ◌∙◌, arith, inl, inr}
use Rattle.word_program.specs.Accepted.{IsAccepted}
use Rattle.x86_instr.specs.Fits.{FitsLines}
use Rattle.x86_meaning.specs.Correct.{IsCorrect}
use Rattle.op_order.proofs.Differing.{differs_not_realised}
use Rattle.equiv_validator.proofs.ProvedCorrect.{proved_is_correct}
use Rattle.journal_rules.specs.declared.journal.Entry.{Entry}
use Rattle.journal_rules.specs.Numbers.{Setup}
use Rattle.journal_rules.specs.Legal.{IsLegalJournal, IsWhole}
use Rattle.journal_rules.proofs.Legality.{entry_legal}
use Rattle.journal_replay.specs.declared.fault.ReplayFault.{ReplayFault}
use Rattle.journal_replay.specs.declared.fault.ReplayFault.TheVariants as faults
use Rattle.journal_replay.specs.Rules.{BreaksAt}
use Rattle.journal_replay.specs.Checks.{Given, Replays, IsFirstFault, IsIncumbentOf, AreOthers, setup_of, last_number}
use Rattle.journal_replay.specs.Checks.{last_plan}
use Rattle.journal_replay.proofs.RuleLemmas.{broken_is_none}
use Rattle.journal_replay.proofs.LegalPlans.{plan_legal}
use Rattle.journal_replay.proofs.NoFailure.{never_fails}

pub replayed_is : (g : Given) → IsAccepted g.program → FitsLines g.listing.lines → Replays g
    → IsIncumbentOf g (last_number g) × IsCorrect g.program g.listing.lines
replayed_is g accepted fit replays =
    let entries = replays.entries in
    let correct = proved_is_correct g.program accepted g.listing.lines fit replays.proof in (
      record {
        last = refl;
        legal = entries.0;
        whole = entries.1;
        checks = record {
          legal = plan_legal (setup_of g) g.journal.entries accepted entries.0;
          name = refl;
          realises = replays.plan;
          proved = replays.proof;
          correct = correct;
        };
        cost = replays.cost;
      },
      correct,
    )

pub none_broken : (setup : Setup) (es : List Entry) (number rule : ℕ) → IsLegalJournal setup es → IsWhole setup es
    → BreaksAt setup es number rule → ⊥
none_broken setup es number rule legal whole breaks = elim breaks [
  | inl faulty ↦ broken_is_none setup _ faulty.e rule faulty.breaks
      (entry_legal setup es legal faulty.at faulty.e faulty.there)
  | inr short ↦ let fewer = short.fewer in omega arith
]

pub no_others : (recorded table a b : ℕ) → a ≡ b → AreOthers recorded table a b → ⊥
no_others recorded table a b same others = others.2 (others.0 ∙ same ∙ sym others.1)

pub no_fault : (g : Given) (fault : ReplayFault) → Replays g → fault ≢ faults.Memory → IsFirstFault g fault → ⊥
no_fault g (faults.Digest journal program) r other f = f.2 (f.0 ∙ r.digest_is ∙ sym f.1)
no_fault g (faults.Entry number rule) r other f =
    let entries = r.entries in
    none_broken (setup_of g) g.journal.entries number rule entries.0 entries.1 f.1
no_fault g (faults.Realises slot) r other f = differs_not_realised g.program (last_plan g) g.listing slot f.1 r.plan
no_fault g (faults.Cost recorded table) r other f = elim f [
  | inl first ↦ no_others recorded table _ _ r.opening first.1
  | inr last ↦ no_others recorded table _ _ r.cost last.2
]
no_fault g (faults.NotProved why) r other f = never_fails r.proof why f.3
no_fault g faults.Memory r other f = other refl
