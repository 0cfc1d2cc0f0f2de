-- Every run of the machine keeps its journal legal, and its looks as ones that can be settled.
use Rattle.std.proofs.Common.{◌≡◌, ◌≢◌, ℕ, zero, suc, ◌<◌, Bool, true, false, List, [], ◌∷◌, ◌++◌, length, map}
use Rattle.std.proofs.Common.{set, refl, sym, ap, subst, ◌∙◌, arith, inl, inr}
use Rattle.std.specs.Prelude.{◌==◌, nat_lt, Some, None, slice_get, if◌then◌else◌}
use Rattle.std.proofs.lemmas.Bool.{cases_eq}
use Rattle.std.proofs.lemmas.Bool.Decides.{nat_tests}
use Rattle.std.proofs.lemmas.List.{length-append, length-map, length-set}
use Rattle.journal_rules.specs.declared.journal.Entry.{Entry}
use Rattle.journal_rules.specs.Numbers.{Setup}
use Rattle.journal_rules.specs.Legal.{turns_of, IsEntry, IsLegalJournal}
use Rattle.journal_rules.specs.Machine.{Machine, Event, Look, Settle, entry_of, settled, Step, Run, IsStart}
use Rattle.journal_rules.specs.Machine.{IsLookAt, IsMachine}
use Rattle.journal_rules.proofs.Lists.{get_set_same, get_set_other}
use Rattle.journal_rules.proofs.Legality.{each_push, turns_other, last_most, last_other}

-- ---- what an entry does to a look of another lane

pub look_stays : (setup : Setup) (es : List Entry) (e : Entry) (lane seen : ℕ) → e.lane ≢ lane
    → IsLookAt setup es lane seen → IsLookAt setup (es ++ e ∷ []) lane seen
look_stays setup es e lane seen other look =
    let turns = turns_other lane es e other in
    let off : (e.lane == lane) ≡ false = grind (arith, nat_tests, other) in
    let last = last_other lane es e off in
    let most = look.most in
    let since = look.since in
    let left = look.left in
    let size = length-append es (e ∷ []) in
    record { most = omega arith; since = omega arith; left = omega arith }

-- a look of all entries
pub look_now : (setup : Setup) (es : List Entry) (lane : ℕ) → turns_of lane es < setup.turns
    → IsLookAt setup es lane (length es)
look_now setup es lane left = record { most = omega arith; since = last_most lane es; left = left }

-- a look that can be settled makes an entry that may stand behind the others
pub entry_may_stand : (setup : Setup) (es : List Entry) (lane seen cost : ℕ) (plain : Bool) → lane < length setup.seeds
    → IsLookAt setup es lane seen → IsEntry setup es (entry_of setup es lane seen cost plain)
entry_may_stand setup es lane seen cost plain low look = record {
  lane = low;
  turn = refl;
  within = look.left;
  seen = look.most;
  since = look.since;
  mutation = refl;
}

-- ---- steps

none_at : (seeds : List ℕ) (k seen : ℕ) → slice_get (map (λ seed. None) seeds) k ≡ Some (Some seen) → ⊥
none_at [] k seen e = cc
none_at (s ∷ seeds) zero seen e = cc
none_at (s ∷ seeds) (suc k) seen e = none_at seeds k seen e

pub starts : (setup : Setup) (m : Machine) → IsStart setup m → IsMachine setup m
starts setup m start = record {
  journal = subst (IsLegalJournal setup) (sym start.0) tt;
  lanes = ap length start.1 ∙ length-map setup.seeds (λ seed. None);
  looks = λ lane seen at. absurd (none_at setup.seeds lane seen
      (subst (λ l. slice_get l lane ≡ Some (Some seen)) start.1 at));
}

looked_keeps : (setup : Setup) (m : Machine) (lane : ℕ) (b : Bool) → nat_lt (turns_of lane m.entries) setup.turns ≡ b
    → lane < length setup.seeds → IsMachine setup m → IsMachine setup
    (if b then record { entries = m.entries; looks = set m.looks lane (Some (length m.entries)) } else m)
looked_keeps setup m lane true e low is =
    let lanes = is.lanes in
    let left : turns_of lane m.entries < setup.turns = grind (arith, nat_tests, e) in
    record {
      journal = is.journal;
      lanes = length-set m.looks lane (Some (length m.entries)) ∙ is.lanes;
      looks = λ l seen at. elim (cases_eq l lane) [
        | inl same ↦ let here : slice_get (set m.looks lane (Some (length m.entries))) l
            ≡ Some (Some (length m.entries)) =
            ap (slice_get (set m.looks lane (Some (length m.entries)))) same
            ∙ get_set_same m.looks lane (Some (length m.entries)) (omega arith) in
            let all : length m.entries ≡ seen = cc in
            subst (IsLookAt setup m.entries l) all (subst (λ (i : ℕ). IsLookAt setup m.entries i (length m.entries))
            (sym same) (look_now setup m.entries lane left))
        | inr other ↦ is.looks l seen (sym (get_set_other m.looks lane l (Some (length m.entries)) other) ∙ at)
      ];
    }
looked_keeps setup m lane false e low is = is

settled_keeps : (setup : Setup) (m : Machine) (lane cost : ℕ) (plain : Bool) (seen : ℕ) → lane < length setup.seeds
    → slice_get m.looks lane ≡ Some (Some seen) → IsMachine setup m
    → IsMachine setup (settled setup lane cost plain seen m)
settled_keeps setup m lane cost plain seen low at is =
    let e : Entry = entry_of setup m.entries lane seen cost plain in
    let lanes = is.lanes in
    let look = is.looks lane seen at in
    record {
      journal = each_push (IsEntry setup) [] m.entries e is.journal
          (entry_may_stand setup m.entries lane seen cost plain low look);
      lanes = length-set m.looks lane None ∙ is.lanes;
      looks = λ l other_seen there. elim (cases_eq l lane) [
        | inl same ↦ absurd (let here : slice_get (set m.looks lane None) l ≡ Some None =
            ap (slice_get (set m.looks lane None)) same ∙ get_set_same m.looks lane None (omega arith) in cc)
        | inr other ↦ look_stays setup m.entries e l other_seen (λ h. other (sym h))
            (is.looks l other_seen (sym (get_set_other m.looks lane l None other) ∙ there))
      ];
    }

pub step_keeps : (setup : Setup) (old new : Machine) (event : Event) → IsMachine setup old → Step setup old event new
    → IsMachine setup new
step_keeps setup old new (Look lane) is step =
    subst (IsMachine setup) (sym step.1)
    (looked_keeps setup old lane (nat_lt (turns_of lane old.entries) setup.turns) refl step.0 is)
step_keeps setup old new (Settle lane cost plain) is step =
    subst (IsMachine setup) (sym step.3) (settled_keeps setup old lane cost plain step.1 step.0 step.2 is)

pub run_keeps : (setup : Setup) (old new : Machine) (events : List Event) → IsMachine setup old
    → Run setup old events new → IsMachine setup new
run_keeps setup old new [] is run = subst (IsMachine setup) (sym run) is
run_keeps setup old new (event ∷ events) is run =
    run_keeps setup run.0 new events (step_keeps setup old run.0 event is run.1) run.2
