-- The first rule that an entry breaks, as the tests in the order of the rules find it.
use Rattle.std.proofs.Common.{◌≡◌, ◌<◌, ◌≤◌, ℕ, List, length, refl, arith}
use Rattle.journal_rules.specs.declared.journal.Entry.{Entry}
use Rattle.journal_rules.specs.Numbers.{Setup}
use Rattle.journal_rules.specs.Legal.{turns_of, last_of, mutation_drawn, IsEntry}
use Rattle.journal_replay.specs.Rules.{Keeps, BreaksFirst}
use Rattle.journal_replay.specs.Inside.{KeepsPlace}

pub breaks_mutation : (setup : Setup) (earlier : List Entry) (e : Entry) → KeepsPlace setup earlier e
    → (e.mutation ≡ mutation_drawn setup earlier e.lane e.turn e.seen → ⊥) → BreaksFirst setup earlier e 5
breaks_mutation setup earlier e place other =
    let seen = place.seen in
    record {
      within = (omega arith, omega arith);
      kept = λ r low. record {
        lane = λ is. place.lane;
        turn = λ is. (place.turn, place.within);
        seen = λ is. omega arith;
        since = λ is. place.since;
        mutation = λ is. absurd (omega arith);
      };
      broken = λ k. other (k.mutation refl);
    }

pub entry_is : (setup : Setup) (earlier : List Entry) (e : Entry) → KeepsPlace setup earlier e
    → e.mutation ≡ mutation_drawn setup earlier e.lane e.turn e.seen → IsEntry setup earlier e
entry_is setup earlier e place mutation = record {
  lane = place.lane;
  turn = place.turn;
  within = place.within;
  seen = place.seen;
  since = place.since;
  mutation = mutation;
}

-- an entry that breaks a rule may not stand there
keeps_all : (setup : Setup) (earlier : List Entry) (e : Entry) (rule : ℕ) → IsEntry setup earlier e
    → Keeps setup earlier e rule
keeps_all setup earlier e rule is =
    let seen = is.seen in
    record {
      lane = λ _. is.lane;
      turn = λ _. (is.turn, is.within);
      seen = λ _. omega arith;
      since = λ _. is.since;
      mutation = λ _. is.mutation;
    }

pub broken_is_none : (setup : Setup) (earlier : List Entry) (e : Entry) (rule : ℕ) → BreaksFirst setup earlier e rule
    → IsEntry setup earlier e → ⊥
broken_is_none setup earlier e rule breaks is = breaks.broken (keeps_all setup earlier e rule is)
