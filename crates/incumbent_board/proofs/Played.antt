-- Events that are played one after the other.
use Rattle.std.proofs.Common.{◌≡◌, ℕ, zero, suc, ◌+◌, ◌<◌, ◌≤◌, Bool, true, false, List, [], ◌∷◌, ◌++◌, length, get_or}
use Rattle.std.proofs.Common.{refl, sym, ap, subst, ◌∙◌, append_assoc, arith}
use Rattle.std.specs.Prelude.{nat_lt, Option, Some, None, MatchOption, if◌then◌else◌}
use Rattle.std.specs.List.{AllByRecursion}
use Rattle.std.proofs.lemmas.Bool.Decides.{nat_tests}
use Rattle.std.proofs.lemmas.List.{length-append}
use Rattle.std.proofs.lemmas.List.Sums.{sum_by-append}
use Rattle.journal_rules.specs.Numbers.{Setup}
use Rattle.journal_rules.specs.Legal.{turns_of}
use Rattle.journal_rules.specs.Machine as machine
use Rattle.incumbent_board.specs.declared.events.Event.{Event}
use Rattle.incumbent_board.specs.declared.events.Event.TheVariants.{Look, Settle}
use Rattle.incumbent_board.specs.declared.offer.Offer.{Offer}
use Rattle.incumbent_board.specs.declared.offer.Sight.{Sight}
use Rattle.incumbent_board.specs.declared.offer.Settled.{Settled}
use Rattle.incumbent_board.specs.declared.offer.Settled.TheVariants.{Accepted, Kept, Foreign}
use Rattle.incumbent_board.specs.Views.{BoardView, machine_of}
use Rattle.incumbent_board.specs.Calls.{sight_of, looked_at, entry_due, IsSettled, IsEvent}
use Rattle.incumbent_board.specs.Events.{IsPlayable, IsPlayed, HasPlayed, after_look, steps_of, is_settle, taken_in}
use Rattle.incumbent_board.specs.Events.{entries_made}

-- ---- lists

played_push : (old mid new : BoardView) (done more : List Event) (steps others : List machine.Event)
    → IsPlayed old done steps mid → IsPlayed mid more others new
    → IsPlayed old (done ++ more) (steps ++ others) new
played_push old mid new [] more steps others first next =
    subst (λ l. IsPlayed old more (l ++ others) new) (sym first.0)
    (subst (λ b. IsPlayed b more others new) first.1 next)
played_push old mid new (Look lane ∷ done) more steps others first next = (
  first.0 ++ others,
  ap (λ l. l ++ others) first.1,
  played_push (after_look old lane) mid new done more first.0 others first.2 next,
)
played_push old mid new (Settle lane offer ∷ done) more steps others first next = (
  first.0,
  first.1,
  first.2 ++ others,
  first.3,
  ap (λ l. l ++ others) first.4 ∙ append_assoc (steps_of lane offer first.0) first.2 others,
  played_push first.1 mid new done more first.2 others first.5 next,
)

run_push : (setup : Setup) (old mid new : machine.Machine) (steps others : List machine.Event)
    → machine.Run setup old steps mid → machine.Run setup mid others new
    → machine.Run setup old (steps ++ others) new
run_push setup old mid new [] others first next = subst (λ m. machine.Run setup m others new) first next
run_push setup old mid new (step ∷ steps) others first next =
    (first.0, first.1, run_push setup first.0 mid new steps others first.2 next)

-- ---- boards

pub played_then : (old mid new : BoardView) (done more : List Event) (n m : ℕ) → HasPlayed old done mid n
    → HasPlayed mid more new m → HasPlayed old (done ++ more) new (n + m)
played_then old mid new done more n m first next =
    let grown = first.grown in
    let grows = next.grown in
    let run = subst (λ s. machine.Run s (machine_of mid) next.steps (machine_of new)) first.setup next.run in
    record {
      steps = first.steps ++ next.steps;
      played = played_push old mid new done more first.steps next.steps first.played next.played;
      run = run_push old.setup (machine_of old) (machine_of mid) (machine_of new) first.steps next.steps first.run run;
      count = omega (
        arith,
        first.count,
        next.count,
        sum_by-append (λ (e : machine.Event). if is_settle e then 1 else 0) first.steps next.steps,
      );
      setup = next.setup ∙ first.setup;
      grown = omega arith;
    }

-- ---- a look

pub look_answered : (old new : BoardView) (lane : ℕ) (answer : Option Sight)
    → MatchOption answer (old.setup.turns ≤ turns_of lane old.entries)
    (λ sight. (turns_of lane old.entries < old.setup.turns) × (sight ≡ sight_of old lane))
    → MatchOption answer (new ≡ old) (λ sight. new ≡ looked_at old lane) → new ≡ after_look old lane
look_answered old new lane None high is =
    let f : nat_lt (turns_of lane old.entries) old.setup.turns ≡ false = grind (arith, nat_tests, high) in
    is ∙ sym (ap (λ c. if c then looked_at old lane else old) f)
look_answered old new lane (Some sight) low is =
    let left = low.0 in
    let t : nat_lt (turns_of lane old.entries) old.setup.turns ≡ true = grind (arith, nat_tests, left) in
    is ∙ sym (ap (λ c. if c then looked_at old lane else old) t)

setup_stays : (b : BoardView) (lane : ℕ) (test : Bool) → (if test then looked_at b lane else b).setup ≡ b.setup
setup_stays b lane true = refl
setup_stays b lane false = refl

entries_stay : (b : BoardView) (lane : ℕ) (test : Bool) → (if test then looked_at b lane else b).entries ≡ b.entries
entries_stay b lane true = refl
entries_stay b lane false = refl

pub look_played : (old new : BoardView) (lane : ℕ) → new ≡ after_look old lane
    → machine.Step old.setup (machine_of old) (machine.Look lane) (machine_of new)
    → HasPlayed old (Look lane ∷ []) new 0
look_played old new lane is step =
    let test : Bool = nat_lt (turns_of lane old.entries) old.setup.turns in
    let same : new.entries ≡ old.entries = ap (λ (b : BoardView). b.entries) is ∙ entries_stay old lane test in
    record {
      steps = machine.Look lane ∷ [];
      played = ([], refl, (refl, is));
      run = (machine_of new, step, refl);
      count = refl;
      setup = ap (λ (b : BoardView). b.setup) is ∙ setup_stays old lane test;
      grown = omega (arith, ap length same);
    }

-- ---- an offer

pub offer_played : (old new : BoardView) (lane : ℕ) (offer : Offer) (answer : Settled) (taken : ℕ)
    → IsSettled old lane offer answer new → IsEvent old lane offer answer new
    → taken ≡ taken_in (steps_of lane offer answer) → HasPlayed old (Settle lane offer ∷ []) new taken
offer_played old new lane offer (Accepted n) taken settled event count =
    let is = settled.4 in
    record {
      steps = steps_of lane offer (Accepted n);
      played = (Accepted n, new, [], settled, refl, (refl, refl));
      run = (machine_of new, event, refl);
      count = count;
      setup = ap (λ (b : BoardView). b.setup) is;
      grown = omega (
        arith,
        count,
        ap (λ (b : BoardView). length b.entries) is,
        length-append old.entries (entry_due old lane settled.0 offer ∷ []),
      );
    }
offer_played old new lane offer (Kept n) taken settled event count =
    let is = settled.4 in
    record {
      steps = steps_of lane offer (Kept n);
      played = (Kept n, new, [], settled, refl, (refl, refl));
      run = (machine_of new, event, refl);
      count = count;
      setup = ap (λ (b : BoardView). b.setup) is;
      grown = omega (
        arith,
        count,
        ap (λ (b : BoardView). length b.entries) is,
        length-append old.entries (entry_due old lane settled.0 offer ∷ []),
      );
    }
offer_played old new lane offer (Foreign back) taken settled event count =
    let is = settled.2 in
    record {
      steps = [];
      played = (Foreign back, new, [], settled, refl, (refl, refl));
      run = ap machine_of is;
      count = count;
      setup = ap (λ (b : BoardView). b.setup) is;
      grown = omega (arith, count, ap (λ (b : BoardView). length b.entries) is);
    }

pub made_by : (lane : ℕ) (offer : Offer) (answer : Settled)
    → entries_made answer ≡ taken_in (steps_of lane offer answer)
made_by lane offer (Accepted n) = refl
made_by lane offer (Kept n) = refl
made_by lane offer (Foreign back) = refl
