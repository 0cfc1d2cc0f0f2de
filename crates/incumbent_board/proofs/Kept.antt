-- What every board keeps, whichever call changes it.
use Rattle.std.proofs.Common.{◌≡◌, ℕ, zero, suc, ◌+◌, ◌<◌, ◌≤◌}
use Rattle.std.proofs.Common.{true, false, List, [], ◌∷◌, ◌++◌, length, map}
use Rattle.std.proofs.Common.{set, refl, sym, ap, subst, ◌∙◌, arith, inl, inr}
use Rattle.std.specs.Prelude.{nat_le, nat_lt, Option, Some, None, option_map, slice_get, slice_index}
use Rattle.std.specs.Prelude.{if◌then◌else◌}
use Rattle.std.proofs.lemmas.Bool.{cases_eq}
use Rattle.std.proofs.lemmas.Bool.Decides.{nat_tests}
use Rattle.std.proofs.lemmas.List.{length-append, length-map, map-set, get_or-append-add}
use Rattle.base.specs.declared.limits.TheConstants.{MAX_LINES}
use Rattle.op_order.specs.Legal.{IsLegal}
use Rattle.op_order.specs.Plans.{opening_of}
use Rattle.mutations.specs.Words.{words_of}
use Rattle.mutations.specs.Mutations.{applied, drawn}
use Rattle.cost_table.specs.Costs.{cost_of}
use Rattle.equiv_validator.specs.Kept.{CheckedListing, IsChecked, HasChecks}
use Rattle.journal_rules.specs.declared.journal.Entry.{Entry}
use Rattle.journal_rules.specs.Numbers.{Setup, IsLimited, Number, number_at, best_at, plan_seen, number_of, numbers_of}
use Rattle.journal_rules.specs.Numbers.{cost_at, plan_at}
use Rattle.journal_rules.specs.Legal.{turns_of, mutation_drawn}
use Rattle.journal_rules.specs.Machine.{Look, Settle, Step, looked, entry_of}
use Rattle.journal_rules.specs.Backed.{plain_cost, IsBacked, IsBackedEntry}
use Rattle.journal_rules.proofs.Lists.{get_set_same, get_set_other, split}
use Rattle.journal_rules.proofs.NumberLemmas.{number_front, best_most, best_front, plan_front, numbers_push}
use Rattle.journal_rules.proofs.NumberLemmas.{numbers_length, has_plans}
use Rattle.journal_rules.proofs.Legality.{each_push}
use Rattle.journal_rules.proofs.Runs.{starts, step_keeps}
use Rattle.incumbent_board.specs.declared.offer.Offer.{Offer}
use Rattle.incumbent_board.specs.Views as views
use Rattle.incumbent_board.specs.Views.{BoardView, seen_by, machine_of}
use Rattle.incumbent_board.specs.BoardOk.{IsKeptLook, HasIncumbent, IsBoard}
use Rattle.incumbent_board.specs.Calls.{begun, looked_at, offered_cost, least_cost, mutation_due, IsDue, entry_due}
use Rattle.incumbent_board.specs.Calls.{entered}

-- ---- lists

pub get_map : {X Y : Type 0} (f : X → Y) (xs : List X) (k : ℕ) → slice_get (map f xs) k ≡ option_map f (slice_get xs k)
get_map f [] k = refl
get_map f (x ∷ xs) zero = refl
get_map f (x ∷ xs) (suc k) = get_map f xs k

-- ---- looks of the machine

-- a look of the board is one of its machine
pub look_seen : (b : BoardView) (lane : ℕ) (look : views.Look) → slice_get b.looks lane ≡ Some (Some look)
    → slice_get (machine_of b).looks lane ≡ Some (Some look.seen)
look_seen b lane look at = get_map seen_by b.looks lane ∙ ap (option_map seen_by) at

pub lanes_are : (b : BoardView) → IsBoard b → length b.looks ≡ length b.setup.seeds
lanes_are b is = sym (length-map b.looks seen_by) ∙ is.machine.lanes

-- a lane that has a look is there
pub lane_there : (b : BoardView) → IsBoard b → (lane : ℕ) (look : views.Look)
    → slice_get b.looks lane ≡ Some (Some look) → lane < length b.setup.seeds
lane_there b is lane look at =
    let s = split b.looks lane (Some look) at in
    let low = s.low in
    let same = lanes_are b is in
    omega arith

-- ---- a look

pub look_step : (b : BoardView) (lane : ℕ) → lane < length b.setup.seeds → turns_of lane b.entries < b.setup.turns
    → Step b.setup (machine_of b) (Look lane) (machine_of (looked_at b lane))
look_step b lane low left =
    let t : nat_lt (turns_of lane b.entries) b.setup.turns ≡ true = grind (arith, nat_tests, left) in
    let look : Option views.Look = Some (record { seen = length b.entries; slots = b.incumbent.plan.slots }) in
    let same : machine_of (looked_at b lane) ≡ looked b.setup lane (machine_of b) =
    ap (λ ls. record { entries = b.entries; looks = ls }) (map-set seen_by b.looks lane look)
    ∙ sym (ap (λ c. if c then record { entries = b.entries; looks = set (map seen_by b.looks) lane (seen_by look) }
    else machine_of b) t) in
    (low, same)

-- a lane whose turns are all made sees nothing
pub no_look_step : (b : BoardView) (lane : ℕ) → lane < length b.setup.seeds → b.setup.turns ≤ turns_of lane b.entries
    → Step b.setup (machine_of b) (Look lane) (machine_of b)
no_look_step b lane low made =
    let f : nat_lt (turns_of lane b.entries) b.setup.turns ≡ false = grind (arith, nat_tests, made) in (
      low,
      sym (ap (λ c. if c then record {
        entries = b.entries;
        looks = set (map seen_by b.looks) lane (Some (length b.entries));
      } else machine_of b) f),
    )

pub looked_is_board : (b : BoardView) (lane : ℕ) → IsBoard b → lane < length b.setup.seeds
    → turns_of lane b.entries < b.setup.turns → IsBoard (looked_at b lane)
looked_is_board b lane is low left =
    let look : views.Look = record { seen = length b.entries; slots = b.incumbent.plan.slots } in
    let inc = is.incumbent in
    let lanes = lanes_are b is in
    let here : IsKeptLook b look = record {
      plan = inc.plan ∙ ap (plan_at b.setup b.entries) inc.best;
      legal = subst (λ p. IsLegal p b.incumbent.plan.slots) inc.program inc.checks.legal;
    } in
    record {
      limits = is.limits;
      machine = step_keeps b.setup (machine_of b) (machine_of (looked_at b lane)) (Look lane) is.machine
          (look_step b lane low left);
      plans = λ l other at. elim (cases_eq l lane) [
        | inl same ↦ let there : slice_get (set b.looks lane (Some look)) l ≡ Some (Some look) =
            ap (slice_get (set b.looks lane (Some look))) same ∙ get_set_same b.looks lane (Some look) (omega arith) in
            let is_look : look ≡ other = cc in
            let kept = subst (IsKeptLook b) is_look here in
            record { plan = kept.plan; legal = kept.legal }
        | inr apart ↦ let kept = is.plans l other (sym (get_set_other b.looks lane l (Some look) apart) ∙ at) in
            record { plan = kept.plan; legal = kept.legal }
      ];
      incumbent = record {
        best = inc.best;
        program = inc.program;
        plan = inc.plan;
        cost = inc.cost;
        checks = inc.checks;
      };
      backed = is.backed;
    }

-- ---- an offer

-- what is drawn for the look is what is drawn for the journal
due_drawn : (b : BoardView) (lane : ℕ) (look : views.Look) → IsKeptLook b look
    → mutation_due b lane look ≡ mutation_drawn b.setup b.entries lane (turns_of lane b.entries) look.seen
unfolding mutation_drawn
due_drawn b lane look kept =
    ap (λ slots. drawn b.setup.program slots (words_of (slice_index b.setup.seeds lane) (turns_of lane b.entries))
    b.setup.draw) kept.plan

due_entry : (b : BoardView) (lane : ℕ) (look : views.Look) (offer : Offer) → IsKeptLook b look
    → entry_due b lane look offer ≡ entry_of b.setup b.entries lane look.seen (offered_cost offer) offer.plain
due_entry b lane look offer kept =
    ap (λ mutation. record {
      lane = lane;
      turn = turns_of lane b.entries;
      seen = look.seen;
      mutation = mutation;
      cost = offered_cost offer;
      plain = offer.plain;
    }) (due_drawn b lane look kept)

pub settle_step : (b : BoardView) (lane : ℕ) (look : views.Look) (offer : Offer) (best : ℕ) (incumbent : CheckedListing)
    → IsBoard b → IsDue b lane offer look → Step b.setup (machine_of b) (Settle lane (offered_cost offer) offer.plain)
    (machine_of (entered b lane (entry_due b lane look offer) best incumbent))
settle_step b lane look offer best incumbent is due =
    let kept = is.plans lane look due.there in
    let e = due_entry b lane look offer kept in
    let ends = map-set seen_by b.looks lane None in
    (lane_there b is lane look due.there, look.seen, look_seen b lane look due.there, rw (e, ends) refl)

-- the number that the offer is
number_is : (b : BoardView) (lane : ℕ) (look : views.Look) (offer : Offer) → IsKeptLook b look → IsDue b lane offer look
    → number_of b.setup.program (numbers_of b.setup b.entries) (entry_due b lane look offer)
    ≡ record { cost = offered_cost offer; slots = offer.checked.plan.slots }
number_is b lane look offer kept due =
    ap (λ slots. record { cost = offered_cost offer; slots = slots })
    (sym (due.plan ∙ ap (applied b.setup.program (mutation_due b lane look)) kept.plan))

-- the numbers after it
pub record IsAfter (b : BoardView) (offer : Offer) (es : List Entry) : Type 0 where
  pub numbers : numbers_of b.setup es
      ≡ numbers_of b.setup b.entries ++ record { cost = offered_cost offer; slots = offer.checked.plan.slots } ∷ []
  pub size : length (numbers_of b.setup b.entries) ≡ suc (length b.entries)
  pub count : length es ≡ suc (length b.entries)

after : (b : BoardView) (lane : ℕ) (look : views.Look) (offer : Offer) → IsKeptLook b look → IsDue b lane offer look
    → IsAfter b offer (b.entries ++ entry_due b lane look offer ∷ [])
after b lane look offer kept due = record {
  numbers = numbers_push b.setup b.entries (entry_due b lane look offer)
      ∙ ap (λ n. numbers_of b.setup b.entries ++ n ∷ []) (number_is b lane look offer kept due);
  size = numbers_length b.setup b.entries;
  count = omega (arith, length-append b.entries (entry_due b lane look offer ∷ []));
}

seam : (ns : List Number) (n : Number) (k : ℕ) → length ns ≡ k → number_at (ns ++ n ∷ []) k ≡ n
seam ns n k e =
    let zero_more : k ≡ length ns + 0 = omega arith in
    ap (number_at (ns ++ n ∷ [])) zero_more ∙ get_or-append-add ns (n ∷ []) 0 (record { cost = 0; slots = [] })

-- the best number behind a new one
best_push : (ns : List Number) (n : Number) (j : ℕ) → length ns ≡ suc j
    → best_at (ns ++ n ∷ []) (suc j)
    ≡ (if nat_le n.cost (number_at ns (best_at ns j)).cost then suc j else best_at ns j)
best_push ns n j size =
    let most = best_most ns j in
    rw (
      seam ns n (suc j) size,
      best_front ns (n ∷ []) j (omega arith),
      number_front ns (n ∷ []) (best_at ns j) (omega arith),
    ) refl

accepted_has : (b : BoardView) (lane : ℕ) (look : views.Look) (offer : Offer) → IsBoard b → HasChecks offer.checked
    → IsDue b lane offer look → offered_cost offer ≤ least_cost b
    → HasIncumbent (entered b lane (entry_due b lane look offer) (suc (length b.entries)) offer.checked)
accepted_has b lane look offer is checks due low =
    let kept = is.plans lane look due.there in
    let a = after b lane look offer kept due in
    let ns : List Number = numbers_of b.setup b.entries in
    let n : Number = record { cost = offered_cost offer; slots = offer.checked.plan.slots } in
    let j : ℕ = length b.entries in
    let inc = is.incumbent in
    let cost : least_cost b ≡ (number_at ns (best_at ns j)).cost = inc.cost ∙ ap (cost_at b.setup b.entries) inc.best in
    let t : nat_le (offered_cost offer) (number_at ns (best_at ns j)).cost ≡ true = grind (
      arith,
      nat_tests,
      low,
      cost,
    ) in
    let best : best_at (ns ++ n ∷ []) (suc j) ≡ suc j =
    best_push ns n j a.size ∙ ap (λ c. if c then suc j else best_at ns j) t in
    let last : number_at (numbers_of b.setup (b.entries ++ entry_due b lane look offer ∷ [])) (suc j) ≡ n =
    ap (λ l. number_at l (suc j)) a.numbers ∙ seam ns n (suc j) a.size in
    record {
      best = sym (ap (best_at (numbers_of b.setup (b.entries ++ entry_due b lane look offer ∷ []))) a.count
          ∙ ap (λ l. best_at l (suc j)) a.numbers ∙ best);
      program = due.program;
      plan = sym (ap (λ (m : Number). m.slots) last);
      cost = sym (ap (λ (m : Number). m.cost) last);
      checks = checks;
    }

kept_has : (b : BoardView) (lane : ℕ) (look : views.Look) (offer : Offer) → IsBoard b
    → IsDue b lane offer look → least_cost b < offered_cost offer
    → HasIncumbent (entered b lane (entry_due b lane look offer) b.best b.incumbent)
kept_has b lane look offer is due high =
    let kept = is.plans lane look due.there in
    let a = after b lane look offer kept due in
    let ns : List Number = numbers_of b.setup b.entries in
    let n : Number = record { cost = offered_cost offer; slots = offer.checked.plan.slots } in
    let j : ℕ = length b.entries in
    let inc = is.incumbent in
    let size = a.size in
    let most = best_most ns j in
    let at = inc.best in
    let cost : least_cost b ≡ (number_at ns (best_at ns j)).cost = inc.cost ∙ ap (cost_at b.setup b.entries) inc.best in
    let f : nat_le (offered_cost offer) (number_at ns (best_at ns j)).cost ≡ false =
    grind (arith, nat_tests, high, cost) in
    let best : best_at (ns ++ n ∷ []) (suc j) ≡ best_at ns j =
    best_push ns n j a.size ∙ ap (λ c. if c then suc j else best_at ns j) f in
    let same : number_at (numbers_of b.setup (b.entries ++ entry_due b lane look offer ∷ [])) b.best
    ≡ number_at ns b.best =
    ap (λ l. number_at l b.best) a.numbers ∙ number_front ns (n ∷ []) b.best (omega arith) in
    record {
      best = inc.best ∙ sym (ap (best_at (numbers_of b.setup (b.entries ++ entry_due b lane look offer ∷ []))) a.count
          ∙ ap (λ l. best_at l (suc j)) a.numbers ∙ best);
      program = inc.program;
      plan = inc.plan ∙ sym (ap (λ (m : Number). m.slots) same);
      cost = inc.cost ∙ sym (ap (λ (m : Number). m.cost) same);
      checks = inc.checks;
    }

-- an offer that is due, and then the incumbent
entered_is_board : (b : BoardView) (lane : ℕ) (look : views.Look) (offer : Offer) (best : ℕ)
    (incumbent : CheckedListing)
    → IsBoard b → HasChecks offer.checked → length offer.checked.listing.lines ≤ MAX_LINES
    → offer.plain ≡ nat_le (plain_cost offer.checked.program offer.checked.plan.slots) (offered_cost offer)
    → IsDue b lane offer look
    → HasIncumbent (entered b lane (entry_due b lane look offer) best incumbent)
    → IsBoard (entered b lane (entry_due b lane look offer) best incumbent)
entered_is_board b lane look offer best incumbent is checks short mark due has =
    let kept = is.plans lane look due.there in
    let a = after b lane look offer kept due in
    let e : Entry = entry_due b lane look offer in
    let ns : List Number = numbers_of b.setup b.entries in
    let n : Number = record { cost = offered_cost offer; slots = offer.checked.plan.slots } in
    let lanes = lanes_are b is in
    let there = lane_there b is lane look due.there in
    let size = a.size in
    let number = number_is b lane look offer kept due in
    let backed : IsBacked b.setup.program n = record {
      listing = offer.checked.listing;
      short = short;
      checks = subst (λ p. IsChecked p offer.checked.plan.slots offer.checked.listing) due.program checks;
      cost = refl;
    } in
    let marked : offer.plain ≡ nat_le (plain_cost b.setup.program n.slots) n.cost =
    mark ∙ ap (λ p. nat_le (plain_cost p offer.checked.plan.slots) (offered_cost offer)) due.program in
    record {
      limits = is.limits;
      machine = step_keeps b.setup (machine_of b) _ (Settle lane (offered_cost offer) offer.plain) is.machine
          (settle_step b lane look offer best incumbent is due);
      plans = λ l other at. elim (cases_eq l lane) [
        | inl same ↦ absurd (let here : slice_get (set b.looks lane None) l ≡ Some None =
            ap (slice_get (set b.looks lane None)) same ∙ get_set_same b.looks lane None (omega arith) in cc)
        | inr apart ↦ let before = sym (get_set_other b.looks lane l None apart) ∙ at in
            let k = is.plans l other before in
            let m = is.machine.looks l other.seen (look_seen b l other before) in
            let most = m.most in
            record {
              plan = k.plan ∙ sym (ap (λ list. plan_seen list other.seen) a.numbers
                  ∙ plan_front ns (n ∷ []) other.seen (omega arith));
              legal = k.legal;
            }
      ];
      incumbent = has;
      backed = record {
        opening = is.backed.opening;
        entries = each_push (IsBackedEntry b.setup) [] b.entries e is.backed.entries (record {
          backed = subst (IsBacked b.setup.program) (sym number) backed;
          mark = marked ∙ sym (ap (λ (m : Number). nat_le (plain_cost b.setup.program m.slots) m.cost) number);
        });
      };
    }

pub accepted_is_board : (b : BoardView) (lane : ℕ) (look : views.Look) (offer : Offer) → IsBoard b
    → HasChecks offer.checked → length offer.checked.listing.lines ≤ MAX_LINES
    → offer.plain ≡ nat_le (plain_cost offer.checked.program offer.checked.plan.slots) (offered_cost offer)
    → IsDue b lane offer look → offered_cost offer ≤ least_cost b
    → IsBoard (entered b lane (entry_due b lane look offer) (suc (length b.entries)) offer.checked)
accepted_is_board b lane look offer is checks short mark due low =
    entered_is_board b lane look offer (suc (length b.entries)) offer.checked is checks short mark due
    (accepted_has b lane look offer is checks due low)

pub kept_is_board : (b : BoardView) (lane : ℕ) (look : views.Look) (offer : Offer) → IsBoard b
    → HasChecks offer.checked → length offer.checked.listing.lines ≤ MAX_LINES
    → offer.plain ≡ nat_le (plain_cost offer.checked.program offer.checked.plan.slots) (offered_cost offer)
    → IsDue b lane offer look → least_cost b < offered_cost offer
    → IsBoard (entered b lane (entry_due b lane look offer) b.best b.incumbent)
kept_is_board b lane look offer is checks short mark due high =
    entered_is_board b lane look offer b.best b.incumbent is checks short mark due
    (kept_has b lane look offer is due high)

-- ---- the start

no_looks : (seeds : List ℕ) → map seen_by (map (λ seed. None) seeds) ≡ map (λ seed. None) seeds
no_looks [] = refl
no_looks (s ∷ seeds) = ap (λ l. None ∷ l) (no_looks seeds)

no_look : (seeds : List ℕ) (k : ℕ) (look : views.Look) → slice_get (map (λ seed. None) seeds) k ≡ Some (Some look) → ⊥
no_look [] k look e = cc
no_look (s ∷ seeds) zero look e = cc
no_look (s ∷ seeds) (suc k) look e = no_look seeds k look e

pub begun_is_board : (setup : Setup) (opening : CheckedListing) → IsLimited setup → HasChecks opening
    → length opening.listing.lines ≤ MAX_LINES → opening.program ≡ setup.program
    → opening.plan.slots ≡ opening_of setup.program
    → setup.opening ≡ cost_of opening.listing.lines → IsBoard (begun setup opening)
begun_is_board setup opening limits checks short program plan cost =
    let plans = has_plans setup [] in
    record {
      limits = limits;
      machine = starts setup (machine_of (begun setup opening)) (refl, no_looks setup.seeds);
      plans = λ lane look at. absurd (no_look setup.seeds lane look at);
      incumbent = record {
        best = refl;
        program = program;
        plan = plan ∙ sym plans.opening_plan;
        cost = sym (plans.opening_cost ∙ cost);
        checks = checks;
      };
      backed = record {
        opening = record {
          listing = opening.listing;
          short = short;
          checks = subst (λ slots. IsChecked setup.program slots opening.listing) plan
              (subst (λ p. IsChecked p opening.plan.slots opening.listing) program checks);
          cost = cost;
        };
        entries = tt;
      };
    }
