-- What the code that plays an entry wants, by the number of entries before it.
use Rattle.std.proofs.Common.{◌≡◌, ◌+◌, ◌≤◌, ℕ, zero, suc, List, [], ◌∷◌, ◌++◌, length, map, take, drop, get_or}
use Rattle.std.proofs.Common.{refl, sym, ap, subst, ◌∙◌, arith}
use Rattle.std.specs.Prelude.{Some, slice_get, slice_index}
use Rattle.std.specs.List.{All, range_with_len}
use Rattle.std.proofs.lemmas.List.{drop_more, take_more, take_all, drop_all, get_or_default}
use Rattle.std.proofs.lemmas.List.FromFn.{length-map-range_with_len, get_or-map-range_with_len}
use Rattle.op_order.specs.declared.slot.Slot.{Slot}
use Rattle.op_order.specs.Legal.{IsLegal}
use Rattle.op_order.specs.Plans.{opening_of}
use Rattle.op_order.proofs.LegalLemmas.{legal_count}
use Rattle.mutations.specs.declared.mutation.Mutation.{Mutation}
use Rattle.mutations.specs.Mutations.{Fits, applied, drawn}
use Rattle.mutations.specs.Words.{words_of}
use Rattle.mutations.proofs.Applied.{legal_after}
use Rattle.journal_rules.specs.declared.journal.Entry.{Entry}
use Rattle.journal_rules.specs.Numbers.{Setup, number_at, opening_number, numbers_of}
use Rattle.journal_rules.specs.Legal.{mutation_drawn}
use Rattle.journal_rules.proofs.Lists.{split}
use Rattle.journal_replay.specs.declared.lanes.Lane.{Lane}
use Rattle.journal_replay.specs.Rules.{BreaksFirst, HasFaultyEntry}
use Rattle.journal_replay.specs.Inside.{next_seen, fresh, lane_at, PlayerView, look_in, compared, gone_on, IsPlanSeen}
use Rattle.journal_replay.specs.Inside.{IsLane, IsPlayed, KeepsPlace}
use Rattle.journal_replay.proofs.RuleLemmas.{breaks_mutation, entry_is}
use Rattle.journal_replay.proofs.Looks.{look_seen}
use Rattle.journal_replay.proofs.Steps.{stepped}

-- ---- the entry behind so many others

get_some : {X : Type 0} (xs : List X) (k : ℕ) (x d : X) → slice_get xs k ≡ Some x → get_or xs k d ≡ x
get_some [] k x d e = absurd (cc)
get_some (y ∷ xs) zero x d e = cc
get_some (y ∷ xs) (suc k) x d e = get_some xs k x d e

record IsCut (es : List Entry) (at : ℕ) (e : Entry) : Type 0 where
  size : length (take at es) ≡ at
  front : take (at + 1) es ≡ take at es ++ e ∷ []
  rest : drop at es ≡ e ∷ drop (at + 1) es

cut : (es : List Entry) (at : ℕ) (e : Entry) → slice_get es at ≡ Some e → IsCut es at e
cut es at e there =
    let s = split es at e there in
    let is = get_some es at e e there in
    record {
      size = s.count;
      front = take_more es at e s.low ∙ ap (λ x. take at es ++ x ∷ []) is;
      rest = drop_more es at e s.low ∙ ap (λ x. x ∷ drop (at + 1) es) is;
    }

-- ---- the look of its lane

pub look_at : (setup : Setup) (es : List Entry) (at : ℕ) (e : Entry) (p : PlayerView) → slice_get es at ≡ Some e
    → IsPlayed setup (take at es) (drop at es) p → KeepsPlace setup (take at es) e
    → IsPlanSeen setup (take at es) e.seen (look_in p e.lane).slots
look_at setup es at e p there played place =
    let c = cut es at e there in
    look_seen setup (take at es) (drop (at + 1) es) e p
    (subst (λ rest. IsPlayed setup (take at es) rest p) c.rest played) place

-- what is drawn for the look is what the rule asks for
pub look_drawn : (setup : Setup) (es : List Entry) (e : Entry) (slots : List Slot) → IsPlanSeen setup es e.seen slots
    → drawn setup.program slots (words_of (slice_index setup.seeds e.lane) e.turn) setup.draw
    ≡ mutation_drawn setup es e.lane e.turn e.seen
unfolding mutation_drawn
look_drawn setup es e slots look =
    ap (λ s. drawn setup.program s (words_of (slice_index setup.seeds e.lane) e.turn) setup.draw) look.is

-- another mutation was drawn
pub breaks_drawn : (setup : Setup) (es : List Entry) (e : Entry) (slots : List Slot) (m : Mutation)
    → KeepsPlace setup es e → IsPlanSeen setup es e.seen slots
    → m ≡ drawn setup.program slots (words_of (slice_index setup.seeds e.lane) e.turn) setup.draw
    → (m ≡ e.mutation → ⊥) → BreaksFirst setup es e 5
breaks_drawn setup es e slots m place look is other =
    breaks_mutation setup es e place (λ same. other (is ∙ look_drawn setup es e slots look ∙ sym same))

-- ---- rooms

pub rooms_are : (setup : Setup) (done rest : List Entry) (p : PlayerView) → IsPlayed setup done rest p
    → All (λ lane. length p.plan.slots ≤ lane.plan.room) p.lanes
rooms_are setup done rest p played k d low =
    let lane = played.lanes k low in
    let room = lane.room in
    let plan = played.plan in
    let count = legal_count setup.program p.plan.slots plan.legal in
    subst (λ (l : Lane). length p.plan.slots ≤ l.plan.room) (get_or_default p.lanes k (fresh [] 0 0) d low)
    (omega arith)

pub look_fits : (setup : Setup) (es : List Entry) (seen room : ℕ) (slots : List Slot) → IsPlanSeen setup es seen slots
    → length setup.program.ops ≤ room → length slots ≤ room
look_fits setup es seen room slots look low =
    let count = legal_count setup.program slots look.legal in
    omega arith

-- ---- one entry more

pub played_on : (setup : Setup) (es : List Entry) (at : ℕ) (e : Entry) (p q r : PlayerView) (m : Mutation)
    (rest : List Entry) → slice_get es at ≡ Some e
    → IsPlayed setup (take at es) (drop at es) p → KeepsPlace setup (take at es) e
    → m ≡ drawn setup.program (look_in p e.lane).slots (words_of (slice_index setup.seeds e.lane) e.turn) setup.draw
    → Fits setup.program (look_in p e.lane).slots m → m ≡ e.mutation → q ≡ compared setup.program at e p
    → rest ≡ drop (at + 1) es → r ≡ gone_on (at + 1) (next_seen e.lane rest) e.lane q
    → IsPlayed setup (take (at + 1) es) (drop (at + 1) es) r
played_on setup es at e p q r m rest there played place drawn_is fits same compared_is rest_is gone_is =
    let c = cut es at e there in
    let look = look_at setup es at e p there played place in
    let entry = entry_is setup (take at es) e place
    (sym same ∙ drawn_is ∙ look_drawn setup (take at es) e (look_in p e.lane).slots look) in
    let here : IsPlayed setup (take at es) (e ∷ drop (at + 1) es) p =
    subst (λ l. IsPlayed setup (take at es) l p) c.rest played in
    let legal : IsLegal setup.program (applied setup.program e.mutation (look_in p e.lane).slots) =
    legal_after setup.program e.mutation (look_in p e.lane).slots _ look.legal
    (subst (Fits setup.program (look_in p e.lane).slots) same fits) refl in
    let on = stepped setup (take at es) (drop (at + 1) es) e p here entry look legal in
    let is : gone_on (length (take at es) + 1) (next_seen e.lane (drop (at + 1) es)) e.lane
    (compared setup.program (length (take at es)) e p) ≡ r =
    ap (λ n. gone_on (n + 1) (next_seen e.lane (drop (at + 1) es)) e.lane (compared setup.program n e p)) c.size
    ∙ sym (gone_is ∙ ap (λ l. gone_on (at + 1) (next_seen e.lane l) e.lane q) rest_is
    ∙ ap (gone_on (at + 1) (next_seen e.lane (drop (at + 1) es)) e.lane) compared_is) in
    subst (λ l. IsPlayed setup l (drop (at + 1) es) r) (sym c.front)
    (subst (IsPlayed setup (take at es ++ e ∷ []) (drop (at + 1) es)) is on)

-- ---- before the first entry

first_numbers : (setup : Setup) → numbers_of setup [] ≡ opening_number setup ∷ []
unfolding numbers_of
first_numbers setup = refl

pub begun : (setup : Setup) (es : List Entry) (count room : ℕ) (p : PlayerView) → count ≡ length setup.seeds
    → p.lanes ≡ map (fresh es room) (range_with_len 0 count) → room ≡ length setup.program.ops → p.best ≡ 0
    → p.least ≡ setup.opening → p.plan.slots ≡ opening_of setup.program → IsLegal setup.program p.plan.slots
    → p.plan.room ≡ length setup.program.ops → p.scratch.room ≡ room → IsPlayed setup [] es p
begun setup es count room p count_is lanes_are room_is best least plan legal plan_room scratch_room =
    let first = first_numbers setup in
    let size : length p.lanes ≡ count = ap length lanes_are ∙ length-map-range_with_len (fresh es room) 0 count in
    record {
      legal = tt;
      best = best;
      least = least ∙ sym (ap (λ ns. (number_at ns 0).cost) first);
      plan = record { is = plan ∙ sym (ap (λ ns. (number_at ns 0).slots) first); legal = legal };
      count = size ∙ count_is;
      lanes = λ lane low.
          let is : fresh es room lane ≡ lane_at p.lanes lane =
          sym (ap (λ l. lane_at l lane) lanes_are
          ∙ get_or-map-range_with_len (fresh es room) 0 count lane lane (fresh [] 0 0) (omega arith) (omega arith)) in
          subst (IsLane setup [] es p.best lane) is (record {
            turn = refl;
            last = refl;
            next = refl;
            look = λ since over. absurd (omega arith);
            room = omega arith;
          });
      room = omega arith;
      scratch = omega arith;
    }
