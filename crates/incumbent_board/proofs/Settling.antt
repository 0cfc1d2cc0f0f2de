-- What a board awaits of an offer, and what it makes of one that is due.
use Rattle.std.proofs.Common.{◌≡◌, ℕ, suc, ◌<◌, ◌≤◌, List, [], ◌∷◌, ◌++◌, length, map, set}
use Rattle.std.proofs.Common.{get_or, sym, ap, subst, ◌∙◌, arith}
use Rattle.std.specs.Prelude.{nat_le, Option, Some, slice_index}
use Rattle.std.specs.Arc.{arc_value}
use Rattle.std.proofs.lemmas.List.{length-append}
use Rattle.base.specs.declared.limits.TheConstants.{MAX_LINES}
use Rattle.word_program.specs.Program.{Source}
use Rattle.op_order.specs.declared.slot.Slot.{Slot}
use Rattle.mutations.specs.Words.{words_of}
use Rattle.mutations.specs.Mutations.{applied, drawn}
use Rattle.mutations.specs.declared.mutation.Mutation.{Mutation}
use Rattle.equiv_validator.specs.Kept.{CheckedListing, HasChecks}
use Rattle.journal_rules.specs.declared.journal.Entry.{Entry}
use Rattle.journal_rules.specs.Legal.{turns_of}
use Rattle.journal_rules.specs.Machine.{Step, Settle}
use Rattle.journal_rules.specs.Backed.{plain_cost}
use Rattle.incumbent_board.specs.declared.lanes.Lane.{Lane}
use Rattle.incumbent_board.specs.declared.board.Board.TheInside.{Inside}
use Rattle.incumbent_board.specs.declared.offer.Offer.{Offer}
use Rattle.incumbent_board.specs.Views.{Look, BoardView, machine_of}
use Rattle.incumbent_board.specs.BoardOk.{IsBoard}
use Rattle.incumbent_board.specs.Calls.{mutation_due, offered_cost, least_cost, IsDue, entry_due, entered}
use Rattle.incumbent_board.specs.Inside.{lane_at, ended, look_of, view_of, IsInside, IsAwaited}
use Rattle.incumbent_board.proofs.Kept.{settle_step, accepted_is_board, kept_is_board}
use Rattle.incumbent_board.proofs.Stored.{lane_read, look_is, looks_ended}
use Rattle.incumbent_board.proofs.Inside.{IsSameSearch, IsLeft, look_left, inside_entered, an_entry, same_entry}

-- ---- what is awaited

-- the look of a lane that was read, where the offer has its lane, its turn and the program
pub awaited_is : (a : Inside) (lane seen : ℕ) (offer : Offer) (x y : Lane) → IsInside a
    → lane < length a.lanes.items → x ≡ get_or a.lanes.items lane x → x.seen ≡ Some seen → offer.lane ≡ lane
    → y ≡ get_or a.lanes.items lane y → offer.turn ≡ y.turn → offer.checked.program ≡ arc_value a.program
    → IsAwaited (view_of a) lane offer (record { seen = seen; slots = (lane_at a.lanes.items lane).plan.slots })
awaited_is a lane seen offer x y is low at some same also turn program = record {
  there = look_is a.lanes.items lane seen low
      (sym (ap (λ (l : Lane). l.seen) (lane_read a.lanes.items lane x low at)) ∙ some);
  lane = same;
  turn = turn ∙ ap (λ (l : Lane). l.turn) (lane_read a.lanes.items lane y low also) ∙ is.turns lane low;
  program = program;
}

-- ---- what is due

-- what was drawn and applied for the plan of a look
pub record IsMade (a : Inside) (lane : ℕ) (look : Look) (mutation : Mutation) (slots : List Slot) : Type 0 where
  pub mutation_is : mutation ≡ mutation_due (view_of a) lane look
  pub slots_are : slots ≡ applied (arc_value a.program) (mutation_due (view_of a) lane look) look.slots

pub made_is : (a : Inside) (lane turn seed : ℕ) (look : Look) (p : Source) (slots made : List Slot) (ws : List ℕ)
    (mutation : Mutation) → p ≡ arc_value a.program → look.slots ≡ slots → seed ≡ slice_index a.seeds.items lane
    → turn ≡ turns_of lane a.entries.items → ws ≡ words_of seed turn → mutation ≡ drawn p slots ws a.draw
    → made ≡ applied p mutation slots → IsMade a lane look mutation made
made_is a lane turn seed look p slots made ws mutation program same seeded turned worded is applies =
    let words : ws ≡ words_of (slice_index a.seeds.items lane) (turns_of lane a.entries.items) =
    worded ∙ ap (λ s. words_of s turn) seeded ∙ ap (words_of (slice_index a.seeds.items lane)) turned in
    let e : mutation ≡ mutation_due (view_of a) lane look =
    is ∙ ap (λ q. drawn q slots ws a.draw) program
    ∙ ap (λ s. drawn (arc_value a.program) s ws a.draw) (sym same)
    ∙ ap (λ w. drawn (arc_value a.program) look.slots w a.draw) words in
    record {
      mutation_is = e;
      slots_are = applies ∙ ap (λ q. applied q mutation slots) program
          ∙ ap (applied (arc_value a.program) mutation) (sym same)
          ∙ ap (λ m. applied (arc_value a.program) m look.slots) e;
    }

pub due_is : (a : Inside) (lane : ℕ) (offer : Offer) (look : Look) (mutation : Mutation) (slots : List Slot)
    → IsAwaited (view_of a) lane offer look → IsMade a lane look mutation slots → slots ≡ offer.checked.plan.slots
    → IsDue (view_of a) lane offer look
due_is a lane offer look mutation slots is made same = record {
  there = is.there;
  lane = is.lane;
  turn = is.turn;
  program = is.program;
  plan = sym same ∙ made.slots_are;
}

-- ---- an offer that is due

-- other entries, looks and another incumbent
abbrev pub changed : BoardView → List Entry → List (Option Look) → ℕ → CheckedListing → BoardView
changed b entries looks best incumbent = record {
  setup = b.setup;
  entries = entries;
  looks = looks;
  best = best;
  incumbent = incumbent;
}

pub entered_view : (a : Inside) (lane : ℕ) (look : Look) (offer : Offer) (e : Entry) (entries : List Entry)
    (lanes : List Lane) (best : ℕ) (incumbent : CheckedListing) → e ≡ entry_due (view_of a) lane look offer
    → entries ≡ a.entries.items ++ e ∷ [] → lanes ≡ set a.lanes.items lane (ended (lane_at a.lanes.items lane))
    → changed (view_of a) entries (map look_of lanes) best incumbent
    ≡ entered (view_of a) lane (entry_due (view_of a) lane look offer) best incumbent
entered_view a lane look offer e entries lanes best incumbent entry is ends =
    ap (λ l. changed (view_of a) l (map look_of lanes) best incumbent)
    (is ∙ ap (λ x. a.entries.items ++ x ∷ []) entry)
    ∙ ap (λ l. changed (view_of a) (a.entries.items ++ entry_due (view_of a) lane look offer ∷ []) l best incumbent)
    (ap (map look_of) ends ∙ looks_ended a.lanes.items lane)

pub pushed : (xs ys : List Entry) (e : Entry) → ys ≡ xs ++ e ∷ [] → length ys ≡ suc (length xs)
pushed xs ys e is = omega (arith, ap length is, length-append xs (e ∷ []))

-- what is known where an offer is settled: the board, and what is due of the offer
pub record IsOffered (a : Inside) (v : BoardView) (lane seen cost : ℕ) (offer : Offer) (look : Look)
    (mutation : Mutation) : Type 0 where
  pub inside : IsInside a
  pub view : view_of a ≡ v
  pub due : IsDue v lane offer look
  pub seen_is : seen ≡ look.seen
  pub mutation_is : mutation ≡ mutation_due v lane look
  pub cost_is : cost ≡ offered_cost offer
  pub checks : HasChecks offer.checked

-- the same of the board's view
pub record HasEntry (a : Inside) (lane seen cost : ℕ) (offer : Offer) (look : Look) (mutation : Mutation)
    : Type 0 where
  pub due : IsDue (view_of a) lane offer look
  pub entry : an_entry lane offer.turn seen mutation cost offer.plain ≡ entry_due (view_of a) lane look offer

has_entry : (a : Inside) (v : BoardView) (lane seen cost : ℕ) (offer : Offer) (look : Look) (mutation : Mutation)
    → IsOffered a v lane seen cost offer look mutation → HasEntry a lane seen cost offer look mutation
has_entry a v lane seen cost offer look mutation is =
    let due = subst (λ (b : BoardView). IsDue b lane offer look) (sym is.view) is.due in
    record {
      due = due;
      entry = same_entry lane offer.turn (turns_of lane a.entries.items) seen look.seen mutation
          (mutation_due (view_of a) lane look) cost (offered_cost offer) offer.plain due.turn is.seen_is
          (subst (λ (b : BoardView). mutation ≡ mutation_due b lane look) (sym is.view) is.mutation_is) is.cost_is;
    }

pub offered_left : (a : Inside) (v : BoardView) (lane seen cost : ℕ) (offer : Offer) (look : Look)
    (mutation : Mutation) → IsOffered a v lane seen cost offer look mutation → IsLeft a lane
offered_left a v lane seen cost offer look mutation is =
    let has = has_entry a v lane seen cost offer look mutation is in
    look_left a lane look is.inside has.due.there

-- the board with the entry is a board, and goes on by a step of the machine
pub record IsTaken (b : Inside) (v : BoardView) (lane : ℕ) (offer : Offer) (look : Look) (best : ℕ)
    (incumbent : CheckedListing) : Type 0 where
  pub inside : IsInside b
  pub view : view_of b ≡ entered v lane (entry_due v lane look offer) best incumbent
  pub step : Step v.setup (machine_of v) (Settle lane (offered_cost offer) offer.plain) (machine_of (view_of b))

taken_is : (a b : Inside) (v : BoardView) (lane seen cost : ℕ) (offer : Offer) (look : Look) (mutation : Mutation)
    (best : ℕ) (incumbent : CheckedListing) → IsOffered a v lane seen cost offer look mutation → IsSameSearch a b
    → b.entries.items ≡ a.entries.items ++ an_entry lane offer.turn seen mutation cost offer.plain ∷ []
    → b.lanes.items ≡ set a.lanes.items lane (ended (lane_at a.lanes.items lane))
    → view_of b ≡ changed (view_of a) b.entries.items (map look_of b.lanes.items) best incumbent
    → IsBoard (entered (view_of a) lane (entry_due (view_of a) lane look offer) best incumbent)
    → IsTaken b v lane offer look best incumbent
taken_is a b v lane seen cost offer look mutation best incumbent is same entries lanes view board =
    let e : Entry = an_entry lane offer.turn seen mutation cost offer.plain in
    let has = has_entry a v lane seen cost offer look mutation is in
    let left = look_left a lane look is.inside has.due.there in
    let all : view_of b ≡ entered (view_of a) lane (entry_due (view_of a) lane look offer) best incumbent =
    view ∙ entered_view a lane look offer e b.entries.items b.lanes.items best incumbent has.entry entries lanes in
    let step : Step (view_of a).setup (machine_of (view_of a)) (Settle lane (offered_cost offer) offer.plain)
    (machine_of (view_of b)) = subst (λ (w : BoardView). Step (view_of a).setup (machine_of (view_of a))
    (Settle lane (offered_cost offer) offer.plain) (machine_of w)) (sym all)
    (settle_step (view_of a) lane look offer best incumbent is.inside.board has.due) in
    record {
      inside = inside_entered a b e is.inside same left.low left.left (subst IsBoard (sym all) board) entries lanes;
      view = subst (λ (w : BoardView). view_of b ≡ entered w lane (entry_due w lane look offer) best incumbent)
          is.view all;
      step = subst (λ (w : BoardView). Step w.setup (machine_of w) (Settle lane (offered_cost offer) offer.plain)
          (machine_of (view_of b))) is.view step;
    }

pub accepted_taken : (a b : Inside) (v : BoardView) (lane seen cost : ℕ) (offer : Offer) (look : Look)
    (mutation : Mutation) (number : ℕ) → IsOffered a v lane seen cost offer look mutation → IsSameSearch a b
    → b.entries.items ≡ a.entries.items ++ an_entry lane offer.turn seen mutation cost offer.plain ∷ []
    → b.lanes.items ≡ set a.lanes.items lane (ended (lane_at a.lanes.items lane))
    → view_of b ≡ changed (view_of a) b.entries.items (map look_of b.lanes.items) number offer.checked
    → number ≡ suc (length a.entries.items) → length offer.checked.listing.lines ≤ MAX_LINES
    → offer.plain ≡ nat_le (plain_cost offer.checked.program offer.checked.plan.slots) (offered_cost offer)
    → cost ≤ a.least → IsTaken b v lane offer look number offer.checked
accepted_taken a b v lane seen cost offer look mutation number is same entries lanes view count short mark low =
    let has = has_entry a v lane seen cost offer look mutation is in
    let cheap : offered_cost offer ≤ least_cost (view_of a) = omega (arith, low, is.cost_is, is.inside.least) in
    taken_is a b v lane seen cost offer look mutation number offer.checked is same entries lanes view
    (subst (λ n. IsBoard (entered (view_of a) lane (entry_due (view_of a) lane look offer) n offer.checked)) (sym count)
    (accepted_is_board (view_of a) lane look offer is.inside.board is.checks short mark has.due cheap))

pub kept_taken : (a b : Inside) (v : BoardView) (lane seen cost : ℕ) (offer : Offer) (look : Look)
    (mutation : Mutation) → IsOffered a v lane seen cost offer look mutation → IsSameSearch a b
    → b.entries.items ≡ a.entries.items ++ an_entry lane offer.turn seen mutation cost offer.plain ∷ []
    → b.lanes.items ≡ set a.lanes.items lane (ended (lane_at a.lanes.items lane))
    → view_of b ≡ changed (view_of a) b.entries.items (map look_of b.lanes.items) a.best a.incumbent
    → length offer.checked.listing.lines ≤ MAX_LINES
    → offer.plain ≡ nat_le (plain_cost offer.checked.program offer.checked.plan.slots) (offered_cost offer)
    → a.least < cost → IsTaken b v lane offer look v.best v.incumbent
kept_taken a b v lane seen cost offer look mutation is same entries lanes view short mark high =
    let has = has_entry a v lane seen cost offer look mutation is in
    let dear : least_cost (view_of a) < offered_cost offer = omega (arith, high, is.cost_is, is.inside.least) in
    subst (λ (w : BoardView). IsTaken b v lane offer look w.best w.incumbent) is.view
    (taken_is a b v lane seen cost offer look mutation a.best a.incumbent is same entries lanes view
    (kept_is_board (view_of a) lane look offer is.inside.board is.checks short mark has.due dear))
