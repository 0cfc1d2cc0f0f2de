-- The plan that a lane sees next is the incumbent's at its look, whether it was kept for the lane or is the
-- incumbent's still.
use Rattle.std.proofs.Common.{◌≡◌, ◌≢◌, ◌+◌, ◌<◌, ◌≤◌, ℕ, zero, suc, Bool, true, false, List, [], ◌∷◌, ◌++◌, length}
use Rattle.std.proofs.Common.{map}
use Rattle.std.proofs.Common.{refl, sym, ap, subst, ◌∙◌, arith, inl, inr}
use Rattle.std.specs.Prelude.{◌==◌, ◌&&◌, nat_le, nat_lt, if◌then◌else◌}
use Rattle.std.proofs.lemmas.Bool.{cases_eq}
use Rattle.std.proofs.lemmas.Bool.Decides.{nat_tests}
use Rattle.std.proofs.lemmas.List.{get_or-map}
use Rattle.op_order.specs.declared.slot.Slot.{Slot}
use Rattle.journal_rules.specs.declared.journal.Entry.{Entry}
use Rattle.journal_rules.specs.Numbers.{Setup, Number, number_at, best_at, plan_seen, number_of, numbers_of}
use Rattle.journal_rules.proofs.NumberLemmas.{plan_front, numbers_push, numbers_length}
use Rattle.journal_replay.specs.declared.lanes.Lane.{Lane}
use Rattle.journal_replay.specs.Inside.{next_seen, fresh, lane_at, kept, PlayerView, look_in, IsPlanSeen, IsLane}
use Rattle.journal_replay.specs.Inside.{IsPlayed}
use Rattle.journal_replay.specs.Inside.{KeepsPlace}

-- ---- the incumbent stays from its number on until another one comes

stays_next : (ns : List Number) (s j at : ℕ) (b : Bool) → (at ≤ s → s ≤ j → best_at ns s ≡ at)
    → (if b then suc j else at) ≤ s → s ≤ j → best_at ns s ≡ (if b then suc j else at)
stays_next ns s j at true before low high = absurd (omega arith)
stays_next ns s j at false before low high = before low high

pub best_stays : (ns : List Number) (s j : ℕ) → best_at ns j ≤ s → s ≤ j → best_at ns s ≡ best_at ns j
best_stays ns s zero low high =
    let none : s ≡ 0 = omega arith in
    ap (best_at ns) none
best_stays ns s (suc j) low high = elim (cases_eq s (suc j)) [
  | inl same ↦ ap (best_at ns) same
  | inr other ↦ stays_next ns s j (best_at ns j) _ (best_stays ns s j) low (omega arith)
]

-- ---- plans seen

-- an entry more changes no plan that was seen
pub still_seen : (setup : Setup) (es : List Entry) (e : Entry) (seen : ℕ) (slots : List Slot) → seen ≤ length es
    → IsPlanSeen setup es seen slots → IsPlanSeen setup (es ++ e ∷ []) seen slots
still_seen setup es e seen slots low plan =
    let count = numbers_length setup es in
    let n : Number = number_of setup.program (numbers_of setup es) e in
    record {
      is = plan.is ∙ sym (ap (λ ns. plan_seen ns seen) (numbers_push setup es e)
          ∙ plan_front (numbers_of setup es) (n ∷ []) seen (omega arith));
      legal = plan.legal;
    }

-- from the incumbent's number on its plan is seen
pub seen_now : (setup : Setup) (done rest : List Entry) (p : PlayerView) (seen : ℕ) → IsPlayed setup done rest p
    → p.best ≤ seen → seen ≤ length done → IsPlanSeen setup done seen p.plan.slots
seen_now setup done rest p seen played low high =
    let best = played.best in
    let plan = played.plan in
    let same : best_at (numbers_of setup done) seen ≡ best_at (numbers_of setup done) (length done) =
    best_stays (numbers_of setup done) seen (length done) (omega arith) high in
    record {
      is = plan.is ∙ ap (λ k. (number_at (numbers_of setup done) k).slots) (sym same);
      legal = plan.legal;
    }

-- ---- where a lane looks next

if_own : (e : Entry) (es : List Entry) (lane : ℕ) (b : Bool) → b ≡ true
    → (if b then e.seen else next_seen lane es) ≡ e.seen
if_own e es lane true is = refl
if_own e es lane false is = absurd (cc)

pub next_own : (e : Entry) (es : List Entry) → next_seen e.lane (e ∷ es) ≡ e.seen
next_own e es = if_own e es e.lane (e.lane == e.lane) (grind (arith, nat_tests))

if_other : (e : Entry) (es : List Entry) (lane : ℕ) (b : Bool) → b ≡ false
    → (if b then e.seen else next_seen lane es) ≡ next_seen lane es
if_other e es lane true is = absurd (cc)
if_other e es lane false is = refl

pub next_other : (e : Entry) (es : List Entry) (lane : ℕ) → e.lane ≢ lane → next_seen lane (e ∷ es) ≡ next_seen lane es
next_other e es lane other = if_other e es lane (e.lane == lane) (grind (arith, nat_tests, other))

-- ---- the plan that the lane of an entry sees

look_by : (setup : Setup) (done rest : List Entry) (e : Entry) (p : PlayerView) (l : Lane) (b : Bool)
    → nat_lt l.next p.best ≡ b → IsPlayed setup done rest p → KeepsPlace setup done e
    → IsLane setup done rest p.best e.lane l → l.next ≡ e.seen
    → IsPlanSeen setup done e.seen (if b then l.plan else p.plan).slots
look_by setup done rest e p l true is played place lane next =
    let over : l.next < p.best = grind (arith, nat_tests, is) in
    let last = lane.last in
    let since = place.since in
    subst (λ s. IsPlanSeen setup done s l.plan.slots) next (lane.look (omega arith) over)
look_by setup done rest e p l false is played place lane next =
    let under : p.best ≤ l.next = grind (arith, nat_tests, is) in
    let seen = place.seen in
    seen_now setup done rest p e.seen played (omega arith) (omega arith)

pub look_seen : (setup : Setup) (done rest : List Entry) (e : Entry) (p : PlayerView)
    → IsPlayed setup done (e ∷ rest) p → KeepsPlace setup done e
    → IsPlanSeen setup done e.seen (look_in p e.lane).slots
look_seen setup done rest e p played place =
    let count = played.count in
    let low = place.lane in
    let lane = played.lanes e.lane (omega arith) in
    look_by setup done (e ∷ rest) e p (lane_at p.lanes e.lane) _ refl played place lane (lane.next ∙ next_own e rest)

-- ---- the incumbent's plan kept, before another one comes

kept_by : (setup : Setup) (done rest : List Entry) (p : PlayerView) (lane : ℕ) (l : Lane) (a b : Bool)
    → nat_le p.best l.next ≡ a → nat_le l.next (length done) ≡ b → IsPlayed setup done rest p
    → IsLane setup done rest p.best lane l
    → IsLane setup done rest (length done + 1) lane (if a && b then record {
      turn = l.turn;
      last = l.last;
      next = l.next;
      plan = record { slots = p.plan.slots; room = l.plan.room };
    } else l)
kept_by setup done rest p lane l true true low high played is =
    let above : p.best ≤ l.next = grind (arith, nat_tests, low) in
    let below : l.next ≤ length done = grind (arith, nat_tests, high) in
    record {
      turn = is.turn;
      last = is.last;
      next = is.next;
      look = λ since over. seen_now setup done rest p l.next played above below;
      room = is.room;
    }
kept_by setup done rest p lane l true false low high played is =
    let past : length done < l.next = grind (arith, nat_tests, high) in
    record {
      turn = is.turn;
      last = is.last;
      next = is.next;
      look = λ since over. absurd (omega arith);
      room = is.room;
    }
kept_by setup done rest p lane l false b low high played is =
    let over : l.next < p.best = grind (arith, nat_tests, low) in
    record {
      turn = is.turn;
      last = is.last;
      next = is.next;
      look = λ since _. is.look since over;
      room = is.room;
    }

pub kept_lanes : (setup : Setup) (done rest : List Entry) (p : PlayerView) (lane : ℕ) → lane < length p.lanes
    → IsPlayed setup done rest p
    → IsLane setup done rest (length done + 1) lane
    (lane_at (map (kept p.best (length done) p.plan.slots) p.lanes) lane)
kept_lanes setup done rest p lane low played =
    let l : Lane = lane_at p.lanes lane in
    subst (IsLane setup done rest (length done + 1) lane)
    (sym (get_or-map (kept p.best (length done) p.plan.slots) p.lanes lane (fresh [] 0 0) (fresh [] 0 0) low))
    (kept_by setup done rest p lane l _ _ refl refl played (played.lanes lane low))
