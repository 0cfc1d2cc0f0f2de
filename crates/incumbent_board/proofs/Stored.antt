-- The fields of a board: its lanes, and the room for entries.
use Rattle.std.proofs.Common.{◌≡◌, ℕ, zero, suc, ◌+◌, ◌*◌, ◌<◌, ◌≤◌}
use Rattle.std.proofs.Common.{List, [], ◌∷◌, ◌++◌, length}
use Rattle.std.proofs.Common.{map, set, get_or, replicate, refl, sym, ap, subst, ◌∙◌, arith, inl, inr}
use Rattle.std.specs.Prelude.{Some, None, option_map, slice_get, sum_by}
use Rattle.std.specs.List.{All}
use Rattle.std.proofs.lemmas.Bool.{cases_eq}
use Rattle.std.proofs.lemmas.List.{length-set, length-replicate, map-set}
use Rattle.std.proofs.lemmas.List.{get_or-set_same, get_or-set_other, get_or_default, get_or-replicate}
use Rattle.std.proofs.Math.Nat.{suc-mul}
use Rattle.std.proofs.lemmas.List.Sums.{sum_by-set, sum_by-le, sum_by-cons}
use Rattle.std.proofs.lemmas.List.Folds.{sum_by-replicate}
use Rattle.op_order.specs.declared.slot.Slot.{Slot}
use Rattle.journal_rules.specs.declared.journal.Entry.{Entry}
use Rattle.journal_rules.specs.Legal.{turns_of}
use Rattle.journal_rules.proofs.Legality.{turns_same, turns_other}
use Rattle.incumbent_board.specs.declared.lanes.Lane.{Lane}
use Rattle.incumbent_board.specs.Views.{Look}
use Rattle.incumbent_board.specs.Inside.{fresh, lane_at, held, ended, look_of, AreLanes}

-- ---- one lane changed

all_set : (P : Lane → Type 0) (lanes : List Lane) (k : ℕ) (x : Lane) → All P lanes → P x → All P (set lanes k x)
all_set P lanes k x all here i d w = elim (cases_eq i k) [
  | inl e ↦ let low : k < length lanes = omega (arith, w, e, length-set lanes k x) in
      subst P (sym (ap (λ j. get_or (set lanes k x) j d) e ∙ get_or-set_same lanes k x d low)) here
  | inr e ↦ subst P (sym (get_or-set_other lanes k i x d e)) (all i d (omega (arith, w, length-set lanes k x)))
]

pub lanes_held : (ops turns entries : ℕ) (lanes : List Lane) (lane seen : ℕ) (slots : List Slot)
    → AreLanes ops turns entries lanes → lane < length lanes
    → AreLanes ops turns entries (set lanes lane (held seen slots (lane_at lanes lane)))
lanes_held ops turns entries lanes lane seen slots are low =
    let x : Lane = held seen slots (lane_at lanes lane) in
    let sum = sum_by-set (λ (l : Lane). l.turn) lanes lane x (fresh 0) low in
    record {
      within = all_set (λ l. l.turn ≤ turns) lanes lane x are.within (are.within lane (fresh 0) low);
      counted = omega (arith, sum, are.counted);
      rooms = all_set (λ l. ops ≤ l.plan.room) lanes lane x are.rooms (are.rooms lane (fresh 0) low);
    }

pub lanes_ended : (ops turns entries : ℕ) (lanes : List Lane) (lane : ℕ) → AreLanes ops turns entries lanes
    → lane < length lanes → (lane_at lanes lane).turn < turns
    → AreLanes ops turns (entries + 1) (set lanes lane (ended (lane_at lanes lane)))
lanes_ended ops turns entries lanes lane are low left =
    let x : Lane = ended (lane_at lanes lane) in
    let sum = sum_by-set (λ (l : Lane). l.turn) lanes lane x (fresh 0) low in
    record {
      within = all_set (λ l. l.turn ≤ turns) lanes lane x are.within (omega arith);
      counted = omega (arith, sum, are.counted);
      rooms = all_set (λ l. ops ≤ l.plan.room) lanes lane x are.rooms (are.rooms lane (fresh 0) low);
    }

-- where a lane has a turn left there is room for an entry more
pub room_left : (ops turns entries capacity : ℕ) (lanes : List Lane) (lane seeds : ℕ)
    → AreLanes ops turns entries lanes → lane < length lanes → (lane_at lanes lane).turn < turns
    → seeds ≡ length lanes → seeds * turns ≤ capacity → entries < capacity
room_left ops turns entries capacity lanes lane seeds are low left same room =
    let next = lanes_ended ops turns entries lanes lane are low left in
    let x : Lane = ended (lane_at lanes lane) in
    let sum = sum_by-le (λ (l : Lane). l.turn) turns (set lanes lane x) next.within in
    let size : length (set lanes lane x) ≡ seeds = length-set lanes lane x ∙ sym same in
    let most : sum_by (λ (l : Lane). l.turn) (set lanes lane x) ≤ seeds * turns =
    subst (λ n. sum_by (λ (l : Lane). l.turn) (set lanes lane x) ≤ n * turns) size sum in
    omega (arith, most, next.counted, room)

-- ---- the turns of the lanes

pub turns_held : (entries : List Entry) (lanes : List Lane) (lane seen : ℕ) (slots : List Slot) → lane < length lanes
    → ((l : ℕ) → l < length lanes → (lane_at lanes l).turn ≡ turns_of l entries)
    → (l : ℕ) → l < length (set lanes lane (held seen slots (lane_at lanes lane)))
    → (lane_at (set lanes lane (held seen slots (lane_at lanes lane))) l).turn ≡ turns_of l entries
turns_held entries lanes lane seen slots low are l w =
    let x : Lane = held seen slots (lane_at lanes lane) in
    let size = length-set lanes lane x in
    elim (cases_eq l lane) [
      | inl e ↦ ap (λ i. (lane_at (set lanes lane x) i).turn) e
          ∙ ap (λ (d : Lane). d.turn) (get_or-set_same lanes lane x (fresh 0) low) ∙ are lane low
          ∙ ap (λ i. turns_of i entries) (sym e)
      | inr e ↦ ap (λ (d : Lane). d.turn) (get_or-set_other lanes lane l x (fresh 0) e) ∙ are l (omega arith)
    ]

pub turns_ended : (entries : List Entry) (lanes : List Lane) (e : Entry) → e.lane < length lanes
    → ((l : ℕ) → l < length lanes → (lane_at lanes l).turn ≡ turns_of l entries)
    → (l : ℕ) → l < length (set lanes e.lane (ended (lane_at lanes e.lane)))
    → (lane_at (set lanes e.lane (ended (lane_at lanes e.lane))) l).turn ≡ turns_of l (entries ++ e ∷ [])
turns_ended entries lanes e low are l w =
    let x : Lane = ended (lane_at lanes e.lane) in
    let size = length-set lanes e.lane x in
    elim (cases_eq l e.lane) [
      | inl same ↦ ap (λ i. (lane_at (set lanes e.lane x) i).turn) same
          ∙ ap (λ (d : Lane). d.turn) (get_or-set_same lanes e.lane x (fresh 0) low)
          ∙ ap (λ n. n + 1) (are e.lane low) ∙ ap (λ i. turns_of i entries + 1) (sym same)
          ∙ sym (turns_same l entries e (sym same))
      | inr other ↦ ap (λ (d : Lane). d.turn) (get_or-set_other lanes e.lane l x (fresh 0) other) ∙ are l (omega arith)
          ∙ sym (turns_other l entries e (λ h. other (sym h)))
    ]

-- ---- looks

pub looks_held : (lanes : List Lane) (lane seen : ℕ) (slots : List Slot)
    → map look_of (set lanes lane (held seen slots (lane_at lanes lane)))
    ≡ set (map look_of lanes) lane (Some (record { seen = seen; slots = slots }))
looks_held lanes lane seen slots = map-set look_of lanes lane (held seen slots (lane_at lanes lane))

pub looks_ended : (lanes : List Lane) (lane : ℕ)
    → map look_of (set lanes lane (ended (lane_at lanes lane))) ≡ set (map look_of lanes) lane None
looks_ended lanes lane = map-set look_of lanes lane (ended (lane_at lanes lane))

-- ---- new lanes

pub fresh_looks : (seeds : List ℕ) (room : ℕ)
    → map look_of (replicate (length seeds) (fresh room)) ≡ map (λ seed. None) seeds
fresh_looks [] room = refl
fresh_looks (s ∷ seeds) room = ap (λ l. None ∷ l) (fresh_looks seeds room)

pub fresh_lanes : (count room turns : ℕ) → AreLanes room turns 0 (replicate count (fresh room))
fresh_lanes count room turns =
    let size = length-replicate count (fresh room) in
    record {
      within = λ k d w. subst (λ (l : Lane). l.turn ≤ turns) (sym (get_or-replicate count k (fresh room) d (omega
          arith)))
          (omega arith);
      counted = sum_by-replicate (λ (l : Lane). l.turn) count (fresh room) ∙ mul_zero count;
      rooms = λ k d w. subst (λ (l : Lane). room ≤ l.plan.room) (sym (get_or-replicate count k (fresh room) d (omega
          arith)))
          (omega arith);
    }
  where
    mul_zero : (n : ℕ) → n * 0 ≡ 0
    mul_zero n = omega arith

pub fresh_turns : (count room : ℕ) (l : ℕ) → l < length (replicate count (fresh room))
    → (lane_at (replicate count (fresh room)) l).turn ≡ 0
fresh_turns count room l w =
    let size = length-replicate count (fresh room) in
    ap (λ (d : Lane). d.turn) (get_or-replicate count l (fresh room) (fresh 0) (omega arith))

-- ---- the look of a lane

pub look_there : (lanes : List Lane) (lane : ℕ) → lane < length lanes
    → slice_get (map look_of lanes) lane ≡ Some (look_of (lane_at lanes lane))
look_there [] lane low = absurd (omega arith)
look_there (x ∷ lanes) zero low = refl
look_there (x ∷ lanes) (suc lane) low = look_there lanes lane (omega arith)

-- ---- reads

-- a lane that was read
pub lane_read : (lanes : List Lane) (lane : ℕ) (x : Lane) → lane < length lanes → x ≡ get_or lanes lane x
    → x ≡ lane_at lanes lane
lane_read lanes lane x low is = is ∙ get_or_default lanes lane x (fresh 0) low

pub look_is : (lanes : List Lane) (lane seen : ℕ) → lane < length lanes → (lane_at lanes lane).seen ≡ Some seen
    → slice_get (map look_of lanes) lane
    ≡ Some (Some (record { seen = seen; slots = (lane_at lanes lane).plan.slots }))
look_is lanes lane seen low at =
    look_there lanes lane low
    ∙ ap (λ s. Some (option_map (λ n. record { seen = n; slots = (lane_at lanes lane).plan.slots }) s)) at

-- ---- all turns

-- where each lane made so many turns, all lanes made as many times so many
pub all_turns : (turns : ℕ) (lanes : List Lane) → ((l : ℕ) → l < length lanes → turns ≤ (lane_at lanes l).turn)
    → length lanes * turns ≤ sum_by (λ l. l.turn) lanes
all_turns turns [] made = omega arith
all_turns turns (x ∷ lanes) made =
    let first : turns ≤ x.turn = made 0 (omega arith) in
    let rest = all_turns turns lanes (λ l low. made (suc l) (omega arith)) in
    omega (arith, first, rest, suc-mul (length lanes) turns, sum_by-cons (λ (l : Lane). l.turn) x lanes)
