-- An entry more: what the replay keeps of its lanes and its incumbent.
use Rattle.std.proofs.Common.{◌≡◌, ◌≢◌, ◌+◌, ◌<◌, ◌≤◌, ℕ, suc, Bool, true, false, List, [], ◌∷◌, ◌++◌, length, map, set}
use Rattle.std.proofs.Common.{refl, sym, ap, subst, ◌∙◌, arith, inl, inr}
use Rattle.std.specs.Prelude.{◌==◌, nat_le, if◌then◌else◌}
use Rattle.std.proofs.lemmas.Bool.{cases_eq}
use Rattle.std.proofs.lemmas.Bool.Decides.{nat_tests}
use Rattle.std.proofs.lemmas.List.{length-append, length-map, length-set, get_or-set_same, get_or-set_other}
use Rattle.std.proofs.lemmas.List.{get_or-append-add}
use Rattle.op_order.specs.Legal.{IsLegal}
use Rattle.mutations.specs.Mutations.{applied}
use Rattle.journal_rules.specs.declared.journal.Entry.{Entry}
use Rattle.journal_rules.specs.Numbers.{Setup, Number, number_at, best_at, number_of, numbers_of}
use Rattle.journal_rules.specs.Legal.{through_last, last_of, IsEntry}
use Rattle.journal_rules.proofs.NumberLemmas.{number_front, best_most, best_front, numbers_push, numbers_length}
use Rattle.journal_rules.proofs.Legality.{each_push, turns_same, turns_other, last_other}
use Rattle.journal_replay.specs.declared.lanes.Lane.{Lane}
use Rattle.journal_replay.specs.Inside.{next_seen, fresh, lane_at, kept, behind, PlayerView, look_in, improved}
use Rattle.journal_replay.specs.Inside.{compared}
use Rattle.journal_replay.specs.Inside.{gone_on, IsPlanSeen, IsLane, IsPlayed}
use Rattle.journal_replay.proofs.Looks.{still_seen, kept_lanes, next_other}

-- ---- lanes

last_by : (b : Bool) (n m : ℕ) → n ≡ suc m → through_last b n ≡ suc (suc m)
last_by b n m is = ap (through_last b) is

last_same : (lane : ℕ) (es : List Entry) (e : Entry) → (e.lane == lane) ≡ true
    → last_of lane (es ++ e ∷ []) ≡ suc (length es)
last_same lane [] e h = rw h refl
last_same lane (x ∷ es) e h = last_by (x.lane == lane) _ (length es) (last_same lane es e h)

behind_lane : (setup : Setup) (done rest : List Entry) (e : Entry) (best : ℕ) (l : Lane) → best ≤ length done + 1
    → IsLane setup done (e ∷ rest) best e.lane l
    → IsLane setup (done ++ e ∷ []) rest best e.lane (behind (length done + 1) (next_seen e.lane rest) l)
behind_lane setup done rest e best l low is =
    let same : (e.lane == e.lane) ≡ true = grind (arith, nat_tests) in
    let last = last_same e.lane done e same in
    record {
      turn = ap (λ n. n + 1) is.turn ∙ sym (turns_same e.lane done e refl);
      last = omega arith;
      next = refl;
      look = λ since over. absurd (omega arith);
      room = is.room;
    }

other_lane : (setup : Setup) (done rest : List Entry) (e : Entry) (best lane : ℕ) (l : Lane) → best ≤ length done + 1
    → e.lane ≢ lane → IsLane setup done (e ∷ rest) best lane l → IsLane setup (done ++ e ∷ []) rest best lane l
other_lane setup done rest e best lane l low other is =
    let off : (e.lane == lane) ≡ false = grind (arith, nat_tests, other) in
    record {
      turn = is.turn ∙ sym (turns_other lane done e other);
      last = is.last ∙ sym (last_other lane done e off);
      next = is.next ∙ next_other e rest lane other;
      look = λ since over. still_seen setup done e l.next l.plan.slots (omega arith) (is.look since over);
      room = is.room;
    }

lanes_behind : (setup : Setup) (done rest : List Entry) (e : Entry) (best : ℕ) (lanes : List Lane)
    → best ≤ length done + 1 → e.lane < length lanes
    → ((lane : ℕ) → lane < length lanes → IsLane setup done (e ∷ rest) best lane (lane_at lanes lane))
    → (lane : ℕ)
    → lane < length (set lanes e.lane (behind (length done + 1) (next_seen e.lane rest) (lane_at lanes e.lane)))
    → IsLane setup (done ++ e ∷ []) rest best lane
    (lane_at (set lanes e.lane (behind (length done + 1) (next_seen e.lane rest) (lane_at lanes e.lane))) lane)
lanes_behind setup done rest e best lanes low there are lane within =
    let x : Lane = behind (length done + 1) (next_seen e.lane rest) (lane_at lanes e.lane) in
    let size = length-set lanes e.lane x in
    elim (cases_eq lane e.lane) [
      | inl same ↦ subst (λ i. IsLane setup (done ++ e ∷ []) rest best i (lane_at (set lanes e.lane x) i)) (sym same)
          (subst (IsLane setup (done ++ e ∷ []) rest best e.lane)
          (sym (get_or-set_same lanes e.lane x (fresh [] 0 0) there))
          (behind_lane setup done rest e best (lane_at lanes e.lane) low (are e.lane there)))
      | inr other ↦ subst (IsLane setup (done ++ e ∷ []) rest best lane)
          (sym (get_or-set_other lanes e.lane lane x (fresh [] 0 0) other))
          (other_lane setup done rest e best lane (lane_at lanes lane) low (λ h. other (sym h))
          (are lane (omega arith)))
    ]

-- ---- numbers

pub seam : (ns : List Number) (n : Number) (k : ℕ) → length ns ≡ k → number_at (ns ++ n ∷ []) k ≡ n
seam ns n k e =
    let zero_more : k ≡ length ns + 0 = omega arith in
    ap (number_at (ns ++ n ∷ [])) zero_more ∙ get_or-append-add ns (n ∷ []) 0 (record { cost = 0; slots = [] })

best_push : (ns : List Number) (n : Number) (j : ℕ) → length ns ≡ suc j
    → best_at (ns ++ n ∷ []) (suc j)
    ≡ (if nat_le n.cost (number_at ns (best_at ns j)).cost then suc j else best_at ns j)
best_push ns n j size =
    let most = best_most ns j in
    rw (
      seam ns n (suc j) size,
      best_front ns (n ∷ []) j (omega arith),
      number_front ns (n ∷ []) (best_at ns j) (omega arith),
    ) refl

-- the incumbent behind an entry, and its number
record IsIncumbent (setup : Setup) (es : List Entry) (best : ℕ) (n : Number) : Type 0 where
  best_is : best ≡ best_at (numbers_of setup es) (length es)
  number_is : number_at (numbers_of setup es) best ≡ n

incumbent_by : (setup : Setup) (done : List Entry) (e : Entry) (b : Bool)
    → nat_le e.cost (number_at (numbers_of setup done) (best_at (numbers_of setup done) (length done))).cost ≡ b
    → IsIncumbent setup (done ++ e ∷ [])
    (if b then suc (length done) else best_at (numbers_of setup done) (length done))
    (if b then number_of setup.program (numbers_of setup done) e
    else number_at (numbers_of setup done) (best_at (numbers_of setup done) (length done)))
incumbent_by setup done e b test =
    let ns : List Number = numbers_of setup done in
    let n : Number = number_of setup.program ns e in
    let j : ℕ = length done in
    let size = numbers_length setup done in
    let pushed = numbers_push setup done e in
    let count : length (done ++ e ∷ []) ≡ suc j = omega (arith, length-append done (e ∷ [])) in
    let best : best_at (numbers_of setup (done ++ e ∷ [])) (length (done ++ e ∷ []))
    ≡ (if b then suc j else best_at ns j) =
    ap (best_at (numbers_of setup (done ++ e ∷ []))) count ∙ ap (λ l. best_at l (suc j)) pushed
    ∙ best_push ns n j size ∙ ap (λ c. if c then suc j else best_at ns j) test in
    record {
      best_is = sym best;
      number_is = ap (λ l. number_at l (if b then suc j else best_at ns j)) pushed ∙ at ns n j size b;
    }
  where
    at : (ns : List Number) (n : Number) (j : ℕ) → length ns ≡ suc j → (b : Bool)
        → number_at (ns ++ n ∷ []) (if b then suc j else best_at ns j) ≡ (if b then n else number_at ns (best_at ns j))
    at ns n j size true = seam ns n (suc j) size
    at ns n j size false = let most = best_most ns j in number_front ns (n ∷ []) (best_at ns j) (omega arith)

-- ---- one entry more

improved_is : (setup : Setup) (done rest : List Entry) (e : Entry) (p : PlayerView) → nat_le e.cost p.least ≡ true
    → IsPlayed setup done (e ∷ rest) p → IsEntry setup done e
    → IsPlanSeen setup done e.seen (look_in p e.lane).slots
    → IsLegal setup.program (applied setup.program e.mutation (look_in p e.lane).slots)
    → IsPlayed setup (done ++ e ∷ []) rest
    (gone_on (length done + 1) (next_seen e.lane rest) e.lane (improved setup.program (length done) e p))
improved_is setup done rest e p test played is look legal =
    let count = played.count in
    let lane = is.lane in
    let ns : List Number = numbers_of setup done in
    let lanes : List Lane = map (kept p.best (length done) p.plan.slots) p.lanes in
    let size : length lanes ≡ length p.lanes = length-map p.lanes (kept p.best (length done) p.plan.slots) in
    let x : Lane = behind (length done + 1) (next_seen e.lane rest) (lane_at lanes e.lane) in
    let inc = incumbent_by setup done e true (ap (nat_le e.cost) (sym played.least) ∙ test) in
    let one : suc (length done) ≡ length done + 1 = omega arith in
    let at_best : number_at (numbers_of setup (done ++ e ∷ []))
    (best_at (numbers_of setup (done ++ e ∷ [])) (length (done ++ e ∷ []))) ≡ number_of setup.program ns e =
    ap (number_at (numbers_of setup (done ++ e ∷ []))) (sym inc.best_is) ∙ inc.number_is in
    record {
      legal = each_push (IsEntry setup) [] done e played.legal is;
      best = sym one ∙ inc.best_is;
      least = sym (ap (λ (n : Number). n.cost) at_best);
      plan = record {
        is = ap (applied setup.program e.mutation) look.is ∙ sym (ap (λ (n : Number). n.slots) at_best);
        legal = legal;
      };
      count = length-set lanes e.lane x ∙ size ∙ played.count;
      lanes = lanes_behind setup done rest e (length done + 1) lanes (omega arith) (omega arith)
          (λ l low. kept_lanes setup done (e ∷ rest) p l (omega arith) played);
      room = played.room;
      scratch = played.scratch;
    }

same_is : (setup : Setup) (done rest : List Entry) (e : Entry) (p : PlayerView) → nat_le e.cost p.least ≡ false
    → IsPlayed setup done (e ∷ rest) p → IsEntry setup done e
    → IsPlayed setup (done ++ e ∷ []) rest (gone_on (length done + 1) (next_seen e.lane rest) e.lane p)
same_is setup done rest e p test played is =
    let count = played.count in
    let lane = is.lane in
    let ns : List Number = numbers_of setup done in
    let most = best_most ns (length done) in
    let best = played.best in
    let plan = played.plan in
    let x : Lane = behind (length done + 1) (next_seen e.lane rest) (lane_at p.lanes e.lane) in
    let inc = incumbent_by setup done e false (ap (nat_le e.cost) (sym played.least) ∙ test) in
    let at_best : number_at (numbers_of setup (done ++ e ∷ []))
    (best_at (numbers_of setup (done ++ e ∷ [])) (length (done ++ e ∷ []))) ≡ number_at ns (best_at ns (length done)) =
    ap (number_at (numbers_of setup (done ++ e ∷ []))) (sym inc.best_is) ∙ inc.number_is in
    record {
      legal = each_push (IsEntry setup) [] done e played.legal is;
      best = played.best ∙ inc.best_is;
      least = played.least ∙ sym (ap (λ (n : Number). n.cost) at_best);
      plan = record {
        is = plan.is ∙ sym (ap (λ (n : Number). n.slots) at_best);
        legal = plan.legal;
      };
      count = length-set p.lanes e.lane x ∙ played.count;
      lanes = lanes_behind setup done rest e p.best p.lanes (omega arith) (omega arith) played.lanes;
      room = played.room;
      scratch = played.scratch;
    }

compared_by : (setup : Setup) (done rest : List Entry) (e : Entry) (p : PlayerView) (b : Bool)
    → nat_le e.cost p.least ≡ b → IsPlayed setup done (e ∷ rest) p → IsEntry setup done e
    → IsPlanSeen setup done e.seen (look_in p e.lane).slots
    → IsLegal setup.program (applied setup.program e.mutation (look_in p e.lane).slots)
    → IsPlayed setup (done ++ e ∷ []) rest (gone_on (length done + 1) (next_seen e.lane rest) e.lane
    (if b then improved setup.program (length done) e p else p))
compared_by setup done rest e p true test played is look legal =
    improved_is setup done rest e p test played is look legal
compared_by setup done rest e p false test played is look legal = same_is setup done rest e p test played is

pub stepped : (setup : Setup) (done rest : List Entry) (e : Entry) (p : PlayerView)
    → IsPlayed setup done (e ∷ rest) p → IsEntry setup done e
    → IsPlanSeen setup done e.seen (look_in p e.lane).slots
    → IsLegal setup.program (applied setup.program e.mutation (look_in p e.lane).slots)
    → IsPlayed setup (done ++ e ∷ []) rest (gone_on (length done + 1) (next_seen e.lane rest) e.lane
    (compared setup.program (length done) e p))
stepped setup done rest e p = compared_by setup done rest e p _ refl
