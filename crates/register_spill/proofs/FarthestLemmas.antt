-- The farthest candidate of all registers is farther than every other one.
use Rattle.std.proofs.Common.{◌≡◌, ℕ, zero, suc, ◌+◌, ◌<◌, Bool, true, false, List, [], ◌∷◌, ◌++◌, length, refl}
use Rattle.std.proofs.Common.{arith, ap, sym}
use Rattle.std.proofs.Common.{subst, ◌∙◌, inl, inr, ◌⊎◌, Some, None, Option}
use Rattle.std.specs.Prelude.{◌&&◌, ◌||◌, take, fold, is_none, is_some, slice_index_or, if◌then◌else◌}
use Rattle.std.specs.List.{list_any}
use Rattle.std.specs.Option.{option_map}
use Rattle.std.proofs.lemmas.Bool.{true≢false, false≢true, cases_Bool, cond-true}
use Rattle.std.proofs.lemmas.Bool.Decides.{nat_tests}
use Rattle.std.proofs.lemmas.Option.{get_or_from_slice_get, slice_get_within}
use Rattle.std.proofs.lemmas.List.{take_more}
use Rattle.x86_instr.specs.declared.operand.Reg.{Reg}
use Rattle.x86_instr.specs.declared.operand.Reg.TheVariants.{Rax}
use Rattle.x86_instr.specs.Registers.{number_of, registers}
use Rattle.x86_instr.proofs.RegisterList.{at_number}
use Rattle.register_spill.specs.declared.choice.Candidate.{Candidate}
use Rattle.register_spill.specs.declared.spot.Spot.{Spot}
use Rattle.register_spill.specs.declared.spot.Spot.TheVariants.{Register}
use Rattle.register_spill.specs.Spots.{Placed, is_free}
use Rattle.register_spill.specs.Uses.{uses_at, distance, is_past}
use Rattle.register_spill.specs.Calls.{is_open, some_open, first_free, IsFarthest}
use Rattle.register_spill.specs.Choosing.{candidate_in, candidate_of, is_beyond, farther_of, farthest_of}
use Rattle.register_spill.specs.Inside.{holder_at, IsInside}
use Rattle.register_spill.proofs.FreeLemmas.{none_passes, free_same}

-- ---- which of two is farther

-- one is farther than the other, in words
abbrev Past : ℕ → ℕ → ℕ → ℕ → Type 0
Past n v m w = (m < n) ⊎ ((m ≡ n) × (w < v))

past_words : (n v m w : ℕ) → is_past n v m w ≡ true → Past n v m w
past_words n v m w e = grind (arith, nat_tests, e)

past_test : (n v m w : ℕ) → Past n v m w → is_past n v m w ≡ true
past_test n v m w (inl h) = grind (arith, nat_tests)
past_test n v m w (inr (e, h)) = grind (arith, nat_tests)

not_past : (n v m w : ℕ) → is_past n v m w ≡ false → Past m w n v ⊎ ((m ≡ n) × (w ≡ v))
not_past n v m w e = grind (arith, nat_tests, e)

past_on : (n v m w k u : ℕ) → Past n v m w → Past m w k u → Past n v k u
past_on n v m w k u (inl a) (inl b) = inl (omega arith)
past_on n v m w k u (inl a) (inr (e, b)) = inl (omega arith)
past_on n v m w k u (inr (e, a)) (inl b) = inl (omega arith)
past_on n v m w k u (inr (e, a)) (inr (f, b)) = inr (omega arith, omega arith)

-- the best is this candidate, or farther
record Beats (best : Option Candidate) (c : Candidate) : Type 0 where
  b : Candidate
  is : best ≡ Some b
  far : ((b.next ≡ c.next) × (b.value ≡ c.value)) ⊎ Past b.next b.value c.next c.value

step_two : (x b c : Candidate) (t : Bool) → is_beyond x b ≡ t
    → ((b.next ≡ c.next) × (b.value ≡ c.value)) ⊎ Past b.next b.value c.next c.value
    → Beats (if t then Some x else Some b) c
step_two x b c true e (inl (n, v)) = record {
  b = x;
  is = refl;
  far = inr (subst (λ (w : ℕ). Past x.next x.value c.next w) v (subst (λ (m : ℕ). Past x.next x.value m b.value) n
      (past_words x.next x.value b.next b.value e)));
}
step_two x b c true e (inr p) = record {
  b = x;
  is = refl;
  far = inr (past_on x.next x.value b.next b.value c.next c.value (past_words x.next x.value b.next b.value e) p);
}
step_two x b c false e far = record { b = b; is = refl; far = far }

step_keeps : (found best : Option Candidate) (c : Candidate) → Beats best c → Beats (farther_of found best) c
step_keeps None best c beats = beats
step_keeps (Some x) None c beats = let never : None ≡ Some beats.b = beats.is in absurd cc
step_keeps (Some x) (Some b) c beats =
    let same : b ≡ beats.b = cc in
    step_two x b c (is_beyond x b) refl
    (subst (λ (y : Candidate). ((y.next ≡ c.next) × (y.value ≡ c.value)) ⊎ Past y.next y.value c.next c.value)
    (sym same)
    beats.far)

step_takes : (c : Candidate) (best : Option Candidate) → Beats (farther_of (Some c) best) c
step_takes c None = record { b = c; is = refl; far = inl (refl, refl) }
step_takes c (Some b) = by (is_beyond c b) refl
  where
    by : (t : Bool) → is_beyond c b ≡ t → Beats (if t then Some c else Some b) c
    by true e = record { b = c; is = refl; far = inl (refl, refl) }
    by false e = record { b = b; is = refl; far = turn (not_past c.next c.value b.next b.value e) }
      where
        turn : Past b.next b.value c.next c.value ⊎ ((b.next ≡ c.next) × (b.value ≡ c.value))
            → ((b.next ≡ c.next) × (b.value ≡ c.value)) ⊎ Past b.next b.value c.next c.value
        turn (inl p) = inr p
        turn (inr p) = inl p

-- ---- the best of all registers

abbrev best_of : (Reg → Option Candidate) → Option Candidate → List Reg → Option Candidate
best_of f best rs = fold (λ b r. farther_of (f r) b) best rs

kept_beaten : (f : Reg → Option Candidate) (rs : List Reg) (best : Option Candidate) (c : Candidate) → Beats best c
    → Beats (best_of f best rs) c
kept_beaten f [] best c beats = beats
kept_beaten f (r ∷ rs) best c beats = kept_beaten f rs (farther_of (f r) best) c (step_keeps (f r) best c beats)

all_beaten : (f : Reg → Option Candidate) (rs : List Reg) (best : Option Candidate) (i : ℕ) (c : Candidate)
    → i < length rs → f (slice_index_or rs i Rax) ≡ Some c → Beats (best_of f best rs) c
all_beaten f [] best i c h e = absurd (omega arith)
all_beaten f (r ∷ rs) best zero c h e = kept_beaten f rs (farther_of (f r) best) c
    (subst (λ (o : Option Candidate). Beats (farther_of o best) c) (sym e) (step_takes c best))
all_beaten f (r ∷ rs) best (suc i) c h e = all_beaten f rs (farther_of (f r) best) i c (omega arith) e

one_of : (found best : Option Candidate) (b : Candidate) → farther_of found best ≡ Some b
    → (found ≡ Some b) ⊎ (best ≡ Some b)
one_of None best b e = inr e
one_of (Some x) None b e = inl e
one_of (Some x) (Some y) b e = by (is_beyond x y) e
  where
    by : (t : Bool) → (if t then Some x else Some y) ≡ Some b → (Some x ≡ Some b) ⊎ (Some y ≡ Some b)
    by true e = inl e
    by false e = inr e

from_some : (f : Reg → Option Candidate) (rs : List Reg) (best : Option Candidate) (b : Candidate)
    → best_of f best rs ≡ Some b → (best ≡ Some b) ⊎ ((r : Reg) × (f r ≡ Some b))
from_some f [] best b e = inl e
from_some f (r ∷ rs) best b e = elim (from_some f rs (farther_of (f r) best) b e) [
  | inl one ↦ elim (one_of (f r) best b one) [
    | inl here ↦ inr (r, here)
    | inr old ↦ inl old
  ]
  | inr later ↦ inr later
]

-- one register more
best_push : (f : Reg → Option Candidate) (rs : List Reg) (best : Option Candidate) (r : Reg)
    → best_of f best (rs ++ r ∷ []) ≡ farther_of (f r) (best_of f best rs)
best_push f [] best r = refl
best_push f (x ∷ rs) best r = best_push f rs (farther_of (f x) best) r

pub farthest_more : (holders : List (Option ℕ)) (uses : List (List ℕ)) (now bits i : ℕ) (d : Reg)
    → i < length registers
    → farther_of (candidate_of holders uses now bits (slice_index_or registers i d))
    (farthest_of holders uses now bits (take i registers)) ≡ farthest_of holders uses now bits (take (i + 1) registers)
unfolding farthest_of
farthest_more holders uses now bits i d h =
    sym (ap (best_of (candidate_of holders uses now bits) None) (take_more registers i d h)
    ∙ best_push (candidate_of holders uses now bits) (take i registers) None (slice_index_or registers i d))

pub farthest_start : (holders : List (Option ℕ)) (uses : List (List ℕ)) (now bits : ℕ)
    → None ≡ farthest_of holders uses now bits []
unfolding farthest_of
farthest_start holders uses now bits = refl

-- ---- candidates

record IsCandidate (holders : List (Option ℕ)) (uses : List (List ℕ)) (now bits : ℕ) (r : Reg)
    (c : Candidate) : Type 0 where
  may_go : is_open bits r ≡ true
  there : holder_at holders r ≡ Some c.value
  reg : c.reg ≡ r
  next : c.next ≡ distance (uses_at uses c.value) now

candidate_is : (holders : List (Option ℕ)) (uses : List (List ℕ)) (now bits : ℕ) (r : Reg) (c : Candidate)
    → candidate_of holders uses now bits r ≡ Some c → IsCandidate holders uses now bits r c
candidate_is holders uses now bits r c e = by (is_open bits r) refl (holder_at holders r) refl e
  where
    by : (t : Bool) → is_open bits r ≡ t → (h : Option ℕ) → holder_at holders r ≡ h
        → (if t then option_map (candidate_in uses now r) h else None) ≡ Some c
        → IsCandidate holders uses now bits r c
    by false t h k e = let never : None ≡ Some c = e in absurd cc
    by true t None k e = let never : None ≡ Some c = e in absurd cc
    by true t (Some v) k e =
        let some : Some (candidate_in uses now r v) ≡ Some c = e in
        let is : candidate_in uses now r v ≡ c = cc in
        let value : v ≡ c.value = ap (λ (x : Candidate). x.value) is in
        record {
          may_go = t;
          there = k ∙ ap Some value;
          reg = sym (ap (λ (x : Candidate). x.reg) is);
          next = sym (ap (λ (x : Candidate). x.next) is) ∙ ap (λ (n : ℕ). distance (uses_at uses n) now) value;
        }

candidate_from : (holders : List (Option ℕ)) (uses : List (List ℕ)) (now bits : ℕ) (r : Reg) (v : ℕ)
    → is_open bits r ≡ true → holder_at holders r ≡ Some v
    → candidate_of holders uses now bits r ≡ Some (candidate_in uses now r v)
candidate_from holders uses now bits r v may there =
    cond-true (is_open bits r) (option_map (candidate_in uses now r) (holder_at holders r)) None may
    ∙ ap (option_map (candidate_in uses now r)) there

at_register : (r : Reg) → slice_index_or registers (number_of r) Rax ≡ r
at_register r = get_or_from_slice_get registers (number_of r) r Rax (at_number r)

-- the best beats the value in each register that may be taken
beaten : (holders : List (Option ℕ)) (uses : List (List ℕ)) (now bits : ℕ) (r : Reg) (v : ℕ)
    → is_open bits r ≡ true → holder_at holders r ≡ Some v
    → Beats (farthest_of holders uses now bits registers) (candidate_in uses now r v)
unfolding farthest_of
beaten holders uses now bits r v may there =
    all_beaten (candidate_of holders uses now bits) registers None (number_of r) (candidate_in uses now r v)
    (slice_get_within registers (number_of r) r (at_number r))
    (ap (candidate_of holders uses now bits) (at_register r) ∙ candidate_from holders uses now bits r v may there)

chosen_from : (holders : List (Option ℕ)) (uses : List (List ℕ)) (now bits : ℕ) (b : Candidate)
    → farthest_of holders uses now bits registers ≡ Some b
    → (r : Reg) × (candidate_of holders uses now bits r ≡ Some b)
unfolding farthest_of
chosen_from holders uses now bits b e =
    elim (from_some (candidate_of holders uses now bits) registers None b e) [
      | inl start ↦ let never : None ≡ Some b = start in absurd cc
      | inr found ↦ found
    ]

pub farthest_is : (spots : List Spot) (holders : List (Option ℕ)) (uses : List (List ℕ)) → IsInside spots holders uses
    → (now bits : ℕ) (b : Candidate) → farthest_of holders uses now bits registers ≡ Some b
    → IsFarthest (record { spots = spots; uses = uses }) now bits b.value b.reg
farthest_is spots holders uses inside now bits b e =
    let found = chosen_from holders uses now bits b e in
    let c = candidate_is holders uses now bits found.0 b found.1 in
    record {
      there = inside.held b.value found.0 c.there ∙ ap Register (sym c.reg);
      may_go = ap (is_open bits) c.reg ∙ c.may_go;
      farthest = λ other r at may ne.
          let beats = beaten holders uses now bits r other may (inside.holds other r at) in
          let some : Some beats.b ≡ Some b = sym beats.is ∙ e in
          let same : beats.b ≡ b = cc in
          let far = subst (λ (y : Candidate). ((y.next ≡ distance (uses_at uses other) now) × (y.value ≡ other))
          ⊎ Past y.next y.value (distance (uses_at uses other) now) other) same beats.far in
          let next = c.next in
          elim far [
            | inl alike ↦ absurd (ne (sym alike.1))
            | inr past ↦ ap (λ (n : ℕ). is_past n b.value (distance (uses_at uses other) now) other) (sym next)
                ∙ past_test b.next b.value (distance (uses_at uses other) now) other past
          ];
    }

-- ---- that there is one

some_passes : (p : Reg → Bool) (rs : List Reg) → list_any p rs ≡ true → (r : Reg) × (p r ≡ true)
some_passes p [] e = absurd (false≢true e)
some_passes p (r ∷ rs) e = elim (cases_Bool (p r)) [
  | inl t ↦ (r, t)
  | inr f ↦ some_passes p rs (subst (λ (b : Bool). (b || list_any p rs) ≡ true) f e)
]

has_value : (h : Option ℕ) → is_none h ≡ false → (v : ℕ) × (h ≡ Some v)
has_value None e = absurd (true≢false e)
has_value (Some v) e = (v, refl)

pub there_is_one : (spots : List Spot) (holders : List (Option ℕ)) (uses : List (List ℕ))
    → IsInside spots holders uses → (now bits : ℕ) → first_free spots bits ≡ None → some_open bits ≡ true
    → is_some (farthest_of holders uses now bits registers) ≡ true
unfolding first_free some_open
there_is_one spots holders uses inside now bits none some =
    let found = some_passes (is_open bits) registers some in
    let r = found.0 in
    let no_room = none_passes (λ q. is_open bits q && is_free spots q) registers (number_of r) Rax none
    (slice_get_within registers (number_of r) r (at_number r)) in
    let here : (is_open bits r && is_free spots r) ≡ false =
    ap (λ (q : Reg). is_open bits q && is_free spots q) (sym (at_register r)) ∙ no_room in
    let not_free_there : is_free spots r ≡ false = ap (λ (b : Bool). b && is_free spots r) (sym found.1) ∙ here in
    let value = has_value (holder_at holders r) (free_same spots holders uses inside r ∙ not_free_there) in
    let beats = beaten holders uses now bits r value.0 found.1 value.1 in
    ap is_some beats.is

-- the same of what the code found
pub chosen : (spots : List Spot) (holders : List (Option ℕ)) (uses others : List (List ℕ)) → IsInside spots holders uses
    → (now bits : ℕ) (p : Placed) (found : Option Candidate) (b : Candidate)
    → ◌≡◌ {A = Placed} (record { spots = spots; uses = uses }) p → others ≡ uses
    → found ≡ farthest_of holders others now bits registers → found ≡ Some b
    → IsFarthest p now bits b.value b.reg
chosen spots holders uses others inside now bits p found b view same is some =
    subst (λ (q : Placed). IsFarthest q now bits b.value b.reg) view (farthest_is spots holders uses inside now bits b
    (sym (is ∙ ap (λ (ls : List (List ℕ)). farthest_of holders ls now bits registers) same) ∙ some))
