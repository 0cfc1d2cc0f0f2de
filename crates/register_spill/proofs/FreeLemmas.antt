-- The first free register by what is kept for each register is the first free one by the spots.
use Rattle.std.proofs.Common.{◌≡◌, ℕ, zero, suc, ◌<◌, Bool, true, false, List, [], ◌∷◌, length, refl, arith, ap, sym}
use Rattle.std.proofs.Common.{subst, ◌∙◌, inl, inr, Some, None, Option}
use Rattle.std.specs.Prelude.{◌&&◌, cond, not, is_none, slice_index_or, slice_set}
use Rattle.std.specs.List.{find}
use Rattle.std.specs.Option.{MatchOption}
use Rattle.std.proofs.lemmas.Bool.{false≢true, cases_Bool, cases_eq, eq-eqb, eqb-true, and_parts}
use Rattle.std.proofs.lemmas.Bool.{false_from_ne_true, cond-true, cond-false}
use Rattle.std.proofs.lemmas.List.{get_or_default, get_or-set_same, get_or-set_other}
use Rattle.std.proofs.lemmas.List.Folds.{list_any_none, list_any_at}
use Rattle.x86_instr.specs.declared.operand.Reg.{Reg}
use Rattle.x86_instr.specs.Registers.{number_of, registers}
use Rattle.register_spill.specs.declared.spot.Spot.{Spot}
use Rattle.register_spill.specs.declared.spot.Spot.TheVariants.{Register, Frame, Nowhere}
use Rattle.register_spill.specs.Spots.{Placed, spot_at, is_in, is_free}
use Rattle.register_spill.specs.Calls.{is_open, is_stack, first_free, with_spot, IsTaken, Evicts, TakesFree}
use Rattle.register_spill.specs.Choosing.{first_without}
use Rattle.register_spill.specs.Inside.{holder_at, IsInside}
use Rattle.register_spill.proofs.SpotLemmas.{same_register, spot_range}

-- ---- searches

find_agree : (p q : Reg → Bool) → ((r : Reg) → p r ≡ q r) → (rs : List Reg) → find p rs ≡ find q rs
find_agree p q e [] = refl
find_agree p q e (r ∷ rs) = ap (λ (b : Bool). cond b (Some r) (find p rs)) (e r)
    ∙ ap (λ (o : Option Reg). cond (q r) (Some r) o) (find_agree p q e rs)

pub found_passes : (p : Reg → Bool) (rs : List Reg) (r : Reg) → find p rs ≡ Some r → p r ≡ true
found_passes p [] r e = let never : None ≡ Some r = e in absurd cc
found_passes p (x ∷ rs) r e = elim (cases_Bool (p x)) [
  | inl t ↦ let some : Some x ≡ Some r = sym (cond-true (p x) (Some x) (find p rs) t) ∙ e in
      let same : x ≡ r = cc in ap p (sym same) ∙ t
  | inr f ↦ found_passes p rs r (sym (cond-false (p x) (Some x) (find p rs) f) ∙ e)
]

none_here : (p : Reg → Bool) (x : Reg) (rs : List Reg) → find p (x ∷ rs) ≡ None → p x ≡ false
none_here p x rs e = false_from_ne_true (p x) (λ (t : p x ≡ true).
    let never : Some x ≡ None = sym (cond-true (p x) (Some x) (find p rs) t) ∙ e in cc)

pub none_passes : (p : Reg → Bool) (rs : List Reg) (i : ℕ) (d : Reg) → find p rs ≡ None → i < length rs
    → p (slice_index_or rs i d) ≡ false
none_passes p [] i d e h = absurd (omega arith)
none_passes p (x ∷ rs) zero d e h = none_here p x rs e
none_passes p (x ∷ rs) (suc i) d e h =
    let rest : find p rs ≡ None = sym (cond-false (p x) (Some x) (find p rs) (none_here p x rs e)) ∙ e in
    none_passes p rs i d rest (omega arith)

-- ---- free registers

in_is : (r : Reg) (spot : Spot) → is_in r spot ≡ true → spot ≡ Register r
in_is r (Register q) e = ap Register (same_register q r (eqb-true (number_of q) (number_of r) e))
in_is r (Frame slot) e = absurd (false≢true e)
in_is r Nowhere e = absurd (false≢true e)

is_there : (r : Reg) → is_in r (Register r) ≡ true
is_there r = eq-eqb (number_of r) (number_of r) refl

-- a register in which no value is
pub free_from : (spots : List Spot) (r : Reg) → ((v : ℕ) → spot_at spots v ≡ Register r → ⊥) → is_free spots r ≡ true
unfolding is_free
free_from spots r never = ap not (list_any_none (is_in r) spots (λ k d h.
    false_from_ne_true (is_in r (slice_index_or spots k d))
    (λ t. never k (get_or_default spots k Nowhere d h ∙ in_is r (slice_index_or spots k d) t))))

pub not_free : (spots : List Spot) (r : Reg) (v : ℕ) → spot_at spots v ≡ Register r → is_free spots r ≡ false
unfolding is_free
not_free spots r v e = ap not (list_any_at (is_in r) spots v Nowhere (spot_range spots v r e)
    (ap (is_in r) e ∙ is_there r))

free_by : (spots : List Spot) (holders : List (Option ℕ)) (uses : List (List ℕ)) → IsInside spots holders uses
    → (r : Reg) (h : Option ℕ) → holder_at holders r ≡ h → is_none h ≡ is_free spots r
free_by spots holders uses inside r None e = sym (free_from spots r (λ v there.
    let at : holder_at holders r ≡ Some v = inside.holds v r there in
    let never : None ≡ Some v = sym e ∙ at in cc))
free_by spots holders uses inside r (Some v) e = sym (not_free spots r v (inside.held v r e))

pub free_same : (spots : List Spot) (holders : List (Option ℕ)) (uses : List (List ℕ)) → IsInside spots holders uses
    → (r : Reg) → is_none (holder_at holders r) ≡ is_free spots r
free_same spots holders uses inside r = free_by spots holders uses inside r (holder_at holders r) refl

pub first_same : (spots : List Spot) (holders : List (Option ℕ)) (uses : List (List ℕ)) → IsInside spots holders uses
    → (bits : ℕ) → first_without holders bits ≡ first_free spots bits
unfolding first_free first_without
first_same spots holders uses inside bits = find_agree (λ r. is_open bits r && is_none (holder_at holders r))
    (λ r. is_open bits r && is_free spots r)
    (λ r. ap (λ (b : Bool). is_open bits r && b) (free_same spots holders uses inside r)) registers

-- a register that is told to be free has no value
pub holder_none : (spots : List Spot) (holders : List (Option ℕ)) (uses : List (List ℕ)) → IsInside spots holders uses
    → (r : Reg) → is_free spots r ≡ true → holder_at holders r ≡ None
holder_none spots holders uses inside r free =
    by (holder_at holders r) (free_same spots holders uses inside r ∙ free)
  where
    by : (h : Option ℕ) → is_none h ≡ true → h ≡ None
    by None e = refl
    by (Some v) e = absurd (false≢true e)

-- what is known of the first free register
pub record IsFirst (spots : List Spot) (bits : ℕ) (r : Reg) : Type 0 where
  pub is_open : is_open bits r ≡ true
  pub free : is_free spots r ≡ true

pub first_is : (spots : List Spot) (bits : ℕ) (r : Reg) → first_free spots bits ≡ Some r → IsFirst spots bits r
unfolding first_free
first_is spots bits r e =
    let both = and_parts (is_open bits r) (is_free spots r)
    (found_passes (λ q. is_open bits q && is_free spots q) registers r e) in
    record { is_open = both.0; free = both.1 }

-- a register into which a value may be put is not the stack pointer
pub not_stack : (bits : ℕ) (r : Reg) → is_open bits r ≡ true → is_stack r ≡ false
not_stack bits r e = by (is_stack r) (and_parts (not (is_stack r)) _ e).0
  where
    by : (b : Bool) → not b ≡ true → b ≡ false
    by true f = absurd (false≢true f)
    by false f = refl

-- a register that the value in it left is free
pub left_free : (spots : List Spot) (holders : List (Option ℕ)) (uses : List (List ℕ)) → IsInside spots holders uses
    → (value slot : ℕ) (r : Reg) → spot_at spots value ≡ Register r
    → is_free (slice_set spots value (Frame slot)) r ≡ true
left_free spots holders uses inside value slot r there =
    free_from (slice_set spots value (Frame slot)) r (λ v e. elim (cases_eq v value) [
      | inl same ↦
          let now : spot_at (slice_set spots value (Frame slot)) v ≡ Frame slot =
          ap (λ (n : ℕ). spot_at (slice_set spots value (Frame slot)) n) same
          ∙ get_or-set_same spots value (Frame slot) Nowhere (spot_range spots value r there) in
          let never : Frame slot ≡ Register r = sym now ∙ e in cc
      | inr ne ↦
          let old : spot_at spots v ≡ Register r =
          sym (get_or-set_other spots value v (Frame slot) Nowhere ne) ∙ e in
          let a : holder_at holders r ≡ Some v = inside.holds v r old in
          let b : holder_at holders r ≡ Some value = inside.holds value r there in
          let same : v ≡ value = cc in ne same
    ])

-- the first free register by the spots is what the code found
pub first_found : (spots : List Spot) (holders : List (Option ℕ)) (uses : List (List ℕ)) → IsInside spots holders uses
    → (bits : ℕ) (p : Placed) (found : Option Reg) → ◌≡◌ {A = Placed} (record { spots = spots; uses = uses }) p
    → found ≡ first_without holders bits → first_free p.spots bits ≡ found
first_found spots holders uses inside bits p found view is =
    ap (λ (q : Placed). first_free q.spots bits) (sym view) ∙ sym (first_same spots holders uses inside bits) ∙ sym is

pub takes_free : (before after : Placed) (value now bits : ℕ) (r : Reg) → first_free before.spots bits ≡ Some r
    → after ≡ with_spot before value (Register r)
    → IsTaken before after value now bits (record { reg = r; evicted = None })
takes_free before after value now bits r first change =
    subst (λ (o : Option Reg). MatchOption o (Evicts before after value now bits (record { reg = r; evicted = None }))
    (TakesFree before after value (record { reg = r; evicted = None }))) (sym first)
    (record { told = refl; change = change })
