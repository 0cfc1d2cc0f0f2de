-- For each flag the value that is in it, after the home of a value changes.
use Rattle.std.proofs.Common.{◌≡◌, ℕ, ◌<◌, true, false, List, length, refl, arith, ap, sym, ◌∙◌, subst}
use Rattle.std.proofs.Common.{None, Some, Option}
use Rattle.std.specs.Prelude.{slice_set, replicate}
use Rattle.std.proofs.Common.{inl, inr, ◌⊎◌}
use Rattle.std.proofs.lemmas.Bool.{false_from_ne_true, false≢true, cases_eq, cases_lt}
use Rattle.std.proofs.lemmas.List.{get_or-set_same, get_or-set_other, get_or_past, get_or-replicate, length-replicate}
use Rattle.x86_instr.specs.declared.operand.Reg.{Reg}
use Rattle.x86_instr.specs.declared.flags.Flags.{Flags}
use Rattle.x86_instr.specs.Flags.{carry_only, overflow_only}
use Rattle.flag_tracks.specs.declared.home.Home.{Home}
use Rattle.flag_tracks.specs.declared.home.Home.TheVariants.{Cf, Of, Register, Slot, Gone}
use Rattle.flag_tracks.specs.Homes.{home_at, is_among, emptied}
use Rattle.flag_tracks.specs.Inside.{IsHolder, IsInside}
use Rattle.flag_tracks.proofs.HomeLemmas.{emptied_one, free_emptied}

-- a value in a flag is one of the program
pub holder_range : (flags : Flags) (homes : List Home) (value : ℕ) → is_among flags (home_at homes value) ≡ true
    → value < length homes
holder_range flags homes value t = elim (cases_lt value (length homes)) [
  | inl h ↦ h
  | inr h ↦ let gone : home_at homes value ≡ Gone = get_or_past homes value Gone h in
      let no : is_among flags Gone ≡ true = ap (is_among flags) (sym gone) ∙ t in absurd (false≢true no)
]

set_same : (flags : Flags) (homes : List Home) (value : ℕ) (home : Home) → value < length homes → (other : ℕ)
    → other ≡ value → is_among flags (home_at (slice_set homes value home) other) ≡ is_among flags home
set_same flags homes value home w other e = ap (λ (n : ℕ). is_among flags (home_at (slice_set homes value home) n)) e
    ∙ ap (is_among flags) (get_or-set_same homes value home Gone w)

set_other : (flags : Flags) (homes : List Home) (value : ℕ) (home : Home) (other : ℕ) → (other ≡ value → ⊥)
    → is_among flags (home_at (slice_set homes value home) other) ≡ is_among flags (home_at homes other)
set_other flags homes value home other ne = ap (is_among flags) (get_or-set_other homes value other home Gone ne)

-- a value that was in neither flag gets a home that is neither
pub holder_kept : (flags : Flags) (homes : List Home) (holder : Option ℕ) (value : ℕ) (home : Home)
    → value < length homes → IsHolder flags homes holder → is_among flags (home_at homes value) ≡ false
    → is_among flags home ≡ false → IsHolder flags (slice_set homes value home) holder
holder_kept flags homes holder value home w held out new = record {
  is = λ other t. elim (cases_eq other value) [
    | inl e ↦ absurd (false≢true (sym new ∙ sym (set_same flags homes value home w other e) ∙ t))
    | inr ne ↦ held.is other (sym (set_other flags homes value home other ne) ∙ t)
  ];
  has = λ other e. elim (cases_eq other value) [
    | inl same ↦ absurd (false≢true (sym out ∙ ap (λ (n : ℕ). is_among flags (home_at homes n)) (sym same)
        ∙ held.has other e))
    | inr ne ↦ set_other flags homes value home other ne ∙ held.has other e
  ];
}

-- the value that was in the flag gets a home that is not the flag
pub holder_left : (flags : Flags) (homes : List Home) (holder : Option ℕ) (value : ℕ) (home : Home)
    → value < length homes → IsHolder flags homes holder → is_among flags (home_at homes value) ≡ true
    → is_among flags home ≡ false → IsHolder flags (slice_set homes value home) None
holder_left flags homes holder value home w held in_flag new = record {
  is = λ other t. elim (cases_eq other value) [
    | inl e ↦ absurd (false≢true (sym new ∙ sym (set_same flags homes value home w other e) ∙ t))
    | inr ne ↦ let a : holder ≡ Some other = held.is other (sym (set_other flags homes value home other ne) ∙ t) in
        let b : holder ≡ Some value = held.is value in_flag in
        let same : other ≡ value = cc in absurd (ne same)
  ];
  has = λ other e. cc;
}

-- the value is put into a flag that no value is in
pub holder_new : (flags : Flags) (homes : List Home) (value : ℕ) (home : Home) → value < length homes
    → ((other : ℕ) → is_among flags (home_at homes other) ≡ false) → is_among flags home ≡ true
    → IsHolder flags (slice_set homes value home) (Some value)
holder_new flags homes value home w free new = record {
  is = λ other t. elim (cases_eq other value) [
    | inl e ↦ ap Some (sym e)
    | inr ne ↦ absurd (false≢true (sym (free other) ∙ sym (set_other flags homes value home other ne) ∙ t))
  ];
  has = λ other e. let same : other ≡ value = cc in set_same flags homes value home w other same ∙ new;
}

-- no value is in the flag where there is no holder
pub holder_none : (flags : Flags) (homes : List Home) → IsHolder flags homes None → (value : ℕ)
    → is_among flags (home_at homes value) ≡ false
holder_none flags homes held value = false_from_ne_true _ (λ (t : is_among flags (home_at homes value) ≡ true).
    let no : None ≡ Some value = held.is value t in cc)

-- the holder goes: no value is in the flag any more
pub emptied_holder : (flags : Flags) (homes : List Home) (holder : Option ℕ) (value : ℕ) → IsHolder flags homes holder
    → holder ≡ Some value → slice_set homes value Gone ≡ emptied flags homes
emptied_holder flags homes holder value held e =
    emptied_one flags homes value (holder_range flags homes value (held.has value e)) (held.has value e)
    (λ other t. let a : holder ≡ Some other = held.is other t in cc)

gone_at : (count value : ℕ) → home_at (replicate count Gone) value ≡ Gone
gone_at count value = elim (cases_lt value count) [
  | inl h ↦ get_or-replicate count value Gone Gone h
  | inr h ↦ let e = length-replicate count Gone in get_or_past (replicate count Gone) value Gone (omega arith)
]

-- at first no value is in a flag
pub none_at_first : (flags : Flags) (homes : List Home) (count : ℕ) → homes ≡ replicate count Gone
    → IsHolder flags homes None
none_at_first flags homes count e = record {
  is = λ value t. let gone : home_at homes value ≡ Gone = ap (λ (hs : List Home). home_at hs value) e
      ∙ gone_at count value in
      let no : is_among flags Gone ≡ true = ap (is_among flags) (sym gone) ∙ t in absurd (false≢true no);
  has = λ value h. cc;
}

-- ---- a value is nowhere, by where it was

pub lost_carry : (homes : List Home) (carry overflow : Option ℕ) (value : ℕ) → value < length homes
    → home_at homes value ≡ Cf → IsInside homes carry overflow → IsInside (slice_set homes value Gone) None overflow
lost_carry homes carry overflow value w e inside = record {
  carry_is = holder_left carry_only homes carry value Gone w inside.carry_is (ap (is_among carry_only) e) refl;
  overflow_is = holder_kept overflow_only homes overflow value Gone w inside.overflow_is (ap (is_among overflow_only) e)
      refl;
}

pub lost_overflow : (homes : List Home) (carry overflow : Option ℕ) (value : ℕ) → value < length homes
    → home_at homes value ≡ Of → IsInside homes carry overflow → IsInside (slice_set homes value Gone) carry None
lost_overflow homes carry overflow value w e inside = record {
  carry_is = holder_kept carry_only homes carry value Gone w inside.carry_is (ap (is_among carry_only) e) refl;
  overflow_is = holder_left overflow_only homes overflow value Gone w inside.overflow_is (ap (is_among overflow_only) e)
      refl;
}

-- the home is no flag
abbrev pub IsNoFlag : Home → Type 0
IsNoFlag home = (is_among carry_only home ≡ false) × (is_among overflow_only home ≡ false)

-- a value that was in no flag gets a home that is none
pub moved : (homes : List Home) (carry overflow : Option ℕ) (value : ℕ) (home : Home) → value < length homes
    → IsNoFlag (home_at homes value) → IsNoFlag home → IsInside homes carry overflow
    → IsInside (slice_set homes value home) carry overflow
moved homes carry overflow value home w was is inside = record {
  carry_is = holder_kept carry_only homes carry value home w inside.carry_is was.0 is.0;
  overflow_is = holder_kept overflow_only homes overflow value home w inside.overflow_is was.1 is.1;
}

-- ---- a value that was nowhere gets a home

pub put_in_carry : (homes : List Home) (carry overflow : Option ℕ) (value : ℕ) → value < length homes
    → home_at homes value ≡ Gone → emptied carry_only homes ≡ homes → IsInside homes carry overflow
    → IsInside (slice_set homes value Cf) (Some value) overflow
put_in_carry homes carry overflow value w e free inside = record {
  carry_is = holder_new carry_only homes value Cf w (free_emptied carry_only homes free) refl;
  overflow_is = holder_kept overflow_only homes overflow value Cf w inside.overflow_is (ap
      (is_among overflow_only) e) refl;
}

pub put_in_overflow : (homes : List Home) (carry overflow : Option ℕ) (value : ℕ) → value < length homes
    → home_at homes value ≡ Gone → emptied overflow_only homes ≡ homes → IsInside homes carry overflow
    → IsInside (slice_set homes value Of) carry (Some value)
put_in_overflow homes carry overflow value w e free inside = record {
  carry_is = holder_kept carry_only homes carry value Of w inside.carry_is (ap (is_among carry_only) e) refl;
  overflow_is = holder_new overflow_only homes value Of w (free_emptied overflow_only homes free) refl;
}

-- ---- homes that are no flag

no_flag_as : (home other : Home) → home ≡ other → IsNoFlag other → IsNoFlag home
no_flag_as home other e is = subst IsNoFlag (sym e) is

pub no_flag_gone : (home : Home) → home ≡ Gone → IsNoFlag home
no_flag_gone home e = no_flag_as home Gone e (refl, refl)

pub no_flag : (home : Home) → ((r : Reg) × (home ≡ Register r)) ⊎ (((n : ℕ) × (home ≡ Slot n)) ⊎ (home ≡ Gone))
    → IsNoFlag home
no_flag home (inl (r, e)) = no_flag_as home (Register r) e (refl, refl)
no_flag home (inr (inl (n, e))) = no_flag_as home (Slot n) e (refl, refl)
no_flag home (inr (inr e)) = no_flag_gone home e
