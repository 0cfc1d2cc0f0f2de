-- Lists of homes after a flag is emptied or a value is put.
use Rattle.std.proofs.Common.{◌≡◌, ℕ, ◌<◌, Bool, true, false, List, length, refl, ap, sym, ◌∙◌}
use Rattle.std.specs.Prelude.{slice_set, if◌then◌else◌}
use Rattle.std.proofs.Common.{inl, inr}
use Rattle.std.proofs.lemmas.Bool.{cond-true, cond-false, false_from_ne_true, cases_Bool, cases_eq, cases_lt}
use Rattle.std.proofs.lemmas.List.{length-map, length-set, ext_get_or, get_or-set_same, get_or-set_other, set_past}
use Rattle.std.proofs.Math.ListN as listn
use Rattle.x86_instr.specs.declared.flags.Flags.{Flags}
use Rattle.flag_tracks.specs.declared.home.Home.{Home}
use Rattle.flag_tracks.specs.declared.home.Home.TheVariants.{Cf, Of, Register, Slot, Gone}
use Rattle.flag_tracks.specs.Homes.{home_at, is_among, emptied}
use Rattle.flag_tracks.specs.Inside.{carry_if, overflow_if}

pub at_emptied : (flags : Flags) (homes : List Home) (value : ℕ) → home_at (emptied flags homes) value
    ≡ if is_among flags (home_at homes value) then Gone else home_at homes value
unfolding emptied
at_emptied flags homes value =
    listn.get_or-map (λ (home : Home). if is_among flags home then Gone else home) homes value Gone

pub length_emptied : (flags : Flags) (homes : List Home) → length (emptied flags homes) ≡ length homes
unfolding emptied
length_emptied flags homes = length-map homes (λ (home : Home). if is_among flags home then Gone else home)

-- nothing changes where no value is in one of the flags
pub emptied_free : (flags : Flags) (homes : List Home) → ((value : ℕ) → is_among flags (home_at homes value) ≡ false)
    → emptied flags homes ≡ homes
emptied_free flags homes free = ext_get_or Gone (emptied flags homes) homes (length_emptied flags homes)
    (λ i h. at_emptied flags homes i ∙ cond-false (is_among flags (home_at homes i)) Gone (home_at homes i) (free i))

-- no value is in flags that are emptied
nothing_in : (flags : Flags) (homes : List Home) (value : ℕ)
    → is_among flags (home_at (emptied flags homes) value) ≡ false
nothing_in flags homes value = ap (is_among flags) (at_emptied flags homes value)
    ∙ elim (cases_Bool (is_among flags (home_at homes value))) [
      | inl t ↦ ap (is_among flags) (cond-true (is_among flags (home_at homes value)) Gone (home_at homes value) t)
      | inr f ↦ ap (is_among flags) (cond-false (is_among flags (home_at homes value)) Gone (home_at homes value) f) ∙ f
    ]

-- so no value is in one of the flags where emptying them changes nothing
pub free_emptied : (flags : Flags) (homes : List Home) → emptied flags homes ≡ homes → (value : ℕ)
    → is_among flags (home_at homes value) ≡ false
free_emptied flags homes e value = false_from_ne_true _ (λ (t : is_among flags (home_at homes value) ≡ true).
    let gone : home_at homes value ≡ Gone = ap (λ (hs : List Home). home_at hs value) (sym e)
    ∙ at_emptied flags homes value ∙ cond-true (is_among flags (home_at homes value)) Gone (home_at homes value) t in
    let no : is_among flags Gone ≡ true = ap (is_among flags) (sym gone) ∙ t in cc)

-- where one value is in the flags, it alone goes
pub emptied_one : (flags : Flags) (homes : List Home) (holder : ℕ) → holder < length homes
    → is_among flags (home_at homes holder) ≡ true
    → ((value : ℕ) → is_among flags (home_at homes value) ≡ true → holder ≡ value)
    → slice_set homes holder Gone ≡ emptied flags homes
emptied_one flags homes holder w has is = ext_get_or Gone (slice_set homes holder Gone) (emptied flags homes)
    (length-set homes holder Gone ∙ sym (length_emptied flags homes))
    (λ i h. elim (cases_eq i holder) [
      | inl e ↦ ap (λ (n : ℕ). home_at (slice_set homes holder Gone) n) e ∙ get_or-set_same homes holder Gone Gone w
          ∙ sym (at_emptied flags homes i ∙ cond-true (is_among flags (home_at homes i)) Gone (home_at homes i)
          (ap (λ (n : ℕ). is_among flags (home_at homes n)) e ∙ has))
      | inr ne ↦ get_or-set_other homes holder i Gone Gone ne
          ∙ sym (at_emptied flags homes i ∙ cond-false (is_among flags (home_at homes i)) Gone (home_at homes i)
          (false_from_ne_true _ (λ t. ne (sym (is i t)))))
    ])

-- ---- both flags, one after the other

one_home : (flags : Flags) (home : Home) →
    (if is_among (overflow_if flags.of) (if is_among (carry_if flags.cf) home then Gone else home) then Gone
    else (if is_among (carry_if flags.cf) home then Gone else home)) ≡ if is_among flags home then Gone else home
one_home flags Cf = elim (cases_Bool flags.cf) [
  | inl t ↦ rw t refl
  | inr f ↦ rw f refl
]
one_home flags Of = refl
one_home flags (Register r) = refl
one_home flags (Slot n) = refl
one_home flags Gone = refl

pub emptied_both : (flags : Flags) (homes : List Home)
    → emptied (overflow_if flags.of) (emptied (carry_if flags.cf) homes) ≡ emptied flags homes
emptied_both flags homes = ext_get_or Gone _ _
    (length_emptied (overflow_if flags.of) (emptied (carry_if flags.cf) homes)
    ∙ length_emptied (carry_if flags.cf) homes
    ∙ sym (length_emptied flags homes))
    (λ i h. at_emptied (overflow_if flags.of) (emptied (carry_if flags.cf) homes) i
    ∙ ap (λ (home : Home). if is_among (overflow_if flags.of) home then Gone else home)
    (at_emptied (carry_if flags.cf) homes i)
    ∙ one_home flags (home_at homes i) ∙ sym (at_emptied flags homes i))

none_asked : (home : Home) (asked : Bool) → asked ≡ false → is_among (carry_if asked) home ≡ false
none_asked Cf asked e = e
none_asked Of asked e = refl
none_asked (Register r) asked e = refl
none_asked (Slot n) asked e = refl
none_asked Gone asked e = refl

none_asked_of : (home : Home) (asked : Bool) → asked ≡ false → is_among (overflow_if asked) home ≡ false
none_asked_of Cf asked e = refl
none_asked_of Of asked e = e
none_asked_of (Register r) asked e = refl
none_asked_of (Slot n) asked e = refl
none_asked_of Gone asked e = refl

pub carry_not_asked : (homes : List Home) (asked : Bool) → asked ≡ false → homes ≡ emptied (carry_if asked) homes
carry_not_asked homes asked e = sym (emptied_free (carry_if asked) homes (λ v. none_asked (home_at homes v) asked e))

pub overflow_not_asked : (homes : List Home) (asked : Bool) → asked ≡ false → homes ≡ emptied (overflow_if asked) homes
overflow_not_asked homes asked e =
    sym (emptied_free (overflow_if asked) homes (λ v. none_asked_of (home_at homes v) asked e))

-- after the flags are emptied and a value is nowhere, nothing is in them
pub emptied_settled : (flags : Flags) (homes : List Home) (value : ℕ)
    → emptied flags (slice_set (emptied flags homes) value Gone) ≡ slice_set (emptied flags homes) value Gone
emptied_settled flags homes value = emptied_free flags (slice_set (emptied flags homes) value Gone)
    (λ i. elim (cases_eq i value) [
      | inl e ↦ elim (cases_lt value (length (emptied flags homes))) [
        | inl h ↦ ap (λ (n : ℕ). is_among flags (home_at (slice_set (emptied flags homes) value Gone) n)) e
            ∙ ap (is_among flags) (get_or-set_same (emptied flags homes) value Gone Gone h)
        | inr h ↦ ap (λ (n : ℕ). is_among flags (home_at (slice_set (emptied flags homes) value Gone) n)) e
            ∙ ap (λ (hs : List Home). is_among flags (home_at hs value)) (set_past (emptied flags homes) value Gone h)
            ∙ nothing_in flags homes value
      ]
      | inr ne ↦ ap (is_among flags) (get_or-set_other (emptied flags homes) value i Gone Gone ne)
          ∙ nothing_in flags homes i
    ])
