-- A listing that does not do what a plan says differs first at one slot.
use Rattle.std.proofs.Common.{◌≡◌, ℕ, zero, suc, ◌<◌, ◌≤◌, List, [], ◌∷◌, ◌++◌, length, take, refl, sym, ◌∙◌, ap, arith}
use Rattle.std.proofs.Common.{inl, inr}
use Rattle.std.proofs.lemmas.Bool.{cases_lt}
use Rattle.std.proofs.lemmas.List.{append_assoc, take_all}
use Rattle.word_program.specs.Program.{Source}
use Rattle.x86_instr.specs.Listings.{NamedLines}
use Rattle.op_order.specs.declared.slot.Slot.{Slot}
use Rattle.op_order.specs.Realises.{Owned, owned_lines, slot_lines, plan_lines, Realises, BeginsWith, DiffersFirst}

begins_with_front : (all front less : List Owned) → BeginsWith all front → BeginsWith front less → BeginsWith all less
begins_with_front all front less a b = (b.0 ++ a.0, a.1 ∙ ap (λ xs. xs ++ a.0) b.1 ∙ append_assoc less b.0 a.0)

-- the lines of more slots begin with those of fewer
more_lines : (program : Source) (slots : List Slot) (n m : ℕ) → n ≤ m
    → BeginsWith (plan_lines program (take m slots)) (plan_lines program (take n slots))
more_lines program slots zero m h = (plan_lines program (take m slots), refl)
more_lines program slots (suc n) zero h = absurd (omega arith)
more_lines program [] (suc n) (suc m) h = ([], refl)
more_lines program (slot ∷ slots) (suc n) (suc m) h =
    let rest = more_lines program slots n m (omega arith) in (
      rest.0,
      ap (λ xs. slot_lines program slot ++ xs) rest.1
          ∙ sym (append_assoc (slot_lines program slot) (plan_lines program (take n slots)) rest.0),
    )

no_earlier : (program : Source) (slots : List Slot) (listing : NamedLines) (n m : ℕ) → n < m
    → DiffersFirst program slots listing n → DiffersFirst program slots listing m → ⊥
no_earlier program slots listing n m h a b =
    let short = b.within in
    a.here (omega arith) (begins_with_front (owned_lines listing) (plan_lines program (take m slots))
    (plan_lines program (take (suc n) slots)) b.before (more_lines program slots (suc n) m (omega arith)))

pub differs_once : (program : Source) (slots : List Slot) (listing : NamedLines) (n m : ℕ)
    → DiffersFirst program slots listing n → DiffersFirst program slots listing m → n ≡ m
differs_once program slots listing n m a b = elim (cases_lt n m) [
  | inl l ↦ absurd (no_earlier program slots listing n m l a b)
  | inr g ↦ elim (cases_lt m n) [
    | inl l ↦ absurd (no_earlier program slots listing m n l b a)
    | inr k ↦ omega arith
  ]
]

all_lines : (program : Source) (slots : List Slot) (listing : NamedLines) → Realises program slots listing → (n : ℕ)
    → n ≤ length slots → BeginsWith (owned_lines listing) (plan_lines program (take n slots))
all_lines program slots listing is n h =
    let more = more_lines program slots n (length slots) h in
    (more.0, is ∙ ap (plan_lines program) (sym (take_all (length slots) slots (omega arith))) ∙ more.1)

pub differs_not_realised : (program : Source) (slots : List Slot) (listing : NamedLines) (n : ℕ)
    → DiffersFirst program slots listing n → Realises program slots listing → ⊥
differs_not_realised program slots listing n a is = elim (cases_lt n (length slots)) [
  | inl l ↦ a.here l (all_lines program slots listing is (suc n) (omega arith))
  | inr g ↦ let short = a.within in a.over (omega arith) is
]
