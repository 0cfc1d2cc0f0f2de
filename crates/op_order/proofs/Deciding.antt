-- Where a listing does not do what a plan says, there is a slot at which it first differs: whether it begins with the
-- lines of some slots can be decided.
use Rattle.std.proofs.Common.{◌≡◌, ℕ, zero, suc, ◌+◌, ◌<◌, ◌≤◌, ◌⊎◌, Bool, true, false, List, [], ◌∷◌, ◌++◌, length}
use Rattle.std.proofs.Common.{take}
use Rattle.std.proofs.Common.{refl, sym, ◌∙◌, ap, subst, inl, inr, arith, rules}
use Rattle.std.specs.Bool.{Decides}
use Rattle.std.specs.Prelude.{◌==◌}
use Rattle.std.proofs.lemmas.Bool.Decides.{nat_tests}
use Rattle.word_program.specs.Program.{Source}
use Rattle.x86_instr.specs.declared.mnemonic.Mnemonic.{Mnemonic}
use Rattle.x86_instr.specs.contracts.mnemonic.MnemonicPartialEq.TheImpl.{eq-value as mnemonic_eq}
use Rattle.x86_instr.specs.Listings.{NamedLines}
use Rattle.op_order.specs.declared.slot.Slot.{Slot}
use Rattle.op_order.specs.Realises.{Owned, owned_lines, plan_lines, Realises, BeginsWith, DiffersFirst}

by_test : {P : Type 0} (b : Bool) → Decides b P → P ⊎ (P → ⊥)
by_test true d = inl (d.0 refl)
by_test false d = inr (λ p. let bad : false ≡ true = d.1 p in cc)

same_number : (m n : ℕ) → (m ≡ n) ⊎ (m ≡ n → ⊥)
same_number m n = by_test (m == n) (grind (arith, nat_tests), grind (arith, nat_tests))

same_mnemonic : (m n : Mnemonic) → (m ≡ n) ⊎ (m ≡ n → ⊥)
same_mnemonic m n = by_test (mnemonic_eq.it m n) (search rules)

same_owned : (a b : Owned) → (a ≡ b) ⊎ (a ≡ b → ⊥)
same_owned a b = elim (same_number a.0 b.0) [
  | inr other ↦ inr (λ e. other (ap (λ (o : Owned). o.0) e))
  | inl m ↦ elim (same_mnemonic a.1 b.1) [
    | inr other ↦ inr (λ e. other (ap (λ (o : Owned). o.1) e))
    | inl n ↦ inl (λ i. (m i, n i))
  ]
]

-- whether a list begins with another
begins : (all front : List Owned) → BeginsWith all front ⊎ (BeginsWith all front → ⊥)
begins all [] = inl (all, refl)
begins [] (x ∷ xs) = inr (λ b. let e : [] ≡ x ∷ (xs ++ b.0) = b.1 in cc)
begins (a ∷ more) (x ∷ xs) = elim (same_owned a x) [
  | inr other ↦ inr (λ b. let e : a ∷ more ≡ x ∷ (xs ++ b.0) = b.1 in let here : a ≡ x = cc in other here)
  | inl here ↦ elim (begins more xs) [
    | inr other ↦ inr (λ b. let e : a ∷ more ≡ x ∷ (xs ++ b.0) = b.1 in let rest : more ≡ xs ++ b.0 = cc in
        other (b.0, rest))
    | inl b ↦ inl (b.0, ap (λ o. o ∷ more) here ∙ ap (λ os. x ∷ os) b.1)
  ]
]

-- from a slot on, where the listing has the lines of the slots before it
differs_from : (program : Source) (slots : List Slot) (listing : NamedLines) (left n : ℕ) → n + left ≡ length slots
    → BeginsWith (owned_lines listing) (plan_lines program (take n slots)) → (Realises program slots listing → ⊥)
    → (k : ℕ) × DiffersFirst program slots listing k
differs_from program slots listing zero n count before other = (
  n,
  record {
    within = omega arith;
    before = before;
    here = λ short. absurd (omega arith);
    over = λ e. other;
  },
)
differs_from program slots listing (suc left) n count before other =
    elim (begins (owned_lines listing) (plan_lines program (take (suc n) slots))) [
      | inl more ↦ differs_from program slots listing left (suc n) (omega arith) more other
      | inr fails ↦ (
        n,
        record {
          within = omega arith;
          before = before;
          here = λ short. fails;
          over = λ e. absurd (omega arith);
        },
      )
    ]

pub differs_somewhere : (program : Source) (slots : List Slot) (listing : NamedLines)
    → (Realises program slots listing → ⊥) → (n : ℕ) × DiffersFirst program slots listing n
differs_somewhere program slots listing other =
    differs_from program slots listing (length slots) 0 (omega arith) (owned_lines listing, refl) other
