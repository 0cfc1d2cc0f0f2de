-- What is known of tables of rules, and of steps that may give nothing.
use Rattle.std.proofs.Common.{◌≡◌, ℕ, Bool, true, false, List, [], ◌∷◌, refl, not}
use Rattle.std.specs.Prelude.{Option, Some, None, is_none, option_and_then, option_map, ◌&&◌}
use Rattle.std.specs.Option.{option_or}
use Rattle.word_text.specs.declared.fault.Place.{Place}
use Rattle.base.specs.Options.{guard}
use Rattle.word_program.specs.Walk.{Check, RuleFault, first_code, at}

-- where no rule of a table fails, the first does not, and none behind it does
pub row_passes : (code : ℕ) (b : Bool) (rows : List Check) → first_code ((code, b) ∷ rows) ≡ None
    → (b ≡ false) × (first_code rows ≡ None)
row_passes code true rows none = absurd (cc)
row_passes code false rows none = (refl, none)

map_none : (place : Place) (o : Option ℕ) → option_map {U = RuleFault} (λ code. (code, place)) o ≡ None → o ≡ None
map_none place None none = refl
map_none place (Some code) none = absurd (cc)

pub at_none : (place : Place) (rows : List Check) → at place rows ≡ None → first_code rows ≡ None
at_none place rows none = map_none place (first_code rows) none

pub or_none : {T : Type 0} (o p : Option T) → option_or o p ≡ None → (o ≡ None) × (p ≡ None)
or_none None p none = (refl, none)
or_none (Some x) p none = absurd (cc)

pub not_false : (b : Bool) → not b ≡ false → b ≡ true
not_false true e = refl
not_false false e = absurd (cc)

pub not_true : (b : Bool) → not b ≡ true → b ≡ false
not_true false e = refl
not_true true e = absurd (cc)

pub and_true : (a b : Bool) → a && b ≡ true → (a ≡ true) × (b ≡ true)
and_true true b e = (refl, e)
and_true false b e = absurd (cc)

-- what is no None is a value
pub some_of : {T : Type 0} (o : Option T) → is_none o ≡ false → (x : T) × (o ≡ Some x)
some_of None e = absurd (cc)
some_of (Some x) e = (x, refl)

-- where none of four rules fails, each of them passes
pub rows4 : (a b c d : ℕ) (p q r s : Bool) → first_code ((a, p) ∷ (b, q) ∷ (c, r) ∷ (d, s) ∷ []) ≡ None
    → (p ≡ false) × (q ≡ false) × (r ≡ false) × (s ≡ false)
rows4 a b c d p q r s none =
    let r1 = row_passes a p ((b, q) ∷ (c, r) ∷ (d, s) ∷ []) none in
    let r2 = row_passes b q ((c, r) ∷ (d, s) ∷ []) r1.1 in
    let r3 = row_passes c r ((d, s) ∷ []) r2.1 in
    let r4 = row_passes d s [] r3.1 in
    (r1.0, r2.0, r3.0, r4.0)

-- where none of five rules fails, each of them passes
pub rows5 : (a b c d e : ℕ) (p q r s t : Bool) → first_code ((a, p) ∷ (b, q) ∷ (c, r) ∷ (d, s) ∷ (e, t) ∷ []) ≡ None
    → (p ≡ false) × (q ≡ false) × (r ≡ false) × (s ≡ false) × (t ≡ false)
rows5 a b c d e p q r s t none =
    let first = row_passes a p ((b, q) ∷ (c, r) ∷ (d, s) ∷ (e, t) ∷ []) none in
    let rest = rows4 b c d e q r s t first.1 in
    (first.0, rest.0, rest.1, rest.2, rest.3)
