-- How faults are found: a table has a row for each rule, and a walk tries the items of a list in order.
use Rattle.std.specs.Prelude.{◌≡◌, ℕ, ◌+◌, Bool, List, [], ◌∷◌, Option, Some, None, Result, Ok, Err, option_map}
use Rattle.std.specs.Prelude.{if◌then◌else◌}
use Rattle.std.specs.Option.{option_or}
use Rattle.word_text.specs.declared.fault.Place.{Place}
use Rattle.word_text.specs.declared.fault.Section.{Section}
use Rattle.word_text.specs.declared.fault.ProgramFault.{ProgramFault}
use Rattle.word_text.specs.declared.fault.ProgramFault.TheVariants.{Rule, Memory}

-- a rule's code, and whether the rule fails
abbrev pub Check : Type 0
Check = ℕ × Bool

-- a rule's code, and the place where the rule fails
abbrev pub RuleFault : Type 0
RuleFault = ℕ × Place

abbrev pub place_in : Section → ℕ → ℕ → Place
place_in section item inner = record { section = section; item = item; inner = inner }

-- the code of the first rule that fails
abbrev pub first_code : List Check → Option ℕ
first_code [] = None
first_code (check ∷ checks) = if check.1 then Some check.0 else first_code checks

-- the first rule that fails, at this place
abbrev pub at : Place → List Check → Option RuleFault
at place checks = option_map (λ code. (code, place)) (first_code checks)

-- the first fault of the items in order, each under its number, and seen in the state that the items
-- before it leave
abbrev pub walk : {S A : Type 0} → (S → ℕ → A → Option RuleFault) → (S → A → S) → S → ℕ → List A → Option RuleFault
walk fault next s n [] = None
walk fault next s n (x ∷ xs) = option_or (fault s n x) (walk fault next (next s x) (n + 1) xs)

-- ---- what code answers

-- a fault is this one, or there is no memory
abbrev pub IsFault : ProgramFault → Option RuleFault → Type 0
IsFault (Rule code place) fault = fault ≡ Some (code, place)
IsFault Memory fault = Unit {0}

-- Ok comes where there is no fault, and else the fault, or there is no memory
abbrev pub Meets : {X : Type 0} → Result X ProgramFault → Option RuleFault → Type 0
Meets (Ok x) fault = fault ≡ None
Meets (Err e) fault = IsFault e fault

-- Ok comes where no rule fails, and else the code of the first that does
abbrev pub MeetsCode : {X : Type 0} → Result X ℕ → Option ℕ → Type 0
MeetsCode (Ok x) code = code ≡ None
MeetsCode (Err e) code = code ≡ Some e
