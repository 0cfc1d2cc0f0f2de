-- The words of the trait `Shelf`: what a call does to its two counts, and to what the shelf tells of a file or of
-- the output before and after the call, which is `Some` bytes, or `None` where it does not tell. They are this
-- project's own. A call that ends the telling meets `Stays`, `Grows` and `GrowsByPart`; one that begins it does not.
use Rattle.std.specs.Prelude.{◌≡◌, ℕ, ◌+◌, ◌-◌, ◌^◌, ◌≤◌, min, List, ◌++◌, take, IfSome, Some, Ok, Err}
use Rattle.std.specs.declared.option.Option.{Option}
use Rattle.std.specs.declared.result.Result.{Result}
use Rattle.io_ports.specs.declared.fault.Fault.{Fault}
use Rattle.io_ports.specs.declared.fault.Fault.TheVariants.{Failed, TooLong, Memory}

-- a count of 64 bits after k more; it stays at the last number of 64 bits
abbrev pub saturating_add : ℕ → ℕ → ℕ
saturating_add n k = min (n + k) (2 ^ 64 - 1)

-- the count rose: it is greater than before, or it stands at the last number of 64 bits
abbrev pub Rose : ℕ → ℕ → Type 0
Rose before now = saturating_add before 1 ≤ now

-- the count of faults after a call with this answer: it rises exactly at `Failed`
abbrev pub faults_after : {T : Type 0} → ℕ → Result T Fault → ℕ
faults_after before (Ok value) = before
faults_after before (Err Failed) = saturating_add before 1
faults_after before (Err TooLong) = before
faults_after before (Err Memory) = before

-- the count of faults did not fall, and the call answered `Failed` only where it rose
pub record HasCause {T : Type 0} (before now : ℕ) (result : Result T Fault) : Type 0 where
  pub later : before ≤ now
  pub failed : result ≡ Err Failed → Rose before now

-- what is told after was told before, and is the same
abbrev pub Stays : Option (List ℕ) → Option (List ℕ) → Type 0
Stays before after = IfSome after (λ b. before ≡ Some b)

-- what is told after was told before, and is longer by these bytes
abbrev pub Grows : Option (List ℕ) → Option (List ℕ) → List ℕ → Type 0
Grows before after bytes = IfSome after (λ b. (a : List ℕ) × (before ≡ Some a) × (b ≡ a ++ bytes))

-- what is told after was told before, and is longer by some first ones of these bytes, maybe none
abbrev pub GrowsByPart : Option (List ℕ) → Option (List ℕ) → List ℕ → Type 0
GrowsByPart before after bytes = IfSome after
    (λ b. (a : List ℕ) × (n : ℕ) × (before ≡ Some a) × (b ≡ a ++ take n bytes))
