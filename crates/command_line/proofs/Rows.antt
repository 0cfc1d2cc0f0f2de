-- What an answer of `clap` says of the rows that a command finds in its words.
use Rattle.std.proofs.Common.{◌≡◌, ◌∙◌, ℕ, Bool, true, false, List, [], ◌∷◌, Some, None, refl, ap, inl, inr}
use Rattle.std.specs.Prelude.{◌&&◌}
use Rattle.base.specs.Options.{guard}
use Rattle.clap.specs.Walk.{Row, rows_of}
use Rattle.clap.specs.Matches.{found_of}
use Rattle.clap.specs.Values.{kind_of}
use Rattle.clap.specs.Kinds.{Kinds, HasKind}
use Rattle.clap.specs.Simple.{App, HasMatchesOf, matches_of}
use Rattle.clap.specs.Faults.{fault_of, is_simple_and_free}
use Rattle.clap.specs.declared.error.Error.{Error}
use Rattle.clap.specs.declared.error.kind.ErrorKind.TheVariants.{OutOfMemory}
use Rattle.clap.specs.declared.parser.matches.ArgMatches.{ArgMatches}
use Rattle.command_line.specs.Lines.{is_accepted, rows}

both_left : (a b : Bool) → (a && b) ≡ true → a ≡ true
both_left true b both = refl
both_left false b both = both

found_without_fault : (app : App) (words : List (List ℕ)) (found : List Row)
    → fault_of app words ≡ [] → found ≡ matches_of app words → Some found ≡ rows app words
unfolding rows
found_without_fault app words found none same = rw (none, same) refl

-- an answer of `clap` gives the rows
pub rows_at_ok : (app wanted : App) (words : List (List ℕ)) (m : ArgMatches)
    → app ≡ wanted → is_simple_and_free wanted ≡ true
    → (is_simple_and_free app ≡ true → fault_of app words ≡ []) → HasMatchesOf app words m
    → Some (rows_of (found_of m)) ≡ rows wanted words
rows_at_ok app wanted words m same free faultless matches =
    let here : is_simple_and_free app ≡ true = ap is_simple_and_free same ∙ free in
    found_without_fault app words (rows_of (found_of m)) (faultless here) (matches (both_left _ _ here)).0
    ∙ ap (λ a. rows a words) same

none_by_fault : (faults : Kinds) (error : Error) (found : List Row)
    → HasKind faults error → (kind_of error ≡ OutOfMemory → ⊥) → None ≡ guard (is_accepted faults) found
none_by_fault [] error found (inl memory) other = absurd (other memory)
none_by_fault [] error found (inr among) other = absurd among
none_by_fault (fault ∷ faults) error found has other = refl

-- a refusal for another cause than want of memory: there are none
pub rows_at_err : (app wanted : App) (words : List (List ℕ)) (error : Error)
    → app ≡ wanted → is_simple_and_free wanted ≡ true
    → (is_simple_and_free app ≡ true → HasKind (fault_of app words) error) → (kind_of error ≡ OutOfMemory → ⊥)
    → None ≡ rows wanted words
unfolding rows
rows_at_err app wanted words error same free faulty other =
    let here : is_simple_and_free app ≡ true = ap is_simple_and_free same ∙ free in
    none_by_fault (fault_of app words) error (matches_of app words) (faulty here) other ∙ ap (λ a. rows a words) same
