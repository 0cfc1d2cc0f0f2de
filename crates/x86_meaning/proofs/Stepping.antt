-- How to go through a run line by line: what a run needs of its next line.
use Rattle.std.proofs.Common.{◌≡◌, ℕ, Option, Some, None, IsSome, MatchOption}
use Rattle.std.proofs.Common.{option_map, if◌then◌else◌, sym, ap, ◌∙◌, subst}
use Rattle.std.specs.FinMap as map
use Rattle.x86_meaning.specs.declared.state.State.{State}
use Rattle.x86_meaning.specs.Machine.{loaded, stored}

-- where the address is in the memory, a store leads to the state with the word there
pub stored_there : (s : State) (address word : ℕ) → IsSome (map.get s.cells address)
    → stored address word s ≡ Some (record s { cells = map.insert s.cells address word })
stored_there s address word there = ap (λ b. if b then Some (record s { cells = map.insert s.cells address word }) else
    None) there

-- a step that stores to an address under another name
pub on_store : (s : State) (address address' word : ℕ) (G : State → Type 0) → address ≡ address'
    → IsSome (map.get s.cells address')
    → G (record s { cells = map.insert s.cells address' word }) → MatchOption (stored address word s) ⊥ G
on_store s address address' word G e there g =
    subst (λ o. MatchOption o ⊥ G) (sym (ap (λ p. stored p word s) e ∙ stored_there s address' word there)) g

-- a step that reads a word, as `mov` does
pub on_operand : (o : Option ℕ) (word : ℕ) (f : ℕ → State) (G : State → Type 0) → o ≡ Some word → G (f word)
    → MatchOption (option_map f o) ⊥ G
on_operand o word f G e g = subst (λ x. MatchOption (option_map f x) ⊥ G) (sym e) g

-- a word that is loaded from an address under another name
pub loaded_at : (s : State) (address address' word : ℕ) → address ≡ address' → map.get s.cells address' ≡ Some word
    → loaded s address ≡ Some word
loaded_at s address address' word e held = ap (loaded s) e ∙ held

-- a step that loads from an address under another name
pub on_load : (s : State) (address address' word : ℕ) (f : ℕ → State) (G : State → Type 0) → address ≡ address'
    → map.get s.cells address' ≡ Some word
    → G (f word) → MatchOption (option_map f (loaded s address)) ⊥ G
on_load s address address' word f G e held g =
    on_operand (loaded s address) word f G (loaded_at s address address' word e held) g

-- ---- what a run that goes through says of its next line

-- a load from an address of the memory
pub past_load : (s : State) (address address' word : ℕ) (f : ℕ → State) (G : State → Type 0) → address ≡ address'
    → map.get s.cells address' ≡ Some word → MatchOption (option_map f (loaded s address)) ⊥ G → G (f word)
past_load s address address' word f G e held h =
    subst (λ o. MatchOption (option_map f o) ⊥ G) (loaded_at s address address' word e held) h

-- a load from another address
pub no_load : (s : State) (address address' : ℕ) (f : ℕ → State) (G : State → Type 0) → address ≡ address'
    → map.get s.cells address' ≡ None → MatchOption (option_map f (loaded s address)) ⊥ G → ⊥
no_load s address address' f G e absent h =
    subst (λ o. MatchOption (option_map f o) ⊥ G) (ap (loaded s) e ∙ absent) h

-- a store to an address of the memory
pub past_store : (s : State) (address address' word : ℕ) (G : State → Type 0) → address ≡ address'
    → IsSome (map.get s.cells address') → MatchOption (stored address word s) ⊥ G
    → G (record s { cells = map.insert s.cells address' word })
past_store s address address' word G e there h =
    subst (λ o. MatchOption o ⊥ G) (ap (λ p. stored p word s) e ∙ stored_there s address' word there) h
