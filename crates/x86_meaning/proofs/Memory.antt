-- What the memory holds after a store.
use Rattle.std.proofs.Common.{◌≡◌, ℕ, ◌≢◌, cond, ◌==◌, Some, is_some, IsSome, refl, ap, ◌∙◌, arith, eq-eqb, ne_eqb}
use Rattle.std.specs.Cmp.{nat_cmp_total}
use Rattle.std.specs.Ordering.{nat_cmp, eq_by_cmp}
use Rattle.std.specs.FinMap as map
use Rattle.std.proofs.lemmas.Bool.Decides.{nat_tests}
use Rattle.x86_meaning.specs.Machine.{Cells}

-- the map tells addresses apart as numbers
same_address : (q address : ℕ) → eq_by_cmp nat_cmp q address ≡ (q == address)
same_address q address = grind (arith, nat_tests)

-- every address after a store
pub get_put : (cells : Cells) (address word q : ℕ)
    → map.get (map.insert cells address word) q ≡ cond (q == address) (Some word) (map.get cells q)
get_put cells address word q = map.get-insert nat_cmp_total cells address word q
    ∙ ap (λ b. cond b (Some word) (map.get cells q)) (same_address q address)

-- the address of the store holds the word
pub get_put_same : (cells : Cells) (address word : ℕ) → map.get (map.insert cells address word) address ≡ Some word
get_put_same cells address word = get_put cells address word address
    ∙ ap (λ b. cond b (Some word) (map.get cells address)) (eq-eqb address address refl)

-- another address holds what it held
pub get_put_other : (cells : Cells) (address word q : ℕ) → q ≢ address
    → map.get (map.insert cells address word) q ≡ map.get cells q
get_put_other cells address word q other =
    get_put cells address word q ∙ ap (λ b. cond b (Some word) (map.get cells q)) (ne_eqb q address other)

-- where the address is in the memory, a store leaves the set of addresses
pub has_put : (cells : Cells) (address word q : ℕ) → IsSome (map.get cells address)
    → is_some (map.get (map.insert cells address word) q) ≡ is_some (map.get cells q)
has_put cells address word q there = ap is_some (get_put cells address word q) ∙ grind (arith, nat_tests)
