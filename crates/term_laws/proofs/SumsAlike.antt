-- Sums of which the rules make the same: their terms have the same constants and the same multipliers.
use Rattle.std.proofs.Common.{◌≡◌, ℕ, ◌+◌, ◌%◌, ◌^◌, List, [], ◌∷◌, ◌++◌, length, Bool, true, false, cond, eqb, refl}
use Rattle.std.proofs.Common.{sym, ap, ◌∙◌, arith}
use Rattle.std.specs.List.{flat_map, range_with_len, sum_by}
use Rattle.std.proofs.lemmas.List.Sums.{sum_by-cons}
use Rattle.terms.specs.declared.lists.Term.{Term}
use Rattle.terms.specs.declared.nodes.Node.{Node}
use Rattle.terms.specs.Sums.{joined, opened, opened_constant, sum_constant, sum_terms, weight}
use Rattle.terms.specs.Rules.{lin_of, sum_of, wide_of}

weight-append : (xs ys : List Term) (n : ℕ) → weight (xs ++ ys) n ≡ weight xs n + weight ys n
weight-append [] ys n = omega arith
weight-append (x ∷ xs) ys n = let rest = weight-append xs ys n in omega arith

weight-opened : (f : Term → List Term) (xs : List Term) (n : ℕ)
    → weight (flat_map f xs) n ≡ sum_by (λ x. weight (f x) n) xs
weight-opened f [] n = refl
weight-opened f (x ∷ xs) n =
    weight-append (f x) (flat_map f xs) n ∙ ap (λ (w : ℕ). weight (f x) n + w) (weight-opened f xs n)
    ∙ sym (sum_by-cons (λ (y : Term). weight (f y) n) x xs)

joined_alike : (count : ℕ) (xs ys : List Term) → ((n : ℕ) → weight xs n ≡ weight ys n)
    → joined count xs ≡ joined count ys
unfolding joined
joined_alike count xs ys e =
    (λ i. flat_map (λ n. cond (eqb (e n i % 2 ^ 64) 0) [] (record { times = e n i % 2 ^ 64; node = n } ∷ []))
    (range_with_len 0 count))

pub lin_alike : (t : List Node) (k : ℕ) (xs ys : List Term)
    → ((opens : Bool) → sum_by (opened_constant opens t) xs ≡ sum_by (opened_constant opens t) ys)
    → ((opens : Bool) (n : ℕ) → sum_by (λ x. weight (opened opens t x) n) xs
    ≡ sum_by (λ x. weight (opened opens t x) n) ys)
    → lin_of t k xs ≡ lin_of t k ys
unfolding lin_of sum_constant sum_terms
lin_alike t k xs ys constants weights =
    let terms = λ (opens : Bool). joined_alike (length t) (flat_map (opened opens t) xs) (flat_map (opened opens t) ys)
    (λ n. weight-opened (opened opens t) xs n ∙ weights opens n ∙ sym (weight-opened (opened opens t) ys n)) in
    (λ i. sum_of t ((k + constants true i) % 2 ^ 64) (terms true i)
    (wide_of t ((k + constants false i) % 2 ^ 64) (terms false i)))
