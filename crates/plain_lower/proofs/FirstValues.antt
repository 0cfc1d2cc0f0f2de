-- The list of first values, made operation by operation, and what it has at a place.
use Rattle.std.proofs.Common.{◌≡◌, ℕ, ◌+◌, ◌<◌, ◌≤◌, List, [], ◌∷◌, ◌++◌, length, map, get_or, refl, arith, ap, sym}
use Rattle.std.proofs.Common.{subst, zero-add, ◌∙◌}
use Rattle.std.proofs.lemmas.List.FromFn.{get_or-map-range_with_len, length-map-range_with_len, map-range_with_len_more}
use Rattle.std.specs.List.{range_with_len}
use Rattle.word_program.specs.declared.operation.Op.{Op}
use Rattle.word_program.specs.Program.{Source}
use Rattle.word_program.specs.Accepted.{IsAccepted}
use Rattle.dependency_graph.specs.Needs.{first_value}
use Rattle.dependency_graph.proofs.OrderLemmas.{results_limit, results_next}
use Rattle.plain_lower.specs.Blocks.{firsts_of}

-- the first values of the first operations
abbrev pub first_values_to : Source → ℕ → List ℕ
first_values_to p n = map (first_value p) (range_with_len 0 n)

pub one_more : (p : Source) (n : ℕ) → first_values_to p (n + 1) ≡ first_values_to p n ++ first_value p n ∷ []
one_more p n = map-range_with_len_more (first_value p) 0 n n (zero-add n)

pub value_next : (p : Source) (ops : List Op) → ops ≡ p.ops → (n : ℕ) (op other : Op) → n < length ops
    → op ≡ get_or ops n other → first_value p (n + 1) ≡ first_value p n + length op.targets
unfolding first_value
value_next p ops same n op other w is =
    let at : length op.targets ≡ length (get_or p.ops n other).targets =
    ap (λ (o : Op). length o.targets) (is ∙ ap (λ (l : List Op). get_or l n other) same) in
    results_next p.ops n other (subst (λ (l : List Op). n < length l) same w) ∙ ap (λ k. first_value p n + k) (sym at)

-- the results of an operation and of those before it are among all
pub value_few : (p : Source) → IsAccepted p → (ops : List Op) → ops ≡ p.ops → (n : ℕ) (op other : Op) → n < length ops
    → op ≡ get_or ops n other → first_value p n + length op.targets ≤ 4096
unfolding first_value
value_few p accepted ops same n op other w is =
    let next = value_next p ops same n op other w is in
    let limit = accepted.values_limit in
    omega (arith, next, limit, results_limit p.ops (n + 1))

pub none_before : (p : Source) → 0 ≡ first_value p 0
unfolding first_value
none_before p = refl

pub all_firsts : (p : Source) (ops : List Op) → ops ≡ p.ops → (firsts : List ℕ) (n : ℕ) → firsts ≡ first_values_to p n
    → n ≤ length ops → length ops ≤ n → firsts ≡ firsts_of p
unfolding firsts_of
all_firsts p ops same firsts n is most least =
    let end : n ≡ length p.ops = omega (arith, ap length same, most, least) in is ∙ ap (first_values_to p) end

pub firsts_count : (p : Source) (firsts : List ℕ) → firsts ≡ firsts_of p → length firsts ≡ length p.ops
unfolding firsts_of
firsts_count p firsts same = ap length same ∙ length-map-range_with_len (first_value p) 0 (length p.ops)

pub first_at : (p : Source) (firsts : List ℕ) → firsts ≡ firsts_of p → (op value other : ℕ) → op < length p.ops
    → value ≡ get_or firsts op other → value ≡ first_value p op
unfolding firsts_of
first_at p firsts same op value other w is =
    is ∙ ap (λ l. get_or l op other) same
    ∙ get_or-map-range_with_len (first_value p) 0 (length p.ops) op op other w (zero-add op)

pub first_few : (p : Source) → IsAccepted p → (firsts : List ℕ) → firsts ≡ firsts_of p → (op value other : ℕ)
    → op < length p.ops → value ≡ get_or firsts op other → value ≤ 4096
unfolding first_value
first_few p accepted firsts same op value other w is =
    let limit = accepted.values_limit in
    omega (arith, limit, first_at p firsts same op value other w is, results_limit p.ops op)
