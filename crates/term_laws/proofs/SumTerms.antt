-- The terms of a sum that the rules make: they ascend by nodes, no node is a constant or a sum where those of the
-- opened nodes are not, and joining or scaling them by 1 gives them again.
use Rattle.std.proofs.Common.{◌≡◌, ℕ, zero, suc, ◌+◌, ◌*◌, ◌^◌, ◌%◌, ◌<◌, ◌≤◌, List, [], ◌∷◌, ◌++◌, length, map}
use Rattle.std.proofs.Common.{Bool, true, false, eqb, refl, sym, subst, arith}
use Rattle.std.specs.List.{flat_map, range_with_len}
use Rattle.std.proofs.lemmas.Bool.Decides.{nat_tests}
use Rattle.std.proofs.lemmas.List.Elements.{All-cons, All-nil}
use Rattle.terms.specs.declared.lists.Term.{Term}
use Rattle.terms.specs.declared.nodes.Node.{Node}
use Rattle.terms.specs.declared.nodes.NodeKind.{NodeKind}
use Rattle.terms.specs.declared.nodes.NodeKind.TheVariants as kinds
use Rattle.terms.specs.Tables.{node_at, AreTermsBelow}
use Rattle.terms.specs.Sums.{weight, term_of, joined, scaled_term, terms_of, opened, sum_terms}
use Rattle.terms.proofs.Cases.{by_if, from_eqb}
use Rattle.terms.proofs.Joined.{Ascends, joined_is}

-- ---- ascending terms

pub ascends_within : (low lo hi high : ℕ) (ts : List Term) → low ≤ lo → hi ≤ high → Ascends lo hi ts
    → Ascends low high ts
ascends_within low lo hi high [] h i a = tt
ascends_within low lo hi high (t ∷ ts) h i a =
    let l = a.0 in let m = a.1 in
    (omega arith, omega arith, a.2, a.3, ascends_within (t.node + 1) (t.node + 1) hi high ts (omega arith) i a.4)

pub ascends_below : (lo hi : ℕ) (ts : List Term) → Ascends lo hi ts → AreTermsBelow hi ts
ascends_below lo hi [] a = All-nil (λ (t : Term). t.node < hi)
ascends_below lo hi (t ∷ ts) a =
    All-cons (λ (u : Term). u.node < hi) t ts a.1 (ascends_below (t.node + 1) hi ts a.4)

not_nought : (n : ℕ) → eqb n 0 ≡ false → 0 < n
not_nought n e = grind (arith, nat_tests)

ascends_from : (xs : List Term) (lo len hi : ℕ) → lo + len ≤ hi
    → Ascends lo hi (flat_map (term_of xs) (range_with_len lo len))
ascends_from xs lo zero hi h = tt
ascends_from xs lo (suc len) hi h =
    let rest = flat_map (term_of xs) (range_with_len (lo + 1) len) in
    let ih = ascends_from xs (lo + 1) len hi (omega arith) in
    by_if (λ (ts : List Term). Ascends lo hi (ts ++ rest)) (eqb (weight xs lo % 2 ^ 64) 0) _ _
    (λ e. ascends_within lo (lo + 1) hi hi rest (omega arith) (omega arith) ih)
    (λ e. (omega arith, omega arith, not_nought (weight xs lo % 2 ^ 64) e, omega arith, ih))

pub sum_terms_ascend : (opens : Bool) (table : List Node) (ts : List Term)
    → Ascends 0 (length table) (sum_terms opens table ts)
unfolding sum_terms joined
sum_terms_ascend opens table ts =
    ascends_from (flat_map (opened opens table) ts) 0 (length table) (length table) (omega arith)

-- ---- joined and scaled again

pub joined_again : (count : ℕ) (ts : List Term) → Ascends 0 count ts → joined count ts ≡ ts
joined_again count ts a = sym (joined_is count ts ts a (λ n. refl))

pub scaled_by_one : (lo hi : ℕ) (ts : List Term) → Ascends lo hi ts → map (scaled_term 1) ts ≡ ts
scaled_by_one lo hi [] a = refl
scaled_by_one lo hi (t ∷ ts) a =
    let e : 1 * t.times % 2 ^ 64 ≡ t.times = let h = a.3 in omega arith in
    let r = scaled_by_one (t.node + 1) hi ts a.4 in
    λ i. record { times = e i; node = t.node } ∷ r i

-- ---- nodes that are neither constants nor sums

abbrev pub IsOther : NodeKind → Type 0
IsOther (kinds.Const v) = ⊥
IsOther (kinds.Sum k ts) = ⊥
IsOther _ = Unit {0}

abbrev pub AreOthers : List Node → List Term → Type 0
AreOthers table [] = Unit {0}
AreOthers table (t ∷ ts) = IsOther (node_at table t.node).kind × AreOthers table ts

others_append : (table : List Node) (ts us : List Term) → AreOthers table ts → AreOthers table us
    → AreOthers table (ts ++ us)
others_append table [] us a b = b
others_append table (t ∷ ts) us a b = (a.0, others_append table ts us a.1 b)

others_scaled : (table : List Node) (c : ℕ) (ts : List Term) → AreOthers table ts
    → AreOthers table (map (scaled_term c) ts)
others_scaled table c [] a = tt
others_scaled table c (t ∷ ts) a = (a.0, others_scaled table c ts a.1)

-- a node with a multiplier is that of a term
other_weight : (table : List Node) (xs : List Term) (n : ℕ) → AreOthers table xs → 0 < weight xs n
    → IsOther (node_at table n).kind
other_weight table [] n a h = absurd (omega arith)
other_weight table (t ∷ ts) n a h =
    by_if (λ (w : ℕ). 0 < w + weight ts n → IsOther (node_at table n).kind) (eqb t.node n) t.times 0
    (λ e l. subst (λ (m : ℕ). IsOther (node_at table m).kind) (from_eqb t.node n e) a.0)
    (λ e l. other_weight table ts n a.1 (omega arith)) h

others_from : (table : List Node) (xs : List Term) (lo len : ℕ) → AreOthers table xs
    → AreOthers table (flat_map (term_of xs) (range_with_len lo len))
others_from table xs lo zero a = tt
others_from table xs lo (suc len) a =
    let rest = flat_map (term_of xs) (range_with_len (lo + 1) len) in
    let ih = others_from table xs (lo + 1) len a in
    by_if (λ (ts : List Term). AreOthers table (ts ++ rest)) (eqb (weight xs lo % 2 ^ 64) 0) _ _
    (λ e. ih)
    (λ e. (other_weight table xs lo a (let h = not_nought (weight xs lo % 2 ^ 64) e in omega arith), ih))

-- the nodes of a table are opened, to terms of another one that are neither constants nor sums
abbrev pub OpensToOthers : List Node → List Node → Type 0
OpensToOthers table s = (n : ℕ) → AreOthers table (terms_of true n (node_at s n).kind)

others_opened : (table s : List Node) → OpensToOthers table s → (ts : List Term)
    → AreOthers table (flat_map (opened true s) ts)
others_opened table s h [] = tt
others_opened table s h (t ∷ ts) =
    others_append table (opened true s t) (flat_map (opened true s) ts)
    (others_scaled table t.times (terms_of true t.node (node_at s t.node).kind) (h t.node)) (others_opened table s h ts)

pub sum_terms_others : (table s : List Node) (ts : List Term) → OpensToOthers table s
    → AreOthers table (sum_terms true s ts)
unfolding sum_terms joined
sum_terms_others table s ts h =
    others_from table (flat_map (opened true s) ts) 0 (length s) (others_opened table s h ts)
