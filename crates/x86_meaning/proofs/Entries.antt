-- The memory as the finite map that the entries of a `BTreeMap` give.
use Rattle.std.proofs.Common.{◌≡◌, ℕ, Bool, true, false, cond, ◌==◌, List, [], ◌∷◌, Option, Some, None, IsSome, IfSome}
use Rattle.std.proofs.Common.{is_some, refl, sym, ap, ◌∙◌, arith, subst, ◌%◌, eqb-true}
use Rattle.std.specs.Cmp.{nat_cmp_total}
use Rattle.std.specs.Ordering.{nat_cmp, is_eq}
use Rattle.std.specs.FinMap as map
use Rattle.std.specs.Map.{lookup}
use Rattle.std.specs.BTreeMap.{BTreeMap, is_at, Updates, WritesThrough, get_by}
use Rattle.std.proofs.lemmas.Bool.{false≢true}
use Rattle.std.proofs.lemmas.Bool.Decides.{nat_tests}
use Rattle.x86_meaning.specs.Aligned.{AreAligned}
use Rattle.x86_meaning.specs.Machine.{Cells}
use Rattle.x86_meaning.proofs.Memory.{get_put}

-- the memory of a map
abbrev pub cells_of : BTreeMap ℕ ℕ → Cells
cells_of m = map.from_entries m.entries

-- both kinds of map find the first entry with an address
found : (address : ℕ) (es : List (ℕ × ℕ)) → map.find nat_cmp address es ≡ lookup (is_at (nat_cmp address)) es
found address [] = refl
found address (e ∷ es) = ap (cond (is_eq (nat_cmp address e.0)) (Some e.1)) (found address es)

-- the memory holds what the map holds
pub held : (m : BTreeMap ℕ ℕ) (address : ℕ) → map.get (cells_of m) address ≡ get_by (nat_cmp address) m
held m address = map.get-from_entries nat_cmp_total m.entries address ∙ found address m.entries

-- the map tells addresses apart as numbers
same_key : (q address : ℕ) → is_eq (nat_cmp address q) ≡ (q == address)
same_key q address = grind (arith, nat_tests)

-- a map with another word at an address is the memory with it
pub updated : (m n : BTreeMap ℕ ℕ) (address word : ℕ) → Updates nat_cmp m n address (Some word)
    → cells_of n ≡ map.insert (cells_of m) address word
updated m n address word u = map.same_map nat_cmp_total map.nat_cmp-IsAntisymmetric _ _ (λ q.
    held n q ∙ (u.0 q ∙ (ap (λ b. cond b (Some word) (get_by (nat_cmp q) m)) (same_key q address)
    ∙ (ap (cond (q == address) (Some word)) (sym (held m q)) ∙ sym (get_put (cells_of m) address word q)))))

-- so is a map after a write through the loan of an address's word
pub replaced : (m n : BTreeMap ℕ ℕ) (address word : ℕ) → WritesThrough nat_cmp (nat_cmp address) m word n
    → IsSome (get_by (nat_cmp address) m)
    → cells_of n ≡ map.insert (cells_of m) address word
replaced m n address word w there = updated m n address word (w.3 there)

-- what an address that is in the memory after a store was before it
aligned_at : {A : Type 0} (o : Option ℕ) (word : ℕ) (b : Bool) → (b ≡ true → A) → (IsSome o → A)
    → IsSome (cond b (Some word) o) → A
aligned_at o word true new old there = new refl
aligned_at o word false new old there = old there

-- a memory with a word at one multiple of 8 more
pub aligned_put : (cells : Cells) (address word : ℕ) → AreAligned cells → address % 8 ≡ 0
    → AreAligned (map.insert cells address word)
aligned_put cells address word a e q there =
    aligned_at _ _ (q == address) (λ is. ap (λ n. n % 8) (eqb-true q address is) ∙ e) (a q)
    (subst IsSome (get_put cells address word q) there)

-- the empty memory has no address
pub aligned_empty : AreAligned map.empty
aligned_empty address there = absurd (false≢true (subst IsSome (map.get-empty nat_cmp address) there))

-- the memory of a map without entries is empty
pub emptied : (m : BTreeMap ℕ ℕ) → m.entries ≡ [] → cells_of m ≡ map.empty
emptied m e = ap map.from_entries e

-- an address with a word is a multiple of 8
pub aligned_held : (cells : Cells) (address : ℕ) (o : Option ℕ) → AreAligned cells → o ≡ map.get cells address
    → IfSome o (λ _. address % 8 ≡ 0)
aligned_held cells address None a e = tt
aligned_held cells address (Some word) a e = a address (sym (ap is_some e))
