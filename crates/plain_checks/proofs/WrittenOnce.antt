-- Where the values of a program go: an output word is one of an output parameter, and no two values go to the same one.
use Rattle.std.proofs.Common.{◌≡◌, ℕ, zero, suc, ◌+◌, ◌<◌, ◌≤◌, Bool, true, cond, List, [], ◌∷◌, ◌++◌, length}
use Rattle.std.proofs.Common.{Option, Some, None, refl, ◌∙◌, ap, subst, arith}
use Rattle.std.specs.Prelude.{count_by, slice_get, IsTrue, IsSomeAnd}
use Rattle.std.specs.List.{AllByRecursion}
use Rattle.std.proofs.lemmas.Bool.Decides.{nat_tests}
use Rattle.std.proofs.lemmas.List.Sums.{sum_by-cons}
use Rattle.std.proofs.lemmas.Option.{same_Some}
use Rattle.word_program.specs.declared.parameter.Param.{Param}
use Rattle.word_program.specs.declared.operation.Op.{Op}
use Rattle.word_program.specs.declared.operation.Target.{Target}
use Rattle.word_program.specs.declared.operation.Target.TheVariants as targets
use Rattle.word_program.specs.Program.{Source}
use Rattle.word_program.specs.Values.{is_at, is_output, op_bits, targets_of}
use Rattle.word_program.specs.Accepted.{AreOps, IsAccepted, IsTarget}

-- ---- what passes a test once

-- how many pass behind an item, and of which the item is one
count_first : {X : Type 0} (p : X → Bool) (x : X) (xs : List X) → p x ≡ true
    → count_by p (x ∷ xs) ≡ 1 + count_by p xs
count_first p x xs e = sum_by-cons (λ y. cond (p y) 1 0) x xs ∙ ap (λ (b : Bool). cond b 1 0 + count_by p xs) e

count_rest : {X : Type 0} (p : X → Bool) (x : X) (xs : List X) → count_by p xs ≤ count_by p (x ∷ xs)
count_rest p x xs = let e = sum_by-cons (λ y. cond (p y) 1 0) x xs in omega (arith, e)

-- an item that passes is counted
count_some : {X : Type 0} (p : X → Bool) (xs : List X) (i : ℕ) (a : X) → slice_get xs i ≡ Some a → p a ≡ true
    → 1 ≤ count_by p xs
count_some p [] i a there e = cc
count_some p (x ∷ xs) zero a there e =
    let same : x ≡ a = same_Some x a there in
    let first = count_first p x xs (ap p same ∙ e) in omega (arith, first)
count_some p (x ∷ xs) (suc i) a there e =
    let rest = count_rest p x xs in let some = count_some p xs i a there e in omega (arith, rest, some)

once : {X : Type 0} (p : X → Bool) (xs : List X) (i j : ℕ) (a b : X) → count_by p xs ≤ 1 → slice_get xs i ≡ Some a
    → p a ≡ true → slice_get xs j ≡ Some b → p b ≡ true → i ≡ j
once p [] i j a b few f e g h = cc
once p (x ∷ xs) zero zero a b few f e g h = refl
once p (x ∷ xs) zero (suc j) a b few f e g h =
    let first = count_first p x xs (ap p (same_Some x a f) ∙ e) in
    let some = count_some p xs j b g h in absurd (omega (arith, few, first, some))
once p (x ∷ xs) (suc i) zero a b few f e g h =
    let first = count_first p x xs (ap p (same_Some x b g) ∙ h) in
    let some = count_some p xs i a f e in absurd (omega (arith, few, first, some))
once p (x ∷ xs) (suc i) (suc j) a b few f e g h =
    let rest = count_rest p x xs in
    ap suc (once p xs i j a b (omega (arith, few, rest)) f e g h)

-- ---- targets

target_in : (params : List Param) (ts us : List Target) (value : ℕ) (target : Target)
    → AllByRecursion (IsTarget params) ts → ((n : ℕ) → slice_get us n ≡ Some target → IsTarget params target)
    → slice_get (ts ++ us) value ≡ Some target → IsTarget params target
target_in params [] us value target all rest e = rest value e
target_in params (t ∷ ts) us zero target all rest e = subst (IsTarget params) (same_Some t target e) all.0
target_in params (t ∷ ts) us (suc value) target all rest e = target_in params ts us value target all.1 rest e

target_of : (params : List Param) (bits : List Bool) (ops : List Op) → AreOps params bits ops → (value : ℕ)
    (target : Target) → slice_get (targets_of ops) value ≡ Some target → IsTarget params target
target_of params bits [] all value target e = cc
target_of params bits (op ∷ ops) all value target e =
    target_in params op.targets (targets_of ops) value target all.0.writes
    (λ n h. target_of params (bits ++ op_bits params bits op) ops all.1 n target h) e

-- the parameter of an output word
pub record IsOut (program : Source) (param word : ℕ) : Type 0 where
  pub p : Param
  pub there : slice_get program.params param ≡ Some p
  pub output : is_output p.role ≡ true
  pub inside : word < length p.bounds

is_out : (program : Source) (param word : ℕ) (o : Option Param) → slice_get program.params param ≡ o
    → IsSomeAnd o (λ p. IsTrue (is_output p.role) × (word < length p.bounds)) → IsOut program param word
is_out program param word None e h = absurd h
is_out program param word (Some p) e h = record { p = p; there = e; output = h.0; inside = h.1 }

module _ (program : Source) (accepted : IsAccepted program) where
  pub target_is_out : (value param word : ℕ)
      → slice_get (targets_of program.ops) value ≡ Some (targets.Output param word) → IsOut program param word
  target_is_out value param word e = is_out program param word (slice_get program.params param) refl
      (target_of program.params [] program.ops accepted.ops value (targets.Output param word) e)

  at_itself : (param word : ℕ) → is_at param word (targets.Output param word) ≡ true
  at_itself param word = grind (arith, nat_tests)

  -- two values that go to the same output word are one
  pub written_once : (value other param word : ℕ)
      → slice_get (targets_of program.ops) value ≡ Some (targets.Output param word)
      → slice_get (targets_of program.ops) other ≡ Some (targets.Output param word) → value ≡ other
  written_once value other param word e h =
      let once_only = accepted.written param word
      (target_of program.params [] program.ops accepted.ops value (targets.Output param word) e) in
      once (is_at param word) (targets_of program.ops) value other (targets.Output param word)
      (targets.Output param word) (omega (arith, once_only)) e (at_itself param word) h (at_itself param word)
