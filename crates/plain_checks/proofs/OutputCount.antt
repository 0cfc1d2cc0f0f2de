-- How many results of an accepted program are words of outputs: at most as many as the outputs have words.
use Rattle.std.proofs.Common.{◌≡◌, ℕ, zero, suc, ◌+◌, ◌*◌, ◌<◌, ◌≤◌, Bool, true, false, List, [], ◌∷◌, ◌++◌, length}
use Rattle.std.proofs.Common.{refl}
use Rattle.std.proofs.Common.{ap, subst, ◌∙◌, arith}
use Rattle.std.proofs.lemmas.List.{length-append}
use Rattle.std.proofs.lemmas.List.Sums.{sum_by-cons}
use Rattle.std.proofs.lemmas.Bool.Decides.{nat_tests}
use Rattle.std.specs.Prelude.{cond, ◌&&◌, ◌==◌, count_by, slice_get, if◌then◌else◌, IsSomeAnd, IsTrue}
use Rattle.std.specs.List.{AllByRecursion}
use Rattle.base.proofs.Arithmetic.{test_of_itself}
use Rattle.word_program.specs.declared.parameter.Param.{Param}
use Rattle.word_program.specs.declared.operation.Op.{Op}
use Rattle.word_program.specs.declared.operation.Target.{Target}
use Rattle.word_program.specs.declared.operation.Target.TheVariants as targets
use Rattle.word_program.specs.Program.{Source}
use Rattle.word_program.specs.Values.{is_output, is_at, output_count, targets_of, op_bits}
use Rattle.word_program.specs.Accepted.{IsAccepted, IsTarget, AreOps}
use Rattle.word_program.proofs.BodyLemmas.{result_count_limit}
use Rattle.plain_checks.proofs.Lists.{all_append}

-- ---- the targets of an accepted program

pub targets_kept : (params : List Param) (bits : List Bool) (ops : List Op) → AreOps params bits ops
    → AllByRecursion (IsTarget params) (targets_of ops)
targets_kept params bits [] are = tt
targets_kept params bits (op ∷ ops) are = all_append (IsTarget params) op.targets (targets_of ops) are.0.writes
    (targets_kept params (bits ++ op_bits params bits op) ops are.1)

-- an operation has at most two results
pub few_targets : (params : List Param) (bits : List Bool) (ops : List Op) → AreOps params bits ops
    → length (targets_of ops) ≤ 2 * length ops
few_targets params bits [] are = omega arith
few_targets params bits (op ∷ ops) are =
    let rest = few_targets params (bits ++ op_bits params bits op) ops are.1 in
    let here = are.0.results in
    let limit = result_count_limit op.kind in
    let sum = length-append op.targets (targets_of ops) in
    omega arith

-- ---- output words among them

abbrev pub one_if_output : Target → ℕ
one_if_output targets.Value = 0
one_if_output targets.Unused = 0
one_if_output (targets.Output param word) = 1

-- how many of them are words of outputs
abbrev pub outputs_in : List Target → ℕ
outputs_in [] = 0
outputs_in (t ∷ ts) = one_if_output t + outputs_in ts

pub outputs_among : (ts : List Target) → outputs_in ts ≤ length ts
outputs_among [] = omega arith
outputs_among (targets.Value ∷ ts) = let rest = outputs_among ts in omega arith
outputs_among (targets.Unused ∷ ts) = let rest = outputs_among ts in omega arith
outputs_among (targets.Output param word ∷ ts) = let rest = outputs_among ts in omega arith

-- how many of them are one of the first words of this parameter
abbrev words_of : List Target → ℕ → ℕ → ℕ
words_of ts param zero = 0
words_of ts param (suc n) = count_by (is_at param n) ts + words_of ts param n

abbrev if_output : Bool → ℕ → ℕ
if_output b n = if b then n else 0

-- how many are a word of these parameters, of which the first has this number
abbrev words_in : List Target → ℕ → List Param → ℕ
words_in ts param [] = 0
words_in ts param (p ∷ ps) =
    if_output (is_output p.role) (words_of ts param (length p.bounds)) + words_in ts (param + 1) ps

-- ---- a target adds to each count what it is itself

abbrev one_if : Bool → ℕ
one_if b = cond b 1 0

abbrev hits_of : Target → ℕ → ℕ → ℕ
hits_of t param zero = 0
hits_of t param (suc n) = one_if (is_at param n t) + hits_of t param n

abbrev hits_in : Target → ℕ → List Param → ℕ
hits_in t param [] = 0
hits_in t param (p ∷ ps) = if_output (is_output p.role) (hits_of t param (length p.bounds)) + hits_in t (param + 1) ps

more_words : (t : Target) (ts : List Target) (param n : ℕ)
    → words_of (t ∷ ts) param n ≡ hits_of t param n + words_of ts param n
more_words t ts param zero = refl
more_words t ts param (suc n) =
    let here = sum_by-cons (λ (x : Target). one_if (is_at param n x)) t ts in
    let rest = more_words t ts param n in
    omega arith

more_if : (b : Bool) (n h w : ℕ) → n ≡ h + w → if_output b n ≡ if_output b h + if_output b w
more_if true n h w e = e
more_if false n h w e = refl

more_in : (t : Target) (ts : List Target) (param : ℕ) (ps : List Param)
    → words_in (t ∷ ts) param ps ≡ hits_in t param ps + words_in ts param ps
more_in t ts param [] = refl
more_in t ts param (p ∷ ps) =
    let here = more_if (is_output p.role) (words_of (t ∷ ts) param (length p.bounds))
    (hits_of t param (length p.bounds)) (words_of ts param (length p.bounds))
    (more_words t ts param (length p.bounds)) in
    let rest = more_in t ts (param + 1) ps in
    omega arith

-- ---- an output word is counted

hit_here : (param word n : ℕ) → word < n → 1 ≤ hits_of (targets.Output param word) param n
hit_here param word zero h = absurd (omega arith)
hit_here param word (suc n) h = on (word == n) refl (hit_here param word n)
  where
    both : (b : Bool) → (word == n) ≡ b → is_at param n (targets.Output param word) ≡ b
    both b e = ap (λ c. c && word == n) (test_of_itself param) ∙ e

    on : (b : Bool) → (word == n) ≡ b → (word < n → 1 ≤ hits_of (targets.Output param word) param n)
        → 1 ≤ one_if (is_at param n (targets.Output param word)) + hits_of (targets.Output param word) param n
    on true e rest =
        let one : one_if (is_at param n (targets.Output param word)) ≡ 1 = ap one_if (both true e) in
        omega arith
    on false e rest =
        let more = rest (grind (arith, nat_tests, e, h)) in
        omega arith

hit_if : (b : Bool) (n m : ℕ) → b ≡ true → 1 ≤ n → 1 ≤ if_output b n + m
hit_if true n m e h = omega arith
hit_if false n m e h = absurd (cc)

hit_in : (param word : ℕ) (ps : List Param) (k i : ℕ) → param ≡ k + i
    → IsSomeAnd (slice_get ps i) (λ p. IsTrue (is_output p.role) × (word < length p.bounds))
    → 1 ≤ hits_in (targets.Output param word) k ps
hit_in param word [] k i e h = absurd h
hit_in param word (p ∷ ps) k zero e h =
    let same : param ≡ k = omega arith in
    hit_if (is_output p.role) (hits_of (targets.Output param word) k (length p.bounds))
    (hits_in (targets.Output param word) (k + 1) ps) h.0
    (subst (λ (q : ℕ). 1 ≤ hits_of (targets.Output param word) q (length p.bounds)) same
    (hit_here param word (length p.bounds) h.1))
hit_in param word (p ∷ ps) k (suc i) e h =
    let rest = hit_in param word ps (k + 1) i (omega arith) h in
    omega arith

hit : (params : List Param) (t : Target) → IsTarget params t → one_if_output t ≤ hits_in t 0 params
hit params targets.Value is = omega arith
hit params targets.Unused is = omega arith
hit params (targets.Output param word) is = hit_in param word params 0 param (omega arith) is

outputs_counted : (params : List Param) (ts : List Target) → AllByRecursion (IsTarget params) ts
    → outputs_in ts ≤ words_in ts 0 params
outputs_counted params [] all = omega arith
outputs_counted params (t ∷ ts) all =
    let here = hit params t all.0 in
    let rest = outputs_counted params ts all.1 in
    let sum = more_in t ts 0 params in
    omega arith

-- ---- each word once

once_of : (ts : List Target) (param n : ℕ) → ((word : ℕ) → word < n → count_by (is_at param word) ts ≡ 1)
    → words_of ts param n ≡ n
once_of ts param zero once = refl
once_of ts param (suc n) once =
    let here = once n (omega arith) in
    let rest = once_of ts param n (λ (word : ℕ) (h : word < n). once word (omega arith)) in
    omega arith

once_if : (b : Bool) (n m : ℕ) → (b ≡ true → n ≡ m) → if_output b n ≡ if_output b m
once_if true n m e = e refl
once_if false n m e = refl

-- the words of the parameters from this number on are written once each
abbrev WrittenFrom : List Target → ℕ → List Param → Type 0
WrittenFrom ts k ps = (i word : ℕ)
    → IsSomeAnd (slice_get ps i) (λ p. IsTrue (is_output p.role) × (word < length p.bounds))
    → count_by (is_at (k + i) word) ts ≡ 1

once_in : (ts : List Target) (k : ℕ) (ps : List Param) → WrittenFrom ts k ps → words_in ts k ps ≡ output_count ps
once_in ts k [] once = refl
once_in ts k (p ∷ ps) once =
    let here = once_if (is_output p.role) (words_of ts k (length p.bounds)) (length p.bounds)
    (λ (e : is_output p.role ≡ true). once_of ts k (length p.bounds) (λ (word : ℕ) (h : word < length p.bounds).
    let same : k + 0 ≡ k = omega arith in
    subst (λ (q : ℕ). count_by (is_at q word) ts ≡ 1) same (once 0 word (e, h)))) in
    let rest = once_in ts (k + 1) ps (λ (i word : ℕ)
    (h : IsSomeAnd (slice_get ps i) (λ p. IsTrue (is_output p.role) × (word < length p.bounds))).
    let same : k + suc i ≡ k + 1 + i = omega arith in
    subst (λ (q : ℕ). count_by (is_at q word) ts ≡ 1) same (once (suc i) word h)) in
    omega arith

-- as many results are words of outputs as the outputs have words
pub few_outputs : (program : Source) → IsAccepted program
    → outputs_in (targets_of program.ops) ≤ output_count program.params
few_outputs program accepted =
    let ts : List Target = targets_of program.ops in
    let most = outputs_counted program.params ts (targets_kept program.params [] program.ops accepted.ops) in
    let once = once_in ts 0 program.params (λ (i word : ℕ)
    (h : IsSomeAnd (slice_get program.params i) (λ p. IsTrue (is_output p.role) × (word < length p.bounds))).
    let same : i ≡ 0 + i = omega arith in
    subst (λ (q : ℕ). count_by (is_at q word) ts ≡ 1) same (accepted.written i word h)) in
    omega arith
