-- The nodes of a program's output words.
use Rattle.std.proofs.Common.{◌≡◌, ℕ, zero, suc, ◌+◌, ◌<◌, ◌≤◌, Bool, true, false, cond, List, [], ◌∷◌, ◌++◌, length}
use Rattle.std.proofs.Common.{map, get_or, Option, Some, None, refl, sym, ap, ◌∙◌, subst, arith, ⊎_elim}
use Rattle.std.specs.Prelude.{count_by, slice_get, slice_index, IsTrue, IsSomeAnd, if◌then◌else◌}
use Rattle.std.specs.List.{position, position_or_len, range_with_len}
use Rattle.std.specs.Option.{option_map_or}
use Rattle.std.proofs.lemmas.Bool.{cases_lt, lt-ltb}
use Rattle.std.proofs.lemmas.List.{get_or-map, length-append, map-append}
use Rattle.std.proofs.lemmas.List.FromFn.{length-map-range_with_len}
use Rattle.std.proofs.lemmas.List.Sums.{fails_before_first, sum_by-cons}
use Rattle.word_program.specs.declared.parameter.Param.{Param}
use Rattle.word_program.specs.declared.operation.Target.{Target}
use Rattle.word_program.specs.declared.operation.Target.TheVariants as targets
use Rattle.word_program.specs.Program.{Source}
use Rattle.word_program.specs.Values.{is_at, is_output, output_count, outputs, outputs_from, stored_word, targets_of}
use Rattle.word_program.specs.Values.{output_word}
use Rattle.word_program.specs.Values.{values_of}
use Rattle.word_program.specs.Accepted.{IsAccepted, IsOutputWord}
use Rattle.terms.specs.Meaning.{Start}
use Rattle.program_nodes.specs.Sources.{IsRunOn, source_made, source_outputs}
use Rattle.program_nodes.proofs.ProgramNodes.{many_nodes}
use Rattle.program_nodes.proofs.SourceValues.{source_words}

-- ---- the value that goes to an output word

abbrev one_if : Bool → ℕ
one_if b = if b then 1 else 0

count_none : (p : Target → Bool) (ts : List Target) → ((k : ℕ) → k < length ts → p (get_or ts k targets.Value) ≡ false)
    → count_by p ts ≡ 0
count_none p [] none = refl
count_none p (t ∷ ts) none =
    let here : one_if (p t) ≡ 0 = ap one_if (none 0 (omega arith)) in
    let rest = count_none p ts (λ k h. none (suc k) (omega arith)) in
    sum_by-cons (λ (x : Target). one_if (p x)) t ts ∙ omega arith

-- what passes a test once has a first place
pub record HasPlace (p : Target → Bool) (ts : List Target) : Type 0 where
  pub place : ℕ
  pub inside : place < length ts
  pub is : position p ts ≡ Some place

has_place : (p : Target → Bool) (ts : List Target) → count_by p ts ≡ 1 → HasPlace p ts
has_place p ts once = ⊎_elim
    (λ (h : position_or_len p ts < length ts). record {
      place = position_or_len p ts;
      inside = h;
      is = ap (λ (b : Bool). cond b (Some (position_or_len p ts)) None) (lt-ltb _ _ h);
    })
    (λ (h : length ts ≤ position_or_len p ts).
    let none = count_none p ts (λ k l. fails_before_first p ts k targets.Value (omega arith)) in absurd (omega arith))
    (cases_lt (position_or_len p ts) (length ts))

-- ---- output words

-- the words of parameters from the one with this number on are written
abbrev AreWritten : List Target → ℕ → List Param → Type 0
AreWritten ts param ps = (k word : ℕ)
    → IsSomeAnd (slice_get ps k) (λ p. IsTrue (is_output p.role) × (word < length p.bounds))
    → count_by (is_at (param + k) word) ts ≡ 1

written_next : (ts : List Target) (param : ℕ) (p : Param) (ps : List Param) → AreWritten ts param (p ∷ ps)
    → AreWritten ts (param + 1) ps
written_next ts param p ps all k word h = let e : param + suc k ≡ param + 1 + k = omega arith in
    subst (λ (q : ℕ). count_by (is_at q word) ts ≡ 1) e (all (suc k) word h)

written_here : (ts : List Target) (param : ℕ) (p : Param) (ps : List Param) → AreWritten ts param (p ∷ ps)
    → is_output p.role ≡ true → (word : ℕ) → word < length p.bounds → count_by (is_at param word) ts ≡ 1
written_here ts param p ps all is word h = let e : param + 0 ≡ param = omega arith in
    subst (λ (q : ℕ). count_by (is_at q word) ts ≡ 1) e (all 0 word (is, h))

module _ (ts : List Target) (ns : List ℕ) (many : length ns ≡ length ts) where
  -- ---- the words of their nodes

  module _ (val : ℕ → ℕ) (words : List ℕ) (have : map val ns ≡ words) where
    word_value : (param word : ℕ) → count_by (is_at param word) ts ≡ 1
        → val (stored_word ts ns param word) ≡ stored_word ts words param word
    word_value param word once =
        let at = has_place (is_at param word) ts once in
        let inside = at.inside in
        let here : val (slice_index ns at.place) ≡ slice_index words at.place =
        sym (get_or-map val ns at.place 0 0 (omega arith)) ∙ ap (λ (xs : List ℕ). slice_index xs at.place) have in
        ap (λ (o : Option ℕ). val (option_map_or (slice_index ns) o 0)) at.is ∙ here
        ∙ sym (ap (λ (o : Option ℕ). option_map_or (slice_index words) o 0) at.is)

    words_values : (param k n : ℕ) → ((word : ℕ) → word < k + n → count_by (is_at param word) ts ≡ 1)
        → map val (map (stored_word ts ns param) (range_with_len k n))
        ≡ map (stored_word ts words param) (range_with_len k n)
    words_values param k zero all = refl
    words_values param k (suc n) all =
        let here = word_value param k (all k (omega arith)) in
        let rest = words_values param (k + 1) n (λ word h. all word (omega arith)) in
        λ i. here i ∷ rest i

    param_values : (param : ℕ) (b : Bool) (n : ℕ)
        → (b ≡ true → (word : ℕ) → word < n → count_by (is_at param word) ts ≡ 1)
        → map val (if b then map (stored_word ts ns param) (range_with_len 0 n) else [])
        ≡ (if b then map (stored_word ts words param) (range_with_len 0 n) else [])
    param_values param true n all = words_values param 0 n (λ word h. all refl word (omega arith))
    param_values param false n all = refl

    outputs_values : (param : ℕ) (ps : List Param) → AreWritten ts param ps
        → map val (outputs_from ts ns param ps) ≡ outputs_from ts words param ps
    outputs_values param [] all = refl
    outputs_values param (p ∷ ps) all =
        let here = param_values param (is_output p.role) (length p.bounds) (written_here ts param p ps all) in
        let rest = outputs_values (param + 1) ps (written_next ts param p ps all) in
        map-append val
        (if is_output p.role then map (stored_word ts ns param) (range_with_len 0 (length p.bounds)) else [])
        (outputs_from ts ns (param + 1) ps)
        ∙ (λ i. here i ++ rest i)

-- ---- how many there are

param_many : (f : ℕ → ℕ) (b : Bool) (n : ℕ)
    → length (if b then map f (range_with_len 0 n) else []) ≡ (if b then n else 0)
param_many f true n = length-map-range_with_len f 0 n
param_many f false n = refl

many_from : (ts : List Target) (ns : List ℕ) (param : ℕ) (ps : List Param)
    → length (outputs_from ts ns param ps) ≡ output_count ps
many_from ts ns param [] = refl
many_from ts ns param (p ∷ ps) =
    let here = param_many (stored_word ts ns param) (is_output p.role) (length p.bounds) in
    let rest = many_from ts ns (param + 1) ps in
    length-append (if is_output p.role then map (stored_word ts ns param) (range_with_len 0 (length p.bounds)) else [])
    (outputs_from ts ns (param + 1) ps)
    ∙ (λ i. here i + rest i)

-- ---- programs

written_all : (program : Source) → IsAccepted program → AreWritten (targets_of program.ops) 0 program.params
written_all program accepted k word h = let e : k ≡ 0 + k = omega arith in
    subst (λ (q : ℕ). count_by (is_at q word) (targets_of program.ops) ≡ 1) e (accepted.written k word h)

-- as many nodes as output words
pub many_outputs : (program : Source) → length (source_outputs program) ≡ output_count program.params
unfolding source_outputs
many_outputs program = many_from (targets_of program.ops) (source_made program).numbers 0 program.params

-- they have the program's output words
pub outputs_words : (program : Source) (inputs : List ℕ) (start : Start) (val : ℕ → ℕ) → IsAccepted program
    → IsRunOn program inputs start val → map val (source_outputs program) ≡ outputs program inputs
unfolding source_outputs
outputs_words program inputs start val accepted run =
    outputs_values (targets_of program.ops) (source_made program).numbers (many_nodes program accepted) val
    (values_of program inputs) (source_words program inputs start val accepted run) 0 program.params
    (written_all program accepted)

-- each of them has the program's output word
pub stored_value : (program : Source) (inputs : List ℕ) (start : Start) (val : ℕ → ℕ) → IsAccepted program
    → IsRunOn program inputs start val → (param word : ℕ) → IsOutputWord program.params param word
    → val (stored_word (targets_of program.ops) (source_made program).numbers param word)
    ≡ output_word program inputs param word
stored_value program inputs start val accepted run param word h =
    word_value (targets_of program.ops) (source_made program).numbers (many_nodes program accepted) val
    (values_of program inputs) (source_words program inputs start val accepted run) param word
    (accepted.written param word h)
