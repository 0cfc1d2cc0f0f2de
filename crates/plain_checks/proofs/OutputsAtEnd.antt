-- Where each word of an output has the node of the value that goes there, the outputs are those of the program.
use Rattle.std.proofs.Common.{◌≡◌, ℕ, zero, suc, ◌+◌, ◌<◌, ◌≤◌, Bool, true, false, List, [], ◌∷◌, ◌++◌, length, map}
use Rattle.std.proofs.Common.{refl}
use Rattle.std.proofs.Common.{get_or, sym, ap, subst, ◌∙◌, arith, zero-add, cond, Option, Some, None, ⊎_elim}
use Rattle.std.proofs.lemmas.Bool.{cases_lt, lt-ltb}
use Rattle.std.proofs.lemmas.List.{map-append}
use Rattle.std.proofs.lemmas.List.Quantifiers.{position-Some}
use Rattle.std.proofs.lemmas.List.Sums.{fails_before_first, sum_by-cons}
use Rattle.std.proofs.lemmas.Option.{slice_get-get_or}
use Rattle.std.specs.Prelude.{◌==◌, count_by, slice_get, slice_index, if◌then◌else◌, IsTrue, IsSomeAnd}
use Rattle.std.specs.List.{flat_map, position, position_or_len, range_with_len}
use Rattle.std.specs.Option.{option_map_or}
use Rattle.base.specs.Options.{◌>>=◌}
use Rattle.base.proofs.Arithmetic.{equal_by_test}
use Rattle.word_program.specs.declared.parameter.Param.{Param}
use Rattle.word_program.specs.declared.parameter.Role.{Role}
use Rattle.word_program.specs.declared.parameter.Role.TheVariants.{Output, InputArray, InputScalar}
use Rattle.word_program.specs.declared.operation.Target.{Target}
use Rattle.word_program.specs.declared.operation.Target.TheVariants as targets
use Rattle.word_program.specs.Program.{Source}
use Rattle.word_program.specs.Values.{is_at, is_output, is_scalar, outputs_from, stored_word, targets_of}
use Rattle.word_program.specs.Accepted.{IsAccepted, IsOutputWord}
use Rattle.word_program.proofs.RowLemmas.{and_true}
use Rattle.x86_meaning.specs.Start as areas
use Rattle.program_nodes.specs.Sources.{source_made, source_outputs}
use Rattle.symbolic_state.specs.Symbols.{Array, Symbols}
use Rattle.symbolic_state.specs.Cells.{known, node_of}
use Rattle.symbolic_state.specs.Fitting.{HaveShapes}
use Rattle.symbolic_state.specs.Written.{output_words}
use Rattle.equiv_validator.specs.Checks.{HasOutputs}
use Rattle.plain_checks.proofs.Nodes.{value_node}

-- ---- the value that goes to a word

abbrev one_if : Bool → ℕ
one_if b = cond b 1 0

count_none : (test : Target → Bool) (ts : List Target)
    → ((k : ℕ) → k < length ts → test (get_or ts k targets.Value) ≡ false) → count_by test ts ≡ 0
count_none test [] none = refl
count_none test (t ∷ ts) none =
    let here : one_if (test t) ≡ 0 = ap one_if (none 0 (omega arith)) in
    let rest = count_none test ts (λ (k : ℕ) (h : k < length ts). none (suc k) (omega arith)) in
    let sum = sum_by-cons (λ (x : Target). one_if (test x)) t ts in
    omega arith

-- what passes a test once has a first place
first_place : (test : Target → Bool) (ts : List Target) → count_by test ts ≡ 1
    → (place : ℕ) × (position test ts ≡ Some place)
first_place test ts once = ⊎_elim
    (λ (h : position_or_len test ts < length ts). (
      position_or_len test ts,
      ap (λ (b : Bool). cond b (Some (position_or_len test ts)) None) (lt-ltb _ _ h),
    ))
    (λ (h : length ts ≤ position_or_len test ts).
    let none = count_none test ts (λ (k : ℕ) (l : k < length ts).
    fails_before_first test ts k targets.Value (omega arith)) in
    absurd (omega arith))
    (cases_lt (position_or_len test ts) (length ts))

is_output_word : (param word : ℕ) (t : Target) → is_at param word t ≡ true → t ≡ targets.Output param word
is_output_word param word targets.Value e = absurd (cc)
is_output_word param word targets.Unused e = absurd (cc)
is_output_word param word (targets.Output q x) e =
    let both = and_true (q == param) (x == word) e in
    ap (λ (n : ℕ). targets.Output n x) (equal_by_test q param both.0)
    ∙ ap (λ (n : ℕ). targets.Output param n) (equal_by_test x word both.1)

-- the value of an output word, by its number
stored_is : (ts : List Target) (ns : List ℕ) (param word : ℕ) → count_by (is_at param word) ts ≡ 1
    → (value : ℕ) × (slice_get ts value ≡ Some (targets.Output param word))
    × (stored_word ts ns param word ≡ slice_index ns value)
stored_is ts ns param word once =
    let found = first_place (is_at param word) ts once in
    let says = position-Some (is_at param word) ts found.0 targets.Value found.1 in (
      found.0,
      slice_get-get_or ts found.0 targets.Value says.0
          ∙ ap (λ (t : Target). Some t) (is_output_word param word (get_or ts found.0 targets.Value) says.1),
      ap (λ (o : Option ℕ). option_map_or (slice_index ns) o 0) found.1,
    )

-- ---- the words of arrays

-- words that are known one by one
all_known : (f : ℕ → ℕ) (words : List (Option ℕ)) (k n : ℕ) → length words ≡ n
    → ((i : ℕ) → i < n → known words i ≡ Some (f (k + i))) → words ≡ map Some (map f (range_with_len k n))
all_known f [] k zero e each = refl
all_known f [] k (suc n) e each = absurd (omega arith)
all_known f (w ∷ words) k zero e each = absurd (omega arith)
all_known f (w ∷ words) k (suc n) e each =
    let here : w ≡ Some (f k) = each 0 (omega arith) ∙ ap (λ (j : ℕ). Some (f j)) (omega arith) in
    let rest = all_known f words (k + 1) n (omega arith) (λ (i : ℕ) (h : i < n).
    each (suc i) (omega arith) ∙ ap (λ (j : ℕ). Some (f j)) (omega arith)) in
    λ i. here i ∷ rest i

not_scalar : (role : Role) (n : ℕ) → is_output role ≡ true → (if is_scalar role then 0 else n) ≡ n
not_scalar Output n e = refl
not_scalar InputArray n e = absurd (cc)
not_scalar InputScalar n e = absurd (cc)

module _ (ts : List Target) (ns : List ℕ) where
  -- the words of these arrays' outputs have the nodes that go there
  abbrev AllStored : ℕ → List Param → List Array → Type 0
  AllStored k ps bs = (i word : ℕ) (p : Param) → slice_get ps i ≡ Some p → is_output p.role ≡ true
      → word < length p.bounds
      → (slice_get bs i >>= λ array. known array.words word) ≡ Some (stored_word ts ns (k + i) word)

  abbrev param_nodes : ℕ → Bool → ℕ → List ℕ
  param_nodes k b n = if b then map (stored_word ts ns k) (range_with_len 0 n) else []

  one_array : (b : Bool) (k : ℕ) (p : Param) (a : Array) → a.role ≡ p.role → is_output p.role ≡ b
      → length a.words ≡ (if is_scalar p.role then 0 else length p.bounds)
      → ((word : ℕ) → b ≡ true → word < length p.bounds → known a.words word ≡ Some (stored_word ts ns k word))
      → output_words a ≡ map Some (param_nodes k (is_output p.role) (length p.bounds))
  one_array true k p a same e count each =
      ap (λ (c : Bool). if c then a.words else []) (ap is_output same ∙ e)
      ∙ all_known (stored_word ts ns k) a.words 0 (length p.bounds) (count ∙ not_scalar p.role (length p.bounds) e)
      (λ (i : ℕ) (h : i < length p.bounds). each i refl h
      ∙ ap (λ (j : ℕ). Some (stored_word ts ns k j)) (sym (zero-add i)))
      ∙ sym (ap (λ (c : Bool). map Some (param_nodes k c (length p.bounds))) e)
  one_array false k p a same e count each =
      ap (λ (c : Bool). if c then a.words else []) (ap is_output same ∙ e)
      ∙ sym (ap (λ (c : Bool). map Some (param_nodes k c (length p.bounds))) e)

  all_arrays : (k : ℕ) (ps : List Param) (bs : List Array) → HaveShapes ps bs → AllStored k ps bs
      → flat_map output_words bs ≡ map Some (outputs_from ts ns k ps)
  all_arrays k [] [] h all = refl
  all_arrays k [] (a ∷ bs) h all = absurd h
  all_arrays k (p ∷ ps) [] h all = absurd h
  all_arrays k (p ∷ ps) (a ∷ bs) h all =
      let here = one_array (is_output p.role) k p a h.0 refl h.1
      (λ (word : ℕ) (e : is_output p.role ≡ true) (w : word < length p.bounds).
      all 0 word p refl e w ∙ ap (λ (j : ℕ). Some (stored_word ts ns j word)) (omega arith)) in
      let rest = all_arrays (k + 1) ps bs h.2 (λ (i word : ℕ) (q : Param) (there : slice_get ps i ≡ Some q)
      (e : is_output q.role ≡ true) (w : word < length q.bounds).
      all (suc i) word q there e w ∙ ap (λ (j : ℕ). Some (stored_word ts ns j word)) (omega arith)) in
      (λ i. here i ++ rest i)
      ∙ sym (map-append Some (param_nodes k (is_output p.role) (length p.bounds)) (outputs_from ts ns (k + 1) ps))

-- each word of an output has the node of its value
abbrev pub EachStored : Source → Symbols → Type 0
EachStored program z = (value param word : ℕ)
    → slice_get (targets_of program.ops) value ≡ Some (targets.Output param word)
    → node_of z (areas.Array param) word ≡ Some (value_node program value)

output_word_is : (params : List Param) (param word : ℕ) (p : Param) → slice_get params param ≡ Some p
    → is_output p.role ≡ true → word < length p.bounds → IsOutputWord params param word
output_word_is params param word p e role w =
    subst (λ (o : Option Param). IsSomeAnd o (λ q. IsTrue (is_output q.role) × (word < length q.bounds))) (sym e)
    (role, w)

-- then the outputs are the program's
pub outputs_at_end : (program : Source) (z : Symbols) → IsAccepted program → HaveShapes program.params z.arrays
    → EachStored program z → HasOutputs program z
unfolding source_outputs
outputs_at_end program z accepted shapes each =
    let ts : List Target = targets_of program.ops in
    let ns : List ℕ = (source_made program).numbers in
    all_arrays ts ns 0 program.params z.arrays shapes
    (λ (i word : ℕ) (p : Param) (there : slice_get program.params i ≡ Some p) (e : is_output p.role ≡ true)
    (w : word < length p.bounds).
    let is = stored_is ts ns i word (accepted.written i word (output_word_is program.params i word p there e w)) in
    each is.0 i word is.1 ∙ ap (λ (n : ℕ). Some n) (sym is.2)
    ∙ ap (λ (j : ℕ). Some (stored_word ts ns j word)) (sym (zero-add i)))
