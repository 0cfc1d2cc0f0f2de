-- The faults of a program's parts, as they are found, are those of the table of rules.
use Rattle.std.proofs.Common.{◌≡◌, ℕ, ◌+◌, ◌<◌, inl, inr, true, false, List, [], ◌++◌, map, length}
use Rattle.std.proofs.Common.{refl, sym, ◌∙◌, ap, ap₂, subst}
use Rattle.std.proofs.lemmas.List.{map-append}
use Rattle.std.specs.Prelude.{Option, Some, None, fold, take, slice_get, IsSomeAnd}
use Rattle.std.specs.List.{Contains}
use Rattle.word_text.specs.declared.fault.Section.{Section}
use Rattle.word_text.specs.declared.fault.Section.TheVariants.{Top, Returns, Arguments, Body}
use Rattle.word_text.specs.declared.parts.RawOp.{RawOp}
use Rattle.word_text.specs.declared.parts.RawParam.{RawParam}
use Rattle.word_text.specs.declared.parts.RawProgram.{RawProgram}
use Rattle.word_program.specs.declared.parameter.Param.{Param}
use Rattle.word_program.specs.declared.operation.Target.{Target}
use Rattle.word_program.specs.declared.operation.Target.TheVariants as targets
use Rattle.word_program.specs.Values.{is_output}
use Rattle.word_program.specs.Accepted.{IsOutputWord}
use Rattle.word_program.specs.Walk.{RuleFault, place_in}
use Rattle.word_program.specs.Rules.{Scope, with_result, scope_after, parameters_in, params_of, is_written}
use Rattle.word_program.specs.Rules.{first_fault}
use Rattle.word_program.specs.Failing.{ParameterFails, ArgumentFails, ResultFails, Fails}
use Rattle.word_program.specs.Failing.{parameters_of, parameters_before, results_in, results_before, targets_in}
use Rattle.word_program.proofs.NameLemmas.{Tested, Passes, Misses, tested}
use Rattle.word_program.proofs.FailingNames.{written_contains, contains_written}
use Rattle.word_program.proofs.FailingOrder.{finds_as, Finds}
use Rattle.word_program.proofs.FailingParams.{InParameters, names_behind}
use Rattle.word_program.proofs.FailingBody.{InOperation, InBody}
use Rattle.word_program.proofs.FailingWhole.{from_zero, IsRead, read_results, scope_read, InUnwritten}
use Rattle.word_program.proofs.FailingWhole.{final_targets, Anywhere, whole_found}

-- ---- parameters

-- the names that a walk over the arguments has seen
argument_names : (parts : RawProgram) (i : ℕ)
    → map (λ p. p.name) (parameters_in Arguments (parameters_in Returns [] parts.returns) (take i parts.arguments))
    ≡ map (λ p. p.name) (parameters_before Arguments i parts)
argument_names parts i =
    names_behind Arguments (take i parts.arguments) (parameters_in Returns [] parts.returns)
    ∙ ap (λ ns. ns ++ map (λ p. p.name) (take i parts.arguments)) (names_behind Returns parts.returns [])
    ∙ sym (map-append _ parts.returns (take i parts.arguments))

param_fails : (parts : RawProgram) (f : RuleFault) → InParameters parts f → Fails parts f.0 f.1
param_fails parts f (inl w) =
    Fails.parameter Returns w.0 w.1 w.2 (w.3.0 ∙ ap (λ k. place_in Returns k 0) (from_zero w.0))
    (subst (λ ns. ParameterFails Returns ns w.1 f.0) (names_behind Returns (take w.0 parts.returns) []) w.3.1)
param_fails parts f (inr w) =
    Fails.parameter Arguments w.0 w.1 w.2 (w.3.0 ∙ ap (λ k. place_in Arguments k 0) (from_zero w.0))
    (subst (λ ns. ParameterFails Arguments ns w.1 f.0) (argument_names parts w.0) w.3.1)

fails_param : (parts : RawProgram) (f : RuleFault) (section : Section) (item : ℕ) (param : RawParam)
    → slice_get (parameters_of section parts) item ≡ Some param → f.1 ≡ place_in section item 0
    → ParameterFails section (map (λ p. p.name) (parameters_before section item parts)) param f.0
    → InParameters parts f
fails_param parts f Top item param is at fails = absurd (cc is)
fails_param parts f Returns item param is at fails =
    inl (
      item,
      param,
      is,
      (
        at ∙ ap (λ k. place_in Returns k 0) (sym (from_zero item)),
        subst (λ ns. ParameterFails Returns ns param f.0)
            (sym (names_behind Returns (take item parts.returns) [])) fails,
      ),
    )
fails_param parts f Arguments item param is at fails =
    inr (
      item,
      param,
      is,
      (
        at ∙ ap (λ k. place_in Arguments k 0) (sym (from_zero item)),
        subst (λ ns. ParameterFails Arguments ns param f.0) (sym (argument_names parts item)) fails,
      ),
    )
fails_param parts f Body item param is at fails = absurd (cc is)

-- ---- operations

-- the scope before a result of an operation
scope_at : RawProgram → ℕ → RawOp → ℕ → Scope
scope_at parts item o number =
    fold with_result (scope_after (params_of parts) (take item parts.body)) (take number o.results)

scope_at_read : (parts : RawProgram) (item : ℕ) (o : RawOp) (number : ℕ)
    → IsRead (params_of parts) (results_before parts item o number) (scope_at parts item o number)
unfolding scope_at
scope_at_read parts item o number =
    read_results (params_of parts) (results_in (take item parts.body)) (take number o.results)
    (scope_after (params_of parts) (take item parts.body)) (scope_read (params_of parts) (take item parts.body))

-- what fails of a result, by the scope and by the texts before it
result_same : (parts : RawProgram) (item : ℕ) (o : RawOp) (number : ℕ) (text : List ℕ) (code : ℕ)
    → ResultFails (scope_at parts item o number).params (scope_at parts item o number).names
    (scope_at parts item o number).targets text code
    ≡ ResultFails (params_of parts) (results_before parts item o number)
    (targets_in parts (results_before parts item o number)) text code
result_same parts item o number text code =
    let is = scope_at_read parts item o number in
    λ k. ResultFails (is.params_kept k) (is.names_kept k) (is.targets_kept k) text code

body_fails : (parts : RawProgram) (f : RuleFault) → InBody (params_of parts) parts.body f → Fails parts f.0 f.1
unfolding scope_at
body_fails parts f w = by_part w.3
  where
    by_part : InOperation (scope_after (params_of parts) (take w.0 parts.body)) (0 + w.0) w.1 f → Fails parts f.0 f.1
    by_part (inl a) =
        Fails.operation w.0 w.1 w.2 (a.0 ∙ ap (λ k. place_in Body k 0) (from_zero w.0)) a.1
    by_part (inr (inl v)) =
        Fails.argument w.0 w.1 v.0 v.1 w.2 v.2
        (v.3.0 ∙ ap₂ (λ k n. place_in Body k (1 + n)) (from_zero w.0) (from_zero v.0))
        (subst (λ n. ArgumentFails (scope_after (params_of parts) (take w.0 parts.body)) w.1 n v.1 f.0) (from_zero v.0)
        v.3.1)
    by_part (inr (inr v)) =
        Fails.result w.0 w.1 v.0 v.1 w.2 v.2
        (v.3.0 ∙ ap₂ (λ k n. place_in Body k (1 + length w.1.arguments + n)) (from_zero w.0) (from_zero v.0))
        (subst (λ (T : Type 0). T) (result_same parts w.0 w.1 v.0 v.1 f.0) v.3.1)

fails_operation : (parts : RawProgram) (f : RuleFault) (item : ℕ) (o : RawOp) → slice_get parts.body item ≡ Some o
    → InOperation (scope_after (params_of parts) (take item parts.body)) (0 + item) o f
    → InBody (params_of parts) parts.body f
fails_operation parts f item o is a = (item, o, is, a)

-- ---- words that are never written

output_word : (params : List Param) (param word : ℕ) (o : Option Param) → slice_get params param ≡ o
    → IsSomeAnd o (λ p. (is_output p.role ≡ true) × (word < length p.bounds))
    → (p : Param) × (slice_get params param ≡ Some p) × (is_output p.role ≡ true) × (word < length p.bounds)
output_word params param word None is h = absurd h
output_word params param word (Some p) is h = (p, is, h.0, h.1)

not_contained : (ts : List Target) (param word : ℕ) → is_written ts param word ≡ false
    → Contains ts (targets.Output param word) → ⊥
not_contained ts param word unwritten w =
    let yes : true ≡ false = sym (contains_written ts param word w) ∙ unwritten in cc yes

not_written : (ts : List Target) (param word : ℕ) → (Contains ts (targets.Output param word) → ⊥)
    → is_written ts param word ≡ false
not_written ts param word none = by_test (tested (is_written ts param word))
  where
    by_test : Tested (is_written ts param word) → is_written ts param word ≡ false
    by_test (Passes e) = absurd (none (written_contains ts param word e))
    by_test (Misses e) = e

final_is : (parts : RawProgram) → final_targets parts ≡ targets_in parts (results_in parts.body)
unfolding final_targets
final_is parts = (scope_read (params_of parts) parts.body).targets_kept

unwritten_fails : (parts : RawProgram) (f : RuleFault) → InUnwritten (final_targets parts) (params_of parts) f
    → Fails parts f.0 f.1
unfolding InUnwritten
unwritten_fails parts f w =
    Fails.unwritten w.0 w.3.1 w.3.4 (w.3.5 ∙ ap (λ n. place_in Returns n w.3.1) (from_zero w.0))
    (subst (λ o. IsSomeAnd o (λ p. (is_output p.role ≡ true) × (w.3.1 < length p.bounds))) (sym w.2) (w.3.0, w.3.2))
    (not_contained _ w.0 w.3.1
    (subst (λ ts. is_written ts w.0 w.3.1 ≡ false) (final_is parts)
    (subst (λ n. is_written (final_targets parts) n w.3.1 ≡ false) (from_zero w.0) w.3.3)))

fails_unwritten : (parts : RawProgram) (f : RuleFault) (param word : ℕ) → f.0 ≡ 14 → f.1 ≡ place_in Returns param word
    → IsOutputWord (params_of parts) param word
    → (Contains (targets_in parts (results_in parts.body)) (targets.Output param word) → ⊥)
    → InUnwritten (final_targets parts) (params_of parts) f
unfolding InUnwritten
fails_unwritten parts f param word code at is none =
    let p = output_word (params_of parts) param word (slice_get (params_of parts) param) refl is in
    let no = subst (λ ts. is_written ts param word ≡ false) (sym (final_is parts)) (not_written _ param word none) in
    let n = sym (from_zero param) in (
      param,
      p.0,
      p.1,
      (
        p.2,
        word,
        p.3,
        subst (λ k. is_written (final_targets parts) k word ≡ false) n no,
        code,
        at ∙ ap (λ k. place_in Returns k word) n,
      ),
    )

-- ---- the whole

fails : (parts : RawProgram) (f : RuleFault) → Anywhere parts f → Fails parts f.0 f.1
fails parts f (inl a) = Fails.top a.0 a.1
fails parts f (inr (inl a)) = param_fails parts f a
fails parts f (inr (inr (inl a))) = body_fails parts f a
fails parts f (inr (inr (inr a))) = unwritten_fails parts f a

somewhere : (parts : RawProgram) (f : RuleFault) → Fails parts f.0 f.1 → Anywhere parts f
unfolding scope_at
somewhere parts f (Fails.top at a) = inl (at, a)
somewhere parts f (Fails.parameter section item param is at a) =
    inr (inl (fails_param parts f section item param is at a))
somewhere parts f (Fails.operation item o is at a) =
    inr (inr (inl (fails_operation parts f item o is
    (inl (at ∙ ap (λ k. place_in Body k 0) (sym (from_zero item)), a)))))
somewhere parts f (Fails.argument item o number text is there at a) =
    let n = sym (from_zero number) in
    inr (inr (inl (fails_operation parts f item o is (inr (inl (
      number,
      text,
      there,
      (
        at ∙ ap₂ (λ k n. place_in Body k (1 + n)) (sym (from_zero item)) n,
        subst (λ n. ArgumentFails (scope_after (params_of parts) (take item parts.body)) o n text f.0) n a,
      ),
    ))))))
somewhere parts f (Fails.result item o number text is there at a) =
    inr (inr (inl (fails_operation parts f item o is (inr (inr (
      number,
      text,
      there,
      (
        at ∙ ap₂ (λ k n. place_in Body k (1 + length o.arguments + n)) (sym (from_zero item)) (sym (from_zero number)),
        subst (λ (T : Type 0). T) (sym (result_same parts item o number text f.0)) a,
      ),
    ))))))
somewhere parts f (Fails.unwritten param word code at is none) =
    inr (inr (inr (fails_unwritten parts f param word code at is none)))

-- the first fault of the parts is the first of the rules that fail
pub fault_found : (parts : RawProgram) → Finds (λ f. Fails parts f.0 f.1) (first_fault parts)
fault_found parts =
    finds_as (Anywhere parts) (λ f. Fails parts f.0 f.1) (first_fault parts) (fails parts) (somewhere parts)
    (whole_found parts)
