-- Each output word is written once.
use Rattle.std.proofs.Common.{◌≡◌, ℕ, ◌+◌, ◌<◌, ◌≤◌, Bool, true, false, List, [], ◌∷◌, ◌++◌, length, refl, arith, zero}
use Rattle.std.proofs.Common.{suc, sym, ◌∙◌, ap, subst, zero-add}
use Rattle.std.proofs.lemmas.Bool.Decides.{nat_tests}
use Rattle.std.proofs.lemmas.List.Sums.{sum_by-append, sum_by-cons}
use Rattle.std.specs.Prelude.{Option, Some, None, is_some, not, ◌&&◌, ◌||◌, ◌==◌, cond, fold, count_by, slice_get}
use Rattle.std.specs.Prelude.{if◌then◌else◌, IsSomeAnd, IsTrue}
use Rattle.std.specs.List.{list_any}
use Rattle.std.specs.Option.{option_map_or}
use Rattle.base.proofs.Arithmetic.{equal_by_test}
use Rattle.word_text.specs.declared.fault.Section.TheVariants.{Returns, Body}
use Rattle.word_text.specs.declared.parts.RawOp.{RawOp}
use Rattle.base.specs.Options.{guard}
use Rattle.base.specs.Identifiers.{is_identifier}
use Rattle.word_text.specs.Texts.{is_unused, is_word_form, word_parts}
use Rattle.word_program.specs.declared.parameter.Bounds.{Bounds}
use Rattle.word_program.specs.declared.parameter.Param.{Param}
use Rattle.word_program.specs.declared.params.ParamWord.{ParamWord}
use Rattle.word_program.specs.declared.operation.Target.{Target}
use Rattle.word_program.specs.declared.operation.Target.TheVariants as targets
use Rattle.word_program.specs.Values.{is_at, is_output}
use Rattle.word_program.specs.Walk.{first_code, walk, place_in}
use Rattle.word_program.specs.Rules.{Scope, param_named, value_named, word_at, output_at, target_of, is_written}
use Rattle.word_program.specs.Rules.{result_rules, result_fault, with_result, with_operation, operation_fault, missing}
use Rattle.word_program.specs.Rules.{missing_in, missing_word}
use Rattle.word_program.specs.Accepted.{IsOutputWord}
use Rattle.base.proofs.Options.{bind_some}
use Rattle.word_program.proofs.RowLemmas.{row_passes, at_none, or_none, not_false, and_true}
use Rattle.word_program.proofs.BodyLemmas.{operation_passes}

-- ---- counts

count_one : (test : Target → Bool) (ts : List Target) (t : Target)
    → count_by test (ts ++ t ∷ []) ≡ count_by test ts + cond (test t) 1 0
count_one test ts t = sum_by-append (λ (x : Target). cond (test x) 1 0) ts (t ∷ [])
    ∙ ap (λ n. count_by test ts + n) (zero-add (cond (test t) 1 0))

none_by : (b c : Bool) (n : ℕ) → (c ≡ false → n ≡ 0) → b || c ≡ false → cond b 1 0 + n ≡ 0
none_by true c n f e = absurd (cc)
none_by false c n f e = let z = f e in omega arith

-- what no item passes is counted 0 times
none_counted : (test : Target → Bool) (ts : List Target) → list_any test ts ≡ false → count_by test ts ≡ 0
none_counted test [] e = refl
none_counted test (t ∷ ts) e = sum_by-cons (λ (x : Target). cond (test x) 1 0) t ts
    ∙ none_by (test t) (list_any test ts) (count_by test ts) (none_counted test ts) e

some_by : (b c : Bool) (n : ℕ) → (c ≡ true → 1 ≤ n) → b || c ≡ true → 1 ≤ cond b 1 0 + n
some_by true c n f e = omega arith
some_by false c n f e = let o = f e in omega arith

some_counted : (test : Target → Bool) (ts : List Target) → list_any test ts ≡ true → 1 ≤ count_by test ts
some_counted test [] e = absurd (cc)
some_counted test (t ∷ ts) e = subst (λ (n : ℕ). 1 ≤ n) (sym (sum_by-cons (λ (x : Target). cond (test x) 1 0) t ts))
    (some_by (test t) (list_any test ts) (count_by test ts) (some_counted test ts) e)

-- ---- results

-- no output word is written twice
pub record AtMostOnce (ts : List Target) : Type 0 where
  pub once : (param word : ℕ) → count_by (is_at param word) ts ≤ 1

some_from : {T : Type 0} (o : Option T) → is_some o ≡ true → (x : T) × (o ≡ Some x)
some_from None e = absurd (cc)
some_from (Some x) e = (x, refl)

is_some_of : {T : Type 0} (o : Option T) (x : T) → o ≡ Some x → is_some o ≡ true
is_some_of o x e = rw e refl

parts_of_word : (params : List Param) (text : List ℕ) (w : ParamWord) → word_at params text ≡ Some w
    → is_some (word_parts text) ≡ true
unfolding word_at
parts_of_word params text w e = let a = bind_some _ (word_parts text) w e in is_some_of (word_parts text) a.0 a.1

parts_of_output : (params : List Param) (text : List ℕ) → is_some (output_at params text) ≡ true
    → is_some (word_parts text) ≡ true
unfolding output_at
parts_of_output params text e =
    let w = some_from (output_at params text) e in
    let a = bind_some (λ (v : ParamWord). guard (is_output v.role) v) (word_at params text) w.0 w.1 in
    parts_of_word params text a.0 a.1

-- where a result goes that is an identifier, that is `_`, or that is this word
abbrev goes_to : Bool → Bool → Option ParamWord → Target
goes_to named unused word = if named then targets.Value else
    (if unused then targets.Unused else option_map_or (λ (w : ParamWord). targets.Output w.param w.word) word
    targets.Unused)

-- it was written, or there is no such word
abbrev is_taken : List Target → Option ParamWord → Bool
is_taken ts word = option_map_or (λ (w : ParamWord). is_written ts w.param w.word) word true

new_by : (ts : List Target) (param number : ℕ) (a b parts : Bool) (o : Option ParamWord)
    → (is_some o ≡ true → parts ≡ true) → (not a && (not b && parts)) && is_taken ts o ≡ false
    → is_at param number (goes_to a b o) ≡ true → is_written ts param number ≡ false
new_by ts param number true b parts o f rule here = absurd (cc)
new_by ts param number false true parts o f rule here = absurd (cc)
new_by ts param number false false parts None f rule here = absurd (cc)
new_by ts param number false false false (Some w) f rule here = let no_parts : false ≡ true = f refl in absurd (cc)
new_by ts param number false false true (Some w) f rule here =
    let t = and_true (w.param == param) (w.word == number) here in
    ap (λ k. is_written ts k number) (sym (equal_by_test w.param param t.0))
    ∙ ap (λ k. is_written ts w.param k) (sym (equal_by_test w.word number t.1)) ∙ rule

-- a result that breaks no rule goes to no output word that was written
new_word : (s : Scope) (text : List ℕ) (param number : ℕ) → first_code (result_rules s text) ≡ None
    → is_at param number (target_of s.params text) ≡ true → is_written s.targets param number ≡ false
unfolding result_rules target_of
new_word s text param number none here =
    let rule14 = is_word_form text && is_taken s.targets (output_at s.params text) in
    let rule10 = is_identifier text && (is_some (param_named s.params text) || is_some (value_named s.names text)) in
    let r2 = row_passes _ (not (is_identifier text || (is_unused text || is_word_form text)))
    ((_, rule10) ∷ (_, rule14) ∷ []) none in
    let r10 = row_passes _ rule10 ((_, rule14) ∷ []) r2.1 in
    let r14 = row_passes _ rule14 [] r10.1 in
    new_by s.targets param number (is_identifier text) (is_unused text) (is_some (word_parts text))
    (output_at s.params text) (parts_of_output s.params text) r14.0 here

once_by : (b : Bool) (n : ℕ) → n ≤ 1 → (b ≡ true → n ≡ 0) → n + cond b 1 0 ≤ 1
once_by true n few f = let z = f refl in omega arith
once_by false n few f = omega arith

result_once : (s : Scope) (text : List ℕ) → first_code (result_rules s text) ≡ None → AtMostOnce s.targets
    → AtMostOnce (with_result s text).targets
result_once s text none few = record {
  once = λ (param number : ℕ).
      subst (λ (n : ℕ). n ≤ 1) (sym (count_one (is_at param number) s.targets (target_of s.params text)))
      (once_by (is_at param number (target_of s.params text)) (count_by (is_at param number) s.targets)
      (few.once param number)
      (λ (here : is_at param number (target_of s.params text) ≡ true). none_counted (is_at param number) s.targets
      (new_word s text param number none here)));
}

results_once : (i before : ℕ) (texts : List (List ℕ)) (s : Scope) (n : ℕ)
    → walk (result_fault i before) with_result s n texts ≡ None → AtMostOnce s.targets
    → AtMostOnce (fold with_result s texts).targets
results_once i before [] s n none few = few
results_once i before (text ∷ texts) s n none few =
    let r = or_none (result_fault i before s n text)
    (walk (result_fault i before) with_result (with_result s text) (n + 1) texts) none in
    results_once i before texts (with_result s text) (n + 1) r.1
    (result_once s text (at_none (place_in Body i (1 + before + n)) (result_rules s text) r.0) few)

operation_targets : (s : Scope) (o : RawOp) → (with_operation s o).targets ≡ (fold with_result s o.results).targets
unfolding with_operation
operation_targets s o = refl

-- operations that break no rule write no output word twice
pub ops_once : (raws : List RawOp) (s : Scope) (n : ℕ) → walk operation_fault with_operation s n raws ≡ None
    → AtMostOnce s.targets → AtMostOnce (fold with_operation s raws).targets
ops_once [] s n none few = few
ops_once (o ∷ os) s n none few =
    let r = or_none (operation_fault s n o)
    (walk operation_fault with_operation (with_operation s o) (n + 1) os) none in
    let here = results_once n (length o.arguments) o.results s 0 (operation_passes s n o r.0).results few in
    ops_once os (with_operation s o) (n + 1) r.1 (subst AtMostOnce (sym (operation_targets s o)) here)

-- ---- output words

word_there : (ts : List Target) (param : ℕ) (bs : List Bounds) (n j : ℕ)
    → walk (missing_word ts param) (λ u b. u) tt n bs ≡ None → j < length bs → is_written ts param (n + j) ≡ true
word_there ts param [] n j none lt = absurd (omega arith)
word_there ts param (b ∷ bs) n zero none lt =
    let r = or_none (missing_word ts param tt n b) (walk (missing_word ts param) (λ u b. u) tt (n + 1) bs) none in
    let rule = row_passes _ (not (is_written ts param n)) []
    (at_none (place_in Returns param n) ((_, not (is_written ts param n)) ∷ []) r.0) in
    let e : n ≡ n + 0 = omega arith in
    ap (is_written ts param) (sym e) ∙ not_false _ rule.0
word_there ts param (b ∷ bs) n (suc j) none lt =
    let r = or_none (missing_word ts param tt n b) (walk (missing_word ts param) (λ u b. u) tt (n + 1) bs) none in
    let e : n + suc j ≡ n + 1 + j = omega arith in
    ap (is_written ts param) e ∙ word_there ts param bs (n + 1) j r.1 (omega arith)

chosen : {T : Type 0} (b : Bool) (o : Option T) → (if b then o else None) ≡ None → b ≡ true → o ≡ None
chosen true o e h = e
chosen false o e h = absurd (cc)

param_there : (ts : List Target) (params : List Param) (n i : ℕ) (p : Param) (number : ℕ)
    → walk (missing_in ts) (λ u p. u) tt n params ≡ None
    → slice_get params i ≡ Some p → is_output p.role ≡ true → number < length p.bounds
    → is_written ts (n + i) number ≡ true
param_there ts [] n i p number none there role lt = absurd (cc)
param_there ts (q ∷ qs) n zero p number none there role lt =
    let r = or_none (missing_in ts tt n q) (walk (missing_in ts) (λ u p. u) tt (n + 1) qs) none in
    let same : q ≡ p = cc in
    let first : missing_in ts tt n p ≡ None = ap (missing_in ts tt n) (sym same) ∙ r.0 in
    let words = chosen (is_output p.role) (walk (missing_word ts n) (λ u b. u) tt 0 p.bounds) first role in
    let e : n ≡ n + 0 = omega arith in
    ap (λ k. is_written ts k number) (sym e) ∙ ap (is_written ts n) (sym (zero-add number))
    ∙ word_there ts n p.bounds 0 number words lt
param_there ts (q ∷ qs) n (suc i) p number none there role lt =
    let r = or_none (missing_in ts tt n q) (walk (missing_in ts) (λ u p. u) tt (n + 1) qs) none in
    let e : n + suc i ≡ n + 1 + i = omega arith in
    ap (λ k. is_written ts k number) e ∙ param_there ts qs (n + 1) i p number r.1 there role lt

output_there : (ts : List Target) (params : List Param) (param number : ℕ) (o : Option Param)
    → slice_get params param ≡ o → walk (missing_in ts) (λ u p. u) tt 0 params ≡ None
    → IsSomeAnd o (λ p. IsTrue (is_output p.role) × (number < length p.bounds)) → is_written ts param number ≡ true
output_there ts params param number None there none is = absurd is
output_there ts params param number (Some p) there none is =
    ap (λ k. is_written ts k number) (sym (zero-add param))
    ∙ param_there ts params 0 param p number none there is.0 is.1

-- where no output word is missing, and none is written twice, each is written once
pub written_once : (ts : List Target) (params : List Param) → missing params ts ≡ None → AtMostOnce ts
    → (param number : ℕ) → IsOutputWord params param number → count_by (is_at param number) ts ≡ 1
unfolding missing
written_once ts params none few param number is =
    let some = some_counted (is_at param number) ts
    (output_there ts params param number (slice_get params param) refl none is) in
    let most = few.once param number in
    omega arith
