-- What every program keeps.
use Rattle.std.proofs.Common.{◌≡◌, ℕ, ◌+◌, ◌^◌, ◌<◌, ◌≤◌, Bool, true, false, List, length, refl, arith, sym, ◌∙◌, subst}
use Rattle.std.proofs.Common.{zero-add}
use Rattle.std.proofs.Common.{[]}
use Rattle.std.proofs.lemmas.Bool.Decides.{nat_tests}
use Rattle.std.specs.Prelude.{None, not, ◌==◌, nat_lt}
use Rattle.word_text.specs.declared.fault.Section.TheVariants.{Top}
use Rattle.word_text.specs.declared.parts.RawProgram.{RawProgram}
use Rattle.base.specs.Identifiers.{is_identifier}
use Rattle.word_program.specs.declared.operation.Target.{Target}
use Rattle.word_program.specs.Program.{Source}
use Rattle.word_program.specs.Walk.{first_code, at, place_in, walk}
use Rattle.word_program.specs.Rules.{is_overlap_if_there, top_rules, params_fault, body_fault, params_of, first_fault}
use Rattle.word_program.specs.Rules.{program_of, start}
use Rattle.word_program.specs.Rules.{scope_after, operation_fault, with_operation}
use Rattle.word_program.specs.Accepted.{IsAccepted, IsKept, AreOps, IsOutputWord}
use Rattle.word_program.proofs.RowLemmas.{rows5, at_none, or_none, not_false}
use Rattle.word_program.proofs.OpsKept.{ops_kept}
use Rattle.word_program.proofs.WrittenKept.{AtMostOnce, ops_once, written_once}
use Rattle.word_program.specs.Values.{is_at, input_bounds}
use Rattle.word_program.proofs.InputLemmas.{inputs_limit}
use Rattle.std.specs.Prelude.{count_by}
use Rattle.word_program.proofs.ParamKept.{params_kept, params_count}
use Rattle.word_program.proofs.ParamOrder.{first_output, outputs_first, names_distinct}
use Rattle.word_program.proofs.SomeOps.{some_number, some_ops}
use Rattle.word_program.proofs.BodyLemmas.{ops_count, IsScope, scope_fact, targets_count}

at_most : (a b : ℕ) → nat_lt a b ≡ false → b ≤ a
at_most a b e = grind (arith, nat_tests)

-- what the rules of the program as a whole say
pub record IsTop (p : RawProgram) : Type 0 where
  pub name : is_identifier p.name ≡ true
  pub params : length p.returns + length p.arguments ≤ 6
  pub some_return : 1 ≤ length p.returns
  pub ops : length p.body ≤ 2048

pub top_kept : (p : RawProgram) → first_code (top_rules p) ≡ None → IsTop p
unfolding top_rules
top_kept p none =
    let r = rows5 _ _ _ _ _ (not (is_overlap_if_there p.overlap)) (not (is_identifier p.name))
    (nat_lt 6 (length p.returns + length p.arguments)) (nat_lt 2048 (length p.body)) (length p.returns == 0) none in
    record { name = not_false _ r.1; params = at_most _ _ r.2; some_return = some_number _ r.4; ops = at_most _ _ r.3 }

-- parts that break no rule are a program that keeps it
pub accepted : (p : RawProgram) → first_fault p ≡ None → IsAccepted (program_of p)
unfolding first_fault program_of
accepted p none =
    let a = or_none (at (place_in Top 0 0) (top_rules p)) _ none in
    let b = or_none (params_fault p) (body_fault (params_of p) p.body) a.1 in
    let top = top_kept p (at_none (place_in Top 0 0) (top_rules p) a.0) in
    let body = or_none (walk operation_fault with_operation (start (params_of p)) 0 p.body) _ b.1 in
    let kept : IsScope (params_of p) (scope_after (params_of p) p.body) =
    scope_fact (params_of p) (params_of p) p.body _ refl refl in
    let values = targets_count p.body (start (params_of p)) 0 body.0 in
    let body_limit = top.ops in
    let few : length (scope_after (params_of p) p.body).targets ≤ 4096 = omega arith in
    let ops = ops_kept p.body (start (params_of p)) 0 (params_kept p b.0) refl body.0 in
    let none_yet : AtMostOnce [] = record { once = λ (param word : ℕ). omega arith } in
    let once = ops_once p.body (start (params_of p)) 0 body.0 none_yet in
    let output = first_output p top.some_return in
    let once_written = written_once (scope_after (params_of p) p.body).targets (params_of p) body.1 once in
    let written = subst (λ (ts : List Target). (param word : ℕ) → IsOutputWord (params_of p) param word
    → count_by (is_at param word) ts ≡ 1) kept.targets_kept once_written in
    record {
      written = written;
      some_ops = some_ops (params_of p) (scope_after (params_of p) p.body).ops output (params_kept p b.0) written;
      name = top.name;
      ops = subst (AreOps (params_of p) []) (sym ops.behind) ops.legal;
      params_limit = subst (λ (n : ℕ). n ≤ 6) (sym (params_count p)) top.params;
      params = params_kept p b.0;
      names = names_distinct p b.0;
      some_output = output;
      outputs_first = outputs_first p b.0;
      ops_limit = subst (λ (n : ℕ). n ≤ 2048)
          (sym (ops_count p.body (start (params_of p)) ∙ zero-add (length p.body))) top.ops;
      values_limit = subst (λ (ts : List Target). length ts ≤ 4096) kept.targets_kept few;
    }

-- a program has few input words
pub inputs_few : (source : Source) → IsAccepted source → length (input_bounds source.params) < 2 ^ 32
inputs_few source accepted =
    let words = inputs_limit source.params accepted.params in let params = accepted.params_limit in omega arith

-- so a program keeps it
pub kept_accepted : (source : Source) (ts : List Target) (bits : List Bool) → IsKept source ts bits → IsAccepted source
kept_accepted source ts bits kept = subst IsAccepted (sym kept.is) (accepted kept.parts kept.sound)
