-- The parts break no rule, so the program keeps what every program keeps.
use Rattle.std.proofs.Common.{◌≡◌, [], rules, None}
use Rattle.word_text.specs.declared.fault.Section.TheVariants.{Returns, Arguments}
use Rattle.word_program.specs.Rules.{parameters_in, parameter_fault, with_param, first_fault, program_of, scope_after}
use Rattle.word_program.specs.Walk.{walk}
use Rattle.word_program.proofs.BodyLemmas.{IsScope, scope_fact}
use Rattle.word_program.proofs.ParamKept.{params_from}
use Rattle.word_program.proofs.program.Program.new.Goals as goal

pub missing-requires-clause-params : goal.missing-requires-clause-params
missing-requires-clause-params c =
    let none : walk (parameter_fault Returns) (with_param Returns) [] 0 c.args.parts.now.returns ≡ None =
    search rules in
    let is : c.parameters.new.params ≡ parameters_in Returns [] c.args.parts.now.returns = search rules in
    let none2 : walk (parameter_fault Arguments)
    (with_param Arguments) c.parameters.new.params 0 c.args.parts.now.arguments ≡ None = search rules in
    let is2 : c.items-5.result.now ≡ parameters_in Arguments c.parameters.new.params c.args.parts.now.arguments =
    search rules in
    params_from c.args.parts.now _ _ (none, is) (none2, is2)

pub invariant_of-result : goal.invariant_of-result
unfolding first_fault program_of
invariant_of-result c =
    let read : c.in_ok-scope.scope ≡ scope_after c.items-5.result.now c.args.parts.now.body = search rules in
    let kept : IsScope c.parameters-2.new.params c.in_ok-scope.scope =
    scope_fact _ c.items-5.result.now c.args.parts.now.body _ c.items-5.ensures read in record {
      parts = c.args.parts.now;
      sound = search rules;
      is = search rules;
      targets_kept = rw (c.into_parts-read.ensures.targets, c.into_parts-read.ensures.ops) kept.targets_kept;
      bits_kept = rw (c.into_parts-read.ensures.bits, c.into_parts-read.ensures.ops) kept.bits_kept;
    }

pub read_body-requires-clause-params : goal.read_body-requires-clause-params
read_body-requires-clause-params c =
    let none : walk (parameter_fault Returns) (with_param Returns) [] 0 c.args.parts.now.returns ≡ None =
    search rules in
    let is : c.parameters.new.params ≡ parameters_in Returns [] c.args.parts.now.returns = search rules in
    let none2 : walk (parameter_fault Arguments)
    (with_param Arguments) c.parameters.new.params 0 c.args.parts.now.arguments ≡ None = search rules in
    let is2 : c.items-3.result.now ≡ parameters_in Arguments c.parameters.new.params c.args.parts.now.arguments =
    search rules in
    params_from c.args.parts.now _ _ (none, is) (none2, is2)
