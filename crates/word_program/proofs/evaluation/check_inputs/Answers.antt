-- A program has few input words, so the number of one fits.
use Rattle.std.proofs.Common.{◌≡◌, ◌<◌, length, rules, arith}
use Rattle.word_program.specs.Values.{input_bounds}
use Rattle.word_program.proofs.AcceptedLemmas.{inputs_few}
use Rattle.word_program.proofs.evaluation.check_inputs.Goals as goal

pub overflow_cast-result : goal.overflow_cast-result
overflow_cast-result c =
    let few = inputs_few c.args.program.now c.params.ensures.accepted in
    let same : length c.args.inputs.now ≡ length (input_bounds c.args.program.now.params) = search rules in
    let within : c.in-Some.word < length c.args.inputs.now = search rules in
    omega arith
