-- That the arrays of all parameters were put, which are few and short.
use Rattle.std.proofs.Common.{◌≡◌, length, ap, ◌∙◌, arith}
use Rattle.std.proofs.lemmas.Bool.Decides.{nat_tests}
use Rattle.x86_meaning.specs.StatedCells as rows
use Rattle.x86_meaning.proofs.StatedRows.{params_limits}
use Rattle.x86_meaning.proofs.start.put_arrays.Goals as goal

pub returns-in_err-put_array-clause-limits : goal.returns-in_err-put_array-clause-limits
returns-in_err-put_array-clause-limits c =
    let accepted = c.params-param-end.ensures.accepted in
    params_limits c.args.program.now.params accepted.params_limit accepted.params

pub returns-clause-limits : goal.returns-clause-limits
returns-clause-limits c =
    let accepted = c.params-param-end.ensures.accepted in
    params_limits c.args.program.now.params accepted.params_limit accepted.params

pub returns-clause-arrays : goal.returns-clause-arrays
returns-clause-arrays c =
    let params = c.args.program.now.params in
    let count = ap length c.params-param-end.ensures.params in
    let all : c.loop-param.param ≡ length params =
    grind (arith, nat_tests, c.loop-param-test.false, c.loop-param.auto.param-end, count) in
    c.loop-param.invariant ∙ ap (λ n. rows.with_arrays params c.args.inputs.now n c.args.cells.now) all
