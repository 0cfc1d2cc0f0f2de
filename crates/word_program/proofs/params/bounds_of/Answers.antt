-- The bounds of this word are the next ones.
use Rattle.std.proofs.Common.{◌≡◌, ◌∙◌, sym, arith}
use Rattle.std.specs.Prelude.{Some}
use Rattle.word_program.specs.Rules.{bound_at}
use Rattle.word_program.proofs.ParamLemmas.{test_step, bounds_step}
use Rattle.word_program.proofs.params.bounds_of.Goals as goal

pub loop-number-preserved : goal.loop-number-preserved
loop-number-preserved c =
    let found : bound_at c.args.datatype c.args.param.now c.loop-number.number ≡ Some c.in-Some.bound =
    sym c.bound_at.ensures ∙ c.in-Some.is in
    record {
      test = c.loop-number.invariant.test
          ∙ test_step (bound_at c.args.datatype c.args.param.now) c.in-Some.bound _ _ (omega arith) found;
      bounds =
          rw c.in_ok-push.ensures.ok (c.loop-number.invariant.bounds
          ∙ bounds_step (bound_at c.args.datatype c.args.param.now) c.in-Some.bound _ _ _ (omega arith) found);
    }
