-- The words of the parameters so far are counted.
use Rattle.std.proofs.Common.{◌≡◌, ◌≤◌, ◌+◌, ◌*◌, drop}
use Rattle.std.specs.List.{AllByRecursion}
use Rattle.word_program.specs.Accepted.{IsParam}
use Rattle.word_program.specs.Values as values
use Rattle.word_program.proofs.inputs.output_count.Given as goal

abbrev pub invariant-loop-param : goal.invariant-loop-param
invariant-loop-param l = record {
  params : AllByRecursion IsParam (drop l.param-index l.params);
  count : values.output_count l.params ≡ l.count + values.output_count (drop l.param-index l.params);
  limit : l.count ≤ 32 * l.param-index;
}
