-- The input words of the parameters so far are counted.
use Rattle.std.proofs.Common.{◌≡◌, ◌≤◌, ◌*◌, take, drop}
use Rattle.std.specs.Prelude.{sum_by}
use Rattle.std.specs.List.{AllByRecursion}
use Rattle.word_program.specs.Accepted.{IsParam}
use Rattle.word_program.specs.Values.{input_words}
use Rattle.word_program.proofs.inputs.offset_of.Given as goal

abbrev pub invariant-loop-found : goal.invariant-loop-found
invariant-loop-found l = record {
  count : l.number ≡ l.found-index;
  before : l.number ≤ l.param;
  params : AllByRecursion IsParam (drop l.found-index l.params);
  offset : l.offset ≡ sum_by input_words (take l.found-index l.params);
  limit : l.offset ≤ 32 * l.found-index;
}
