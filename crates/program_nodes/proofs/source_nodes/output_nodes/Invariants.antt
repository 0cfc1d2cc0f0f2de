-- The nodes of the parameters so far come before those that are left.
use Rattle.std.proofs.Common.{◌≡◌, ◌++◌, drop}
use Rattle.word_program.specs.Values.{outputs_from}
use Rattle.program_nodes.proofs.source_nodes.output_nodes.Given as goal

abbrev pub invariant-loop-param : goal.invariant-loop-param
invariant-loop-param l = record {
  count : l.number ≡ l.param-index;
  words : outputs_from l.targets l.numbers 0 l.params ≡ l.nodes.items
      ++ outputs_from l.targets l.numbers l.number (drop l.param-index l.params);
}
