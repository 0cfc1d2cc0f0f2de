-- The forms of the parameters so far come before those that are left.
use Rattle.std.proofs.Common.{◌≡◌, ◌+◌, ◌*◌, ◌≤◌, drop, length}
use Rattle.term_store.specs.Interning.{made_all}
use Rattle.program_nodes.specs.Sources.{inputs_from}
use Rattle.program_nodes.proofs.inputs.input_nodes.Given as goal

abbrev pub invariant-loop-param : goal.invariant-loop-param
invariant-loop-param l = record {
  count : l.number ≡ l.param-index;
  forms : (made_all l.initial.store (inputs_from l.params 0 l.params)).table
      ≡ (made_all l.store (inputs_from l.params l.number (drop l.param-index l.params))).table;
  few : length l.store ≤ length l.initial.store + 32 * l.param-index;
}
