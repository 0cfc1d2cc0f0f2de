-- All forms are those that are made, and then those that are left.
use Rattle.std.proofs.Common.{◌≡◌, ◌+◌, ◌-◌, ◌≤◌, length, map}
use Rattle.std.specs.List.{range_with_len}
use Rattle.term_store.specs.Interning.{made_all}
use Rattle.program_nodes.specs.Sources.{input_form}
use Rattle.program_nodes.proofs.inputs.word_nodes.Given as goal

abbrev pub invariant-loop-word : goal.invariant-loop-word
invariant-loop-word l = record {
  forms : (made_all l.initial.store (map (input_form l.params l.param) (range_with_len 0 l.count))).table
      ≡ (made_all l.store (map (input_form l.params l.param) (range_with_len l.word (l.count - l.word)))).table;
  few : length l.store ≤ length l.initial.store + l.word;
}
