-- All forms are those that are made, and then those that are left.
use Rattle.std.proofs.Common.{◌≡◌, ◌+◌, ◌-◌, ◌≤◌, length, map}
use Rattle.std.specs.List.{range_with_len}
use Rattle.terms.specs.declared.nodes.Form.TheVariants as forms
use Rattle.term_store.specs.Interning.{made_all}
use Rattle.program_nodes.proofs.inputs.start_nodes.Given as goal

abbrev pub invariant-loop-reg : goal.invariant-loop-reg
invariant-loop-reg l = record {
  forms : (made_all l.initial.store (map forms.Start (range_with_len 0 16))).table
      ≡ (made_all l.store (map forms.Start (range_with_len l.reg (16 - l.reg)))).table;
  few : length l.store ≤ length l.initial.store + l.reg;
}
