-- The tail stands over the program's nodes, and has none of its own.
use Rattle.std.proofs.Common.{◌≡◌, []}
use Rattle.program_nodes.specs.Sources.{source_made}
use Rattle.validator_tests.proofs.p256.first_without_proof.Given as goal

abbrev pub invariant-loop-turn : goal.invariant-loop-turn
invariant-loop-turn l = record {
  base : l.tail.base ≡ (source_made l.prepared).table;
  empty : l.tail.own ≡ [];
}
