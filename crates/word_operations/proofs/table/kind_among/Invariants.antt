-- The kinds before this one have other names.
use Rattle.std.proofs.Common.{◌≡◌, drop}
use Rattle.word_operations.specs.Operations.{kind_among}
use Rattle.word_operations.proofs.table.kind_among.Given as goal

abbrev pub invariant-loop-kind : goal.invariant-loop-kind
invariant-loop-kind l = kind_among l.kinds l.text ≡ kind_among (drop l.kind-index l.kinds) l.text
