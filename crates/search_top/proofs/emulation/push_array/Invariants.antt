-- The words so far stand behind those that were there.
use Rattle.std.proofs.Common.{◌≡◌, ◌++◌}
use Rattle.x86_meaning.specs.Stated.{array_address}
use Rattle.search_top.specs.Emulate.{words_at}
use Rattle.search_top.proofs.emulation.push_array.Given as goal

abbrev pub invariant-loop-word : goal.invariant-loop-word
invariant-loop-word l = l.words.items ≡ l.initial.words.items ++ words_at l.cells (array_address l.number) l.word
