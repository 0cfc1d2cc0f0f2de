-- The words so far, and those of the parameters to come, are all of them.
use Rattle.std.proofs.Common.{◌≡◌, ◌++◌, drop}
use Rattle.search_top.specs.Emulate.{words_from}
use Rattle.search_top.proofs.emulation.output_words.Given as goal

abbrev pub invariant-loop-number : goal.invariant-loop-number
invariant-loop-number l = l.words.items ++ words_from l.cells l.number (drop l.number l.params)
    ≡ words_from l.cells 0 l.params
