-- The nodes so far come before those of the words that are left.
use Rattle.std.proofs.Common.{◌≡◌, ◌++◌, ◌-◌, map}
use Rattle.std.specs.List.{range_with_len}
use Rattle.word_program.specs.Values.{stored_word}
use Rattle.program_nodes.proofs.source_nodes.push_words.Given as goal

abbrev pub invariant-loop-word : goal.invariant-loop-word
invariant-loop-word l = l.initial.nodes.items
    ++ map (stored_word l.targets l.numbers l.param) (range_with_len 0 l.count) ≡ l.nodes.items
    ++ map (stored_word l.targets l.numbers l.param) (range_with_len l.word (l.count - l.word))
