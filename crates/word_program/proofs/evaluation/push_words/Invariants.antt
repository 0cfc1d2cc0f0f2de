-- The words so far come before those that are left.
use Rattle.std.proofs.Common.{◌≡◌, ◌++◌, ◌-◌, map}
use Rattle.std.specs.List.{range_with_len}
use Rattle.word_program.specs.Values.{stored_word}
use Rattle.word_program.proofs.evaluation.push_words.Given as goal

abbrev pub invariant-loop-word : goal.invariant-loop-word
invariant-loop-word l = l.initial.words.items
    ++ map (stored_word l.targets l.so_far l.param) (range_with_len 0 l.count) ≡ l.words.items
    ++ map (stored_word l.targets l.so_far l.param) (range_with_len l.word (l.count - l.word))
