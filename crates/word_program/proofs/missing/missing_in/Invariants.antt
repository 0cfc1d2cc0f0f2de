-- What is found in all words is found in those that are left.
use Rattle.std.proofs.Common.{◌≡◌, drop}
use Rattle.word_program.specs.Rules.{missing_word}
use Rattle.word_program.specs.Walk.{walk}
use Rattle.word_program.proofs.missing.missing_in.Given as goal

abbrev pub invariant-loop-bound : goal.invariant-loop-bound
invariant-loop-bound l = record {
  count : l.word ≡ l._bound-index;
  fault : walk (missing_word l.targets l.number) (λ u b. u) tt 0 l.param.bounds ≡ walk
      (missing_word l.targets l.number) (λ u b. u) tt l.word (drop l._bound-index l.param.bounds);
}
