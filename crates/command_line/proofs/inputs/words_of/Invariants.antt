-- The loop of `words_of`.
use Rattle.std.proofs.Common.{◌≡◌, ◌++◌, drop, map}
use Rattle.std.specs.Prelude.{option_map}
use Rattle.command_line.specs.Inputs as spec
use Rattle.command_line.proofs.inputs.words_of.Given as goal

-- the words so far stand before those to come, where there are any
abbrev pub invariant-loop-text : goal.invariant-loop-text
invariant-loop-text l =
    option_map (λ words. l.words ++ words) (spec.words_of (map (λ text. text.now) (drop l.text-index l.texts)))
    ≡ spec.words_of (map (λ text. text.now) l.texts)
