-- The loop of `numbers_of`.
use Rattle.std.proofs.Common.{◌≡◌, ◌++◌, drop, map}
use Rattle.std.specs.Prelude.{option_map}
use Rattle.command_line.specs.Numbers as spec
use Rattle.command_line.proofs.numbers.numbers_of.Given as goal

-- the numbers so far stand before those to come, where there are any
abbrev pub invariant-loop-text : goal.invariant-loop-text
invariant-loop-text l =
    option_map (λ numbers. l.numbers ++ numbers) (spec.numbers_of (map (λ text. text.now) (drop l.text-index l.texts)))
    ≡ spec.numbers_of (map (λ text. text.now) l.texts)
