-- The loop over the words of an array.
use Rattle.std.proofs.Common.{◌≡◌, ◌++◌, drop, string_bytes}
use Rattle.search_top.specs.Outputs as spec
use Rattle.search_top.proofs.outputs.push_array.Given as goal

-- the lines so far and those to come are all
abbrev pub invariant-loop-index : goal.invariant-loop-index
invariant-loop-index l = string_bytes l.text
    ++ spec.array_lines l.name l.index (drop l.index l.words) ≡ string_bytes l.fn.text
    ++ spec.array_lines l.name 0 l.words
