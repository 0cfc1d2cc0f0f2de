-- The loop over the parameters, of which some are outputs.
use Rattle.std.proofs.Common.{◌≡◌, ◌++◌, drop, string_bytes}
use Rattle.search_top.specs.Outputs as spec
use Rattle.search_top.proofs.outputs.output_lines.Given as goal

-- the lines so far and those of the words that are left are all
abbrev pub invariant-loop-param : goal.invariant-loop-param
invariant-loop-param l = string_bytes l.text
    ++ spec.output_lines (drop l.param-index l.params) l.rest ≡ spec.output_lines l.params l.words
