-- The word is one of those of the arrays that are left.
use Rattle.std.proofs.Common.{◌≡◌, None, drop, get_or}
use Rattle.std.specs.List.{flat_map}
use Rattle.symbolic_state.specs.Written.{output_words}
use Rattle.symbolic_state.proofs.state.written_in.Given as goal

abbrev pub invariant-loop-array : goal.invariant-loop-array
invariant-loop-array l = get_or (flat_map output_words l.arrays) l.word None
    ≡ get_or (flat_map output_words (drop l.array-index l.arrays)) l.left None
