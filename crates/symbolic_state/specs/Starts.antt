-- The symbolic state at the start of a listing.
use Rattle.std.specs.Prelude.{ℕ, ◌+◌, ◌/◌, List, [], ◌∷◌, length, map, replicate, Some, None}
use Rattle.std.specs.Prelude.{slice_set, if◌then◌else◌}
use Rattle.std.specs.List.{range_with_len}
use Rattle.word_program.specs.declared.parameter.Param.{Param}
use Rattle.word_program.specs.Program.{Source}
use Rattle.word_program.specs.Values.{is_output, is_scalar}
use Rattle.x86_instr.specs.Registers.{number_of}
use Rattle.x86_meaning.specs.Start.{param_reg}
use Rattle.terms.specs.declared.nodes.Node.{Node}
use Rattle.term_store.specs.Interning.{made}
use Rattle.program_nodes.specs.Sources.{input_form}
use Rattle.symbolic_state.specs.Symbols.{Array, Symbols}

-- the node of an input word, in a table that has it
abbrev pub input_node : List Node → List Param → ℕ → ℕ → ℕ
input_node table params param word = (made table (input_form params param word)).number

-- a scalar's register holds its word, and every other one what it holds at the start
abbrev pub with_scalars : List Node → List Param → ℕ → List Param → List ℕ → List ℕ
with_scalars table params param [] regs = regs
with_scalars table params param (p ∷ ps) regs = with_scalars table params (param + 1) ps
    (if is_scalar p.role then slice_set regs (number_of (param_reg param)) (input_node table params param 0) else regs)

-- the words of an input array are known, and those of an output are not; a scalar has none
abbrev pub array_at_start : List Node → List Param → ℕ → Param → Array
array_at_start table params param p = record {
  role = p.role;
  words = if is_scalar p.role then [] else if is_output p.role then replicate (length p.bounds) None else
      map (λ word. Some (input_node table params param word)) (range_with_len 0 (length p.bounds));
}

abbrev pub arrays_at_start : List Node → List Param → ℕ → List Param → List Array
arrays_at_start table params param [] = []
arrays_at_start table params param (p ∷ ps) =
    array_at_start table params param p ∷ arrays_at_start table params (param + 1) ps

-- the state at the start of a listing with such a frame; flags, output words and the frame's words are unknown
unfoldable pub symbols_at_start : List Node → Source → ℕ → Symbols
symbols_at_start table program frame = record {
  regs = with_scalars table program.params 0 program.params (range_with_len 0 16);
  cf = None;
  of = None;
  zf = None;
  arrays = arrays_at_start table program.params 0 program.params;
  frame = replicate (frame / 8) None;
  overlap = program.overlap;
  touch = None;
}
