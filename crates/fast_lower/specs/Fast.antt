-- What a fast listing of a plan keeps, beside that it is checked by whoever publishes it.
use Rattle.std.specs.Prelude.{◌≡◌, ℕ, ◌+◌, ◌*◌, ◌/◌, ◌≤◌, Bool, true, false, List, length, count_by}
use Rattle.word_program.specs.declared.operation.Target.{Target}
use Rattle.word_program.specs.declared.operation.Target.TheVariants as targets
use Rattle.word_program.specs.Program.{Source}
use Rattle.word_program.specs.Values.{targets_of}
use Rattle.x86_instr.specs.declared.listing.TheConstants.{MAX_FRAME_BYTES}
use Rattle.x86_instr.specs.Listings.{NamedLines}
use Rattle.x86_instr.specs.Frame.{frame_of}
use Rattle.op_order.specs.declared.slot.Slot.{Slot}
use Rattle.op_order.specs.Realises.{Realises}
use Rattle.fast_lower.specs.Sources.{keep_rule, owned_instrs}
use Rattle.fast_lower.specs.Named.{preserved_count}

abbrev pub is_output_word : Target → Bool
is_output_word targets.Value = false
is_output_word targets.Unused = false
is_output_word (targets.Output param word) = true

-- how many results go to an output word
abbrev pub output_words : Source → ℕ
output_words program = count_by is_output_word (targets_of program.ops)

-- how many lines a fast listing has at most
abbrev pub most_lines : Source → ℕ
most_lines program = 28 * length program.ops + 64 + 4 * output_words program

pub record IsFast (program : Source) (slots : List Slot) (listing : NamedLines) : Type 0 where
  -- it has the program's name
  pub name : listing.name ≡ program.name
  -- the lines that have an owner are those of the plan's templates, in the order of the plan
  pub realises : Realises program slots listing
  -- the frame that it takes is within the limit
  pub frame : frame_of listing.lines ≤ MAX_FRAME_BYTES
  -- it has few lines
  pub short : length listing.lines ≤ most_lines program
  -- a preserved register that the frame has no room to save is not used
  pub room : preserved_count listing.lines ≤ frame_of listing.lines / 8
  -- the marks `swap` and `load_first` say where the sources are read
  pub sources : keep_rule program slots (owned_instrs listing.lines) ≡ true
