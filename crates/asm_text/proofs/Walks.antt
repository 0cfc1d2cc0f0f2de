-- The reading of a text, line by line.
use Rattle.std.proofs.Common.{◌≡◌, ℕ, ◌+◌, List, [], ◌∷◌, Some, None, Ok, Err, refl}
use Rattle.std.specs.Str.Lines.{lines}
use Rattle.asm_tokens.specs.Whole.{read_lines}
use Rattle.asm_text.specs.Items.{Item, item_in}
use Rattle.asm_text.specs.Reading.{Stage, state, step, done, next_stage, grown, body_name}
use Rattle.x86_instr.specs.declared.line.Line.{Line}

-- the next line is read
pub read_step : (rest more : List ℕ) (line : List ℕ) (s t : Stage) (found : List Line) (item : Item) (n : ℕ)
    → lines rest ≡ line ∷ lines more → item_in line ≡ Some item → next_stage s item ≡ Some t
    → read_lines step done (state s found) (lines rest) n ≡ read_lines step done (state t (grown found item))
    (lines more) (n + 1)
read_step rest more line s t found item n first is goes = rw (first, is, goes) refl

-- the next line is out of form
pub read_no_item : (rest more : List ℕ) (line : List ℕ) (s : Stage) (found : List Line) (n : ℕ)
    → lines rest ≡ line ∷ lines more → item_in line ≡ None
    → read_lines step done (state s found) (lines rest) n ≡ Err n
read_no_item rest more line s found n first none = rw (first, none) refl

-- the next line is out of place
pub read_no_move : (rest more : List ℕ) (line : List ℕ) (s : Stage) (found : List Line) (item : Item) (n : ℕ)
    → lines rest ≡ line ∷ lines more → item_in line ≡ Some item → next_stage s item ≡ None
    → read_lines step done (state s found) (lines rest) n ≡ Err n
read_no_move rest more line s found item n first is none = rw (first, is, none) refl

-- the text ends behind its header
pub read_done : (rest : List ℕ) (s : Stage) (found : List Line) (n : ℕ) (name : List ℕ) → lines rest ≡ []
    → body_name s ≡ Some name
    → read_lines step done (state s found) (lines rest) n ≡ Ok (record { name = name; lines = found })
read_done rest s found n name end is = rw (end, is) refl

-- the text ends before
pub read_short : (rest : List ℕ) (s : Stage) (found : List Line) (n : ℕ) → lines rest ≡ [] → body_name s ≡ None
    → read_lines step done (state s found) (lines rest) n ≡ Err n
read_short rest s found n end none = rw (end, none) refl

-- reading line by line
pub ruleset reading_steps = (read_step, read_no_item, read_no_move, read_done, read_short)
