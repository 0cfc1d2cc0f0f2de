-- How the code reads; no part of a promise. The reading of a text line by line: how far its header has come, and the
-- lines found so far.
use Rattle.std.specs.Prelude.{ℕ, ◌++◌, List, [], ◌∷◌, Option, Some, None, if◌then◌else◌, Result}
use Rattle.std.specs.Str.{bytes_eq}
use Rattle.std.specs.Str.Lines.{lines}
use Rattle.x86_instr.specs.declared.line.Line.{Line}
use Rattle.x86_instr.specs.Listings.{NamedLines}
use Rattle.base.specs.Options.{◌>>=◌, pick}
use Rattle.asm_tokens.specs.Whole.{read_lines}
use Rattle.asm_text.specs.Items.{Item, blank, syntax_line, text_line, global, label, code, item_in}

-- the header lines that were read
pub data Stage : Type 0 where
  start : Stage
  syntax : Stage
  text : Stage
  named : List ℕ → Stage
  body : List ℕ → Stage

abbrev pub labelled : List ℕ → List ℕ → Option Stage
labelled name other = if bytes_eq name other then Some (body name) else None

abbrev pub next_stage : Stage → Item → Option Stage
next_stage s blank = Some s
next_stage start syntax_line = Some syntax
next_stage syntax text_line = Some text
next_stage text (global name) = Some (named name)
next_stage (named name) (label other) = labelled name other
next_stage (body name) (code line) = Some (body name)
next_stage s item = None

abbrev pub grown : List Line → Item → List Line
grown found (code line) = found ++ line ∷ []
grown found item = found

pub record Progress : Type 0 where
  pub stage : Stage
  pub found : List Line

abbrev pub state : Stage → List Line → Progress
state stage found = record { stage = stage; found = found }

abbrev pub named_lines : List ℕ → List Line → NamedLines
named_lines name found = record { name = name; lines = found }

abbrev pub step_by : Progress → Item → Option Progress
step_by s item = pick (next_stage s.stage item) (λ t. Some (state t (grown s.found item))) None

abbrev pub step : Progress → List ℕ → Option Progress
step s line = item_in line >>= step_by s

abbrev pub body_name : Stage → Option (List ℕ)
body_name start = None
body_name syntax = None
body_name text = None
body_name (named name) = None
body_name (body name) = Some name

abbrev pub done : Progress → Option NamedLines
done s = body_name s.stage >>= (λ name. Some (named_lines name s.found))

-- the name and the lines of a text, or the number of its first faulty line
unfoldable pub read_text : List ℕ → Result NamedLines ℕ
read_text bytes = read_lines step done (state start []) (lines bytes) 1
