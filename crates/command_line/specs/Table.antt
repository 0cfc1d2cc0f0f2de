-- The table of the commands: what stands on the line of each, and the command of `clap` that this makes. Source: the
-- documentation of the Rust crate `clap`, version 4 (`Command`, `Arg`); the table is this project's own.
use Rattle.std.specs.Prelude.{ℕ, true, List, [], ◌∷◌, map, fold, codes, Option, Some, find}
use Rattle.std.specs.Str.{bytes_eq}
use Rattle.clap.specs.Walk.{Rule}
use Rattle.clap.specs.Simple.{App, new_app, new_rule, with_rule}
use Rattle.command_line.specs.declared.table.CommandName.{CommandName}
use Rattle.command_line.specs.declared.table.CommandName.TheVariants.{Search, Eval, Emulate, Check, Show, Replay}
use Rattle.command_line.specs.declared.table.ArgKind.{ArgKind}
use Rattle.command_line.specs.declared.table.ArgKind.TheVariants.{Word, OptionalWord, Named}
use Rattle.command_line.specs.declared.table.Syntax as code

-- the first word of a command, the names of the words that have to stand after it, those of the words that may stand
-- after them, and the names of its options, each of which takes a value
pub record Syntax : Type 0 where
  pub name : List ℕ
  pub words : List (List ℕ)
  pub optional : List (List ℕ)
  pub options : List (List ℕ)

abbrev pub row : List ℕ → List (List ℕ) → List (List ℕ) → List (List ℕ) → Syntax
row name words optional options = record { name = name; words = words; optional = optional; options = options }

-- the table
abbrev pub syntax_of : CommandName → Syntax
syntax_of Search = row (codes "search") (codes "PROGRAM" ∷ codes "ASM" ∷ []) (codes "JOURNAL" ∷ [])
    (codes "seeds" ∷ codes "workers" ∷ codes "turns" ∷ [])
syntax_of Eval = row (codes "eval") (codes "PROGRAM" ∷ []) [] (codes "in" ∷ [])
syntax_of Emulate = row (codes "emulate") (codes "PROGRAM" ∷ codes "ASM" ∷ []) [] (codes "in" ∷ [])
syntax_of Check = row (codes "check") (codes "PROGRAM" ∷ codes "ASM" ∷ []) [] []
syntax_of Show = row (codes "show") (codes "ASM" ∷ []) [] []
syntax_of Replay = row (codes "replay") (codes "PROGRAM" ∷ codes "JOURNAL" ∷ codes "ASM" ∷ []) [] []

abbrev pub commands : List CommandName
commands = Search ∷ Eval ∷ Emulate ∷ Check ∷ Show ∷ Replay ∷ []

-- the command whose first word this is
abbrev pub command_named : List ℕ → Option CommandName
command_named word = find (λ name. bytes_eq (syntax_of name).name word) commands

-- a word that has to stand there, one that may, and an option `--NAME VALUE`
abbrev pub rule_of : ArgKind → List ℕ → Rule
rule_of Word name = record (new_rule name) { required = true }
rule_of OptionalWord name = new_rule name
rule_of Named name = record (new_rule name) { long = Some name }

abbrev pub with_arg : ArgKind → App → List ℕ → App
with_arg kind app name = with_rule app (rule_of kind name)

abbrev pub with_args : ArgKind → App → List (List ℕ) → App
with_args kind app names = fold (with_arg kind) app names

-- the command of `clap`
abbrev pub app_of : Syntax → App
app_of line = with_args Named
    (with_args OptionalWord (with_args Word (new_app line.name) line.words) line.optional) line.options

-- the row of the table in the code
abbrev pub syntax_view : code.Syntax → Syntax
syntax_view line = record {
  name = line.name.now;
  words = map (λ name. name.now) line.words.now;
  optional = map (λ name. name.now) line.optional.now;
  options = map (λ name. name.now) line.options.now;
}
