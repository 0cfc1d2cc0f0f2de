-- What `clap` makes of the line of a search by lanes: of its names, then of its options, and of both.
use Rattle.std.proofs.Common.{◌≡◌, ◌∙◌, ℕ, false, List, [], ◌∷◌, None, Some, refl, ap, codes, fold}
use Rattle.clap.specs.Walk.{Row, Walk, idle, walk, walk_from, walked, nothing_held}
use Rattle.clap.specs.Values.{reading_of}
use Rattle.clap.specs.Facts.{parser_of_value}
use Rattle.clap.specs.Simple.{App, Shape, built}
use Rattle.clap.specs.Faults.{defaults_fault, walk_fault}
use Rattle.clap.specs.declared.builder.value_parser.ValueParser.TheVariants.{String}
use Rattle.clap.specs.declared.parser.matches.ValueSource.TheVariants.{CommandLine}
use Rattle.clap.proofs.OnLiterals.{clap_on_literals}
use Rattle.command_line.specs.Table.{app_of, syntax_of}
use Rattle.command_line.specs.Lanes.{lanes_of, lanes_in, lanes_command}
use Rattle.command_line.specs.Lines.{command_of, rows}
use Rattle.command_line.specs.declared.table.CommandName.TheVariants.{Search}
use Rattle.command_line.proofs.PlainWords.{IsPlainWord}

abbrev app : App
app = app_of (syntax_of Search)

abbrev shape : Shape
shape = (built app).top

-- a word under its name
abbrev row : List ℕ → List ℕ → Row
row id word = record {
  id = id;
  values = word ∷ [];
  count = None;
  source = Some CommandLine;
  reading = reading_of (parser_of_value (Some String));
}

abbrev standing : List Row → List ℕ → List ℕ → Walk
standing rows id word = record {
  held = record { rows = rows; pending = Some (id, word ∷ []); skip = 0 };
  waiting = idle;
  position = 4;
  is_trailing = false;
  stopped = None;
}

-- behind the names
abbrev named : List ℕ → List ℕ → List ℕ → Walk
named program asm journal =
    standing (row (codes "PROGRAM") program ∷ row (codes "ASM") asm ∷ []) (codes "JOURNAL") journal

names_walk : (program asm journal : List ℕ) → IsPlainWord program → IsPlainWord asm → IsPlainWord journal
    → walk shape.rules [] nothing_held (program ∷ asm ∷ journal ∷ []) ≡ named program asm journal
unfolding clap_on_literals
names_walk program asm journal p a j =
    rw (p.dashes, p.long, p.short, a.dashes, a.long, a.short, j.dashes, j.long, j.short) refl

names_fault : (program asm journal : List ℕ) (rest : List (List ℕ)) → IsPlainWord program → IsPlainWord asm
    → IsPlainWord journal
    → walk_fault shape [] (walk_from nothing_held) (program ∷ asm ∷ journal ∷ rest)
    ≡ walk_fault shape [] (named program asm journal) rest
unfolding clap_on_literals
names_fault program asm journal rest p a j =
    rw (p.dashes, p.long, p.short, a.dashes, a.long, a.short, j.dashes, j.long, j.short) refl

abbrev options : List ℕ → List ℕ → List ℕ → List (List ℕ)
options seeds workers turns =
    codes "--seeds" ∷ seeds ∷ codes "--workers" ∷ workers ∷ codes "--turns" ∷ turns ∷ []

module _ (program asm journal seeds workers turns : List ℕ) where
  -- behind the options
  abbrev opted : Walk
  opted = standing (row (codes "PROGRAM") program ∷ row (codes "ASM") asm ∷ row (codes "JOURNAL") journal
      ∷ row (codes "seeds") seeds ∷ row (codes "workers") workers ∷ []) (codes "turns") turns

  abbrev line : List (List ℕ)
  line = program ∷ asm ∷ journal ∷ options seeds workers turns

  abbrev found : List Row
  found = row (codes "PROGRAM") program ∷ row (codes "ASM") asm ∷ row (codes "JOURNAL") journal
      ∷ row (codes "seeds") seeds ∷ row (codes "workers") workers ∷ row (codes "turns") turns ∷ []

  options_walk : IsPlainWord seeds → IsPlainWord workers → IsPlainWord turns
      → fold (walked shape.rules []) (named program asm journal) (options seeds workers turns) ≡ opted
  unfolding clap_on_literals
  options_walk s w t = rw (s.dashes, s.long, s.short, w.dashes, w.long, w.short, t.dashes, t.long, t.short) refl

  options_fault : IsPlainWord seeds → IsPlainWord workers → IsPlainWord turns
      → walk_fault shape [] (named program asm journal) (options seeds workers turns) ≡ []
  unfolding clap_on_literals
  options_fault s w t = rw (s.dashes, s.long, s.short, w.dashes, w.long, w.short, t.dashes, t.long, t.short) refl

  rows_by : walk_fault shape [] (walk_from nothing_held) line ≡ []
      → walk shape.rules [] nothing_held line ≡ opted
      → rows app (codes "search" ∷ line) ≡ Some found
  unfolding rows defaults_fault
  rows_by fault walk = rw (fault, walk) refl

  lanes_rows : IsPlainWord program → IsPlainWord asm → IsPlainWord journal → IsPlainWord seeds → IsPlainWord workers
      → IsPlainWord turns → rows app (codes "search" ∷ line) ≡ Some found
  lanes_rows p a j s w t = rows_by
      (names_fault program asm journal (options seeds workers turns) p a j ∙ options_fault s w t)
      (ap (λ from. fold (walked shape.rules []) from (options seeds workers turns))
      (names_walk program asm journal p a j) ∙ options_walk s w t)

  pub lanes_line : IsPlainWord program → IsPlainWord asm → IsPlainWord journal → IsPlainWord seeds
      → IsPlainWord workers → IsPlainWord turns
      → command_of (codes "search" ∷ program ∷ asm ∷ journal ∷ codes "--seeds" ∷ seeds ∷ codes "--workers" ∷ workers
      ∷ codes "--turns" ∷ turns ∷ [])
      ≡ lanes_command program asm journal (lanes_of seeds workers turns)
  unfolding lanes_in
  lanes_line p a j s w t = rw (lanes_rows p a j s w t) refl
