-- How the code reads; no part of a promise. The reading of a text line by line: which line comes next, and the journal
-- so far.
use Rattle.std.specs.Prelude.{ℕ, Bool, ◌+◌, ◌*◌, ◌==◌, ◌&&◌, nat_le, nat_lt, List, [], ◌∷◌, ◌++◌, length, replicate}
use Rattle.std.specs.Prelude.{Option, Some, None, Result, codes, if◌then◌else◌}
use Rattle.std.specs.Str.{bytes_eq}
use Rattle.base.specs.Options.{◌>>=◌, guard}
use Rattle.asm_tokens.specs.Whole.{read_lines}
use Rattle.mutations.specs.declared.mutation.Draw.{Draw}
use Rattle.mutations.specs.declared.mutation.Draw.TheVariants.{One, Two}
use Rattle.journal_rules.specs.declared.journal.Entry.{Entry}
use Rattle.journal_rules.specs.declared.journal.Journal.{Journal}
use Rattle.journal_text.specs.declared.limits.TheConstants.{MAX_TURNS, MAX_ENTRIES, MAX_COST}
use Rattle.journal_text.specs.declared.progress.Stage.{Stage}
use Rattle.journal_text.specs.declared.progress.Stage.TheVariants as stages
use Rattle.journal_text.specs.declared.progress.Progress.{Progress}
use Rattle.journal_text.specs.Text.{end_line}
use Rattle.journal_text.specs.Lines.{full_lines}
use Rattle.journal_text.specs.Fields.{after, last_word, last_number, digest_of, seeds_of}
use Rattle.journal_text.specs.Entries.{entry_of}

-- ---- the journal, grown by one line

abbrev pub with_draw : Draw → Journal → Journal
with_draw draw j = record {
  draw = draw;
  digest = j.digest;
  seeds = j.seeds;
  turns = j.turns;
  opening = j.opening;
  entries = j.entries;
}

abbrev pub with_digest : List ℕ → Journal → Journal
with_digest digest j = record {
  draw = j.draw;
  digest = digest;
  seeds = j.seeds;
  turns = j.turns;
  opening = j.opening;
  entries = j.entries;
}

abbrev pub with_seeds : List ℕ → Journal → Journal
with_seeds seeds j = record {
  draw = j.draw;
  digest = j.digest;
  seeds = seeds;
  turns = j.turns;
  opening = j.opening;
  entries = j.entries;
}

abbrev pub with_turns : ℕ → Journal → Journal
with_turns turns j = record {
  draw = j.draw;
  digest = j.digest;
  seeds = j.seeds;
  turns = turns;
  opening = j.opening;
  entries = j.entries;
}

abbrev pub with_opening : ℕ → Journal → Journal
with_opening opening j = record {
  draw = j.draw;
  digest = j.digest;
  seeds = j.seeds;
  turns = j.turns;
  opening = opening;
  entries = j.entries;
}

abbrev pub with_entry : Entry → Journal → Journal
with_entry entry j = record {
  draw = j.draw;
  digest = j.digest;
  seeds = j.seeds;
  turns = j.turns;
  opening = j.opening;
  entries = j.entries ++ entry ∷ [];
}

-- ---- one line

abbrev pub progress : Stage → Journal → Progress
progress stage j = record { stage = stage; journal = j }

-- the number of line 1
unfoldable pub version_in : List ℕ → Option ℕ
version_in line = after (codes "cryptopt-journal ") line >>= last_number

unfoldable pub draw_of : ℕ → Option Draw
draw_of version = if version == 1 then Some One else guard (version == 2) Two

unfoldable pub draw_in : List ℕ → Option Draw
draw_in line = version_in line >>= draw_of

unfoldable pub take_version : Journal → List ℕ → Option Progress
take_version j line = draw_in line >>= (λ draw. Some (progress stages.Program (with_draw draw j)))

unfoldable pub digest_in : List ℕ → Option (List ℕ)
digest_in line = after (codes "program ") line >>= last_word >>= digest_of

unfoldable pub take_program : Journal → List ℕ → Option Progress
take_program j line = digest_in line >>= (λ digest. Some (progress stages.Seeds (with_digest digest j)))

unfoldable pub seeds_word : List ℕ → Option (List ℕ)
seeds_word line = after (codes "seeds ") line >>= last_word

unfoldable pub take_seeds : Journal → List ℕ → Option Progress
take_seeds j line = seeds_word line >>= seeds_of >>= (λ seeds. Some (progress stages.Turns (with_seeds seeds j)))

unfoldable pub turns_in : List ℕ → Option ℕ
turns_in line = after (codes "turns ") line >>= last_number

-- so many turns for each of so many seeds are within the limits
unfoldable pub are_few : ℕ → ℕ → Bool
are_few seeds turns = nat_le turns MAX_TURNS && nat_le (seeds * turns) MAX_ENTRIES

unfoldable pub take_turns : Journal → List ℕ → Option Progress
take_turns j line = turns_in line
    >>= (λ turns. guard (are_few (length j.seeds) turns) (progress stages.Opening (with_turns turns j)))

unfoldable pub opening_in : List ℕ → Option ℕ
opening_in line = after (codes "opening ") line >>= last_number

unfoldable pub take_opening : Journal → List ℕ → Option Progress
take_opening j line = opening_in line
    >>= (λ cost. guard (nat_le cost MAX_COST) (progress stages.Entries (with_opening cost j)))

unfoldable pub take_entry : Journal → List ℕ → Option Progress
take_entry j line = if nat_lt (length j.entries) MAX_ENTRIES then
    entry_of j.draw line >>= (λ entry. Some (progress stages.Entries (with_entry entry j)))
    else None

unfoldable pub take_entry_or_end : Journal → List ℕ → Option Progress
take_entry_or_end j line = if bytes_eq line end_line then Some (progress stages.Done j) else take_entry j line

abbrev pub step_at : Stage → Journal → List ℕ → Option Progress
step_at stages.Version j line = take_version j line
step_at stages.Program j line = take_program j line
step_at stages.Seeds j line = take_seeds j line
step_at stages.Turns j line = take_turns j line
step_at stages.Opening j line = take_opening j line
step_at stages.Entries j line = take_entry_or_end j line
step_at stages.Done j line = None

unfoldable pub step : Progress → List ℕ → Option Progress
step s line = step_at s.stage s.journal line

-- ---- the whole text

abbrev pub done_at : Stage → Journal → Option Journal
done_at stages.Version j = None
done_at stages.Program j = None
done_at stages.Seeds j = None
done_at stages.Turns j = None
done_at stages.Opening j = None
done_at stages.Entries j = None
done_at stages.Done j = Some j

abbrev pub done : Progress → Option Journal
done s = done_at s.stage s.journal

abbrev pub blank : Journal
blank = record { draw = One; digest = replicate 32 0; seeds = []; turns = 0; opening = 0; entries = [] }

abbrev pub start : Progress
start = progress stages.Version blank

-- the journal of a text, or the number of its first faulty line
unfoldable pub read_text : List ℕ → Result Journal ℕ
read_text bytes = read_lines step done start (full_lines bytes) 1

-- how many lines a stage stands behind, but for those of entries, plus 1
abbrev pub lines_before : Stage → ℕ
lines_before stages.Version = 1
lines_before stages.Program = 2
lines_before stages.Seeds = 3
lines_before stages.Turns = 4
lines_before stages.Opening = 5
lines_before stages.Entries = 6
lines_before stages.Done = 7

-- the number of the line that comes next
abbrev pub next_number : Progress → ℕ
next_number s = lines_before s.stage + length s.journal.entries

-- ---- the version

-- another version than 1 and 2
unfoldable pub other_in : List ℕ → Option ℕ
other_in line = version_in line >>= (λ n. if n == 1 then None else if n == 2 then None else Some n)

abbrev pub first_other : List (List ℕ) → Option ℕ
first_other [] = None
first_other (line ∷ lines) = other_in line
