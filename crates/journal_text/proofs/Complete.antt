-- What stands there is read line by line, and each state that a reading comes to can go on to the end of a whole text.
use Rattle.std.proofs.Common.{◌≡◌, ℕ, ◌<◌, ◌≤◌, ◌+◌, ◌*◌, true, List, [], ◌∷◌, ◌++◌, length, map}
use Rattle.std.proofs.Common.{Some, refl, sym, ◌∙◌, ap, arith, append_assoc, subst, length-append, replicate, zero, suc}
use Rattle.std.specs.List.{AllByRecursion}
use Rattle.std.proofs.lemmas.Bool.{le-leb, lt-ltb}
use Rattle.std.proofs.lemmas.List.{append-nil}
use Rattle.hex.specs.Hex.{IsBytes}
use Rattle.asm_tokens.proofs.FirstFault.{reach, finished}
use Rattle.mutations.specs.declared.mutation.Draw.{Draw}
use Rattle.journal_rules.specs.declared.journal.Entry.{Entry}
use Rattle.journal_rules.specs.declared.journal.Journal.{Journal}
use Rattle.journal_text.specs.declared.limits.TheConstants.{MAX_SEEDS, MAX_TURNS, MAX_ENTRIES, MAX_COST}
use Rattle.journal_text.specs.declared.progress.Progress.{Progress}
use Rattle.journal_text.specs.declared.progress.Stage.{Stage}
use Rattle.journal_text.specs.declared.progress.Stage.TheVariants as stages
use Rattle.journal_text.specs.Text.{version_of, first_line, program_line, seeds_line, turns_line, opening_line}
use Rattle.journal_text.specs.Text.{entry_line}
use Rattle.journal_text.specs.Text.{end_line, lines_of}
use Rattle.journal_text.specs.Limits.{IsEntryWithin, IsWithin, IsTyped}
use Rattle.journal_text.specs.Stands.{Stands}
use Rattle.journal_text.specs.Reading.{progress, with_draw, with_digest, with_seeds, with_turns, with_opening}
use Rattle.journal_text.specs.Reading.{with_entry}
use Rattle.journal_text.specs.Reading.{are_few, take_version, take_program, take_seeds, take_turns}
use Rattle.journal_text.specs.Reading.{take_opening, take_entry}
use Rattle.journal_text.specs.Reading.{take_entry_or_end, step, done, start, blank}
use Rattle.journal_text.proofs.SeedsBoth.{IsSmall}
use Rattle.journal_text.proofs.StepsBoth.{draw_back, digest_line_back, seeds_line_back, turns_back, opening_back}
use Rattle.journal_text.proofs.EntriesBoth.{entry_back, entry_no_end}

-- ---- one line

version_step : (j : Journal) (draw : Draw)
    → step (progress stages.Version j) (first_line (version_of draw))
    ≡ Some (progress stages.Program (with_draw draw j))
unfolding step take_version
version_step j draw = rw (draw_back draw) refl

program_step : (j : Journal) (digest : List ℕ) → length digest ≡ 32 → IsBytes digest
    → step (progress stages.Program j) (program_line digest) ≡ Some (progress stages.Seeds (with_digest digest j))
unfolding step take_program
program_step j digest long bytes = rw (digest_line_back digest long bytes) refl

seeds_step : (j : Journal) (seeds : List ℕ) → 1 ≤ length seeds → length seeds ≤ MAX_SEEDS → AllByRecursion IsSmall seeds
    → step (progress stages.Seeds j) (seeds_line seeds) ≡ Some (progress stages.Turns (with_seeds seeds j))
unfolding step take_seeds
seeds_step j seeds some few small = rw (seeds_line_back seeds some few small) refl

few_turns : (seeds turns : ℕ) → turns ≤ MAX_TURNS → seeds * turns ≤ MAX_ENTRIES → are_few seeds turns ≡ true
unfolding are_few
few_turns seeds turns h k = rw (le-leb turns MAX_TURNS h, le-leb (seeds * turns) MAX_ENTRIES k) refl

turns_step : (j : Journal) (turns : ℕ) → turns ≤ MAX_TURNS → length j.seeds * turns ≤ MAX_ENTRIES
    → step (progress stages.Turns j) (turns_line turns) ≡ Some (progress stages.Opening (with_turns turns j))
unfolding step take_turns
turns_step j turns h k = rw (turns_back turns (omega arith), few_turns (length j.seeds) turns h k) refl

opening_step : (j : Journal) (cost : ℕ) → cost ≤ MAX_COST
    → step (progress stages.Opening j) (opening_line cost) ≡ Some (progress stages.Entries (with_opening cost j))
unfolding step take_opening
opening_step j cost h = rw (opening_back cost (omega arith), le-leb cost MAX_COST h) refl

entry_step : (j : Journal) (e : Entry) → length j.entries < MAX_ENTRIES → IsEntryWithin j.draw e
    → step (progress stages.Entries j) (entry_line e) ≡ Some (progress stages.Entries (with_entry e j))
unfolding step take_entry_or_end take_entry
entry_step j e room h =
    rw (entry_no_end e, lt-ltb (length j.entries) MAX_ENTRIES room, entry_back j.draw e h) refl

end_step : (j : Journal) → step (progress stages.Entries j) end_line ≡ Some (progress stages.Done j)
unfolding step take_entry_or_end
end_step j = refl

-- ---- what is left, from each stage

abbrev with_entries : List Entry → Journal → Journal
with_entries entries j = record {
  draw = j.draw;
  digest = j.digest;
  seeds = j.seeds;
  turns = j.turns;
  opening = j.opening;
  entries = entries;
}

-- the lines of the entries and the last line
abbrev last_lines : List Entry → List (List ℕ)
last_lines es = map entry_line es ++ end_line ∷ []

from_entries : (j : Journal) (es : List Entry) → length j.entries + length es ≤ MAX_ENTRIES
    → AllByRecursion (IsEntryWithin j.draw) es
    → finished step done (progress stages.Entries j) (last_lines es) ≡ Some (with_entries (j.entries ++ es) j)
from_entries j [] room h = rw (end_step j, append-nil j.entries) refl
from_entries j (e ∷ es) room h =
    let longer : length (j.entries ++ e ∷ []) + length es ≤ MAX_ENTRIES =
    rw (length-append j.entries (e ∷ [])) (omega arith) in
    rw (entry_step j e (omega arith) h.0)
    (from_entries (with_entry e j) es longer h.1
    ∙ ap (λ xs. Some (with_entries xs j)) (append_assoc j.entries (e ∷ []) es))

from_opening : (j : Journal) (cost : ℕ) (more : List (List ℕ)) → cost ≤ MAX_COST
    → finished step done (progress stages.Opening j) (opening_line cost ∷ more)
    ≡ finished step done (progress stages.Entries (with_opening cost j)) more
from_opening j cost more h = rw (opening_step j cost h) refl

from_turns : (j : Journal) (turns : ℕ) (more : List (List ℕ)) → turns ≤ MAX_TURNS
    → length j.seeds * turns ≤ MAX_ENTRIES
    → finished step done (progress stages.Turns j) (turns_line turns ∷ more)
    ≡ finished step done (progress stages.Opening (with_turns turns j)) more
from_turns j turns more h k = rw (turns_step j turns h k) refl

from_seeds : (j : Journal) (seeds : List ℕ) (more : List (List ℕ)) → 1 ≤ length seeds → length seeds ≤ MAX_SEEDS
    → AllByRecursion IsSmall seeds → finished step done (progress stages.Seeds j) (seeds_line seeds ∷ more)
    ≡ finished step done (progress stages.Turns (with_seeds seeds j)) more
from_seeds j seeds more some few small = rw (seeds_step j seeds some few small) refl

from_program : (j : Journal) (digest : List ℕ) (more : List (List ℕ)) → length digest ≡ 32 → IsBytes digest
    → finished step done (progress stages.Program j) (program_line digest ∷ more)
    ≡ finished step done (progress stages.Seeds (with_digest digest j)) more
from_program j digest more long bytes = rw (program_step j digest long bytes) refl

from_version : (j : Journal) (draw : Draw) (more : List (List ℕ))
    → finished step done (progress stages.Version j) (first_line (version_of draw) ∷ more)
    ≡ finished step done (progress stages.Program (with_draw draw j)) more
from_version j draw more = rw (version_step j draw) refl

-- ---- the whole text

-- the lines of a journal are read as the journal
pub lines_read : (v : Journal) → IsWithin v → IsTyped v → finished step done start (lines_of v) ≡ Some v
lines_read v h t =
    let entries : List (List ℕ) = last_lines v.entries in
    let opening : List (List ℕ) = opening_line v.opening ∷ entries in
    let turns : List (List ℕ) = turns_line v.turns ∷ opening in
    let seeds : List (List ℕ) = seeds_line v.seeds ∷ turns in
    let a = with_draw v.draw blank in
    let b = with_digest v.digest a in
    let c = with_seeds v.seeds b in
    let d = with_turns v.turns c in
    let few : 0 + length v.entries ≤ MAX_ENTRIES = (let k : length v.entries ≤ MAX_ENTRIES = h.count in omega arith) in
    from_version blank v.draw (program_line v.digest ∷ seeds)
    ∙ (from_program a v.digest seeds t.digest t.bytes
    ∙ (from_seeds b v.seeds turns h.lanes.0 h.lanes.1 t.seeds
    ∙ (from_turns c v.turns opening h.turns h.offers
    ∙ (from_opening d v.opening entries h.opening
    ∙ from_entries (with_opening v.opening d) v.entries few h.each))))

pub stands_finished : (lines : List (List ℕ)) (v : Journal) → Stands lines v → finished step done start lines ≡ Some v
stands_finished lines v s =
    let P : List (List ℕ) → Type 0 = λ ls. finished step done start ls ≡ Some v in
    subst P (sym s.spelled) (lines_read v s.within s.typed)

-- ---- each state can go on

abbrev GoesOn : Progress → Type 0
GoesOn t = (more : List (List ℕ)) × (v : Journal) × (finished step done t more ≡ Some v)

-- a line more goes on
one_more : (s t : Progress) (line : List ℕ) → GoesOn t
    → ((more : List (List ℕ)) → finished step done s (line ∷ more) ≡ finished step done t more) → GoesOn s
one_more s t line g h = (line ∷ g.0, g.1, h g.0 ∙ g.2)

done_goes : (j : Journal) → GoesOn (progress stages.Done j)
done_goes j = ([], j, refl)

entries_go : (j : Journal) → GoesOn (progress stages.Entries j)
entries_go j = one_more (progress stages.Entries j) (progress stages.Done j) end_line (done_goes j)
    (λ more. rw (end_step j) refl)

opening_goes : (j : Journal) → GoesOn (progress stages.Opening j)
opening_goes j = one_more (progress stages.Opening j) (progress stages.Entries (with_opening 0 j)) (opening_line 0)
    (entries_go (with_opening 0 j)) (λ more. from_opening j 0 more (omega arith))

no_turns : (seeds : ℕ) → seeds * 0 ≤ MAX_ENTRIES
no_turns seeds = omega arith

turns_go : (j : Journal) → GoesOn (progress stages.Turns j)
turns_go j = one_more (progress stages.Turns j) (progress stages.Opening (with_turns 0 j)) (turns_line 0)
    (opening_goes (with_turns 0 j)) (λ more. from_turns j 0 more (omega arith) (no_turns (length j.seeds)))

seeds_go : (j : Journal) → GoesOn (progress stages.Seeds j)
seeds_go j = one_more (progress stages.Seeds j) (progress stages.Turns (with_seeds (0 ∷ []) j)) (seeds_line (0 ∷ []))
    (turns_go (with_seeds (0 ∷ []) j))
    (λ more. from_seeds j (0 ∷ []) more (omega arith) (omega arith) (omega arith, tt))

-- bytes that are all 0
zeros : (n : ℕ) → IsBytes (replicate n 0)
zeros zero i = omega arith
zeros (suc n) zero = omega arith
zeros (suc n) (suc i) = zeros n i

program_goes : (j : Journal) → GoesOn (progress stages.Program j)
program_goes j =
    one_more (progress stages.Program j) (progress stages.Seeds (with_digest (replicate 32 0) j))
    (program_line (replicate 32 0)) (seeds_go (with_digest (replicate 32 0) j))
    (λ more. from_program j (replicate 32 0) more refl (zeros 32))

version_goes : (j : Journal) → GoesOn (progress stages.Version j)
version_goes j =
    one_more (progress stages.Version j) (progress stages.Program (with_draw j.draw j)) (first_line (version_of j.draw))
    (program_goes (with_draw j.draw j)) (λ more. from_version j j.draw more)

stage_goes : (stage : Stage) (j : Journal) → GoesOn (progress stage j)
stage_goes stages.Version j = version_goes j
stage_goes stages.Program j = program_goes j
stage_goes stages.Seeds j = seeds_go j
stage_goes stages.Turns j = turns_go j
stage_goes stages.Opening j = opening_goes j
stage_goes stages.Entries j = entries_go j
stage_goes stages.Done j = done_goes j

pub goes_on : (lines : List (List ℕ)) (t : Progress) → reach step start lines ≡ Some t → GoesOn t
goes_on lines t e = stage_goes t.stage t.journal
