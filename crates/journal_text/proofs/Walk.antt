-- The reading of a text, line by line.
use Rattle.std.proofs.Common.{◌≡◌, ℕ, ◌+◌, ◌≤◌, Bool, true, false, cond, List, [], ◌∷◌, length, Some, None}
use Rattle.std.proofs.Common.{Ok, Err, refl, ap, arith, subst, length-append, nat_lt}
use Rattle.std.specs.Str.{bytes_eq}
use Rattle.std.proofs.lemmas.Bool.{ltb-true}
use Rattle.base.specs.Options.{◌>>=◌}
use Rattle.base.proofs.Options.{bind_then, guard_some}
use Rattle.asm_tokens.specs.Whole.{read_lines}
use Rattle.journal_rules.specs.declared.journal.Journal.{Journal}
use Rattle.journal_text.specs.declared.limits.TheConstants.{MAX_ENTRIES}
use Rattle.journal_text.specs.declared.progress.Progress.{Progress}
use Rattle.journal_text.specs.declared.progress.Stage.{Stage}
use Rattle.journal_text.specs.declared.progress.Stage.TheVariants as stages
use Rattle.journal_text.specs.Text.{end_line}
use Rattle.journal_text.specs.Lines.{full_lines}
use Rattle.journal_text.specs.Entries.{entry_of}
use Rattle.journal_text.specs.Reading.{progress, with_draw, with_digest, with_seeds, with_turns, with_opening}
use Rattle.journal_text.specs.Reading.{with_entry}
use Rattle.journal_text.specs.Reading.{draw_in, digest_in, seeds_word, turns_in, opening_in, take_version}
use Rattle.journal_text.specs.Reading.{take_program, take_seeds, take_turns, take_opening, take_entry}
use Rattle.journal_text.specs.Reading.{take_entry_or_end}
use Rattle.journal_text.specs.Reading.{step_at, step, done, next_number}
use Rattle.journal_text.specs.Fields.{seeds_of}

-- the next line is read
pub read_next : (rest more line : List ℕ) (s t : Progress) (n : ℕ) → full_lines rest ≡ line ∷ full_lines more
    → step s line ≡ Some t
    → read_lines step done s (full_lines rest) n ≡ read_lines step done t (full_lines more) (n + 1)
read_next rest more line s t n first goes = rw (first, goes) refl

-- the next line is faulty
pub read_stop : (rest more line : List ℕ) (s : Progress) (n : ℕ) → full_lines rest ≡ line ∷ full_lines more
    → step s line ≡ None → read_lines step done s (full_lines rest) n ≡ Err n
read_stop rest more line s n first none = rw (first, none) refl

-- the text ends behind its last line
pub read_done : (rest : List ℕ) (s : Progress) (n : ℕ) (j : Journal) → full_lines rest ≡ [] → done s ≡ Some j
    → read_lines step done s (full_lines rest) n ≡ Ok j
read_done rest s n j end is = rw (end, is) refl

-- the text ends early
pub read_short : (rest : List ℕ) (s : Progress) (n : ℕ) → full_lines rest ≡ [] → done s ≡ None
    → read_lines step done s (full_lines rest) n ≡ Err n
read_short rest s n end none = rw (end, none) refl

-- ---- the number of the next line

-- a line was counted, and there are no more entries than there may be
abbrev pub IsCounted : Progress → Progress → Type 0
IsCounted s t = (next_number t ≡ next_number s + 1) × (length t.journal.entries ≤ MAX_ENTRIES)

-- what a step leads to
to_progress : (s t u : Progress) → IsCounted s t → Some t ≡ Some u → IsCounted s u
to_progress s t u h e = let same : t ≡ u = cc in let P : Progress → Type 0 = λ v. IsCounted s v in subst P same h

entry_counted : (j : Journal) (line : List ℕ) (t : Progress) → take_entry j line ≡ Some t
    → IsCounted (progress stages.Entries j) t
unfolding take_entry
entry_counted j line t e = by_test (nat_lt (length j.entries) MAX_ENTRIES) refl e
  where
    by_test : (b : Bool) → nat_lt (length j.entries) MAX_ENTRIES ≡ b
        → cond b (entry_of j.draw line >>= (λ entry. Some (progress stages.Entries (with_entry entry j)))) None ≡ Some t
        → IsCounted (progress stages.Entries j) t
    by_test false is f = cc
    by_test true is f = bind_then (entry_of j.draw line) _ t (IsCounted (progress stages.Entries j) t)
        (λ entry read same.
        let room = ltb-true (length j.entries) MAX_ENTRIES is in
        let long = length-append j.entries (entry ∷ []) in
        to_progress (progress stages.Entries j) (progress stages.Entries (with_entry entry j)) t
        (omega (arith, long), omega (arith, long, room)) same) f

end_counted : (j : Journal) (line : List ℕ) (t : Progress) → length j.entries ≤ MAX_ENTRIES
    → take_entry_or_end j line ≡ Some t → IsCounted (progress stages.Entries j) t
unfolding take_entry_or_end
end_counted j line t few e = by_test (bytes_eq line end_line) e
  where
    by_test : (b : Bool) → cond b (Some (progress stages.Done j)) (take_entry j line) ≡ Some t
        → IsCounted (progress stages.Entries j) t
    by_test true f = to_progress (progress stages.Entries j) (progress stages.Done j) t (omega arith, few) f
    by_test false f = entry_counted j line t f

at_counted : (stage : Stage) (j : Journal) (line : List ℕ) (t : Progress) → length j.entries ≤ MAX_ENTRIES
    → step_at stage j line ≡ Some t → IsCounted (progress stage j) t
unfolding take_version take_program take_seeds take_turns take_opening
at_counted stages.Version j line t few e = bind_then (draw_in line) _ t (IsCounted (progress stages.Version j) t)
    (λ draw is same. to_progress (progress stages.Version j) (progress stages.Program (with_draw draw j)) t
    (omega arith, few) same) e
at_counted stages.Program j line t few e = bind_then (digest_in line) _ t (IsCounted (progress stages.Program j) t)
    (λ digest is same. to_progress (progress stages.Program j) (progress stages.Seeds (with_digest digest j)) t
    (omega arith, few) same) e
at_counted stages.Seeds j line t few e =
    bind_then (seeds_word line >>= seeds_of) _ t (IsCounted (progress stages.Seeds j) t)
    (λ seeds is same. to_progress (progress stages.Seeds j) (progress stages.Turns (with_seeds seeds j)) t
    (omega arith, few) same) e
at_counted stages.Turns j line t few e = bind_then (turns_in line) _ t (IsCounted (progress stages.Turns j) t)
    (λ turns is same. to_progress (progress stages.Turns j) (progress stages.Opening (with_turns turns j)) t
    (omega arith, few) (ap (λ u. Some u) (guard_some _ _ t same).1)) e
at_counted stages.Opening j line t few e = bind_then (opening_in line) _ t (IsCounted (progress stages.Opening j) t)
    (λ cost is same. to_progress (progress stages.Opening j) (progress stages.Entries (with_opening cost j)) t
    (omega arith, few) (ap (λ u. Some u) (guard_some _ _ t same).1)) e
at_counted stages.Entries j line t few e = end_counted j line t few e
at_counted stages.Done j line t few e = cc

pub counted : (s t : Progress) (line : List ℕ) → length s.journal.entries ≤ MAX_ENTRIES → step s line ≡ Some t
    → next_number t ≡ next_number s + 1
unfolding step
counted s t line few e = (at_counted s.stage s.journal line t few e).0

pub stays_few : (s t : Progress) (line : List ℕ) → length s.journal.entries ≤ MAX_ENTRIES → step s line ≡ Some t
    → length t.journal.entries ≤ MAX_ENTRIES
unfolding step
stays_few s t line few e = (at_counted s.stage s.journal line t few e).1

pub ruleset reading_steps = (read_next, read_stop, read_done, read_short, counted, stays_few)
