-- What is read line by line stands there.
use Rattle.std.proofs.Common.{◌≡◌, ℕ, ◌≤◌, ◌*◌, Bool, true, false, cond, List, [], ◌∷◌, ◌++◌, length, map}
use Rattle.std.proofs.Common.{Some, None, refl, sym, ◌∙◌, ap, arith, append_assoc, subst, length-append, nat_lt}
use Rattle.std.specs.Prelude.{nat_le}
use Rattle.std.specs.List.{AllByRecursion}
use Rattle.std.specs.Str.{bytes_eq}
use Rattle.std.proofs.lemmas.Bool.{and_parts, leb-true, ltb-true}
use Rattle.std.proofs.lemmas.List.{append-nil}
use Rattle.hex.specs.Hex.{IsBytes}
use Rattle.base.specs.Options.{◌>>=◌}
use Rattle.base.proofs.Options.{bind_then, guard_some}
use Rattle.asm_tokens.proofs.FirstFault.{reach, finished}
use Rattle.mutations.specs.declared.mutation.Draw.{Draw}
use Rattle.journal_rules.specs.declared.journal.Entry.{Entry}
use Rattle.journal_rules.specs.declared.journal.Journal.{Journal}
use Rattle.journal_text.specs.declared.limits.TheConstants.{MAX_SEEDS, MAX_TURNS, MAX_ENTRIES, MAX_COST}
use Rattle.journal_text.specs.declared.progress.Progress.{Progress}
use Rattle.journal_text.specs.declared.progress.Stage.{Stage}
use Rattle.journal_text.specs.declared.progress.Stage.TheVariants as stages
use Rattle.journal_text.specs.Text.{version_of, first_line, program_line, seeds_line, turns_line, opening_line}
use Rattle.journal_text.specs.Text.{entry_line}
use Rattle.journal_text.specs.Text.{end_line, lines_of}
use Rattle.journal_text.specs.Limits.{IsEntryWithin}
use Rattle.journal_text.specs.Stands.{Stands}
use Rattle.journal_text.specs.Fields.{seeds_of}
use Rattle.journal_text.specs.Entries.{entry_of}
use Rattle.journal_text.specs.Reading.{progress, with_draw, with_digest, with_seeds, with_turns, with_opening}
use Rattle.journal_text.specs.Reading.{with_entry}
use Rattle.journal_text.specs.Reading.{draw_in, digest_in, seeds_word, turns_in, opening_in, are_few, take_version}
use Rattle.journal_text.specs.Reading.{take_program, take_seeds, take_turns, take_opening, take_entry}
use Rattle.journal_text.specs.Reading.{take_entry_or_end}
use Rattle.journal_text.specs.Reading.{step_at, step, done_at, done, start}
use Rattle.journal_text.proofs.Cuts.{equal_by_bytes}
use Rattle.journal_text.proofs.SeedsBoth.{IsSmall}
use Rattle.journal_text.proofs.StepsBoth.{draw_is, digest_line_is, seeds_line_is, turns_is, opening_is}
use Rattle.journal_text.proofs.EntriesBoth.{entry_is}

-- ---- what a journal has by now

pub record HasDigest (digest : List ℕ) : Type 0 where
  pub long : length digest ≡ 32
  pub bytes : IsBytes digest

pub record HasSeeds (seeds : List ℕ) : Type 0 where
  pub some : 1 ≤ length seeds
  pub few : length seeds ≤ MAX_SEEDS
  pub small : AllByRecursion IsSmall seeds

pub record HasTurns (seeds : List ℕ) (turns : ℕ) : Type 0 where
  pub few : turns ≤ MAX_TURNS
  pub offers : length seeds * turns ≤ MAX_ENTRIES

pub record AreEntries (draw : Draw) (es : List Entry) : Type 0 where
  pub few : length es ≤ MAX_ENTRIES
  pub each : AllByRecursion (IsEntryWithin draw) es

pub record HasAll (j : Journal) : Type 0 where
  pub digest : HasDigest j.digest
  pub seeds : HasSeeds j.seeds
  pub turns : HasTurns j.seeds j.turns
  pub opening : j.opening ≤ MAX_COST
  pub entries : AreEntries j.draw j.entries

abbrev pub Good : Stage → Journal → Type 0
Good stages.Version j = j.entries ≡ []
Good stages.Program j = j.entries ≡ []
Good stages.Seeds j = (j.entries ≡ []) × HasDigest j.digest
Good stages.Turns j = (j.entries ≡ []) × HasDigest j.digest × HasSeeds j.seeds
Good stages.Opening j = (j.entries ≡ []) × HasDigest j.digest × HasSeeds j.seeds × HasTurns j.seeds j.turns
Good stages.Entries j = HasAll j
Good stages.Done j = HasAll j

-- the lines that lead there
abbrev pub lines_to : Stage → Journal → List (List ℕ)
lines_to stages.Version j = []
lines_to stages.Program j = first_line (version_of j.draw) ∷ []
lines_to stages.Seeds j = first_line (version_of j.draw) ∷ program_line j.digest ∷ []
lines_to stages.Turns j = first_line (version_of j.draw) ∷ program_line j.digest ∷ seeds_line j.seeds ∷ []
lines_to stages.Opening j =
    first_line (version_of j.draw) ∷ program_line j.digest ∷ seeds_line j.seeds ∷ turns_line j.turns ∷ []
lines_to stages.Entries j = first_line (version_of j.draw) ∷ program_line j.digest ∷ seeds_line j.seeds
    ∷ turns_line j.turns ∷ opening_line j.opening ∷ map entry_line j.entries
lines_to stages.Done j = lines_of j

pub record Led (lines : List (List ℕ)) (t : Progress) : Type 0 where
  pub spelled : lines ≡ lines_to t.stage t.journal
  pub good : Good t.stage t.journal

to_led : (lines : List (List ℕ)) (t u : Progress) → Led lines t → Some t ≡ Some u → Led lines u
to_led lines t u h e = let same : t ≡ u = cc in let P : Progress → Type 0 = λ v. Led lines v in subst P same h

-- ---- lists that grow

map_push : (es : List Entry) (e : Entry) → map entry_line (es ++ e ∷ []) ≡ map entry_line es ++ entry_line e ∷ []
map_push [] e = refl
map_push (x ∷ xs) e = ap (λ ls. entry_line x ∷ ls) (map_push xs e)

pub all_push : {A : Type 0} (P : A → Type 0) (xs : List A) (x : A) → AllByRecursion P xs → P x
    → AllByRecursion P (xs ++ x ∷ [])
all_push P [] x h p = (p, tt)
all_push P (y ∷ ys) x h p = (h.0, all_push P ys x h.1 p)

-- ---- one line

turns_few : (seeds turns : ℕ) → are_few seeds turns ≡ true → (turns ≤ MAX_TURNS) × (seeds * turns ≤ MAX_ENTRIES)
unfolding are_few
turns_few seeds turns h =
    let parts = and_parts (nat_le turns MAX_TURNS) (nat_le (seeds * turns) MAX_ENTRIES) h in
    (leb-true turns MAX_TURNS parts.0, leb-true (seeds * turns) MAX_ENTRIES parts.1)

-- the first lines, and one more
abbrev before : Journal → List (List ℕ) → List (List ℕ)
before j more = first_line (version_of j.draw) ∷ program_line j.digest ∷ seeds_line j.seeds
    ∷ turns_line j.turns ∷ opening_line j.opening ∷ more

entry_led : (j : Journal) (line : List ℕ) (t : Progress) → HasAll j → take_entry j line ≡ Some t
    → Led (lines_to stages.Entries j ++ line ∷ []) t
unfolding take_entry
entry_led j line t all e = by_test (nat_lt (length j.entries) MAX_ENTRIES) refl e
  where
    by_test : (b : Bool) → nat_lt (length j.entries) MAX_ENTRIES ≡ b
        → cond b (entry_of j.draw line >>= (λ entry. Some (progress stages.Entries (with_entry entry j)))) None ≡ Some t
        → Led (lines_to stages.Entries j ++ line ∷ []) t
    by_test false is f = cc
    by_test true is f = bind_then (entry_of j.draw line) _ t (Led (lines_to stages.Entries j ++ line ∷ []) t)
        (λ entry read same.
        let room = ltb-true (length j.entries) MAX_ENTRIES is in
        let long = length-append j.entries (entry ∷ []) in
        let h = entry_is j.draw line entry read in
        to_led (lines_to stages.Entries j ++ line ∷ []) (progress stages.Entries (with_entry entry j)) t (record {
          spelled = ap (before j)
              (ap (λ l. map entry_line j.entries ++ l ∷ []) h.0 ∙ sym (map_push j.entries entry));
          good = record {
            digest = all.digest;
            seeds = all.seeds;
            turns = all.turns;
            opening = all.opening;
            entries = record {
              few = omega (arith, long, room);
              each = all_push (IsEntryWithin j.draw) j.entries entry all.entries.each h.1;
            };
          };
        }) same) f

end_led : (j : Journal) (line : List ℕ) (t : Progress) → HasAll j → take_entry_or_end j line ≡ Some t
    → Led (lines_to stages.Entries j ++ line ∷ []) t
unfolding take_entry_or_end
end_led j line t all e = by_test (bytes_eq line end_line) refl e
  where
    by_test : (b : Bool) → bytes_eq line end_line ≡ b
        → cond b (Some (progress stages.Done j)) (take_entry j line) ≡ Some t
        → Led (lines_to stages.Entries j ++ line ∷ []) t
    by_test true is f = to_led (lines_to stages.Entries j ++ line ∷ []) (progress stages.Done j) t (record {
      spelled = ap (λ l. before j (map entry_line j.entries ++ l ∷ [])) (equal_by_bytes line end_line is);
      good = all;
    }) f
    by_test false is f = entry_led j line t all f

step_led : (stage : Stage) (j : Journal) (line : List ℕ) (t : Progress) → Good stage j → step_at stage j line ≡ Some t
    → Led (lines_to stage j ++ line ∷ []) t
unfolding take_version take_program take_seeds take_turns take_opening
step_led stages.Version j line t good e = bind_then (draw_in line) _ t (Led (line ∷ []) t) (λ draw is same.
    to_led (line ∷ []) (progress stages.Program (with_draw draw j)) t (record {
      spelled = ap (λ l. l ∷ []) (draw_is line draw is);
      good = good;
    }) same) e
step_led stages.Program j line t good e =
    let ls : List (List ℕ) = first_line (version_of j.draw) ∷ line ∷ [] in
    bind_then (digest_in line) _ t (Led ls t) (λ digest is same.
    let h = digest_line_is line digest is in
    to_led ls (progress stages.Seeds (with_digest digest j)) t (record {
      spelled = ap (λ l. first_line (version_of j.draw) ∷ l ∷ []) h.0;
      good = (good, record { long = h.1; bytes = h.2 });
    }) same) e
step_led stages.Seeds j line t good e =
    let ls : List (List ℕ) = first_line (version_of j.draw) ∷ program_line j.digest ∷ line ∷ [] in
    bind_then (seeds_word line >>= seeds_of) _ t (Led ls t) (λ seeds is same.
    let h = seeds_line_is line seeds is in
    to_led ls (progress stages.Turns (with_seeds seeds j)) t (record {
      spelled = ap (λ l. first_line (version_of j.draw) ∷ program_line j.digest ∷ l ∷ []) h.0;
      good = (good.0, good.1, record { some = h.1; few = h.2; small = h.3 });
    }) same) e
step_led stages.Turns j line t good e =
    let ls : List (List ℕ) = first_line (version_of j.draw) ∷ program_line j.digest ∷ seeds_line j.seeds ∷ line ∷ [] in
    bind_then (turns_in line) _ t (Led ls t) (λ turns is passes.
    let h = turns_is line turns is in
    let g = guard_some (are_few (length j.seeds) turns) (progress stages.Opening (with_turns turns j)) t passes in
    to_led ls (progress stages.Opening (with_turns turns j)) t (record {
      spelled = ap
          (λ l. first_line (version_of j.draw) ∷ program_line j.digest ∷ seeds_line j.seeds ∷ l ∷ []) h;
      good = (
        good.0,
        good.1,
        good.2,
        record {
          few = (turns_few (length j.seeds) turns g.0).0;
          offers = (turns_few (length j.seeds) turns g.0).1;
        },
      );
    }) (ap (λ u. Some u) g.1)) e
step_led stages.Opening j line t good e =
    let ls : List (List ℕ) = first_line (version_of j.draw) ∷ program_line j.digest ∷ seeds_line j.seeds
    ∷ turns_line j.turns ∷ line ∷ [] in
    bind_then (opening_in line) _ t (Led ls t) (λ cost is passes.
    let h = opening_is line cost is in
    let g = guard_some (nat_le cost MAX_COST) (progress stages.Entries (with_opening cost j)) t passes in
    to_led ls (progress stages.Entries (with_opening cost j)) t (record {
      spelled = ap (λ l. first_line (version_of j.draw) ∷ program_line j.digest ∷ seeds_line j.seeds
          ∷ turns_line j.turns ∷ l ∷ []) h
          ∙ ap (λ es. before (with_opening cost j) (map entry_line es)) (sym good.0);
      good = record {
        digest = good.1;
        seeds = good.2;
        turns = good.3;
        opening = leb-true cost MAX_COST g.0;
        entries = no_entries j good.0;
      };
    }) (ap (λ u. Some u) g.1)) e
  where
    no_entries : (j : Journal) → j.entries ≡ [] → AreEntries j.draw j.entries
    no_entries j none =
        let P : List Entry → Type 0 = λ es. AreEntries j.draw es in
        subst P (sym none) (record { few = omega arith; each = tt })
step_led stages.Entries j line t good e = end_led j line t good e
step_led stages.Done j line t good e = cc

led_step : (lines : List (List ℕ)) (s t : Progress) (line : List ℕ) → Led lines s → step s line ≡ Some t
    → Led (lines ++ line ∷ []) t
unfolding step
led_step lines s t line led e =
    let P : List (List ℕ) → Type 0 = λ ls. Led (ls ++ line ∷ []) t in
    subst P (sym led.spelled) (step_led s.stage s.journal line t led.good e)

led_reach : (lines more : List (List ℕ)) (s t : Progress) → Led lines s → reach step s more ≡ Some t
    → Led (lines ++ more) t
led_reach lines [] s t led e =
    let P : List (List ℕ) → Type 0 = λ ls. Led ls t in
    subst P (sym (append-nil lines)) (to_led lines s t led e)
led_reach lines (line ∷ more) s t led e =
    bind_then (step s line) (λ u. reach step u more) t (Led (lines ++ line ∷ more) t) (λ u is goes.
    let P : List (List ℕ) → Type 0 = λ ls. Led ls t in
    subst P (append_assoc lines (line ∷ []) more)
    (led_reach (lines ++ line ∷ []) more u t (led_step lines s u line led is) goes)) e

pub reach_led : (lines : List (List ℕ)) (t : Progress) → reach step start lines ≡ Some t → Led lines t
reach_led lines t e = led_reach [] lines start t (record { spelled = refl; good = refl }) e

-- ---- the whole text

all_stands : (lines : List (List ℕ)) (j : Journal) → lines ≡ lines_of j → HasAll j → Stands lines j
all_stands lines j spelled all = record {
  spelled = spelled;
  within = record {
    lanes = (all.seeds.some, all.seeds.few);
    turns = all.turns.few;
    offers = all.turns.offers;
    opening = all.opening;
    count = all.entries.few;
    each = all.entries.each;
  };
  typed = record { digest = all.digest.long; bytes = all.digest.bytes; seeds = all.seeds.small };
}

done_stands : (stage : Stage) (lines : List (List ℕ)) (j v : Journal) → lines ≡ lines_to stage j → Good stage j
    → done_at stage j ≡ Some v → Stands lines v
done_stands stages.Version lines j v spelled good e = cc
done_stands stages.Program lines j v spelled good e = cc
done_stands stages.Seeds lines j v spelled good e = cc
done_stands stages.Turns lines j v spelled good e = cc
done_stands stages.Opening lines j v spelled good e = cc
done_stands stages.Entries lines j v spelled good e = cc
done_stands stages.Done lines j v spelled good e =
    let same : j ≡ v = cc in
    let P : Journal → Type 0 = λ k. Stands lines k in
    subst P same (all_stands lines j spelled good)

pub finished_stands : (lines : List (List ℕ)) (v : Journal) → finished step done start lines ≡ Some v → Stands lines v
finished_stands lines v e = bind_then (reach step start lines) done v (Stands lines v) (λ t is ends.
    let led = reach_led lines t is in
    done_stands t.stage lines t.journal v led.spelled led.good ends) e
