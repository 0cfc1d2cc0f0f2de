-- Boards that come later: their entries go on from the earlier ones.
use Rattle.std.proofs.Common.{◌≡◌, ℕ, ◌+◌, ◌≤◌, ◌<◌, List, ◌++◌, sym, ap, subst}
use Rattle.std.proofs.Common.{◌∙◌, arith, inl, inr}
use Rattle.std.proofs.Common.{append_assoc}
use Rattle.std.specs.Prelude.{◌==◌, if◌then◌else◌}
use Rattle.std.proofs.lemmas.Bool.{cases_eq}
use Rattle.std.proofs.lemmas.List.Sums.{sum_by-append}
use Rattle.journal_rules.specs.declared.journal.Entry.{Entry}
use Rattle.journal_rules.specs.Numbers.{Setup}
use Rattle.journal_rules.specs.Legal.{turns_of}
use Rattle.incumbent_board.specs.Views.{BoardView}
use Rattle.search_workers.specs.Later.{IsLater}

pub later_then : (a b c : BoardView) → IsLater a b → IsLater b c → IsLater a c
later_then a b c one two = record {
  setup = two.setup ∙ one.setup;
  entries = (
    one.entries.0 ++ two.entries.0,
    two.entries.1 ∙ (ap (λ (es : List Entry). es ++ two.entries.0) one.entries.1
        ∙ append_assoc a.entries one.entries.0 two.entries.0),
  );
}

-- no lane has fewer turns later
pub later_turns : (a b : BoardView) (lane : ℕ) → IsLater a b → turns_of lane a.entries ≤ turns_of lane b.entries
later_turns a b lane later =
    let more : turns_of lane b.entries ≡ turns_of lane a.entries + turns_of lane later.entries.0 =
    ap (turns_of lane) later.entries.1
    ∙ sum_by-append (λ (e : Entry). if e.lane == lane then 1 else 0) a.entries later.entries.0 in
    omega arith

-- what stands while the turns of lanes are made: all turns of the lanes below this one are
pub record Finishes (old new : BoardView) (lane ops room : ℕ) : Type 0 where
  pub later : IsLater old new
  pub made : (k : ℕ) → k < lane → new.setup.turns ≤ turns_of k new.entries
  pub fits : ops ≤ room

pub finishes_next : (old mid new : BoardView) (lane ops before room : ℕ) → Finishes old mid lane ops before
    → IsLater mid new → room ≡ before → new.setup.turns ≤ turns_of lane new.entries
    → Finishes old new (lane + 1) ops room
finishes_next old mid new lane ops before room so later same all =
    let fits = so.fits in
    record {
      later = later_then old mid new so.later later;
      made = λ k low. elim (cases_eq k lane) [
        | inl here ↦ subst (λ (n : ℕ). new.setup.turns ≤ turns_of n new.entries) (sym here) all
        | inr apart ↦ let turns = ap (λ (s : Setup). s.turns) later.setup in
            let more = later_turns mid new k later in
            let made = so.made k (omega (arith, low, apart)) in
            omega arith
      ];
      fits = omega arith;
    }

-- and of one lane: so many
pub record MakesTurns (old new : BoardView) (lane rounds before room : ℕ) : Type 0 where
  pub later : IsLater old new
  pub made : rounds ≤ turns_of lane new.entries
  pub stays : room ≡ before
