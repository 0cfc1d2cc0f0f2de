-- From lines that lead on to the run of a listing: it ends where the lines behind them end.
use Rattle.std.proofs.Common.{◌≡◌, ℕ, ◌+◌, false, List, [], ◌∷◌, ◌++◌, ap, sym, ◌∙◌, subst}
use Rattle.std.specs.Prelude.{if◌then◌else◌}
use Rattle.base.specs.Options.{pick}
use Rattle.x86_instr.specs.declared.line.Line.{Line}
use Rattle.x86_instr.specs.Listings.{is_ret}
use Rattle.terms.specs.declared.nodes.Node.{Node}
use Rattle.symbolic_state.specs.Symbols.{Symbols}
use Rattle.symbolic_values.specs.Steps.{Step, goes, step_of}
use Rattle.equiv_validator.specs.Runs.{Ended, Stuck, SymbolicRun, run_from}
use Rattle.plain_checks.proofs.Leading.{Goes, Leads}

-- the run ends at `ret`, in a state of which this holds
pub record EndsWell (P : Symbols → Type 0) (run : SymbolicRun) : Type 0 where
  pub last : Symbols
  pub ends : run.ending ≡ Ended last
  pub holds : P last

-- a run over a line that is no `ret` and is not stuck goes on behind it
run_on : (number : ℕ) (line : Line) (lines : List Line) (t u : List Node) (y z : Symbols)
    → is_ret line.instr ≡ false → step_of line.instr t y ≡ goes u z
    → run_from number (line ∷ lines) t y ≡ run_from (number + 1) lines u z
run_on number line lines t u y z on step =
    let next : Step → SymbolicRun = λ s. pick s.state (λ w. run_from (number + 1) lines s.table w)
    (record { table = s.table; ending = Stuck number }) in
    ap (λ b. if b then record { table = t; ending = Ended y } else next (step_of line.instr t y)) on ∙ ap next step

goes_end : (P : Symbols → Type 0) (number : ℕ) (xs ys : List Line) (t : List Node) (y : Symbols)
    (Q : List Node → Symbols → Type 0) → Goes xs t y Q
    → ((n : ℕ) (u : List Node) (z : Symbols) → Q u z → EndsWell P (run_from n ys u z))
    → EndsWell P (run_from number (xs ++ ys) t y)
goes_end P number [] ys t y Q q end = end number t y q
goes_end P number (x ∷ xs) ys t y Q g end =
    subst (EndsWell P) (sym (run_on number x (xs ++ ys) t g.0 y g.1 g.2 g.3))
    (goes_end P (number + 1) xs ys g.0 g.1 Q g.4 end)

-- the run of lines, and of lines behind them, ends as these do
pub leads_end : {P : Symbols → Type 0} {xs : List Line} {t : List Node} {y : Symbols}
    {Q : List Node → Symbols → Type 0} (ys : List Line) (number : ℕ) → Leads xs t y Q
    → ((n : ℕ) (u : List Node) (z : Symbols) → Q u z → EndsWell P (run_from n ys u z))
    → EndsWell P (run_from number (xs ++ ys) t y)
leads_end {P} {xs} {t} {y} {Q} ys number l end = goes_end P number xs ys t y Q l.by end
