-- The run of a proved listing, line by line: where the symbolic run ends, the machine's run does, and the two states
-- agree all along.
use Rattle.std.proofs.Common.{◌≡◌, ℕ, ◌+◌, Bool, true, false, List, [], ◌∷◌, Option, Some, None, refl, sym, ap, ◌∙◌}
use Rattle.std.proofs.Common.{subst}
use Rattle.std.proofs.Common.{◌<◌, drop, get_or, length, Result, Ok, Err}
use Rattle.std.proofs.lemmas.List.{drop_more}
use Rattle.std.specs.Prelude.{OnErr}
use Rattle.std.specs.Prelude.{MatchOption, if◌then◌else◌}
use Rattle.std.specs.Bool.{MatchBool}
use Rattle.base.specs.Options.{pick}
use Rattle.word_program.specs.Program.{Source}
use Rattle.x86_instr.specs.declared.instr.Instr.{Instr}
use Rattle.x86_instr.specs.declared.line.Line.{Line}
use Rattle.x86_instr.specs.Fits.{FitsInstr, FitsLines}
use Rattle.x86_instr.specs.Frame.{frame_of}
use Rattle.x86_instr.specs.Listings.{is_ret}
use Rattle.x86_meaning.specs.declared.state.State.{State}
use Rattle.x86_meaning.specs.Correct.{Keeps}
use Rattle.x86_meaning.specs.Machine as machine
use Rattle.x86_meaning.specs.Runs.{Runs}
use Rattle.x86_meaning.specs.Start.{IsStart}
use Rattle.terms.specs.declared.nodes.Form.{Form}
use Rattle.terms.specs.declared.nodes.Node.{Node}
use Rattle.terms.specs.Grown.{IsGrown}
use Rattle.terms.specs.Meaning.{IsSound, IsValuation}
use Rattle.terms.specs.Tables.{IsTable, Prefix}
use Rattle.symbolic_state.specs.Symbols.{Symbols}
use Rattle.symbolic_state.specs.Fitting.{FitsTable, HasShape}
use Rattle.symbolic_state.specs.Agreeing.{Agrees, start_of}
use Rattle.symbolic_values.specs.Steps.{step_of}
use Rattle.term_store.proofs.Prefixes.{prefix_refl, prefix_trans, sound_front, valuation_front}
use Rattle.symbolic_values.proofs.Covered.{covers, step_fits, step_grown, step_table}
use Rattle.symbolic_values.proofs.StepRows.{IsPlain}
use Rattle.symbolic_values.proofs.StepTables.{step_prefix, step_shape}
use Rattle.equiv_validator.specs.Runs.{Ended, Stuck, SymbolicRun, run_from}

stuck_is_not_ended : (n : ℕ) (y : Symbols) → Stuck n ≡ Ended y → ⊥
stuck_is_not_ended n y e = cc

ended_inj : (y z : Symbols) → Ended y ≡ Ended z → y ≡ z
ended_inj y z e = cc

-- what is so, is so where there is an error
pub on_err : {A E : Type 0} {P : Type 0} (r : Result A E) → P → OnErr r P
on_err (Ok x) p = tt
on_err (Err e) p = p

-- by cases of a test
by_ret : {A : Type 0} (P : A → Type 0) (b : Bool) (x y : A) → (b ≡ true → P x) → (b ≡ false → P y)
    → P (if b then x else y)
by_ret P true x y f g = f refl
by_ret P false x y f g = g refl

-- the rest of a run, by what the step gives
abbrev go_on : ℕ → List Line → List Node → Option Symbols → SymbolicRun
go_on n more table state = pick state (λ z. run_from (n + 1) more table z) (record { table = table; ending = Stuck n })

-- a run that has come to `ret`
abbrev at_ret : List Node → Symbols → SymbolicRun
at_ret table y = record { table = table; ending = Ended y }

prefix_on : (n : ℕ) (more : List Line) (t u : List Node) (state : Option Symbols) → Prefix t u
    → ((z : Symbols) → Prefix u (run_from (n + 1) more u z).table) → Prefix t (go_on n more u state).table
prefix_on n more t u None p rest = p
prefix_on n more t u (Some z) p rest = prefix_trans p (rest z)

pub run_prefix : (lines : List Line) (n : ℕ) (t : List Node) (y : Symbols) → Prefix t (run_from n lines t y).table
run_prefix [] n t y = prefix_refl t
run_prefix (line ∷ more) n t y =
    by_ret (λ (r : SymbolicRun). Prefix t r.table) (is_ret line.instr) (at_ret t y)
    (go_on n more (step_of line.instr t y).table (step_of line.instr t y).state) (λ _. prefix_refl t)
    (λ _. prefix_on n more t (step_of line.instr t y).table (step_of line.instr t y).state (step_prefix line.instr t y)
    (λ z. run_prefix more (n + 1) (step_of line.instr t y).table z))

-- a first part of a step's table is one of the run's
part_on : {u : List Node} (n : ℕ) (more : List Line) (t : List Node) (state : Option Symbols) → Prefix u t
    → Prefix u (go_on n more t state).table
part_on n more t None p = p
part_on n more t (Some z) p = prefix_trans p (run_prefix more (n + 1) t z)

true_is_not_false : true ≡ false → ⊥
true_is_not_false e = cc

line_part : {u : List Node} (line : Line) (more : List Line) (n : ℕ) (t : List Node) (y : Symbols)
    → is_ret line.instr ≡ false → Prefix u (step_of line.instr t y).table
    → Prefix u (run_from n (line ∷ more) t y).table
line_part {u} line more n t y other p =
    by_ret (λ (r : SymbolicRun). Prefix u r.table) (is_ret line.instr) (at_ret t y)
    (go_on n more (step_of line.instr t y).table (step_of line.instr t y).state)
    (λ yes. absurd (true_is_not_false (sym yes ∙ other)))
    (λ _. part_on n more (step_of line.instr t y).table (step_of line.instr t y).state p)

-- the same of a run of which the line that steps is next
pub run_part : {u : List Node} (lines : List Line) (i n : ℕ) (line : Line) (t v : List Node) (y z : Symbols)
    → i < length lines → line ≡ get_or lines i line → is_ret line.instr ≡ false
    → run_from n (drop i lines) v z ≡ run_from 1 lines t y → Prefix u (step_of line.instr v z).table
    → Prefix u (run_from 1 lines t y).table
run_part {u} lines i n line t v y z inside is other same p =
    subst (λ (r : SymbolicRun). Prefix u r.table)
    (ap (λ (l : Line). run_from n (l ∷ drop (i + 1) lines) v z) is
    ∙ sym (ap (λ (ls : List Line). run_from n ls v z) (drop_more lines i line inside)) ∙ same)
    (line_part line (drop (i + 1) lines) n v z other p)

-- a run keeps the shape of its states
shape_on : (program : Source) (frame n : ℕ) (more : List Line) (u : List Node) (state : Option Symbols) (last : Symbols)
    → (go_on n more u state).ending ≡ Ended last
    → ((z : Symbols) → state ≡ Some z → (run_from (n + 1) more u z).ending ≡ Ended last → HasShape program frame last)
    → HasShape program frame last
shape_on program frame n more u None last e rest = absurd (stuck_is_not_ended n last e)
shape_on program frame n more u (Some z) last e rest = rest z refl e

pub run_shape : (program : Source) (frame : ℕ) (lines : List Line) (n : ℕ) (t : List Node) (y last : Symbols)
    → HasShape program frame y → (run_from n lines t y).ending ≡ Ended last → HasShape program frame last
run_shape program frame [] n t y last h e = absurd (stuck_is_not_ended n last e)
run_shape program frame (line ∷ more) n t y last h e =
    by_ret (λ (r : SymbolicRun). r.ending ≡ Ended last → HasShape program frame last) (is_ret line.instr) (at_ret t y)
    (go_on n more (step_of line.instr t y).table (step_of line.instr t y).state)
    (λ _ f. subst (HasShape program frame) (ended_inj y last f) h)
    (λ _ f. shape_on program frame n more (step_of line.instr t y).table (step_of line.instr t y).state last f
    (λ z q g. run_shape program frame more (n + 1) (step_of line.instr t y).table z last
    (step_shape program frame line.instr t y z h q) g)) e

-- the tables of a run are tables that the rules have made
module _ (P : Form → Type 0) (plain : (f : Form) → IsPlain f → P f) where
  grown_on : (n : ℕ) (more : List Line) (u : List Node) (state : Option Symbols) → IsTable u → IsGrown P u
      → ((z : Symbols) → state ≡ Some z → IsTable (run_from (n + 1) more u z).table
      × IsGrown P (run_from (n + 1) more u z).table)
      → IsTable (go_on n more u state).table × IsGrown P (go_on n more u state).table
  grown_on n more u None o g rest = (o, g)
  grown_on n more u (Some z) o g rest = rest z refl

  pub run_grown : (lines : List Line) (n : ℕ) (t : List Node) (y : Symbols) → FitsLines lines → IsTable t
      → FitsTable t y → IsGrown P t → IsTable (run_from n lines t y).table × IsGrown P (run_from n lines t y).table
  run_grown [] n t y l o f g = (o, g)
  run_grown (line ∷ more) n t y l o f g =
      by_ret (λ (r : SymbolicRun). IsTable r.table × IsGrown P r.table) (is_ret line.instr) (at_ret t y)
      (go_on n more (step_of line.instr t y).table (step_of line.instr t y).state) (λ _. (o, g))
      (λ _. grown_on n more (step_of line.instr t y).table (step_of line.instr t y).state
      (step_table line.instr t y l.0 o f) (step_grown line.instr t y l.0 o f P plain g)
      (λ z q. run_grown more (n + 1) (step_of line.instr t y).table z l.2 (step_table line.instr t y l.0 o f)
      (step_fits line.instr t y l.0 o f z q) (step_grown line.instr t y l.0 o f P plain g)))

module _ (program : Source) (lines : List Line) (inputs : List ℕ) (first : State)
    (begins : IsStart program lines inputs first) (val : ℕ → ℕ) (T : List Node)
    (valued : IsValuation (start_of program.params inputs first) T val) (sound : IsSound T val) (last : Symbols)
    (Q : State → Type 0)
    (returns : HasShape program (frame_of lines) last → (u : State) → Agrees program (frame_of lines) first val last u
    → Q u)
  where
    abbrev Kept : State → Type 0
    Kept t = Keeps program.params (frame_of lines) first t.cells

    -- the symbolic run from here leaves a table that begins T, and ends in `last`; the two states agree
    abbrev Goes : List Line → ℕ → List Node → Symbols → State → Type 0
    Goes rest n t y s = FitsLines rest → IsTable t → FitsTable t y → HasShape program (frame_of lines) y
        → Prefix (run_from n rest t y).table T → Agrees program (frame_of lines) first val y s
        → (run_from n rest t y).ending ≡ Ended last → Runs Kept Q rest s

    on_state : (i : Instr) (more : List Line) (n : ℕ) (t : List Node) (y : Symbols) (s : State) → FitsInstr i
        → FitsLines more → IsTable t
        → FitsTable t y → HasShape program (frame_of lines) y → Agrees program (frame_of lines) first val y s
        → ((z : Symbols) (u : State) → Goes more (n + 1) (step_of i t y).table z u)
        → (state : Option Symbols) → (step_of i t y).state ≡ state
        → Prefix (go_on n more (step_of i t y).table state).table T
        → (go_on n more (step_of i t y).table state).ending ≡ Ended last
        → MatchOption (machine.step_of i s) ⊥ (λ u. Runs Kept Q more u)
    on_state i more n t y s g l o f h a rest None q p e = absurd (stuck_is_not_ended n last e)
    on_state i more n t y s g l o f h a rest (Some z) q p e =
        let next = (step_of i t y).table in
        let front : Prefix (step_of i t y).table T =
        prefix_trans (run_prefix more (n + 1) (step_of i t y).table z) p in
        let c = covers i t y g o f program lines inputs first s val begins h z q
        (valuation_front front valued)
        (sound_front front sound) a in
        subst (λ (found : Option State). MatchOption found ⊥ (λ u. Runs Kept Q more u)) (sym c.goes)
        (rest z c.next l (step_table i t y g o f) (step_fits i t y g o f z q)
        (step_shape program (frame_of lines) i t y z h q) p c.agrees e)

    on_ret : (i : Instr) (more : List Line) (n : ℕ) (t : List Node) (y : Symbols) (s : State) → FitsInstr i
        → FitsLines more → IsTable t
        → FitsTable t y → HasShape program (frame_of lines) y → Agrees program (frame_of lines) first val y s
        → ((z : Symbols) (u : State) → Goes more (n + 1) (step_of i t y).table z u)
        → (b : Bool)
        → Prefix (if b then at_ret t y
        else go_on n more (step_of i t y).table (step_of i t y).state).table T
        → (if b then at_ret t y
        else go_on n more (step_of i t y).table (step_of i t y).state).ending ≡ Ended last
        → MatchBool b (Q s) (Kept s × MatchOption (machine.step_of i s) ⊥ (λ u. Runs Kept Q more u))
    on_ret i more n t y s g l o f h a rest true p e =
        returns (subst (HasShape program (frame_of lines)) (ended_inj y last e) h) s
        (subst (λ (z : Symbols). Agrees program (frame_of lines) first val z s) (ended_inj y last e) a)
    on_ret i more n t y s g l o f h a rest false p e =
        (a.keeps, on_state i more n t y s g l o f h a rest (step_of i t y).state refl p e)

    pub runs : (rest : List Line) (n : ℕ) (t : List Node) (y : Symbols) (s : State) → Goes rest n t y s
    runs [] n t y s l o f h p a e = stuck_is_not_ended n last e
    runs (line ∷ more) n t y s l o f h p a e =
        on_ret line.instr more n t y s l.0 l.2 o f h a
        (λ z u. runs more (n + 1) (step_of line.instr t y).table z u) (is_ret line.instr) p e
