-- When a listing is proved for a program: its symbolic run ends at `ret`, with the program's node in each output word
-- and with the start of each preserved register (System V AMD64 psABI, section 3.2.1) in that register. And why it is
-- not: the first failure, in this order.
use Rattle.std.specs.Prelude.{◌≡◌, ◌≢◌, ℕ, Bool, true, false, not, ◌==◌, List, [], ◌∷◌, map, take, find, Option, Some}
use Rattle.std.specs.Prelude.{None, slice_get}
use Rattle.word_program.specs.Program.{Source}
use Rattle.x86_instr.specs.declared.line.Line.{Line}
use Rattle.x86_instr.specs.declared.operand.Reg.{Reg}
use Rattle.x86_instr.specs.declared.operand.Reg.TheVariants.{Rbx, Rbp, Rsp, R12, R13, R14, R15}
use Rattle.x86_instr.specs.Registers.{number_of}
use Rattle.x86_meaning.specs.Correct.{IsCorrect}
use Rattle.terms.specs.declared.nodes.Node.{Node}
use Rattle.symbolic_state.specs.Symbols.{Symbols, node_in}
use Rattle.program_nodes.specs.Sources.{source_outputs}
use Rattle.symbolic_state.specs.Written.{words_written}
use Rattle.equiv_validator.specs.declared.verdict.Verdict.{Verdict}
use Rattle.equiv_validator.specs.declared.verdict.Verdict.TheVariants.{Proved, Not}
use Rattle.equiv_validator.specs.declared.verdict.Why.{Why}
use Rattle.equiv_validator.specs.declared.verdict.Why.TheVariants as whys
use Rattle.equiv_validator.specs.Runs.{Ended, Stuck, SymbolicRun, run_of}

-- ---- what holds at `ret`

-- the register has the node of its start
abbrev pub is_restored : Symbols → Reg → Bool
is_restored y r = node_in y r == number_of r

-- the registers, other than the stack pointer, that a function gives back as it found them, in the order of the checks
abbrev pub saved : List Reg
saved = Rbx ∷ Rbp ∷ R12 ∷ R13 ∷ R14 ∷ R15 ∷ []

-- the first of them that is not restored
abbrev pub lost_register : Symbols → Option Reg
lost_register y = find (λ r. not (is_restored y r)) saved

-- the output words, in the order of the parameters, have these nodes
abbrev pub HaveNodes : List (Option ℕ) → List ℕ → Type 0
HaveNodes written nodes = written ≡ map Some nodes

abbrev pub HasOutputs : Source → Symbols → Type 0
HasOutputs program y = HaveNodes (words_written y) (source_outputs program)

-- ---- a proved listing

pub record IsProved (program : Source) (lines : List Line) : Type 0 where
  pub last : Symbols
  pub ends : (run_of program lines).ending ≡ Ended last
  pub outputs : HasOutputs program last
  pub saved_registers : lost_register last ≡ None
  pub stack : is_restored last Rsp ≡ true

-- ---- the first failure

-- the first word that has another node: its number, the node that it should have, and the one that is known there
pub record IsFirstOther (written : List (Option ℕ)) (nodes : List ℕ) (word source : ℕ) (listing : Option ℕ) : Type 0
  where
    pub earlier : HaveNodes (take word written) (take word nodes)
    pub source_node : slice_get nodes word ≡ Some source
    pub listing_node : slice_get written word ≡ Some listing
    pub differs : listing ≢ Some source

-- the run ends in such a state
pub record EndsIn (program : Source) (lines : List Line) (Holds : Symbols → Type 0) : Type 0 where
  pub last : Symbols
  pub ends : (run_of program lines).ending ≡ Ended last
  pub holds : Holds last

-- the first failure: a line that is stuck, then an output word, then a register, then the stack pointer
abbrev pub Fails : Source → List Line → Why → Type 0
Fails program lines (whys.Stuck line) = (run_of program lines).ending ≡ Stuck line
Fails program lines (whys.Output word source listing) =
    EndsIn program lines (λ y. IsFirstOther (words_written y) (source_outputs program) word source listing)
Fails program lines (whys.Saved reg) = EndsIn program lines
    (λ y. HasOutputs program y × (lost_register y ≡ Some reg))
Fails program lines whys.Stack = EndsIn program lines
    (λ y. HasOutputs program y × (lost_register y ≡ None) × (is_restored y Rsp ≡ false))

-- the verdict says that the listing is proved, or the first failure
abbrev pub IsVerdict : Source → List Line → Verdict → Type 0
IsVerdict program lines (Proved proof) = IsProved program lines
IsVerdict program lines (Not why) = Fails program lines why

-- a listing of which the verdict says that it is proved is correct for the program
abbrev pub SaysCorrect : Source → List Line → Verdict → Type 0
SaysCorrect program lines (Proved proof) = IsCorrect program lines
SaysCorrect program lines (Not why) = Unit {0}

-- ---- parts of a check

-- a run that ended in this state, or is stuck at this line, and left this table
abbrev pub Ran : Option ℕ → Symbols → List Node → SymbolicRun → Type 0
Ran None y table run = run ≡ record { table = table; ending = Ended y }
Ran (Some line) y table run = run ≡ record { table = table; ending = Stuck line }

-- the failure is that of the first word with another node
abbrev pub IsOtherOutput : List (Option ℕ) → List ℕ → Why → Type 0
IsOtherOutput written nodes (whys.Output word source listing) = IsFirstOther written nodes word source listing
IsOtherOutput written nodes why = ⊥

-- what is told of a state at `ret` in which these are the program's nodes
abbrev pub IsVerdictOn : List ℕ → Symbols → Verdict → Type 0
IsVerdictOn nodes y (Proved proof) = HaveNodes (words_written y) nodes × (lost_register y ≡ None)
    × (is_restored y Rsp ≡ true)
IsVerdictOn nodes y (Not (whys.Stuck line)) = ⊥
IsVerdictOn nodes y (Not (whys.Output word source listing)) =
    IsFirstOther (words_written y) nodes word source listing
IsVerdictOn nodes y (Not (whys.Saved reg)) = HaveNodes (words_written y) nodes × (lost_register y ≡ Some reg)
IsVerdictOn nodes y (Not whys.Stack) = HaveNodes (words_written y) nodes × (lost_register y ≡ None)
    × (is_restored y Rsp ≡ false)
