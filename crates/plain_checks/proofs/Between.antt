-- What holds at each line behind the entry of a plain listing, of which some operations are carried out.
use Rattle.std.proofs.Common.{◌≡◌, ℕ, ◌+◌, ◌-◌, ◌^◌, ◌<◌, Bool, true, false, List, [], ◌∷◌, length, Option, Some, None}
use Rattle.std.specs.Prelude.{slice_get, if◌then◌else◌}
use Rattle.std.specs.Bool.{MatchBool}
use Rattle.std.specs.List.{list_any}
use Rattle.std.specs.Option.{option_map_or}
use Rattle.word_program.specs.declared.operation.Target.{Target}
use Rattle.word_program.specs.declared.operation.Target.TheVariants as targets
use Rattle.word_program.specs.declared.parameter.Param.{Param}
use Rattle.word_program.specs.Program.{Source}
use Rattle.word_program.specs.Values.{is_input_array, is_scalar, targets_of}
use Rattle.x86_instr.specs.declared.operand.Reg.{Reg}
use Rattle.x86_instr.specs.declared.operand.Reg.TheVariants.{Rax, Rcx, Rdx, Rbx, Rsp, Rbp, Rsi, Rdi, R8, R9, R10, R11}
use Rattle.x86_instr.specs.declared.operand.Reg.TheVariants.{R12, R13, R14, R15}
use Rattle.x86_instr.specs.Registers.{number_of}
use Rattle.x86_meaning.specs.Start.{Frame}
use Rattle.x86_meaning.specs.Start as areas
use Rattle.terms.specs.declared.nodes.Node.{Node}
use Rattle.terms.specs.declared.nodes.NodeKind.TheVariants as kinds
use Rattle.terms.specs.Tables.{node_at, Prefix}
use Rattle.program_nodes.specs.Terms.{term}
use Rattle.dependency_graph.specs.Needs.{defines}
use Rattle.symbolic_state.specs.Symbols.{Symbols, node_in}
use Rattle.symbolic_state.specs.Cells.{known, node_of}
use Rattle.symbolic_state.specs.Fitting.{HaveShapes}
use Rattle.symbolic_state.specs.Starts.{input_node}
use Rattle.plain_lower.specs.Frame.{frame_bytes, param_reg}
use Rattle.plain_checks.proofs.Nodes.{table_of, value_node}

-- the registers that a plain listing never changes, of which a function has to give back all but `rsp`
abbrev pub is_saved : Reg → Bool
is_saved Rbx = true
is_saved Rbp = true
is_saved R12 = true
is_saved R13 = true
is_saved R14 = true
is_saved R15 = true
is_saved Rsp = false
is_saved Rax = false
is_saved Rcx = false
is_saved Rdx = false
is_saved Rsi = false
is_saved Rdi = false
is_saved R8 = false
is_saved R9 = false
is_saved R10 = false
is_saved R11 = false

-- the node in the register of a parameter at the start
abbrev pub param_node : Source → ℕ → ℕ
param_node program param = if option_map_or (λ p. is_scalar p.role) (slice_get program.params param) false
    then input_node (table_of program) program.params param 0 else number_of (param_reg param)

-- the value with this number and target has its node in its slot of the frame, or in its output word; an unused one
-- has none
abbrev pub StandsAs : Source → Symbols → ℕ → Option Target → Type 0
StandsAs program y value None = Unit {0}
StandsAs program y value (Some targets.Unused) = Unit {0}
StandsAs program y value (Some targets.Value) =
    known y.frame (length program.params + value) ≡ Some (value_node program value)
StandsAs program y value (Some (targets.Output param word)) = MatchBool program.overlap
    (known y.frame (length program.params + value) ≡ Some (value_node program value))
    (node_of y (areas.Array param) word ≡ Some (value_node program value))

-- one of these operations defines the value
abbrev pub is_done : Source → List ℕ → ℕ → Bool
is_done program ops value = list_any (λ op. defines program op value) ops

-- what holds of the registers and of the table at each line between entry and exit
pub record Standing (program : Source) (t : List Node) (y : Symbols) : Type 0 where
  pub more : Prefix (table_of program) t
  pub sixteen : length y.regs ≡ 16
  pub stack_in : node_in y Rsp < length t
  pub stack : (node_at t (node_in y Rsp)).kind ≡ kinds.Sum (2 ^ 64 - frame_bytes program) (term 1 4 ∷ [])
  pub saved : (r : Reg) → is_saved r ≡ true → node_in y r ≡ number_of r
  pub shapes : HaveShapes program.params y.arrays
  pub frame_long : length y.frame ≡ length program.params + length (targets_of program.ops)
  pub overlap : y.overlap ≡ program.overlap
  pub params : (param : ℕ) → param < length program.params → known y.frame param ≡ Some (param_node program param)

-- behind the entry: the input words are known, and the values of these operations stand where they belong
pub record Between (program : Source) (done : List ℕ) (t : List Node) (y : Symbols) : Type 0 where
  pub standing : Standing program t y
  pub inputs : (param word : ℕ) (p : Param) → slice_get program.params param ≡ Some p
      → is_input_array p.role ≡ true → word < length p.bounds
      → node_of y (areas.Array param) word ≡ Some (input_node (table_of program) program.params param word)
  pub cells : (value : ℕ) → value < length (targets_of program.ops) → is_done program done value ≡ true
      → StandsAs program y value (slice_get (targets_of program.ops) value)
