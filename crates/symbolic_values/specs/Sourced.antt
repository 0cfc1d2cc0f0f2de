-- The instructions whose source is a register or a word of the memory: the source, and the step on its node. The step
-- of each of them is this one, behind the fetch of the source.
use Rattle.std.specs.Prelude.{ℕ, List, Option, Some, None}
use Rattle.x86_instr.specs.declared.operand.Reg.TheVariants.{Rax, Rdx}
use Rattle.x86_instr.specs.declared.operand.Rm.{Rm}
use Rattle.x86_instr.specs.declared.instr.Instr.{Instr}
use Rattle.x86_instr.specs.declared.instr.Instr.TheVariants as instrs
use Rattle.terms.specs.declared.nodes.Node.{Node}
use Rattle.symbolic_state.specs.Symbols.{Symbols, node_in, with_node}
use Rattle.symbolic_values.specs.Steps.{Step, adcx_step, adox_step, cmov_step, goes, imul_step, mul_step, mulx_step}
use Rattle.symbolic_values.specs.Steps.{shlx_step, shrx_step, stuck}

abbrev pub source_of : Instr → Option Rm
source_of (instrs.Mov dst src) = Some src
source_of (instrs.Adcx dst src) = Some src
source_of (instrs.Adox dst src) = Some src
source_of (instrs.Mulx hi lo src) = Some src
source_of (instrs.Mul src) = Some src
source_of (instrs.Imul dst src) = Some src
source_of (instrs.Shlx dst src count) = Some src
source_of (instrs.Shrx dst src count) = Some src
source_of (instrs.Cmov cond dst src) = Some src
source_of _ = None

-- MOV, ADCX, ADOX, MULX, MUL, IMUL, SHLX, SHRX, CMOVcc; the registers hold the nodes of `before`
abbrev pub step_on : Instr → Symbols → ℕ → List Node → Symbols → Step
step_on (instrs.Mov dst src) before s table y = goes table (with_node dst s y)
step_on (instrs.Adcx dst src) before s table y = adcx_step dst (node_in before dst) s table y
step_on (instrs.Adox dst src) before s table y = adox_step dst (node_in before dst) s table y
step_on (instrs.Mulx hi lo src) before s table y = mulx_step hi lo (node_in before Rdx) s table y
step_on (instrs.Mul src) before s table y = mul_step (node_in before Rax) s table y
step_on (instrs.Imul dst src) before s table y = imul_step dst (node_in before dst) s table y
step_on (instrs.Shlx dst src count) before s table y = shlx_step dst (node_in before count) s table y
step_on (instrs.Shrx dst src count) before s table y = shrx_step dst (node_in before count) s table y
step_on (instrs.Cmov cond dst src) before s table y = cmov_step cond dst (node_in before dst) s table y
step_on _ before s table y = stuck table
