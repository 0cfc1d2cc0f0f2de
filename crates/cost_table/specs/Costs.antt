-- The cost of a listing, from a table of this project; it is not a time. What its lines cost, added up: a line costs
-- the base of its instruction, 4 more where it reads memory, and 2 more where it writes memory.
use Rattle.std.specs.Prelude.{ℕ, ◌+◌, List, sum_by}
use Rattle.x86_instr.specs.declared.access.Access.{Access}
use Rattle.x86_instr.specs.declared.access.Access.TheVariants as accesses
use Rattle.x86_instr.specs.declared.instr.Instr.{Instr}
use Rattle.x86_instr.specs.declared.instr.Instr.TheVariants as instrs
use Rattle.x86_instr.specs.declared.line.Line.{Line}
use Rattle.x86_instr.specs.Access.{access_of}

abbrev pub base_cost : Instr → ℕ
base_cost (instrs.Mulx hi lo src) = 4
base_cost (instrs.Mul src) = 4
base_cost (instrs.Imul dst src) = 3
base_cost (instrs.Shrd dst src by) = 3
base_cost _ = 1

abbrev pub access_cost : Access → ℕ
access_cost accesses.None = 0
access_cost (accesses.Read mem) = 4
access_cost (accesses.Write mem) = 2

abbrev pub instr_cost : Instr → ℕ
instr_cost instr = base_cost instr + access_cost (access_of instr)

abbrev pub cost_of : List Line → ℕ
cost_of lines = sum_by (λ line. instr_cost line.instr) lines
