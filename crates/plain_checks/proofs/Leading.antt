-- Lines that lead on: step by step, none of them stuck and none a `ret`, to where something holds.
use Rattle.std.proofs.Common.{◌≡◌, false, List, [], ◌∷◌}
use Rattle.x86_instr.specs.declared.line.Line.{Line}
use Rattle.x86_instr.specs.Listings.{is_ret}
use Rattle.terms.specs.declared.nodes.Node.{Node}
use Rattle.symbolic_state.specs.Symbols.{Symbols}
use Rattle.symbolic_values.specs.Steps.{goes, step_of}

abbrev pub Goes : List Line → List Node → Symbols → (List Node → Symbols → Type 0) → Type 0
Goes [] t y Q = Q t y
Goes (line ∷ lines) t y Q = (u : List Node) × (z : Symbols) × (is_ret line.instr ≡ false)
    × (step_of line.instr t y ≡ goes u z) × Goes lines u z Q

pub record Leads (lines : List Line) (t : List Node) (y : Symbols) (Q : List Node → Symbols → Type 0) : Type 0 where
  pub by : Goes lines t y Q

pub leads_done : {t : List Node} {y : Symbols} {Q : List Node → Symbols → Type 0} → Q t y → Leads [] t y Q
leads_done q = record { by = q }

pub leads_on : {line : Line} {lines : List Line} {t u : List Node} {y z : Symbols}
    {Q : List Node → Symbols → Type 0} → is_ret line.instr ≡ false → step_of line.instr t y ≡ goes u z
    → Leads lines u z Q → Leads (line ∷ lines) t y Q
leads_on {line} {lines} {t} {u} {y} {z} on step rest = record { by = (u, z, on, step, rest.by) }
