-- The block of a slot is that of its operation.
use Rattle.std.proofs.Common.{◌≡◌, ℕ, zero, suc, ◌<◌, List, [], ◌∷◌, length, get_or, refl, arith, ap, sym, ◌∙◌}
use Rattle.std.specs.Prelude.{slice_get}
use Rattle.std.specs.Option.{option_map_or}
use Rattle.word_program.specs.declared.operation.Op.{Op}
use Rattle.word_program.specs.Program.{Source}
use Rattle.x86_instr.specs.declared.line.Line.{Line}
use Rattle.op_order.specs.declared.slot.Slot.{Slot}
use Rattle.fast_lower.specs.FallBack.{block_by, block}

at_place : (f : Op → List Line) (ops : List Op) (n : ℕ) (other : Op) → n < length ops
    → option_map_or f (slice_get ops n) [] ≡ f (get_or ops n other)
at_place f [] n other w = absurd (omega arith)
at_place f (op ∷ ops) zero other w = refl
at_place f (op ∷ ops) (suc n) other w = at_place f ops n other (omega arith)

pub block_is : (p : Source) (slot : Slot) (ops : List Op) → ops ≡ p.ops → (op other : Op) → slot.op < length p.ops
    → op ≡ get_or ops slot.op other → block p slot ≡ block_by p slot op
unfolding block
block_is p slot ops same op other w is =
    at_place (block_by p slot) p.ops slot.op other w
    ∙ ap (block_by p slot) (sym (is ∙ ap (λ (list : List Op). get_or list slot.op other) same))
