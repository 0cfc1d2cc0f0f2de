-- The operation of a slot: its shift count is one, and the slot's block is that of the operation.
use Rattle.std.proofs.Common.{◌≡◌, ℕ, zero, suc, ◌<◌, Bool, List, [], ◌∷◌, ◌++◌, length, get_or, refl, arith, ap, sym}
use Rattle.std.proofs.Common.{subst, ◌∙◌}
use Rattle.std.specs.Prelude.{slice_get}
use Rattle.std.specs.Option.{option_map_or}
use Rattle.word_program.specs.declared.parameter.Param.{Param}
use Rattle.word_program.specs.declared.operation.Op.{Op}
use Rattle.word_program.specs.Program.{Source}
use Rattle.word_program.specs.Accepted.{AreOps, HasShift, IsAccepted}
use Rattle.word_program.specs.Values.{op_bits}
use Rattle.x86_instr.specs.declared.line.Line.{Line}
use Rattle.op_order.specs.declared.slot.Slot.{Slot}
use Rattle.plain_lower.specs.Blocks.{row_of, block_of, block}

shift_at : (ps : List Param) (ops : List Op) (bits : List Bool) → AreOps ps bits ops → (n : ℕ) (d : Op)
    → n < length ops → HasShift (get_or ops n d).kind
shift_at ps [] bits all n d w = absurd (omega arith)
shift_at ps (op ∷ ops) bits all zero d w = all.0.count
shift_at ps (op ∷ ops) bits all (suc n) d w = shift_at ps ops (bits ++ op_bits ps bits op) all.1 n d (omega arith)

pub has_shift : (p : Source) → IsAccepted p → (ops : List Op) → ops ≡ p.ops → (n : ℕ) (op other : Op)
    → n < length p.ops → op ≡ get_or ops n other → HasShift op.kind
has_shift p accepted ops same n op other w is =
    subst (λ (o : Op). HasShift o.kind) (sym (is ∙ ap (λ (list : List Op). get_or list n other) same))
    (shift_at p.params p.ops [] accepted.ops n other w)

at_place : (f : Op → List Line) (ops : List Op) (n : ℕ) (other : Op) → n < length ops
    → option_map_or f (slice_get ops n) [] ≡ f (get_or ops n other)
at_place f [] n other w = absurd (omega arith)
at_place f (op ∷ ops) zero other w = refl
at_place f (op ∷ ops) (suc n) other w = at_place f ops n other (omega arith)

pub block_is : (p : Source) (slot : Slot) (ops : List Op) → ops ≡ p.ops → (op other : Op) → slot.op < length p.ops
    → op ≡ get_or ops slot.op other → block p slot ≡ block_of p slot.op (row_of op.kind slot.template) op
unfolding block
block_is p slot ops same op other w is =
    at_place (λ o. block_of p slot.op (row_of o.kind slot.template) o) p.ops slot.op other w
    ∙ ap (λ (o : Op). block_of p slot.op (row_of o.kind slot.template) o)
    (sym (is ∙ ap (λ (list : List Op). get_or list slot.op other) same))
