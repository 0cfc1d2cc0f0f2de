-- The operands of an operation in the order in which a slot takes them: by the mark `swap` the two last operands of an
-- operation that commutes change places.
use Rattle.std.specs.Prelude.{ℕ, ◌-◌, Bool, ◌&&◌, ◌==◌, length, if◌then◌else◌}
use Rattle.word_program.specs.declared.operation.Op.{Op}
use Rattle.word_program.specs.declared.operation.Operand.{Operand}
use Rattle.op_order.specs.declared.slot.Slot.{Slot}
use Rattle.mutations.specs.Mutations.{commutes}
use Rattle.plain_lower.specs.Blocks.{arg_at}

-- the slot exchanges the two last operands
abbrev pub exchanges : Slot → Op → Bool
exchanges slot op = slot.swap && commutes op.kind

-- the place of the operand that is taken at a place, of so many operands
abbrev pub taken_place : Bool → ℕ → ℕ → ℕ
taken_place exchange count place =
    if exchange && place == count - 1 then count - 2
    else (if exchange && place == count - 2 then count - 1 else place)

-- the operand that is taken at a place
abbrev pub taken_arg : Slot → Op → ℕ → Operand
taken_arg slot op place = arg_at op (taken_place (exchanges slot op) (length op.args) place)

-- the operand that is taken last
abbrev pub last_taken : Slot → Op → Operand
last_taken slot op = taken_arg slot op (length op.args - 1)
