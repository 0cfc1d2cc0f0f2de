-- What holds of every row of the table of blocks, and of the operands of an operation that has a row.
use Rattle.std.proofs.Common.{◌≡◌, ℕ, zero, suc, ◌<◌, true, List, [], ◌∷◌, ◌++◌, length, get_or, refl, subst, arith}
use Rattle.std.proofs.Common.{Bool, Some}
use Rattle.std.specs.Prelude.{◌&&◌, slice_get}
use Rattle.std.specs.List.{list_all}
use Rattle.word_operations.specs.declared.kind.Kind.{Kind}
use Rattle.word_operations.specs.declared.kind.Kind.TheVariants as kinds
use Rattle.word_operations.specs.Operations.{operand_count, result_count}
use Rattle.word_program.specs.declared.parameter.Param.{Param}
use Rattle.word_program.specs.declared.operation.Op.{Op}
use Rattle.word_program.specs.declared.operation.Operand.TheVariants as operands
use Rattle.word_program.specs.Accepted.{AreOps, IsOp}
use Rattle.word_program.specs.Values.{op_bits}
use Rattle.word_program.proofs.RowLemmas.{and_true}
use Rattle.templates.specs.Table.{templates_of}
use Rattle.plain_lower.specs.Blocks.{Row, no_row, row_of, rows_of}
use Rattle.plain_checks.proofs.RowLeads.{starts_at_zero}
use Rattle.plain_checks.proofs.RowLoads.{are_loads}
use Rattle.plain_checks.proofs.TemplateConditions.{add_from_nought, sub_from_nought}
use Rattle.plain_checks.proofs.ValueStores.{are_saves}

-- ---- rows

-- a row loads operands of its kind into registers that differ, and saves results of it
abbrev is_row : Kind → Row → Bool
is_row kind r = are_loads (operand_count kind) r.loads && are_saves (result_count kind) r.saves

rows_are : (kind : Kind) → list_all (is_row kind) (rows_of kind) ≡ true
rows_are kinds.AddCarry = refl
rows_are kinds.SubBorrow = refl
rows_are kinds.MulX = refl
rows_are kinds.CMov = refl
rows_are kinds.Add = refl
rows_are kinds.Sub = refl
rows_are kinds.Mul = refl
rows_are kinds.And = refl
rows_are kinds.Or = refl
rows_are kinds.Xor = refl
rows_are kinds.Not = refl
rows_are kinds.Copy = refl
rows_are (kinds.Shl count) = refl
rows_are (kinds.Shr count) = refl
rows_are (kinds.Shrd count) = refl

one_passes : {X : Type 0} (test : X → Bool) (xs : List X) (n : ℕ) (d : X) → list_all test xs ≡ true → test d ≡ true
    → test (get_or xs n d) ≡ true
one_passes test [] n d e f = f
one_passes test (x ∷ xs) zero d e f = (and_true (test x) (list_all test xs) e).0
one_passes test (x ∷ xs) (suc n) d e f = one_passes test xs n d (and_true (test x) (list_all test xs) e).1 f

row_passes : (kind : Kind) (template : ℕ) → is_row kind (row_of kind template) ≡ true
unfolding row_of
row_passes kind template = one_passes (is_row kind) (rows_of kind) template no_row (rows_are kind) refl

pub row_loads : (kind : Kind) (template : ℕ) → are_loads (operand_count kind) (row_of kind template).loads ≡ true
row_loads kind template = let r = row_of kind template in
    (and_true (are_loads (operand_count kind) r.loads) (are_saves (result_count kind) r.saves)
    (row_passes kind template)).0

pub row_saves : (kind : Kind) (template : ℕ) → are_saves (result_count kind) (row_of kind template).saves ≡ true
row_saves kind template = let r = row_of kind template in
    (and_true (are_loads (operand_count kind) r.loads) (are_saves (result_count kind) r.saves)
    (row_passes kind template)).1

-- ---- the operands of an operation that has the row

-- a row that starts at zero is one of an operation whose first operand is the literal 0
pub zero_first : (op : Op) (kind : Kind) (template : ℕ) → op.kind ≡ kind → template < length (templates_of op)
    → starts_at_zero kind template ≡ true → slice_get op.args 0 ≡ Some (operands.Literal 0)
zero_first op kinds.AddCarry (suc (suc (suc zero))) e h s = add_from_nought op 3 e h (omega arith)
zero_first op kinds.AddCarry (suc (suc (suc (suc zero)))) e h s = add_from_nought op 4 e h (omega arith)
zero_first op kinds.SubBorrow (suc zero) e h s = sub_from_nought op 1 e h (omega arith)
zero_first op kind template e h s = absurd (cc)

-- each operation is legal behind those before it
pub op_legal : (params : List Param) (ops : List Op) (bits : List Bool) → AreOps params bits ops → (number : ℕ)
    (op : Op) → slice_get ops number ≡ Some op → (told : List Bool) × IsOp params told op
op_legal params [] bits are number op e = absurd (cc)
op_legal params (o ∷ ops) bits are zero op e = let same : o ≡ op = cc in (bits, subst (IsOp params bits) same are.0)
op_legal params (o ∷ ops) bits are (suc number) op e =
    op_legal params ops (bits ++ op_bits params bits o) are.1 number op e
