-- The table of templates: which instructions may compute the results of an operation. A template is the list of
-- mnemonics (Intel Software Developer's Manual, volume 2) of the instructions that belong to the operation, in
-- order. Its number is its place among the templates that the operation has.
use Rattle.std.specs.Prelude.{ℕ, Bool, true, false, ◌&&◌, ◌==◌, List, [], ◌∷◌, length, map, slice_get, slice_index_or}
use Rattle.std.specs.List.{filter}
use Rattle.std.specs.Option.{option_map_or}
use Rattle.word_program.specs.declared.operation.Op.{Op}
use Rattle.word_operations.specs.declared.kind.Kind.{Kind}
use Rattle.word_operations.specs.declared.kind.Kind.TheVariants as kinds
use Rattle.word_program.specs.declared.operation.Operand.{Operand}
use Rattle.word_program.specs.declared.operation.Operand.TheVariants as operands
use Rattle.word_program.specs.declared.operation.Target.{Target}
use Rattle.word_program.specs.declared.operation.Target.TheVariants as targets
use Rattle.word_program.specs.Program.{Source}
use Rattle.x86_instr.specs.declared.mnemonic.Mnemonic.{Mnemonic}
use Rattle.x86_instr.specs.declared.mnemonic.Mnemonic.TheVariants.{Adc, Adcx, Add, Adox, And, Cmovc, Cmovnz, Imul, Lea}
use Rattle.x86_instr.specs.declared.mnemonic.Mnemonic.TheVariants.{Mov, Mul, Mulx, Not, Or, Sbb, Shl, Shlx, Shr, Shrd}
use Rattle.x86_instr.specs.declared.mnemonic.Mnemonic.TheVariants.{Shrx, Sub, Test, Xor}

-- ---- when a template is there

abbrev pub is_zero : Operand → Bool
is_zero (operands.Literal number) = number == 0
is_zero (operands.Input param word) = false
is_zero (operands.Value number) = false

abbrev pub is_unused : Target → Bool
is_unused targets.Value = false
is_unused targets.Unused = true
is_unused (targets.Output param word) = false

-- always
abbrev pub always : Op → Bool
always op = true

-- where the carry or borrow that goes in is the literal 0
abbrev pub carry_in_zero : Op → Bool
carry_in_zero op = option_map_or is_zero (slice_get op.args 0) false

-- where beside that the carry that comes out is unused
abbrev pub carry_in_zero_out_unused : Op → Bool
carry_in_zero_out_unused op = carry_in_zero op && option_map_or is_unused (slice_get op.targets 1) false

-- ---- the table

-- a template, and when it is there
pub record Row : Type 0 where
  pub when : Op → Bool
  pub mnemonics : List Mnemonic

abbrev pub row : (Op → Bool) → List Mnemonic → Row
row when mnemonics = record { when = when; mnemonics = mnemonics }

-- the templates of each kind of operation
abbrev pub rows_of : Kind → List Row
rows_of kinds.AddCarry =
    row always (Adc ∷ [])
    ∷ row always (Adcx ∷ [])
    ∷ row always (Adox ∷ [])
    ∷ row carry_in_zero (Add ∷ [])
    ∷ row carry_in_zero_out_unused (Lea ∷ [])
    ∷ []
rows_of kinds.SubBorrow =
    row always (Sbb ∷ [])
    ∷ row carry_in_zero (Sub ∷ [])
    ∷ []
rows_of kinds.MulX =
    row always (Mulx ∷ [])
    ∷ row always (Mul ∷ [])
    ∷ []
rows_of kinds.Mul =
    row always (Imul ∷ [])
    ∷ row always (Mulx ∷ [])
    ∷ []
rows_of kinds.Add =
    row always (Add ∷ [])
    ∷ row always (Lea ∷ [])
    ∷ []
rows_of kinds.Sub = row always (Sub ∷ []) ∷ []
rows_of kinds.And = row always (And ∷ []) ∷ []
rows_of kinds.Or = row always (Or ∷ []) ∷ []
rows_of kinds.Xor = row always (Xor ∷ []) ∷ []
rows_of kinds.Not = row always (Not ∷ []) ∷ []
rows_of kinds.Copy = row always (Mov ∷ []) ∷ []
rows_of (kinds.Shl count) =
    row always (Shl ∷ [])
    ∷ row always (Shlx ∷ [])
    ∷ []
rows_of (kinds.Shr count) =
    row always (Shr ∷ [])
    ∷ row always (Shrx ∷ [])
    ∷ []
rows_of (kinds.Shrd count) =
    row always (Shrd ∷ [])
    ∷ row always (Shrx ∷ Shlx ∷ Lea ∷ [])
    ∷ []
rows_of kinds.CMov =
    row always (Test ∷ Cmovnz ∷ [])
    ∷ row always (Cmovc ∷ [])
    ∷ []

-- ---- the templates of an operation

-- the templates that an operation has, in the order of their numbers
unfoldable pub templates_of : Op → List (List Mnemonic)
templates_of op = map (λ r. r.mnemonics) (filter (λ r. r.when op) (rows_of op.kind))

-- those of the operation with this number; none where there is no such operation
abbrev pub templates_at : Source → ℕ → List (List Mnemonic)
templates_at program op = option_map_or templates_of (slice_get program.ops op) []

-- how many templates it has
abbrev pub count_of : Source → ℕ → ℕ
count_of program op = length (templates_at program op)

-- the mnemonics of the template with this number
abbrev pub mnemonics_of : Source → ℕ → ℕ → List Mnemonic
mnemonics_of program op number = slice_index_or (templates_at program op) number []
