-- A block has at most 16 lines, none of them a `ret`.
use Rattle.std.proofs.Common.{◌≡◌, ℕ, zero, suc, ◌+◌, ◌*◌, ◌≤◌, Bool, true, false, List, [], ◌∷◌, ◌++◌, length}
use Rattle.std.proofs.Common.{get_or, refl, arith, Option, Some, None}
use Rattle.std.proofs.lemmas.Bool.Decides.{nat_tests}
use Rattle.std.specs.Prelude.{◌&&◌, nat_le, if◌then◌else◌, slice_get}
use Rattle.std.specs.List.{flat_map, list_all}
use Rattle.std.specs.Option.{option_map_or}
use Rattle.word_operations.specs.declared.kind.Kind.{Kind}
use Rattle.word_operations.specs.declared.kind.Kind.TheVariants as kinds
use Rattle.word_program.specs.declared.parameter.Role.{Role}
use Rattle.word_program.specs.declared.parameter.Role.TheVariants.{Output, InputArray, InputScalar}
use Rattle.word_program.specs.declared.operation.Op.{Op}
use Rattle.word_program.specs.declared.operation.Operand.{Operand}
use Rattle.word_program.specs.declared.operation.Operand.TheVariants as operands
use Rattle.word_program.specs.declared.operation.Target.{Target}
use Rattle.word_program.specs.declared.operation.Target.TheVariants as targets
use Rattle.word_program.specs.Program.{Source}
use Rattle.word_program.proofs.RowLemmas.{and_true}
use Rattle.x86_instr.specs.declared.operand.Reg.{Reg}
use Rattle.dependency_graph.specs.Needs.{first_value}
use Rattle.op_order.specs.declared.slot.Slot.{Slot}
use Rattle.plain_lower.specs.Frame.{role_of, load_input, load, keep, put_out, store}
use Rattle.plain_lower.specs.Blocks.{Row, rows_of, no_row, row_of, arg_at, target_at, load_all, store_all, block_of}
use Rattle.plain_lower.specs.Blocks.{block}
use Rattle.plain_lower.proofs.Parts.{goes_on, IsPart, both, at_most, twice_each}

-- ---- loads and stores

load_input_part : (role : Option Role) (dst : Reg) (param word : ℕ) → IsPart 2 (load_input role dst param word)
load_input_part None dst param word = record { short = omega arith; on = refl }
load_input_part (Some Output) dst param word = record { short = omega arith; on = refl }
load_input_part (Some InputScalar) dst param word = record { short = omega arith; on = refl }
load_input_part (Some InputArray) dst param word = record { short = omega arith; on = refl }

load_part : (p : Source) (dst : Reg) (x : Operand) → IsPart 2 (load p dst x)
load_part p dst (operands.Literal n) = record { short = omega arith; on = refl }
load_part p dst (operands.Input param word) = load_input_part (role_of p param) dst param word
load_part p dst (operands.Value value) = record { short = omega arith; on = refl }

output_part : (overlap : Bool) (p : Source) (value param word : ℕ) (src : Reg)
    → IsPart 2 (if overlap then keep p value src else put_out param word src)
output_part true p value param word src = record { short = omega arith; on = refl }
output_part false p value param word src = record { short = omega arith; on = refl }

store_part : (p : Source) (value : ℕ) (t : Target) (src : Reg) → IsPart 2 (store p value t src)
store_part p value targets.Value src = record { short = omega arith; on = refl }
store_part p value targets.Unused src = record { short = omega arith; on = refl }
store_part p value (targets.Output param word) src = output_part p.overlap p value param word src

-- ---- rows

-- a row has at most three loads, six lines between them and the stores, and two stores
abbrev fits : ℕ → Row → Bool
fits op r = nat_le (length r.loads) 3
    && (nat_le (length r.saves) 2 && (nat_le (length (r.middle op)) 6 && list_all goes_on (r.middle op)))

rows_fit : (op : ℕ) (kind : Kind) → list_all (fits op) (rows_of kind) ≡ true
rows_fit op kinds.AddCarry = refl
rows_fit op kinds.SubBorrow = refl
rows_fit op kinds.MulX = refl
rows_fit op kinds.CMov = refl
rows_fit op kinds.Add = refl
rows_fit op kinds.Sub = refl
rows_fit op kinds.Mul = refl
rows_fit op kinds.And = refl
rows_fit op kinds.Or = refl
rows_fit op kinds.Xor = refl
rows_fit op kinds.Not = refl
rows_fit op kinds.Copy = refl
rows_fit op (kinds.Shl count) = refl
rows_fit op (kinds.Shr count) = refl
rows_fit op (kinds.Shrd count) = refl

one_passes : {X : Type 0} (test : X → Bool) (xs : List X) (n : ℕ) (d : X) → list_all test xs ≡ true → test d ≡ true
    → test (get_or xs n d) ≡ true
one_passes test [] n d e f = f
one_passes test (x ∷ xs) zero d e f = (and_true (test x) (list_all test xs) e).0
one_passes test (x ∷ xs) (suc n) d e f = one_passes test xs n d (and_true (test x) (list_all test xs) e).1 f

row_fits : (op : ℕ) (kind : Kind) (template : ℕ) → fits op (row_of kind template) ≡ true
unfolding row_of
row_fits op kind template = one_passes (fits op) (rows_of kind) template no_row (rows_fit op kind) refl

below : (n m : ℕ) → nat_le n m ≡ true → n ≤ m
below n m e = grind (arith, nat_tests, e)

-- ---- blocks

row_part : (p : Source) (number : ℕ) (r : Row) (op : Op) → fits number r ≡ true → IsPart 16 (block_of p number r op)
row_part p number r op e =
    let t = and_true (nat_le (length r.loads) 3)
    (nat_le (length r.saves) 2 && (nat_le (length (r.middle number)) 6 && list_all goes_on (r.middle number))) e in
    let u = and_true (nat_le (length r.saves) 2)
    (nat_le (length (r.middle number)) 6 && list_all goes_on (r.middle number)) t.1 in
    let v = and_true (nat_le (length (r.middle number)) 6) (list_all goes_on (r.middle number)) u.1 in
    let few_loads : length r.loads ≤ 3 = below _ _ t.0 in
    let few_saves : length r.saves ≤ 2 = below _ _ u.0 in
    let value = first_value p number in
    let loads = twice_each (λ l. load p l.0 (arg_at op l.1)) (λ l. load_part p l.0 (arg_at op l.1)) r.loads in
    let saves = twice_each (λ s. store p (value + s.1) (target_at op s.1) s.0)
    (λ s. store_part p (value + s.1) (target_at op s.1) s.0) r.saves in
    let middle : IsPart 6 (r.middle number) = record { short = below _ _ v.0; on = v.1 } in
    at_most (2 * length r.loads + (6 + 2 * length r.saves)) 16 (block_of p number r op) (omega arith)
    (both _ _ (load_all p op r.loads) (r.middle number ++ store_all p value op r.saves) loads
    (both _ _ (r.middle number) (store_all p value op r.saves) middle saves))

block_at : (p : Source) (slot : Slot) (found : Option Op)
    → IsPart 16 (option_map_or (λ op. block_of p slot.op (row_of op.kind slot.template) op) found [])
block_at p slot None = record { short = omega arith; on = refl }
block_at p slot (Some op) =
    row_part p slot.op (row_of op.kind slot.template) op (row_fits slot.op op.kind slot.template)

block_part : (p : Source) (slot : Slot) → IsPart 16 (block p slot)
unfolding block
block_part p slot = block_at p slot (slice_get p.ops slot.op)

pub blocks_part : (p : Source) (slots : List Slot) → IsPart (16 * length slots) (flat_map (block p) slots)
blocks_part p [] = record { short = omega arith; on = refl }
blocks_part p (slot ∷ slots) =
    at_most (16 + 16 * length slots) (16 * length (slot ∷ slots)) (flat_map (block p) (slot ∷ slots)) (omega arith)
    (both 16 (16 * length slots) (block p slot) (flat_map (block p) slots) (block_part p slot) (blocks_part p slots))
