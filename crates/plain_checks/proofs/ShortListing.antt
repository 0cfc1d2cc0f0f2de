-- How many lines a plain listing has at most: 16 an operation, 2 an output word, and 9.
use Rattle.std.proofs.Common.{◌≡◌, ℕ, zero, suc, ◌+◌, ◌*◌, ◌≤◌, Bool, true, false, List, [], ◌∷◌, ◌++◌, length, refl}
use Rattle.std.proofs.Common.{get_or, ap, arith, Option, Some, None}
use Rattle.std.proofs.lemmas.Bool.Decides.{nat_tests}
use Rattle.std.proofs.lemmas.List.{length-append}
use Rattle.std.specs.Prelude.{nat_le, if◌then◌else◌, slice_get}
use Rattle.std.specs.List.{flat_map, list_all}
use Rattle.std.specs.Option.{option_map_or}
use Rattle.word_operations.specs.declared.kind.Kind.{Kind}
use Rattle.word_operations.specs.declared.kind.Kind.TheVariants as kinds
use Rattle.word_program.specs.declared.parameter.Param.{Param}
use Rattle.word_program.specs.declared.parameter.Role.{Role}
use Rattle.word_program.specs.declared.parameter.Role.TheVariants.{Output, InputArray, InputScalar}
use Rattle.word_program.specs.declared.operation.Op.{Op}
use Rattle.word_program.specs.declared.operation.Operand.{Operand}
use Rattle.word_program.specs.declared.operation.Operand.TheVariants as operands
use Rattle.word_program.specs.declared.operation.Target.{Target}
use Rattle.word_program.specs.declared.operation.Target.TheVariants as targets
use Rattle.word_program.specs.Program.{Source}
use Rattle.word_program.specs.Values.{output_count, targets_of}
use Rattle.word_program.specs.Accepted.{IsAccepted}
use Rattle.word_program.proofs.RowLemmas.{and_true}
use Rattle.x86_instr.specs.declared.operand.Reg.{Reg}
use Rattle.x86_instr.specs.declared.line.Line.{Line}
use Rattle.dependency_graph.specs.Needs.{first_value}
use Rattle.op_order.specs.declared.slot.Slot.{Slot}
use Rattle.op_order.specs.Legal.{IsLegal}
use Rattle.op_order.proofs.LegalLemmas.{legal_count}
use Rattle.plain_lower.specs.Frame.{role_of, load_input, load, keep, put_out, store}
use Rattle.plain_lower.specs.Blocks.{Row, rows_of, no_row, row_of, arg_at, target_at, load_all, store_all, block_of}
use Rattle.plain_lower.specs.Blocks.{block}
use Rattle.plain_lower.specs.Plain.{saves_from, entry, blocks, late_from, late_stores, exit, plain_lines}
use Rattle.plain_lower.proofs.BlockParts.{blocks_part}
use Rattle.plain_checks.proofs.OutputCount.{few_targets, few_outputs, outputs_in, outputs_among}

-- ---- loads and stores

each_short : {X : Type 0} (f : X → List Line) (n : ℕ) → ((x : X) → length (f x) ≤ n) → (xs : List X)
    → length (flat_map f xs) ≤ n * length xs
each_short f n each [] = omega arith
each_short f n each (x ∷ xs) =
    let here = each x in
    let rest = each_short f n each xs in
    let sum = length-append (f x) (flat_map f xs) in
    let more : n * suc (length xs) ≡ n + n * length xs = grind arith in
    omega arith

input_short : (role : Option Role) (dst : Reg) (param word : ℕ) → length (load_input role dst param word) ≤ 2
input_short None dst param word = omega arith
input_short (Some Output) dst param word = omega arith
input_short (Some InputScalar) dst param word = omega arith
input_short (Some InputArray) dst param word = omega arith

load_short : (p : Source) (dst : Reg) (x : Operand) → length (load p dst x) ≤ 2
load_short p dst (operands.Literal n) = omega arith
load_short p dst (operands.Input param word) = input_short (role_of p param) dst param word
load_short p dst (operands.Value value) = omega arith

-- a word of an output that is kept as a value has one line
output_kept : (overlap : Bool) (p : Source) (value param word : ℕ) (src : Reg) → overlap ≡ true
    → length (if overlap then keep p value src else put_out param word src) ≤ 1
output_kept true p value param word src e = omega arith
output_kept false p value param word src e = absurd (cc)

store_short : (p : Source) → p.overlap ≡ true → (value : ℕ) (t : Target) (src : Reg) → length (store p value t src) ≤ 1
store_short p e value targets.Value src = omega arith
store_short p e value targets.Unused src = omega arith
store_short p e value (targets.Output param word) src = output_kept p.overlap p value param word src e

-- ---- blocks where outputs are kept

-- a row has at most so many lines then
abbrev row_length : ℕ → Row → ℕ
row_length op r = 2 * length r.loads + (length (r.middle op) + length r.saves)

abbrev fits : ℕ → Row → Bool
fits op r = nat_le (row_length op r) 14

rows_fit : (op : ℕ) (kind : Kind) → list_all (fits op) (rows_of kind) ≡ true
rows_fit op kinds.AddCarry = refl
rows_fit op kinds.SubBorrow = refl
rows_fit op kinds.MulX = refl
rows_fit op kinds.CMov = refl
rows_fit op kinds.Add = refl
rows_fit op kinds.Sub = refl
rows_fit op kinds.Mul = refl
rows_fit op kinds.And = refl
rows_fit op kinds.Or = refl
rows_fit op kinds.Xor = refl
rows_fit op kinds.Not = refl
rows_fit op kinds.Copy = refl
rows_fit op (kinds.Shl count) = refl
rows_fit op (kinds.Shr count) = refl
rows_fit op (kinds.Shrd count) = refl

one_passes : {X : Type 0} (test : X → Bool) (xs : List X) (n : ℕ) (d : X) → list_all test xs ≡ true → test d ≡ true
    → test (get_or xs n d) ≡ true
one_passes test [] n d e f = f
one_passes test (x ∷ xs) zero d e f = (and_true (test x) (list_all test xs) e).0
one_passes test (x ∷ xs) (suc n) d e f = one_passes test xs n d (and_true (test x) (list_all test xs) e).1 f

below : (n m : ℕ) → nat_le n m ≡ true → n ≤ m
below n m e = grind (arith, nat_tests, e)

row_short : (op : ℕ) (kind : Kind) (template : ℕ) → row_length op (row_of kind template) ≤ 14
unfolding row_of
row_short op kind template = below (row_length op (row_of kind template)) 14
    (one_passes (fits op) (rows_of kind) template no_row (rows_fit op kind) refl)

block_of_short : (p : Source) → p.overlap ≡ true → (number : ℕ) (r : Row) (op : Op) → row_length number r ≤ 14
    → length (block_of p number r op) ≤ 14
block_of_short p e number r op few =
    let value : ℕ = first_value p number in
    let loads = each_short (λ l. load p l.0 (arg_at op l.1)) 2 (λ l. load_short p l.0 (arg_at op l.1)) r.loads in
    let saves = each_short (λ s. store p (value + s.1) (target_at op s.1) s.0) 1
    (λ s. store_short p e (value + s.1) (target_at op s.1) s.0) r.saves in
    let a = length-append (load_all p op r.loads) (r.middle number ++ store_all p value op r.saves) in
    let b = length-append (r.middle number) (store_all p value op r.saves) in
    omega arith

block_at : (p : Source) → p.overlap ≡ true → (slot : Slot) (o : Option Op)
    → length (option_map_or (λ op. block_of p slot.op (row_of op.kind slot.template) op) o []) ≤ 14
block_at p e slot None = omega arith
block_at p e slot (Some op) = block_of_short p e slot.op (row_of op.kind slot.template) op
    (row_short slot.op op.kind slot.template)

block_short : (p : Source) → p.overlap ≡ true → (slot : Slot) → length (block p slot) ≤ 14
unfolding block
block_short p e slot = block_at p e slot (slice_get p.ops slot.op)

-- ---- entry and late stores

saves_count : (param : ℕ) (ps : List Param) → length (saves_from param ps) ≡ length ps
saves_count param [] = refl
saves_count param (p ∷ ps) = ap suc (saves_count (param + 1) ps)

late_count : (p : Source) (value : ℕ) (ts : List Target) → length (late_from p value ts) ≡ 3 * outputs_in ts
late_count p value [] = refl
late_count p value (targets.Value ∷ ts) = let rest = late_count p (value + 1) ts in omega arith
late_count p value (targets.Unused ∷ ts) = let rest = late_count p (value + 1) ts in omega arith
late_count p value (targets.Output param word ∷ ts) =
    let rest = late_count p (value + 1) ts in omega arith

-- ---- the whole

-- an output word that is kept has a line less in its block, and three more behind the blocks
most_by : (b : Bool) (p : Source) (slots : List Slot) → p.overlap ≡ b → IsAccepted p → length slots ≡ length p.ops
    → length (blocks p slots) + length (if b then late_from p 0 (targets_of p.ops) else [])
    ≤ 16 * length p.ops + 2 * output_count p.params
most_by true p slots e accepted count =
    let blocks_most = each_short (block p) 14 (block_short p e) slots in
    let late = late_count p 0 (targets_of p.ops) in
    let among = outputs_among (targets_of p.ops) in
    let few = few_targets p.params [] p.ops accepted.ops in
    let words = few_outputs p accepted in
    omega arith
most_by false p slots e accepted count =
    let blocks_most = (blocks_part p slots).short in
    omega arith

pub plain_short : (program : Source) (slots : List Slot) → IsAccepted program → IsLegal program slots
    → length (plain_lines program slots) ≤ 16 * length program.ops + 9 + 2 * output_count program.params
unfolding plain_lines
plain_short program slots accepted legal =
    let most = most_by program.overlap program slots refl accepted (legal_count program slots legal) in
    let saves = saves_count 0 program.params in
    let params = accepted.params_limit in
    let a = length-append (entry program) (blocks program slots ++ (late_stores program ++ exit program)) in
    let b = length-append (blocks program slots) (late_stores program ++ exit program) in
    let c = length-append (late_stores program) (exit program) in
    omega arith
