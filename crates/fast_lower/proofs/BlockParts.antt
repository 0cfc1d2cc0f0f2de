-- A block of the fall-back has at most 16 lines, which are calm.
use Rattle.std.proofs.Common.{◌≡◌, ℕ, ◌+◌, ◌*◌, ◌≤◌, Bool, true, List, [], ◌∷◌, length, refl, arith, Option}
use Rattle.std.proofs.Common.{Some, None}
use Rattle.std.specs.Prelude.{is_none, nat_le, slice_get}
use Rattle.std.specs.List.{flat_map, list_all}
use Rattle.std.specs.Option.{option_map_or}
use Rattle.word_program.specs.declared.operation.Op.{Op}
use Rattle.word_program.specs.Program.{Source}
use Rattle.word_program.proofs.RowLemmas.{and_true}
use Rattle.x86_instr.specs.declared.operand.Reg.TheVariants.{Rcx, Rsp}
use Rattle.x86_instr.specs.declared.line.Line.{Line}
use Rattle.dependency_graph.specs.Needs.{first_value}
use Rattle.op_order.specs.declared.slot.Slot.{Slot}
use Rattle.plain_lower.specs.Frame.{unowned, load_word, load, store}
use Rattle.plain_lower.specs.Blocks.{Place, Row, row_of, target_at, store_all}
use Rattle.fast_lower.specs.declared.sources.ArrayWord.{ArrayWord}
use Rattle.fast_lower.specs.Taken.{taken_arg}
use Rattle.fast_lower.specs.FallBack.{load_taken, but_last, memory_word, loads_and_middle, block_by, block}
use Rattle.fast_lower.proofs.Quiet.{is_scratch, is_calm, is_quiet, IsPart, both, at_most, load_part, store_part}
use Rattle.fast_lower.proofs.Rows.{are_few, is_middle, in_memory, row_fits, below}

-- a list of lines that pass one test pass another one that follows from it
pub weaker : (test other : Line → Bool) → ((line : Line) → test line ≡ true → other line ≡ true) → (lines : List Line)
    → list_all test lines ≡ true → list_all other lines ≡ true
weaker test other follows [] e = refl
weaker test other follows (line ∷ lines) e =
    let t = and_true (test line) (list_all test lines) e in
    let here = follows line t.0 in
    let rest = weaker test other follows lines t.1 in
    rw (here, rest) refl

pub quiet_calm : (most : ℕ) (lines : List Line) → IsPart is_quiet most lines → IsPart is_calm most lines
quiet_calm most lines part = record {
  short = part.short;
  all = weaker is_quiet is_calm (λ line e. (and_true (is_none line.owner) (is_calm line) e).1) lines part.all;
}

-- ---- loads and stores

loads_quiet : (p : Source) (slot : Slot) (op : Op) (loads : List Place)
    → list_all (λ l. is_scratch l.0) loads ≡ true → IsPart is_quiet (2 * length loads) (load_taken p slot op loads)
loads_quiet p slot op [] e = record { short = omega arith; all = refl }
loads_quiet p slot op (l ∷ ls) e =
    let t = and_true (is_scratch l.0) (list_all (λ x. is_scratch x.0) ls) e in
    at_most is_quiet (2 + 2 * length ls) (2 * length (l ∷ ls)) (load_taken p slot op (l ∷ ls)) (omega arith)
    (both is_quiet 2 (2 * length ls) (load p l.0 (taken_arg slot op l.1)) (load_taken p slot op ls)
    (load_part p l.0 (taken_arg slot op l.1) t.0) (loads_quiet p slot op ls t.1))

stores_quiet : (p : Source) (value : ℕ) (op : Op) (saves : List Place)
    → list_all (λ s. is_scratch s.0) saves ≡ true → IsPart is_quiet (2 * length saves) (store_all p value op saves)
stores_quiet p value op [] e = record { short = omega arith; all = refl }
stores_quiet p value op (s ∷ ss) e =
    let t = and_true (is_scratch s.0) (list_all (λ x. is_scratch x.0) ss) e in
    at_most is_quiet (2 + 2 * length ss) (2 * length (s ∷ ss)) (store_all p value op (s ∷ ss)) (omega arith)
    (both is_quiet 2 (2 * length ss) (store p (value + s.1) (target_at op s.1) s.0) (store_all p value op ss)
    (store_part p (value + s.1) (target_at op s.1) s.0 t.0) (stores_quiet p value op ss t.1))

few_loads : (p : Source) (slot : Slot) (op : Op) (most : ℕ) (loads : List Place) → are_few most loads ≡ true
    → IsPart is_quiet (2 * most) (load_taken p slot op loads)
few_loads p slot op most loads e =
    let t = and_true (nat_le (length loads) most) (list_all (λ l. is_scratch l.0) loads) e in
    let few : length loads ≤ most = below _ _ t.0 in
    at_most is_quiet (2 * length loads) (2 * most) (load_taken p slot op loads) (omega arith)
    (loads_quiet p slot op loads t.1)

few_stores : (p : Source) (value : ℕ) (op : Op) (saves : List Place) → are_few 2 saves ≡ true
    → IsPart is_quiet 4 (store_all p value op saves)
few_stores p value op saves e =
    let t = and_true (nat_le (length saves) 2) (list_all (λ s. is_scratch s.0) saves) e in
    let few : length saves ≤ 2 = below _ _ t.0 in
    at_most is_quiet (2 * length saves) 4 (store_all p value op saves) (omega arith)
    (stores_quiet p value op saves t.1)

-- what a row loads and stores, whatever the operation
pub row_loads : (p : Source) (slot : Slot) (op : Op)
    → list_all is_quiet (load_taken p slot op (row_of op.kind slot.template).loads) ≡ true
row_loads p slot op = let row : Row = row_of op.kind slot.template in
    (few_loads p slot op 3 row.loads (row_fits slot.op 0 op.kind slot.template).loads).all

pub row_front : (p : Source) (slot : Slot) (op : Op)
    → list_all is_quiet (load_taken p slot op (but_last (row_of op.kind slot.template).loads)) ≡ true
row_front p slot op = let row : Row = row_of op.kind slot.template in
    (few_loads p slot op 2 (but_last row.loads) (row_fits slot.op 0 op.kind slot.template).front).all

pub row_stores : (p : Source) (slot : Slot) (op : Op)
    → list_all is_quiet (store_all p (first_value p slot.op) op (row_of op.kind slot.template).saves) ≡ true
row_stores p slot op = let row : Row = row_of op.kind slot.template in
    (few_stores p (first_value p slot.op) op row.saves (row_fits slot.op 0 op.kind slot.template).saves).all

middle_part : (lines : List Line) → is_middle lines ≡ true → IsPart is_calm 6 lines
middle_part lines e =
    let t = and_true (nat_le (length lines) 6) (list_all is_calm lines) e in
    record { short = below _ _ t.0; all = t.1 }

-- ---- blocks

-- the place of an array, loaded, before the lines that read it
placed : (param : ℕ) (lines : List Line) → IsPart is_calm 6 lines
    → IsPart is_calm 7 (unowned (load_word Rcx Rsp param) ∷ lines)
placed param lines part = let short = part.short in record { short = omega arith; all = part.all }

work_part : (p : Source) (slot : Slot) (op : Op) (w : Option ArrayWord)
    → IsPart is_calm 12 (loads_and_middle p slot op w)
work_part p slot op None =
    let row : Row = row_of op.kind slot.template in
    let fits = row_fits slot.op 0 op.kind slot.template in
    both is_calm 6 6 (load_taken p slot op row.loads) (row.middle slot.op)
    (quiet_calm 6 (load_taken p slot op row.loads) (few_loads p slot op 3 row.loads fits.loads))
    (middle_part (row.middle slot.op) fits.middle)
work_part p slot op (Some source) =
    let row : Row = row_of op.kind slot.template in
    let fits = row_fits slot.op source.word op.kind slot.template in
    let moved : List Line = in_memory source.word (row.middle slot.op) in
    at_most is_calm 11 12 (loads_and_middle p slot op (Some source)) (omega arith)
    (both is_calm 4 7 (load_taken p slot op (but_last row.loads)) (unowned (load_word Rcx Rsp source.param) ∷ moved)
    (quiet_calm 4 (load_taken p slot op (but_last row.loads)) (few_loads p slot op 2 (but_last row.loads) fits.front))
    (placed source.param moved (middle_part moved fits.sourced)))

block_by_part : (p : Source) (slot : Slot) (op : Op) → IsPart is_calm 16 (block_by p slot op)
block_by_part p slot op =
    let row : Row = row_of op.kind slot.template in
    let value : ℕ = first_value p slot.op in
    both is_calm 12 4 (loads_and_middle p slot op (memory_word p slot)) (store_all p value op row.saves)
    (work_part p slot op (memory_word p slot))
    (quiet_calm 4 (store_all p value op row.saves)
    (few_stores p value op row.saves (row_fits slot.op 0 op.kind slot.template).saves))

block_at : (p : Source) (slot : Slot) (found : Option Op) → IsPart is_calm 16 (option_map_or (block_by p slot) found [])
block_at p slot None = record { short = omega arith; all = refl }
block_at p slot (Some op) = block_by_part p slot op

block_part : (p : Source) (slot : Slot) → IsPart is_calm 16 (block p slot)
unfolding block
block_part p slot = block_at p slot (slice_get p.ops slot.op)

pub blocks_part : (p : Source) (slots : List Slot) → IsPart is_calm (16 * length slots) (flat_map (block p) slots)
blocks_part p [] = record { short = omega arith; all = refl }
blocks_part p (slot ∷ slots) =
    at_most is_calm (16 + 16 * length slots) (16 * length (slot ∷ slots)) (flat_map (block p) (slot ∷ slots))
    (omega arith)
    (both is_calm 16 (16 * length slots) (block p slot) (flat_map (block p) slots) (block_part p slot)
    (blocks_part p slots))
