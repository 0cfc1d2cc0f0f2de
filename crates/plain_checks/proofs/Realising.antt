-- A plain listing does what its plan says: entry, loads, stores and exit have no owner, and a block's middle has those
-- of its template.
use Rattle.std.proofs.Common.{◌≡◌, ℕ, suc, ◌+◌, ◌<◌, Bool, true, false, List, [], ◌∷◌, ◌++◌, length, map, refl}
use Rattle.std.proofs.Common.{sym, ap, subst, ◌∙◌, arith, Option, Some, None}
use Rattle.std.proofs.lemmas.Grind.{flat_map-append}
use Rattle.std.proofs.lemmas.List.{append-nil}
use Rattle.std.specs.Prelude.{slice_get, slice_index_or, if◌then◌else◌}
use Rattle.std.specs.List.{All, flat_map}
use Rattle.std.specs.Option.{option_map_or}
use Rattle.word_program.specs.declared.parameter.Param.{Param}
use Rattle.word_program.specs.declared.parameter.Role.{Role}
use Rattle.word_program.specs.declared.parameter.Role.TheVariants.{Output, InputArray, InputScalar}
use Rattle.word_program.specs.declared.operation.Op.{Op}
use Rattle.word_program.specs.declared.operation.Operand.{Operand}
use Rattle.word_program.specs.declared.operation.Operand.TheVariants as operands
use Rattle.word_program.specs.declared.operation.Target.{Target}
use Rattle.word_program.specs.declared.operation.Target.TheVariants as targets
use Rattle.word_program.specs.Program.{Source}
use Rattle.word_program.specs.Values.{targets_of}
use Rattle.x86_instr.specs.declared.operand.Reg.{Reg}
use Rattle.x86_instr.specs.declared.line.Line.{Line}
use Rattle.x86_instr.specs.Mnemonics.{mnemonic_of}
use Rattle.dependency_graph.specs.Needs.{first_value}
use Rattle.templates.specs.Table.{templates_of, count_of}
use Rattle.op_order.specs.declared.slot.Slot.{Slot}
use Rattle.op_order.specs.Legal.{IsLegal}
use Rattle.op_order.specs.Realises.{Owned, Realises, owned_by, plan_lines, slot_lines}
use Rattle.op_order.proofs.LegalLemmas.{legal_ops}
use Rattle.plain_lower.specs.Frame.{role_of, load_input, load, keep, put_out, store, store_late}
use Rattle.plain_lower.specs.Blocks.{Row, row_of, arg_at, target_at, load_all, store_all, block_of, block}
use Rattle.plain_lower.specs.Plain.{saves_from, entry, blocks, late_from, late_stores, exit, plain_lines, plain_listing}
use Rattle.plain_lower.proofs.Templates.{template_owned}
use Rattle.plain_checks.proofs.Lists.{found}

-- what lines own
abbrev owned_of : List Line → List Owned
owned_of lines = flat_map (λ line. owned_by line.owner (mnemonic_of line.instr)) lines

owned_append : (xs ys : List Line) → owned_of (xs ++ ys) ≡ owned_of xs ++ owned_of ys
owned_append xs ys = flat_map-append (λ (line : Line). owned_by line.owner (mnemonic_of line.instr)) xs ys

-- ---- lines without an owner

owned_behind : (xs ys : List Line) → owned_of xs ≡ [] → owned_of (xs ++ ys) ≡ owned_of ys
owned_behind xs ys e = owned_append xs ys ∙ ap (λ os. os ++ owned_of ys) e

owned_before : (xs ys : List Line) → owned_of ys ≡ [] → owned_of (xs ++ ys) ≡ owned_of xs
owned_before xs ys e = owned_append xs ys ∙ ap (λ os. owned_of xs ++ os) e ∙ append-nil (owned_of xs)

none_each : {X : Type 0} (f : X → List Line) → ((x : X) → owned_of (f x) ≡ []) → (xs : List X)
    → owned_of (flat_map f xs) ≡ []
none_each f each [] = refl
none_each f each (x ∷ xs) = owned_behind (f x) (flat_map f xs) (each x) ∙ none_each f each xs

input_free : (role : Option Role) (dst : Reg) (param word : ℕ) → owned_of (load_input role dst param word) ≡ []
input_free None dst param word = refl
input_free (Some Output) dst param word = refl
input_free (Some InputScalar) dst param word = refl
input_free (Some InputArray) dst param word = refl

load_free : (p : Source) (dst : Reg) (x : Operand) → owned_of (load p dst x) ≡ []
load_free p dst (operands.Literal n) = refl
load_free p dst (operands.Input param word) = input_free (role_of p param) dst param word
load_free p dst (operands.Value value) = refl

output_free : (overlap : Bool) (p : Source) (value param word : ℕ) (src : Reg)
    → owned_of (if overlap then keep p value src else put_out param word src) ≡ []
output_free true p value param word src = refl
output_free false p value param word src = refl

store_free : (p : Source) (value : ℕ) (t : Target) (src : Reg) → owned_of (store p value t src) ≡ []
store_free p value targets.Value src = refl
store_free p value targets.Unused src = refl
store_free p value (targets.Output param word) src = output_free p.overlap p value param word src

saves_free : (param : ℕ) (ps : List Param) → owned_of (saves_from param ps) ≡ []
saves_free param [] = refl
saves_free param (p ∷ ps) = saves_free (param + 1) ps

late_free : (p : Source) (value : ℕ) (t : Target) → owned_of (store_late p value t) ≡ []
late_free p value targets.Value = refl
late_free p value targets.Unused = refl
late_free p value (targets.Output param word) = refl

all_late_free : (p : Source) (value : ℕ) (ts : List Target) → owned_of (late_from p value ts) ≡ []
all_late_free p value [] = refl
all_late_free p value (t ∷ ts) = owned_behind (store_late p value t) (late_from p (value + 1) ts) (late_free p value t)
    ∙ all_late_free p (value + 1) ts

late_if_free : (overlap : Bool) (p : Source) (ts : List Target)
    → owned_of (if overlap then late_from p 0 ts else []) ≡ []
late_if_free true p ts = all_late_free p 0 ts
late_if_free false p ts = refl

late_stores_free : (p : Source) → owned_of (late_stores p) ≡ []
late_stores_free p = late_if_free p.overlap p (targets_of p.ops)

-- ---- blocks

-- a block owns what its middle owns
middle_owned : (p : Source) (number : ℕ) (r : Row) (op : Op)
    → owned_of (block_of p number r op) ≡ owned_of (r.middle number)
middle_owned p number r op =
    let value : ℕ = first_value p number in
    owned_behind (load_all p op r.loads) (r.middle number ++ store_all p value op r.saves)
    (none_each (λ l. load p l.0 (arg_at op l.1)) (λ l. load_free p l.0 (arg_at op l.1)) r.loads)
    ∙ owned_before (r.middle number) (store_all p value op r.saves)
    (none_each (λ s. store p (value + s.1) (target_at op s.1) s.0)
    (λ s. store_free p (value + s.1) (target_at op s.1) s.0) r.saves)

-- the lines of an operation's template
abbrev template_lines : ℕ → ℕ → Option Op → List Owned
template_lines number template o =
    map (λ mnemonic. (number, mnemonic)) (slice_index_or (option_map_or templates_of o []) template [])

block_owned : (p : Source) (slot : Slot) (op : Op) → slice_get p.ops slot.op ≡ Some op
    → slot.template < count_of p slot.op → owned_of (block p slot) ≡ slot_lines p slot
unfolding block
block_owned p slot op e h =
    let below : slot.template < length (templates_of op) =
    subst (λ (o : Option Op). slot.template < length (option_map_or templates_of o [])) e h in
    ap (λ (o : Option Op). owned_of (option_map_or (λ x. block_of p slot.op (row_of x.kind slot.template) x) o [])) e
    ∙ middle_owned p slot.op (row_of op.kind slot.template) op
    ∙ template_owned op slot.template slot.op below
    ∙ sym (ap (template_lines slot.op slot.template) e)

blocks_owned : (p : Source) (slots : List Slot) → All (λ slot. slot.op < length p.ops) slots
    → All (λ slot. slot.template < count_of p slot.op) slots → owned_of (blocks p slots) ≡ plan_lines p slots
blocks_owned p [] ops templates = refl
blocks_owned p (slot ∷ slots) ops templates =
    let there = found p.ops slot.op (ops 0 slot (omega arith)) in
    let here = block_owned p slot there.0 there.1 (templates 0 slot (omega arith)) in
    let rest = blocks_owned p slots
    (λ (k : ℕ) (d : Slot) (w : k < length slots). ops (suc k) d (omega arith))
    (λ (k : ℕ) (d : Slot) (w : k < length slots). templates (suc k) d (omega arith)) in
    owned_append (block p slot) (blocks p slots) ∙ (λ i. here i ++ rest i)

-- ---- the whole

lines_owned : (p : Source) (slots : List Slot) → owned_of (plain_lines p slots) ≡ owned_of (blocks p slots)
unfolding plain_lines
lines_owned p slots =
    owned_behind (entry p) (blocks p slots ++ (late_stores p ++ exit p)) (saves_free 0 p.params)
    ∙ owned_before (blocks p slots) (late_stores p ++ exit p)
    (owned_behind (late_stores p) (exit p) (late_stores_free p))

-- the lines of a plain listing that have an owner are those of the plan's templates
pub plain_realises : (program : Source) (slots : List Slot) → IsLegal program slots
    → Realises program slots (plain_listing program slots)
plain_realises program slots legal =
    lines_owned program slots
    ∙ blocks_owned program slots (legal_ops program slots legal) legal.templates
