-- What the lines of the fall-back own: a block has the instructions of its template.
use Rattle.std.proofs.Common.{◌≡◌, ℕ, ◌<◌, true, List, [], ◌∷◌, ◌++◌, length, map, refl, sym}
use Rattle.std.proofs.Common.{ap, subst, ◌∙◌, Option, Some, None}
use Rattle.std.proofs.lemmas.Grind.{flat_map-append}
use Rattle.std.proofs.lemmas.List.{append-nil}
use Rattle.std.specs.Prelude.{slice_get, slice_index_or, is_none}
use Rattle.std.specs.List.{flat_map, list_all}
use Rattle.std.specs.Option.{option_map_or}
use Rattle.word_program.specs.declared.operation.Op.{Op}
use Rattle.word_program.specs.Program.{Source}
use Rattle.word_program.proofs.RowLemmas.{and_true}
use Rattle.x86_instr.specs.declared.operand.Reg.TheVariants.{Rcx, Rsp}
use Rattle.x86_instr.specs.declared.operand.Mem.{Mem}
use Rattle.x86_instr.specs.declared.instr.Instr.{Instr}
use Rattle.x86_instr.specs.declared.instr.Instr.TheVariants as instrs
use Rattle.x86_instr.specs.declared.mnemonic.Mnemonic.{Mnemonic}
use Rattle.x86_instr.specs.declared.line.Line.{Line}
use Rattle.x86_instr.specs.Mnemonics.{mnemonic_of}
use Rattle.dependency_graph.specs.Needs.{first_value}
use Rattle.templates.specs.Table.{templates_of, count_of}
use Rattle.op_order.specs.declared.slot.Slot.{Slot}
use Rattle.op_order.specs.Realises.{Owned, owned_by, slot_lines}
use Rattle.plain_lower.specs.Frame.{unowned, load_word, word_at}
use Rattle.plain_lower.specs.Blocks.{Row, row_of, store_all}
use Rattle.plain_lower.proofs.Templates.{template_owned}
use Rattle.fast_lower.specs.declared.sources.ArrayWord.{ArrayWord}
use Rattle.fast_lower.specs.Sources.{instr_owned}
use Rattle.fast_lower.specs.FallBack.{sourced, line_sourced, load_taken, but_last, memory_word, loads_and_middle}
use Rattle.fast_lower.specs.FallBack.{block_by, block}
use Rattle.fast_lower.proofs.Quiet.{is_calm, is_quiet}
use Rattle.fast_lower.proofs.Rows.{in_memory}
use Rattle.fast_lower.proofs.BlockParts.{row_loads, row_front, row_stores}

-- what lines own
abbrev pub owned_of : List Line → List Owned
owned_of lines = flat_map (λ line. owned_by line.owner (mnemonic_of line.instr)) lines

-- ---- quiet lines own nothing

-- a list that a line gives is empty where no operation owns the line
abbrev pub IsByOwner : {X : Type 0} → (Line → List X) → Type 0
IsByOwner f = (line : Line) → is_none line.owner ≡ true → f line ≡ []

mnemonic_by_owner : (owner : Option ℕ) (name : Mnemonic) → is_none owner ≡ true → owned_by owner name ≡ []
mnemonic_by_owner None name e = refl
mnemonic_by_owner (Some op) name e = absurd (cc)

instr_by_owner : (owner : Option ℕ) (instr : Instr) → is_none owner ≡ true → instr_owned owner instr ≡ []
instr_by_owner None instr e = refl
instr_by_owner (Some op) instr e = absurd (cc)

quiet_gives : {X : Type 0} (f : Line → List X) → IsByOwner f → (lines : List Line)
    → list_all is_quiet lines ≡ true → flat_map f lines ≡ []
quiet_gives f by [] e = refl
quiet_gives f by (line ∷ lines) e =
    let t = and_true (is_quiet line) (list_all is_quiet lines) e in
    let u = and_true (is_none line.owner) (is_calm line) t.0 in
    ap (λ xs. xs ++ flat_map f lines) (by line u.0) ∙ quiet_gives f by lines t.1

pub behind : {X : Type 0} (f : Line → List X) → IsByOwner f → (xs ys : List Line) → list_all is_quiet xs ≡ true
    → flat_map f (xs ++ ys) ≡ flat_map f ys
behind f by xs ys e = flat_map-append f xs ys ∙ ap (λ os. os ++ flat_map f ys) (quiet_gives f by xs e)

before : {X : Type 0} (f : Line → List X) → IsByOwner f → (xs ys : List Line) → list_all is_quiet ys ≡ true
    → flat_map f (xs ++ ys) ≡ flat_map f xs
before f by xs ys e =
    flat_map-append f xs ys ∙ ap (λ os. flat_map f xs ++ os) (quiet_gives f by ys e) ∙ append-nil (flat_map f xs)

-- ---- blocks

-- the lines between the loads and the stores
abbrev pub middle_by : Slot → Op → Option ArrayWord → List Line
middle_by slot op None = (row_of op.kind slot.template).middle slot.op
middle_by slot op (Some source) = in_memory source.word ((row_of op.kind slot.template).middle slot.op)

work_gives : {X : Type 0} (f : Line → List X) → IsByOwner f → (p : Source) (slot : Slot) (op : Op)
    (w : Option ArrayWord) → flat_map f (loads_and_middle p slot op w) ≡ flat_map f (middle_by slot op w)
work_gives f by p slot op None =
    let row : Row = row_of op.kind slot.template in
    behind f by (load_taken p slot op row.loads) (row.middle slot.op) (row_loads p slot op)
work_gives f by p slot op (Some source) =
    let row : Row = row_of op.kind slot.template in
    let place : Line = unowned (load_word Rcx Rsp source.param) in
    let moved : List Line = in_memory source.word (row.middle slot.op) in
    behind f by (load_taken p slot op (but_last row.loads)) (place ∷ moved) (row_front p slot op)
    ∙ behind f by (place ∷ []) moved refl

-- a block gives what those lines give
block_by_gives : {X : Type 0} (f : Line → List X) → IsByOwner f → (p : Source) (slot : Slot) (op : Op)
    → flat_map f (block_by p slot op) ≡ flat_map f (middle_by slot op (memory_word p slot))
block_by_gives f by p slot op =
    let row : Row = row_of op.kind slot.template in
    before f by (loads_and_middle p slot op (memory_word p slot)) (store_all p (first_value p slot.op) op row.saves)
    (row_stores p slot op)
    ∙ work_gives f by p slot op (memory_word p slot)

pub mnemonics_by : IsByOwner (λ line. owned_by line.owner (mnemonic_of line.instr))
mnemonics_by line e = mnemonic_by_owner line.owner (mnemonic_of line.instr) e

pub instrs_by : IsByOwner (λ line. instr_owned line.owner line.instr)
instrs_by line e = instr_by_owner line.owner line.instr e

-- ---- the mnemonics of a block

same_mnemonic : (mem : Mem) (instr : Instr) → mnemonic_of (sourced mem instr) ≡ mnemonic_of instr
same_mnemonic mem (instrs.Bin op dst src) = refl
same_mnemonic mem (instrs.Adcx dst src) = refl
same_mnemonic mem (instrs.Adox dst src) = refl
same_mnemonic mem (instrs.Imul dst src) = refl
same_mnemonic mem _ = refl

-- a source in the memory changes no mnemonic
sourced_owned : (mem : Mem) (lines : List Line) → owned_of (map (line_sourced mem) lines) ≡ owned_of lines
sourced_owned mem [] = refl
sourced_owned mem (line ∷ lines) =
    let here = ap (owned_by line.owner) (same_mnemonic mem line.instr) in
    let rest = sourced_owned mem lines in
    λ i. here i ++ rest i

middle_owned : (slot : Slot) (op : Op) (w : Option ArrayWord)
    → owned_of (middle_by slot op w) ≡ owned_of ((row_of op.kind slot.template).middle slot.op)
middle_owned slot op None = refl
middle_owned slot op (Some source) =
    sourced_owned (word_at Rcx source.word) ((row_of op.kind slot.template).middle slot.op)

-- the lines of an operation's template
abbrev template_lines : ℕ → ℕ → Option Op → List Owned
template_lines number template o =
    map (λ mnemonic. (number, mnemonic)) (slice_index_or (option_map_or templates_of o []) template [])

pub middle_realises : (p : Source) (slot : Slot) (op : Op) → slice_get p.ops slot.op ≡ Some op
    → slot.template < count_of p slot.op → (w : Option ArrayWord) → owned_of (middle_by slot op w) ≡ slot_lines p slot
middle_realises p slot op e h w =
    let below : slot.template < length (templates_of op) =
    subst (λ (o : Option Op). slot.template < length (option_map_or templates_of o [])) e h in
    middle_owned slot op w
    ∙ template_owned op slot.template slot.op below
    ∙ sym (ap (template_lines slot.op slot.template) e)

-- the block of a slot whose operation is there
block_found : (p : Source) (slot : Slot) (op : Op) → slice_get p.ops slot.op ≡ Some op
    → block p slot ≡ block_by p slot op
unfolding block
block_found p slot op e = ap (λ (o : Option Op). option_map_or (block_by p slot) o []) e

pub block_gives : {X : Type 0} (f : Line → List X) → IsByOwner f → (p : Source) (slot : Slot) (op : Op)
    → slice_get p.ops slot.op ≡ Some op
    → flat_map f (block p slot) ≡ flat_map f (middle_by slot op (memory_word p slot))
block_gives f by p slot op e = ap (flat_map f) (block_found p slot op e) ∙ block_by_gives f by p slot op
