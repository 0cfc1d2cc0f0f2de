-- The fall-back is a fast listing: it realises the plan, keeps the source rule, and is short.
use Rattle.std.proofs.Common.{◌≡◌, ℕ, zero, suc, ◌<◌, ◌≤◌, Bool, true, false, List, [], ◌∷◌, ◌++◌, length, map}
use Rattle.std.proofs.Common.{drop, refl, sym, ap, subst, ◌∙◌, arith, Option, Some, None}
use Rattle.std.proofs.lemmas.Grind.{flat_map-append}
use Rattle.std.proofs.lemmas.List.{append-nil, length-map}
use Rattle.std.proofs.Math.Seq.{drop-append_seam}
use Rattle.std.specs.Prelude.{◌&&◌, ◌%◌, ◌==◌, nat_le, slice_get, if◌then◌else◌, is_none, is_some}
use Rattle.std.specs.List.{All, flat_map, list_all}
use Rattle.std.specs.Option.{option_map_or}
use Rattle.word_program.specs.declared.operation.Op.{Op}
use Rattle.word_program.specs.Program.{Source}
use Rattle.word_program.specs.Accepted.{IsAccepted}
use Rattle.word_program.proofs.RowLemmas.{and_true}
use Rattle.x86_instr.specs.declared.instr.Instr.{Instr}
use Rattle.x86_instr.specs.declared.mnemonic.Mnemonic.{Mnemonic}
use Rattle.x86_instr.specs.declared.line.Line.{Line}
use Rattle.x86_instr.specs.declared.listing.TheConstants.{MAX_FRAME_BYTES}
use Rattle.x86_instr.specs.Frame as frames
use Rattle.x86_instr.specs.Listings.{NamedLines}
use Rattle.x86_instr.specs.Mnemonics.{mnemonic_of}
use Rattle.templates.specs.Table.{count_of, mnemonics_of}
use Rattle.op_order.specs.declared.slot.Slot.{Slot}
use Rattle.op_order.specs.Legal.{IsLegal}
use Rattle.op_order.specs.Realises.{Owned, owned_by, plan_lines}
use Rattle.op_order.proofs.LegalLemmas.{legal_ops}
use Rattle.plain_lower.specs.Frame.{frame_bytes}
use Rattle.plain_lower.specs.Blocks.{row_of}
use Rattle.plain_lower.specs.Plain.{entry, late_stores, exit}
use Rattle.fast_lower.specs.declared.sources.ArrayWord.{ArrayWord}
use Rattle.fast_lower.specs.Sources.{instr_owned, owned_instrs, is_one_source, word_of, source_word, reads_memory}
use Rattle.fast_lower.specs.Sources.{reads_register, reads_as_marked, keep_rule, owned_count}
use Rattle.fast_lower.specs.Fast.{IsFast}
use Rattle.fast_lower.specs.FallBack.{memory_word, block, blocks, fall_back_lines, fall_back_listing}
use Rattle.fast_lower.proofs.Rows.{in_memory, row_fits, below}
use Rattle.fast_lower.proofs.Owners.{owned_of, IsByOwner, behind, middle_by, mnemonics_by, instrs_by, middle_realises}
use Rattle.fast_lower.proofs.Owners.{block_gives}
use Rattle.fast_lower.proofs.Whole.{entry_quiet, late_stores_quiet, lines_short, lines_preserve}

-- ---- the lines around the blocks own nothing

exit_gives : {X : Type 0} (f : Line → List X) → IsByOwner f → (first last : Line)
    → first.owner ≡ None → last.owner ≡ None → flat_map f (first ∷ last ∷ []) ≡ []
exit_gives f by first last a b =
    let one = by first (ap is_none a) in
    let two = by last (ap is_none b) in
    ap (λ xs. xs ++ flat_map f (last ∷ [])) one ∙ ap (λ xs. xs ++ []) two

lines_give : {X : Type 0} (f : Line → List X) → IsByOwner f → (p : Source) (slots : List Slot) → IsAccepted p
    → flat_map f (fall_back_lines p slots) ≡ flat_map f (blocks p slots)
unfolding fall_back_lines
lines_give f by p slots accepted =
    behind f by (entry p) (blocks p slots ++ (late_stores p ++ exit p)) (entry_quiet p accepted).all
    ∙ flat_map-append f (blocks p slots) (late_stores p ++ exit p)
    ∙ ap (λ xs. flat_map f (blocks p slots) ++ xs)
    (behind f by (late_stores p) (exit p) (late_stores_quiet p).all ∙ exit_gives f by _ _ refl refl)
    ∙ append-nil (flat_map f (blocks p slots))

-- ---- the plan is realised

found : (ops : List Op) (n : ℕ) → n < length ops → (op : Op) × (slice_get ops n ≡ Some op)
found [] n w = absurd (omega arith)
found (op ∷ ops) zero w = (op, refl)
found (op ∷ ops) (suc n) w = found ops n (omega arith)

blocks_owned : (p : Source) (slots : List Slot) → All (λ slot. slot.op < length p.ops) slots
    → All (λ slot. slot.template < count_of p slot.op) slots → owned_of (blocks p slots) ≡ plan_lines p slots
blocks_owned p [] ops templates = refl
blocks_owned p (slot ∷ slots) ops templates =
    let there = found p.ops slot.op (ops 0 slot (omega arith)) in
    let here = block_gives (λ line. owned_by line.owner (mnemonic_of line.instr)) mnemonics_by p slot there.0 there.1
    ∙ middle_realises p slot there.0 there.1 (templates 0 slot (omega arith)) (memory_word p slot) in
    let rest = blocks_owned p slots
    (λ (k : ℕ) (d : Slot) (w : k < length slots). ops (suc k) d (omega arith))
    (λ (k : ℕ) (d : Slot) (w : k < length slots). templates (suc k) d (omega arith)) in
    flat_map-append (λ (line : Line). owned_by line.owner (mnemonic_of line.instr)) (block p slot) (blocks p slots)
    ∙ (λ i. here i ++ rest i)

-- ---- the names of the instructions that are owned

abbrev names_in : List Instr → List Mnemonic
names_in instrs = map (λ instr. mnemonic_of instr) instrs

name_here : (owner : Option ℕ) (instr : Instr) (os : List Owned) (instrs : List Instr)
    → map (λ o. o.1) os ≡ names_in instrs
    → map (λ o. o.1) (owned_by owner (mnemonic_of instr) ++ os) ≡ names_in (instr_owned owner instr ++ instrs)
name_here None instr os instrs e = e
name_here (Some op) instr os instrs e = ap (λ names. mnemonic_of instr ∷ names) e

names_owned : (lines : List Line) → map (λ o. o.1) (owned_of lines) ≡ names_in (owned_instrs lines)
names_owned [] = refl
names_owned (line ∷ lines) =
    name_here line.owner line.instr (owned_of lines) (owned_instrs lines) (names_owned lines)

names_paired : (op : ℕ) (names : List Mnemonic) → map (λ (o : Owned). o.1) (map (λ name. (op, name)) names) ≡ names
names_paired op [] = refl
names_paired op (name ∷ names) = ap (λ rest. name ∷ rest) (names_paired op names)

-- a block owns instructions with the names of the slot's template
names_are : (p : Source) (slot : Slot) (op : Op) → slice_get p.ops slot.op ≡ Some op
    → slot.template < count_of p slot.op → (w : Option ArrayWord)
    → names_in (owned_instrs (middle_by slot op w)) ≡ mnemonics_of p slot.op slot.template
names_are p slot op e h w =
    sym (names_owned (middle_by slot op w))
    ∙ ap (λ (os : List Owned). map (λ o. o.1) os) (middle_realises p slot op e h w)
    ∙ names_paired slot.op (mnemonics_of p slot.op slot.template)

-- ---- the source rule

no_rule : (o : Option Instr) → option_map_or (λ instr. true) o true ≡ true
no_rule None = refl
no_rule (Some instr) = refl

first_marked : (marked : Instr → Bool) (instrs rest : List Instr) → list_all marked instrs ≡ true
    → is_one_source (names_in instrs) ≡ true → option_map_or marked (slice_get (instrs ++ rest) 0) true ≡ true
first_marked marked [] rest e h = absurd (cc)
first_marked marked (instr ∷ instrs) rest e h = (and_true (marked instr) (list_all marked instrs) e).0

where_true : (c b : Bool) → c ≡ true → (if c then b else true) ≡ true → b ≡ true
where_true true b e h = h
where_true false b e h = absurd (cc)

-- one instruction with a source reads it from a register, and from the memory where it is put there
both_ways : (slot : Slot) (op : Op) (word : ℕ)
    → is_one_source (names_in (owned_instrs ((row_of op.kind slot.template).middle slot.op))) ≡ true
    → (list_all reads_register (owned_instrs ((row_of op.kind slot.template).middle slot.op)) ≡ true)
    × (list_all reads_memory (owned_instrs (in_memory word ((row_of op.kind slot.template).middle slot.op))) ≡ true)
both_ways slot op word one =
    let lines : List Line = (row_of op.kind slot.template).middle slot.op in
    and_true (list_all reads_register (owned_instrs lines))
    (list_all reads_memory (owned_instrs (in_memory word lines)))
    (where_true (is_one_source (names_in (owned_instrs lines)))
    (list_all reads_register (owned_instrs lines) && list_all reads_memory (owned_instrs (in_memory word lines)))
    one (row_fits slot.op word op.kind slot.template).moved)

first_by : (slot : Slot) (op : Op) (names : List Mnemonic) (load_first : Bool) (word : Option ArrayWord)
    → ((w : Option ArrayWord) → names_in (owned_instrs (middle_by slot op w)) ≡ names)
    → (is_some word ≡ true → is_one_source names ≡ true) → (rest : List Instr)
    → option_map_or (λ instr. if is_some word then reads_as_marked load_first instr else true)
    (slice_get (owned_instrs (middle_by slot op (if load_first then None else word)) ++ rest) 0) true ≡ true
first_by slot op names load_first None are one rest =
    no_rule (slice_get (owned_instrs (middle_by slot op (if load_first then None else None)) ++ rest) 0)
first_by slot op names true (Some source) are one rest =
    let single = ap is_one_source (are None) ∙ one refl in
    first_marked reads_register (owned_instrs (middle_by slot op None)) rest (both_ways slot op source.word single).0
    single
first_by slot op names false (Some source) are one rest =
    let single = ap is_one_source (are None) ∙ one refl in
    first_marked reads_memory (owned_instrs (middle_by slot op (Some source))) rest
    (both_ways slot op source.word single).1 (ap is_one_source (are (Some source)) ∙ one refl)

ruled : (c : Bool) (word : Option ArrayWord) → is_some (if c then word else None) ≡ true → c ≡ true
ruled true word e = refl
ruled false word e = absurd (cc)

-- where the rule speaks of a slot, its template is one instruction with a source
one_source : (p : Source) (slot : Slot) (op : Op) → slice_get p.ops slot.op ≡ Some op
    → is_some (source_word p slot) ≡ true → is_one_source (mnemonics_of p slot.op slot.template) ≡ true
one_source p slot op e s =
    ruled _ _ (subst (λ (o : Option Op). is_some (word_of p slot o) ≡ true) e s)

-- one slot, and those behind it
slot_keeps : (p : Source) (slot : Slot) (slots : List Slot) (op : Op) → slice_get p.ops slot.op ≡ Some op
    → slot.template < count_of p slot.op → (rest : List Instr) → keep_rule p slots rest ≡ true
    → keep_rule p (slot ∷ slots) (owned_instrs (middle_by slot op (memory_word p slot)) ++ rest) ≡ true
slot_keeps p slot slots op e h rest kept =
    let instrs : List Instr = owned_instrs (middle_by slot op (memory_word p slot)) in
    let names = names_are p slot op e h (memory_word p slot) in
    let count : length instrs ≡ owned_count p slot =
    sym (length-map instrs (λ instr. mnemonic_of instr)) ∙ ap length names in
    let left : drop (owned_count p slot) (instrs ++ rest) ≡ rest =
    ap (λ n. drop n (instrs ++ rest)) (sym count) ∙ drop-append_seam instrs rest in
    ap (λ b. b && keep_rule p slots (drop (owned_count p slot) (instrs ++ rest)))
    (first_by slot op (mnemonics_of p slot.op slot.template) slot.load_first (source_word p slot)
    (names_are p slot op e h) (one_source p slot op e) rest)
    ∙ ap (keep_rule p slots) left ∙ kept

blocks_keep : (p : Source) (slots : List Slot) → All (λ slot. slot.op < length p.ops) slots
    → All (λ slot. slot.template < count_of p slot.op) slots
    → keep_rule p slots (owned_instrs (blocks p slots)) ≡ true
blocks_keep p [] ops templates = refl
blocks_keep p (slot ∷ slots) ops templates =
    let there = found p.ops slot.op (ops 0 slot (omega arith)) in
    let here = block_gives (λ line. instr_owned line.owner line.instr) instrs_by p slot there.0 there.1 in
    let rest = blocks_keep p slots
    (λ (k : ℕ) (d : Slot) (w : k < length slots). ops (suc k) d (omega arith))
    (λ (k : ℕ) (d : Slot) (w : k < length slots). templates (suc k) d (omega arith)) in
    ap (keep_rule p (slot ∷ slots))
    (flat_map-append (λ (line : Line). instr_owned line.owner line.instr) (block p slot) (blocks p slots)
    ∙ ap (λ instrs. instrs ++ owned_instrs (blocks p slots)) here)
    ∙ slot_keeps p slot slots there.0 there.1 (templates 0 slot (omega arith)) (owned_instrs (blocks p slots)) rest

-- ---- the frame

frame_limit : (n : ℕ) (b : Bool) → frames.is_frame n ≡ b → (if b then n else 0) ≤ MAX_FRAME_BYTES
frame_limit n true e =
    let t = and_true (n % 8 == 0) (nat_le 8 n && nat_le n MAX_FRAME_BYTES) e in
    below n MAX_FRAME_BYTES (and_true (nat_le 8 n) (nat_le n MAX_FRAME_BYTES) t.1).1
frame_limit n false e = omega arith

lines_framed : (p : Source) (slots : List Slot) → frames.frame_of (fall_back_lines p slots) ≤ MAX_FRAME_BYTES
unfolding fall_back_lines
lines_framed p slots = frame_limit (frame_bytes p) (frames.is_frame (frame_bytes p)) refl

-- ---- the whole

fall_back_fast : (p : Source) (slots : List Slot) → IsAccepted p → IsLegal p slots
    → IsFast p slots (fall_back_listing p slots)
fall_back_fast p slots accepted legal =
    let none = lines_preserve p slots accepted in
    record {
      name = refl;
      realises = lines_give (λ line. owned_by line.owner (mnemonic_of line.instr)) mnemonics_by p slots accepted
          ∙ blocks_owned p slots (legal_ops p slots legal) legal.templates;
      frame = lines_framed p slots;
      short = lines_short p slots accepted legal;
      room = omega arith;
      sources = ap (keep_rule p slots)
          (lines_give (λ line. instr_owned line.owner line.instr) instrs_by p slots accepted)
          ∙ blocks_keep p slots (legal_ops p slots legal) legal.templates;
    }

pub is_fast : (p : Source) (slots : List Slot) → IsAccepted p → IsLegal p slots → (listing : NamedLines)
    → listing ≡ fall_back_listing p slots → IsFast p slots listing
is_fast p slots accepted legal listing e =
    subst (λ (l : NamedLines). IsFast p slots l) (sym e) (fall_back_fast p slots accepted legal)
