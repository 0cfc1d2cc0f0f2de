-- The lines of a row that the operation owns are those of its template.
use Rattle.std.proofs.Common.{◌≡◌, ℕ, zero, suc, ◌<◌, List, [], ◌∷◌, length, map, get_or, refl, ap, sym, ◌∙◌}
use Rattle.std.specs.Prelude.{slice_index_or}
use Rattle.std.specs.List.{flat_map}
use Rattle.word_operations.specs.declared.kind.Kind.{Kind}
use Rattle.word_operations.specs.declared.kind.Kind.TheVariants as kinds
use Rattle.word_program.specs.declared.operation.Op.{Op}
use Rattle.x86_instr.specs.declared.mnemonic.Mnemonic.{Mnemonic}
use Rattle.x86_instr.specs.Mnemonics.{mnemonic_of}
use Rattle.templates.specs.Table as templates
use Rattle.templates.proofs.TableLemmas.{row_is}
use Rattle.op_order.specs.Realises.{Owned, owned_by}
use Rattle.plain_lower.specs.Blocks.{Row, rows_of, no_row, row_of}

abbrev owned_in : ℕ → Row → List Owned
owned_in op r = flat_map (λ line. owned_by line.owner (mnemonic_of line.instr)) (r.middle op)

abbrev own : ℕ → List Mnemonic → List Owned
own op mnemonics = map (λ mnemonic. (op, mnemonic)) mnemonics

rows_own : (op : ℕ) (kind : Kind)
    → map (owned_in op) (rows_of kind) ≡ map (own op) (map (λ r. r.mnemonics) (templates.rows_of kind))
rows_own op kinds.AddCarry = refl
rows_own op kinds.SubBorrow = refl
rows_own op kinds.MulX = refl
rows_own op kinds.CMov = refl
rows_own op kinds.Add = refl
rows_own op kinds.Sub = refl
rows_own op kinds.Mul = refl
rows_own op kinds.And = refl
rows_own op kinds.Or = refl
rows_own op kinds.Xor = refl
rows_own op kinds.Not = refl
rows_own op kinds.Copy = refl
rows_own op (kinds.Shl count) = refl
rows_own op (kinds.Shr count) = refl
rows_own op (kinds.Shrd count) = refl

of_one : {X Y : Type 0} (f : X → Y) (xs : List X) (n : ℕ) (d : X) → f (get_or xs n d) ≡ get_or (map f xs) n (f d)
of_one f [] n d = refl
of_one f (x ∷ xs) zero d = refl
of_one f (x ∷ xs) (suc n) d = of_one f xs n d

row_owns : (kind : Kind) (template op : ℕ) → owned_in op (row_of kind template)
    ≡ own op (slice_index_or (map (λ r. r.mnemonics) (templates.rows_of kind)) template [])
unfolding row_of
row_owns kind template op =
    of_one (owned_in op) (rows_of kind) template no_row
    ∙ ap (λ rows. get_or rows template []) (rows_own op kind)
    ∙ sym (of_one (own op) (map (λ r. r.mnemonics) (templates.rows_of kind)) template [])

-- and the row is that of the operation's template with the number
pub template_owned : (op : Op) (template number : ℕ) → template < length (templates.templates_of op)
    → owned_in number (row_of op.kind template)
    ≡ own number (slice_index_or (templates.templates_of op) template [])
template_owned op template number w =
    row_owns op.kind template number ∙ ap (own number) (row_is op template w)
