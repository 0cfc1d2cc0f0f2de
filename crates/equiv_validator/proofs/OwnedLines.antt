-- The owned lines of a listing that lack a part of those that a plan asks for, lack the whole.
use Rattle.std.proofs.Common.{◌≡◌, ℕ, ◌+◌, ◌<◌, List, [], ◌∷◌, ◌++◌, length, take, drop, get_or, sym, ap, ◌∙◌, subst}
use Rattle.std.proofs.Common.{add-one, append-nil, arith}
use Rattle.std.proofs.lemmas.List.{append_assoc, append_cancel_left, map-append, map_more, take-append-drop}
use Rattle.std.proofs.lemmas.List.{flat_map_more, take_all, take_more}
use Rattle.word_program.specs.Program.{Source}
use Rattle.x86_instr.specs.declared.line.Line.{Line}
use Rattle.x86_instr.specs.declared.mnemonic.Mnemonic.{Mnemonic}
use Rattle.x86_instr.specs.Listings.{NamedLines}
use Rattle.op_order.specs.declared.slot.Slot.{Slot}
use Rattle.op_order.specs.Realises.{DiffersFirst, Owned, plan_lines, slot_lines}
use Rattle.equiv_validator.specs.Owned.{IsFirstOff, Lacks, Leaves, lines_by, owned_in}

-- what is not there behind a front is not there with it
lacks_behind : (lines left : List Line) (front next : List Owned) → Leaves lines front left → Lacks left next
    → Lacks lines (front ++ next)
lacks_behind lines left front next e other b =
    other (
      b.0,
      append_cancel_left front (owned_in left) (next ++ b.0)
          (sym e ∙ b.1 ∙ append_assoc front next b.0),
    )

lacks_longer : (lines : List Line) (front more : List Owned) → Lacks lines front → Lacks lines (front ++ more)
lacks_longer lines front more other b = other (more ++ b.0, b.1 ∙ append_assoc front more b.0)

-- the lines for all mnemonics are not there where one is not, behind those before it
pub lacks_name : (lines left : List Line) (op : ℕ) (names : List Mnemonic) (at : ℕ) (d : Mnemonic) → at < length names
    → Leaves lines (lines_by op (take at names)) left → Lacks left ((op, get_or names at d) ∷ [])
    → Lacks lines (lines_by op names)
lacks_name lines left op names at d w e other =
    let pair : Mnemonic → Owned = λ (name : Mnemonic). (op, name) in
    subst (λ (ns : List Mnemonic). Lacks lines (lines_by op ns)) (take-append-drop (at + 1) names)
    (subst (Lacks lines) (sym (map-append pair (take (at + 1) names) (drop (at + 1) names)))
    (lacks_longer lines (lines_by op (take (at + 1) names)) (lines_by op (drop (at + 1) names))
    (subst (Lacks lines) (sym (map_more pair names at d w))
    (lacks_behind lines left (lines_by op (take at names)) ((op, get_or names at d) ∷ []) e other))))

-- the lines of the slots before a place, and of the slot there
plan_more : (program : Source) (slots : List Slot) (at : ℕ) (d : Slot) → at < length slots
    → plan_lines program (take at slots) ++ slot_lines program (get_or slots at d)
    ≡ plan_lines program (take (at + 1) slots)
plan_more program slots at d w =
    flat_map_more (slot_lines program) [] (take at slots) (get_or slots at d)
    ∙ ap (plan_lines program) (sym (take_more slots at d w))

-- what is left behind the lines of one more slot
pub leaves_slot : (program : Source) (lines left behind : List Line) (slots : List Slot) (at : ℕ) (d : Slot)
    → at < length slots → Leaves lines (plan_lines program (take at slots)) left
    → Leaves left (slot_lines program (get_or slots at d)) behind
    → Leaves lines (plan_lines program (take (at + 1) slots)) behind
leaves_slot program lines left behind slots at d w e f =
    let front = plan_lines program (take at slots) in
    let next = slot_lines program (get_or slots at d) in
    subst (λ (xs : List Owned). Leaves lines xs behind) (plan_more program slots at d w)
    (e ∙ ap (λ xs. plan_lines program (take at slots) ++ xs) f
    ∙ sym (append_assoc front next (owned_in behind)))

-- the slot at a place is the first one off, where its lines are not there behind those of the slots before it
pub off_here : (program : Source) (lines left : List Line) (slots : List Slot) (at : ℕ) (d : Slot)
    → at < length slots → Leaves lines (plan_lines program (take at slots)) left
    → Lacks left (slot_lines program (get_or slots at d)) → IsFirstOff program slots lines at
off_here program lines left slots at d w e other = record {
  within = w;
  before = (owned_in left, e);
  here = subst (λ (n : ℕ). Lacks lines (plan_lines program (take n slots))) (add-one at)
      (subst (Lacks lines) (plan_more program slots at d w)
      (lacks_behind lines left (plan_lines program (take at slots)) (slot_lines program (get_or slots at d)) e other));
}

-- owned lines are left over behind those of all slots
pub left_over : (program : Source) (slots : List Slot) (listing : NamedLines) (left behind : List Line) (next : Owned)
    → Leaves listing.lines (plan_lines program slots) left → Leaves left (next ∷ []) behind
    → DiffersFirst program slots listing (length slots)
left_over program slots listing left behind next e f = record {
  within = omega arith;
  before = (
    owned_in left,
    e ∙ ap (λ xs. plan_lines program xs ++ owned_in left) (sym (take_all (length slots) slots (omega arith))),
  );
  here = λ short. absurd (omega arith);
  over = λ _ all. nothing_left (plan_lines program slots) next (owned_in behind) (sym all ∙ e
      ∙ ap (λ xs. plan_lines program slots ++ xs) f);
} where
  nothing_left : (front : List Owned) (x : Owned) (more : List Owned) → front ≡ front ++ x ∷ more → ⊥
  nothing_left front x more e =
      let same : [] ≡ x ∷ more = append_cancel_left front [] (x ∷ more) (append-nil front ∙ e) in cc
