-- What a legal plan keeps, and which plans are legal.
use Rattle.std.proofs.Common.{◌≡◌, ℕ, zero, suc, ◌+◌, ◌<◌, ◌≤◌, Bool, true, false, List, [], ◌∷◌, length, get_or, set}
use Rattle.std.proofs.Common.{map, refl, sym, ◌∙◌, ap, subst, arith, zero-add, inl, inr}
use Rattle.std.proofs.lemmas.Bool.{cases_eq}
use Rattle.std.proofs.lemmas.List.{length-map, length-set, get_or-map, get_or_default, map-set, set-get_or}
use Rattle.std.proofs.lemmas.List.{get_or-set_same, get_or-set_other}
use Rattle.std.proofs.lemmas.List.FromFn.{length-range_with_len, get_or-range_with_len, length-map-range_with_len}
use Rattle.std.proofs.lemmas.List.FromFn.{get_or-map-range_with_len}
use Rattle.std.proofs.lemmas.List.Sorted.{IsPermutation-refl, length_permutation, All-permutation, Contains-permutation}
use Rattle.std.proofs.lemmas.Bool.Decides.{nat_tests}
use Rattle.std.specs.Prelude.{nat_lt, slice_get, slice_set}
use Rattle.std.specs.Option.{option_map_or}
use Rattle.std.specs.List.{All, Contains, range_with_len}
use Rattle.std.specs.List.Sorted.{IsPermutation}
use Rattle.word_program.specs.declared.operation.Op.{Op}
use Rattle.word_program.specs.Program.{Source}
use Rattle.dependency_graph.specs.Needs.{is_needed}
use Rattle.dependency_graph.proofs.NeedLemmas.{needed_within}
use Rattle.templates.specs.Table.{count_of, templates_of}
use Rattle.templates.proofs.TableLemmas.{has_template}
use Rattle.op_order.specs.declared.slot.Slot.{Slot}
use Rattle.op_order.specs.Plans.{opening_slot, opening_of, op_at}
use Rattle.op_order.specs.Legal.{IsLegal, ops_of}

numbers_below : (n : ℕ) → All (λ op. op < n) (range_with_len 0 n)
numbers_below n k d w =
    let l = length-range_with_len 0 n in
    let e = get_or-range_with_len 0 n k d (omega arith) in
    omega arith

-- as many slots as operations
pub legal_count : (p : Source) (slots : List Slot) → IsLegal p slots → length slots ≡ length p.ops
legal_count p slots legal =
    let a = length_permutation (range_with_len 0 (length p.ops)) (ops_of slots) legal.order in
    let b = length-map slots (λ slot. slot.op) in
    let l = length-range_with_len 0 (length p.ops) in
    omega arith

-- each slot has an operation of the program
pub legal_op : (p : Source) (slots : List Slot) → IsLegal p slots → (at : ℕ) → at < length slots
    → op_at slots at < length p.ops
legal_op p slots legal at w =
    let all = All-permutation (λ op. op < length p.ops) (range_with_len 0 (length p.ops)) (ops_of slots) legal.order
    (numbers_below (length p.ops)) in
    let l = length-map slots (λ slot. slot.op) in
    let here = all at 0 (omega arith) in
    let e = get_or-map (λ slot. slot.op) slots at (opening_slot 0) 0 w in
    omega arith

pub legal_ops : (p : Source) (slots : List Slot) → IsLegal p slots → All (λ slot. slot.op < length p.ops) slots
legal_ops p slots legal k d w =
    let here = legal_op p slots legal k w in
    subst (λ (s : Slot). s.op < length p.ops) (get_or_default slots k (opening_slot 0) d w) here

op_in : (slots : List Slot) (i : ℕ) → i < length slots → op_at slots i ≡ get_or (ops_of slots) i 0
op_in slots i w = sym (get_or-map (λ slot. slot.op) slots i (opening_slot 0) 0 w)

-- with the same operations in the same order, and templates that are there, a plan is as legal
pub legal_same_ops : (p : Source) (slots others : List Slot) → IsLegal p slots → ops_of others ≡ ops_of slots
    → All (λ slot. slot.template < count_of p slot.op) others → IsLegal p others
legal_same_ops p slots others legal same templates =
    let count : length others ≡ length slots =
    sym (length-map others (λ slot. slot.op)) ∙ ap length same ∙ length-map slots (λ slot. slot.op) in
    let op_same : (i : ℕ) → i < length others → op_at others i ≡ op_at slots i =
    λ (i : ℕ) (w : i < length others). op_in others i w ∙ ap (λ ops. get_or ops i 0) same
    ∙ sym (op_in slots i (omega arith)) in
    record {
      order = subst (λ (ops : List ℕ). IsPermutation (range_with_len 0 (length p.ops)) ops) (sym same) legal.order;
      after = λ (i j : ℕ) (v : i < length others) (w : j < length others)
          (n : is_needed p (op_at others i) (op_at others j) ≡ true).
          legal.after i j (omega arith) (omega arith)
          (subst (λ (k : ℕ). is_needed p (op_at slots i) k ≡ true) (op_same j w)
          (subst (λ (k : ℕ). is_needed p k (op_at others j) ≡ true) (op_same i v) n));
      templates = templates;
    }

-- a slot may get another template of its operation, and other marks
pub changed_legal : (p : Source) (slots : List Slot) (at : ℕ) (slot : Slot) → IsLegal p slots → at < length slots
    → slot.op ≡ op_at slots at → slot.template < count_of p slot.op → IsLegal p (slice_set slots at slot)
changed_legal p slots at slot legal w same template =
    let ops_same : ops_of (slice_set slots at slot) ≡ ops_of slots =
    map-set (λ s. s.op) slots at slot ∙ ap (set (ops_of slots) at) (same ∙ op_in slots at w)
    ∙ set-get_or (ops_of slots) at 0 in
    let here : All (λ s. s.template < count_of p s.op) (slice_set slots at slot) =
    λ (k : ℕ) (d : Slot) (v : k < length (slice_set slots at slot)).
    elim (cases_eq k at) [
      | inl e ↦ let is : get_or (set slots at slot) k d ≡ slot =
          ap (λ i. get_or (set slots at slot) i d) e ∙ get_or-set_same slots at slot d w in
          subst (λ (s : Slot). s.template < count_of p s.op) (sym is) template
      | inr e ↦ subst (λ (s : Slot). s.template < count_of p s.op) (sym (get_or-set_other slots at k slot d e))
          (let l = length-set slots at slot in legal.templates k d (omega arith))
    ] in
    legal_same_ops p slots (slice_set slots at slot) legal ops_same here

-- ---- the opening plan

opening_ops : (a n : ℕ) → map (λ slot. slot.op) (map opening_slot (range_with_len a n)) ≡ range_with_len a n
opening_ops a zero = refl
opening_ops a (suc n) = ap (λ ops. a ∷ ops) (opening_ops (a + 1) n)

opening_at : (n i : ℕ) (d : Slot) → i < n → get_or (map opening_slot (range_with_len 0 n)) i d ≡ opening_slot i
opening_at n i d w = get_or-map-range_with_len opening_slot 0 n i i d w (zero-add i)

pub opening_legal : (p : Source) → ((op other : ℕ) → is_needed p op other ≡ true → other < op)
    → ((op : ℕ) → op < length p.ops → 0 < count_of p op) → IsLegal p (opening_of p)
unfolding opening_of
opening_legal p earlier some =
    let n : ℕ = length p.ops in
    let count = length-map-range_with_len opening_slot 0 n in
    record {
      order = subst (λ (ops : List ℕ). IsPermutation (range_with_len 0 n) ops) (sym (opening_ops 0 n))
          (IsPermutation-refl (range_with_len 0 n));
      after = λ (i j : ℕ) (v : i < length (map opening_slot (range_with_len 0 n)))
          (w : j < length (map opening_slot (range_with_len 0 n)))
          (need : is_needed p (op_at (map opening_slot (range_with_len 0 n)) i)
          (op_at (map opening_slot (range_with_len 0 n)) j) ≡ true).
          let a : op_at (map opening_slot (range_with_len 0 n)) i ≡ i =
          ap (λ (s : Slot). s.op) (opening_at n i (opening_slot 0) (omega arith)) in
          let b : op_at (map opening_slot (range_with_len 0 n)) j ≡ j =
          ap (λ (s : Slot). s.op) (opening_at n j (opening_slot 0) (omega arith)) in
          earlier i j (subst (λ (k : ℕ). is_needed p i k ≡ true) b
          (subst (λ (k : ℕ). is_needed p k (op_at (map opening_slot (range_with_len 0 n)) j) ≡ true) a need));
      templates = λ (k : ℕ) (d : Slot) (v : k < length (map opening_slot (range_with_len 0 n))).
          subst (λ (s : Slot). s.template < count_of p s.op) (sym (opening_at n k d (omega arith)))
          (some k (omega arith));
    }

template_in : (ops : List Op) (op : ℕ) → op < length ops → 0 < length (option_map_or templates_of (slice_get ops op) [])
template_in [] op w = absurd (omega arith)
template_in (o ∷ ops) zero w = has_template o
template_in (o ∷ ops) (suc op) w = template_in ops op (omega arith)

-- each operation has a template
pub has_template_at : (p : Source) (op : ℕ) → op < length p.ops → 0 < count_of p op
has_template_at p op w = template_in p.ops op w

-- ---- where an operation stands

pub record SlotOf (slots : List Slot) (op : ℕ) : Type 0 where
  pub at : ℕ
  pub within : at < length slots
  pub is : op_at slots at ≡ op

number_in : (n op : ℕ) → op < n → Contains (range_with_len 0 n) op
number_in n op w =
    let l = length-range_with_len 0 n in
    (op, omega arith, get_or-range_with_len 0 n op op w ∙ zero-add op)

-- each operation has a slot
pub slot_of : (p : Source) (slots : List Slot) → IsLegal p slots → (op : ℕ) → op < length p.ops → SlotOf slots op
slot_of p slots legal op w =
    let found = Contains-permutation (range_with_len 0 (length p.ops)) (ops_of slots) op legal.order
    (number_in (length p.ops) op w) in
    let l = length-map slots (λ slot. slot.op) in
    let inside = found.1 in
    let within : found.0 < length slots = omega arith in
    record {
      at = found.0;
      within = within;
      is = sym (get_or-map (λ slot. slot.op) slots found.0 (opening_slot 0) op within) ∙ found.2;
    }

needed_op : (p : Source) (op other : ℕ) (b : Bool) → nat_lt other (length p.ops) ≡ b → is_needed p op other ≡ true
    → other < length p.ops
needed_op p op other true e h = grind (arith, nat_tests, e)
needed_op p op other false e h =
    let out : length p.ops ≤ other = grind (arith, nat_tests, e) in
    let not : is_needed p op other ≡ false = needed_within p op other out in
    absurd (cc)

-- and what a slot's operation needs has an earlier one
pub needed_before : (p : Source) (slots : List Slot) → IsLegal p slots → (at op : ℕ) → at < length slots
    → is_needed p (op_at slots at) op ≡ true → (earlier : ℕ) × (earlier < at) × (op_at slots earlier ≡ op)
needed_before p slots legal at op w h =
    let s = slot_of p slots legal op (needed_op p (op_at slots at) op (nat_lt op (length p.ops)) refl h) in
    (s.at, legal.after at s.at w s.within (subst (λ (k : ℕ). is_needed p (op_at slots at) k ≡ true) (sym s.is) h), s.is)
