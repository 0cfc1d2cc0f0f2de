-- A mutation that fits a legal plan leaves a legal plan.
use Rattle.std.proofs.Common.{◌≡◌, ℕ, ◌<◌, ◌≤◌, Bool, true, false, List, [], ◌∷◌, length, map, refl, sym, subst}
use Rattle.std.proofs.Common.{arith}
use Rattle.std.specs.Prelude.{if◌then◌else◌}
use Rattle.std.proofs.lemmas.List.Elements.{All-map}
use Rattle.dependency_graph.specs.Needs.{has}
use Rattle.templates.specs.Table.{count_of}
use Rattle.word_program.specs.Program.{Source}
use Rattle.op_order.specs.declared.slot.Slot.{Slot}
use Rattle.op_order.specs.Plans.{opening_slot, slot_at, op_at}
use Rattle.op_order.specs.Legal.{IsLegal, ops_of}
use Rattle.op_order.proofs.LegalLemmas.{changed_legal, legal_same_ops}
use Rattle.op_order.proofs.WindowLaw.{high_is, moved_legal}
use Rattle.mutations.specs.declared.mutation.Mutation.{Mutation}
use Rattle.mutations.specs.declared.mutation.Mutation.TheVariants.{Move, Template, Swap, Load, Chain}
use Rattle.mutations.specs.Chains.{adds_carry, chain_of}
use Rattle.mutations.specs.Mutations.{op_commutes, with_template, toggle_swap, toggle_load, changed, templated_among}
use Rattle.mutations.specs.Mutations.{applied, Fits}
use Rattle.mutations.proofs.ChainLemmas.{chain_adds, carry_templates}

-- a slot moves to a place that is there
pub move_within : (p : Source) (slots : List Slot) (slot to : ℕ) → IsLegal p slots → Fits p slots (Move slot to)
    → to < length slots
unfolding Fits
move_within p slots slot to legal fits =
    let high = high_is p slots slot legal fits.0 in
    let within = high.within in
    let below = fits.1.high in
    omega arith

if_commutes : (p : Source) (slots : List Slot) (slot : ℕ) (b : Bool) → IsLegal p slots → slot < length slots
    → IsLegal p (if b then changed toggle_swap slots slot else slots)
if_commutes p slots slot true legal w = changed_legal p slots slot (toggle_swap (slot_at slots slot)) legal w refl
    (legal.templates slot (opening_slot 0) w)
if_commutes p slots slot false legal w = legal

-- ---- a chain

op_stays : (slot : Slot) (number : ℕ) (b : Bool) → (if b then with_template number slot else slot).op ≡ slot.op
op_stays slot number true = refl
op_stays slot number false = refl

ops_stay : (ops : List ℕ) (number : ℕ) (slots : List Slot)
    → ops_of (map (templated_among ops number) slots) ≡ ops_of slots
ops_stay ops number [] = refl
ops_stay ops number (slot ∷ slots) = rw (op_stays slot number (has slot.op ops), ops_stay ops number slots) refl

template_within : (p : Source) (slot : Slot) (number : ℕ) (b : Bool) → slot.template < count_of p slot.op
    → (b ≡ true → number < count_of p slot.op)
    → (if b then with_template number slot else slot).template
    < count_of p (if b then with_template number slot else slot).op
template_within p slot number true before set = set refl
template_within p slot number false before set = before

-- an operation of a chain has the templates 1 and 2
chain_template : (p : Source) (first op number : ℕ) → adds_carry p first ≡ true → number ≤ 2
    → has op (chain_of p first) ≡ true → number < count_of p op
chain_template p first op number adds low there =
    let many = carry_templates p op (chain_adds p first op adds there) in
    omega arith

chain_legal : (p : Source) (slots : List Slot) (first number : ℕ) → IsLegal p slots → adds_carry p first ≡ true
    → number ≤ 2 → IsLegal p (map (templated_among (chain_of p first) number) slots)
chain_legal p slots first number legal adds low =
    legal_same_ops p slots (map (templated_among (chain_of p first) number) slots) legal
    (ops_stay (chain_of p first) number slots)
    (All-map (λ slot. slot.template < count_of p slot.op) (templated_among (chain_of p first) number) slots
    (λ k d w. template_within p _ number (has _ (chain_of p first)) (legal.templates k d w)
    (chain_template p first _ number adds low)))

if_adds : (p : Source) (slots : List Slot) (first number : ℕ) (b : Bool) → adds_carry p first ≡ b → IsLegal p slots
    → number ≤ 2 → IsLegal p (if b then map (templated_among (chain_of p first) number) slots else slots)
if_adds p slots first number true e legal low = chain_legal p slots first number legal e low
if_adds p slots first number false e legal low = legal

applied_legal : (p : Source) (mutation : Mutation) (slots : List Slot) → IsLegal p slots → Fits p slots mutation
    → IsLegal p (applied p mutation slots)
unfolding applied Fits
applied_legal p (Move slot to) slots legal fits = moved_legal p slots slot to legal fits.0 fits.1
applied_legal p (Template slot number) slots legal fits =
    changed_legal p slots slot (with_template number (slot_at slots slot)) legal fits.0 refl fits.1
applied_legal p (Swap slot) slots legal fits = if_commutes p slots slot (op_commutes p (op_at slots slot)) legal fits
applied_legal p (Load slot) slots legal fits =
    changed_legal p slots slot (toggle_load (slot_at slots slot)) legal fits refl
    (legal.templates slot (opening_slot 0) fits)
applied_legal p (Chain slot number) slots legal fits =
    if_adds p slots (op_at slots slot) number (adds_carry p (op_at slots slot)) refl legal fits.2

pub legal_after : (p : Source) (mutation : Mutation) (slots after : List Slot) → IsLegal p slots
    → Fits p slots mutation → after ≡ applied p mutation slots → IsLegal p after
legal_after p mutation slots after legal fits is =
    subst (IsLegal p) (sym is) (applied_legal p mutation slots legal fits)
