-- A drawn mutation fits the plan.
use Rattle.std.proofs.Common.{◌≡◌, ℕ, ◌+◌, ◌-◌, ◌<◌, ◌≤◌, ◌%◌, Bool, true, false, List, length, arith, refl, sym, ap}
use Rattle.std.proofs.Common.{subst}
use Rattle.std.specs.Prelude.{◌==◌, if◌then◌else◌, slice_index}
use Rattle.word_program.specs.Accepted.{IsAccepted}
use Rattle.word_program.specs.Program.{Source}
use Rattle.templates.specs.Table.{count_of}
use Rattle.op_order.specs.declared.slot.Slot.{Slot}
use Rattle.op_order.specs.Plans.{op_at}
use Rattle.op_order.specs.Legal.{IsLegal}
use Rattle.op_order.specs.Windows.{low_of, high_of}
use Rattle.op_order.proofs.LegalLemmas.{legal_count, legal_op, has_template_at}
use Rattle.op_order.proofs.WindowLaw.{low_below, high_is}
use Rattle.mutations.specs.declared.mutation.Draw.{Draw}
use Rattle.mutations.specs.declared.mutation.Mutation.TheVariants.{Move, Template, Swap, Load, Chain}
use Rattle.mutations.specs.Mutations.{Fits, drawn, kinds_of, place_drawn}

-- what is left after a division
rest_below : (word n : ℕ) → 0 < n → word % n < n
rest_below word n h = omega arith

-- a slot is drawn among those of the operations
pub slot_is : (p : Source) (slots : List Slot) (word : ℕ) → IsLegal p slots → word % length p.ops ≡ word % length slots
slot_is p slots word legal = ap (λ n. word % n) (sym (legal_count p slots legal))

-- a slot that is drawn is there
pub slot_there : (p : Source) (slots : List Slot) (word : ℕ) → IsLegal p slots → 1 ≤ length p.ops
    → word % length p.ops < length slots
slot_there p slots word legal some =
    let rest = rest_below word (length p.ops) some in
    subst (λ (n : ℕ). word % length p.ops < n) (sym (legal_count p slots legal)) rest

place_within : (low high word : ℕ) → low ≤ high → low + word % (high - low + 1) ≤ high
place_within low high word h =
    let rest = rest_below word (high - low + 1) (omega arith) in
    omega arith

-- a slot moves within its window
pub move_fits : (p : Source) (slots : List Slot) (slot word to : ℕ) → IsLegal p slots → slot < length slots
    → to ≡ place_drawn p slots slot word → Fits p slots (Move slot to)
unfolding Fits
move_fits p slots slot word to legal w e =
    let below = low_below p slots slot legal w in
    let high = high_is p slots slot legal w in
    let above = high.above in
    let last = place_within (low_of p slots slot) (high_of p slots slot) word (omega arith) in
    (w, record { low = omega arith; high = omega arith })

-- a slot gets a template of its operation
pub template_fits : (p : Source) (slots : List Slot) (slot word number : ℕ) → IsLegal p slots → slot < length slots
    → number ≡ word % count_of p (op_at slots slot) → Fits p slots (Template slot number)
unfolding Fits
template_fits p slots slot word number legal w e =
    let below = rest_below word (count_of p (op_at slots slot))
    (has_template_at p (op_at slots slot) (legal_op p slots legal slot w)) in
    (w, omega arith)

-- the template of a chain is 1 or 2
pub chain_fits : (p : Source) (slots : List Slot) (slot word : ℕ) → slot < length slots
    → Fits p slots (Chain slot (1 + word % 2))
unfolding Fits
chain_fits p slots slot word w = let below = rest_below word 2 (omega arith) in (w, omega arith, omega arith)

kind_fits : (p : Source) (slots : List Slot) (a b c d : Bool) (slot word : ℕ) → IsLegal p slots → slot < length slots
    → Fits p slots (if a then Move slot (place_drawn p slots slot word)
    else (if b then Template slot (word % count_of p (op_at slots slot))
    else (if c then Swap slot else (if d then Load slot else Chain slot (1 + word % 2)))))
unfolding Fits
kind_fits p slots true b c d slot word legal w = move_fits p slots slot word _ legal w refl
kind_fits p slots false true c d slot word legal w = template_fits p slots slot word _ legal w refl
kind_fits p slots false false true d slot word legal w = w
kind_fits p slots false false false true slot word legal w = w
kind_fits p slots false false false false slot word legal w = chain_fits p slots slot word w

-- the mutation that words draw fits a legal plan
pub drawn_fits : (p : Source) (slots : List Slot) (words : List ℕ) (draw : Draw) → IsAccepted p → IsLegal p slots
    → Fits p slots (drawn p slots words draw)
unfolding drawn
drawn_fits p slots words draw accepted legal =
    let n = slice_index words 1 in
    let kind : ℕ = slice_index words 0 % kinds_of draw in
    let there = slot_there p slots n legal accepted.some_ops in
    let within : n % length slots < length slots =
    subst (λ (k : ℕ). k < length slots) (slot_is p slots n legal) there in
    kind_fits p slots (kind == 0) (kind == 1) (kind == 2) (kind == 3)
    (n % length slots) (slice_index words 2) legal within
