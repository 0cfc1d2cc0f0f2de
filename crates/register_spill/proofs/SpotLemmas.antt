-- For each register the value in it, after a value changes its spot.
use Rattle.std.proofs.Common.{◌≡◌, ℕ, ◌<◌, true, false, List, length, replicate, refl, arith, ap, sym}
use Rattle.std.proofs.Common.{subst, ◌∙◌, inl, inr, Some, None, Option}
use Rattle.std.specs.Prelude.{slice_get, slice_index_or, slice_set}
use Rattle.std.specs.List.Sorted.{IsNonDecreasing}
use Rattle.std.proofs.lemmas.Bool.{true≢false, false≢true, cases_lt, cases_eq, eqb-true, eqb-false}
use Rattle.std.proofs.lemmas.Option.{slice_get_within}
use Rattle.std.proofs.lemmas.List.{length-set, length-replicate, get_or-set_same, get_or-set_other, get_or_past}
use Rattle.std.proofs.lemmas.List.{get_or-replicate}
use Rattle.x86_instr.specs.declared.operand.Reg.{Reg}
use Rattle.x86_instr.specs.declared.operand.Reg.TheVariants.{Rsp}
use Rattle.x86_instr.specs.Registers.{number_of, registers}
use Rattle.x86_instr.proofs.RegisterList.{at_number}
use Rattle.register_spill.specs.declared.spot.Spot.{Spot}
use Rattle.register_spill.specs.declared.spot.Spot.TheVariants.{Register, Frame, Nowhere}
use Rattle.register_spill.specs.Spots.{spot_at, is_in_register, ArePlaced}
use Rattle.register_spill.specs.Uses.{uses_at}
use Rattle.register_spill.specs.Calls.{is_stack, is_outside}
use Rattle.register_spill.specs.Inside.{holder_at, IsInside}

-- ---- registers by their numbers

pub same_register : (a b : Reg) → number_of a ≡ number_of b → a ≡ b
same_register a b e =
    let l = at_number a in let r = at_number b in let s = ap (slice_get registers) e in
    let both : Some a ≡ Some b = sym l ∙ s ∙ r in cc

pub number_limit : (r : Reg) → number_of r < 16
number_limit r = slice_get_within registers (number_of r) r (at_number r)

holder_same : (holders : List (Option ℕ)) (r q : Reg) (h : Option ℕ) → length holders ≡ 16 → number_of q ≡ number_of r
    → holder_at (slice_set holders (number_of r) h) q ≡ h
holder_same holders r q h size e =
    let limit = number_limit r in
    ap (λ (n : ℕ). slice_index_or (slice_set holders (number_of r) h) n None) e
    ∙ get_or-set_same holders (number_of r) h None (omega arith)

holder_other : (holders : List (Option ℕ)) (r q : Reg) (h : Option ℕ) → (number_of q ≡ number_of r → ⊥)
    → holder_at (slice_set holders (number_of r) h) q ≡ holder_at holders q
holder_other holders r q h ne = get_or-set_other holders (number_of r) (number_of q) h None ne

spot_same : (spots : List Spot) (value v : ℕ) (spot : Spot) → value < length spots → v ≡ value
    → spot_at (slice_set spots value spot) v ≡ spot
spot_same spots value v spot w e = ap (λ (n : ℕ). spot_at (slice_set spots value spot) n) e
    ∙ get_or-set_same spots value spot Nowhere w

spot_other : (spots : List Spot) (value v : ℕ) (spot : Spot) → (v ≡ value → ⊥)
    → spot_at (slice_set spots value spot) v ≡ spot_at spots v
spot_other spots value v spot ne = get_or-set_other spots value v spot Nowhere ne

-- a value in a register is one of the program
pub spot_range : (spots : List Spot) (value : ℕ) (r : Reg) → spot_at spots value ≡ Register r → value < length spots
spot_range spots value r e = elim (cases_lt value (length spots)) [
  | inl h ↦ h
  | inr h ↦ let gone : spot_at spots value ≡ Nowhere = get_or_past spots value Nowhere h in
      let never : Nowhere ≡ Register r = sym gone ∙ e in absurd cc
]

-- a value that is in no register is in none
not_in : (spots : List Spot) (value v : ℕ) (r : Reg) → is_in_register (spot_at spots value) ≡ false
    → spot_at spots v ≡ Register r → v ≡ value → ⊥
not_in spots value v r out there e =
    let at : spot_at spots value ≡ Register r = ap (spot_at spots) (sym e) ∙ there in
    true≢false (sym (ap is_in_register at) ∙ out)

-- ---- what the spots are at every time

pub placed : (spots : List Spot) (holders : List (Option ℕ)) (uses : List (List ℕ)) → IsInside spots holders uses
    → ArePlaced spots
placed spots holders uses inside = record {
  alone = λ v w r a b.
      let l : holder_at holders r ≡ Some v = inside.holds v r a in
      let m : holder_at holders r ≡ Some w = inside.holds w r b in cc;
  stack = λ v e.
      let l : holder_at holders Rsp ≡ Some v = inside.holds v Rsp e in
      let m : holder_at holders Rsp ≡ None = inside.stack in cc;
  frames = inside.frames;
}

pub nothing_placed : (spots : List Spot) (uses : List (List ℕ)) (values : ℕ) → spots ≡ replicate values Nowhere
    → length uses ≡ values → ((value : ℕ) → IsNonDecreasing (uses_at uses value))
    → IsInside spots (replicate 16 None) uses
nothing_placed spots uses values e count rise = record {
  size = refl;
  holds = λ v r h. let never : Nowhere ≡ Register r = sym (nowhere v) ∙ h in absurd cc;
  held = λ v r h. let never : None ≡ Some v = sym (none r) ∙ h in absurd cc;
  stack = none Rsp;
  frames = λ v slot h. let never : Nowhere ≡ Frame slot = sym (nowhere v) ∙ h in absurd cc;
  lists = count ∙ sym (length-replicate values Nowhere) ∙ sym (ap length e);
  ascending = rise;
}
  where
    gone : (v : ℕ) → spot_at (replicate values Nowhere) v ≡ Nowhere
    gone v = elim (cases_lt v values) [
      | inl h ↦ get_or-replicate values v Nowhere Nowhere h
      | inr h ↦ let l = length-replicate values Nowhere in get_or_past (replicate values Nowhere) v Nowhere
          (omega arith)
    ]

    nowhere : (v : ℕ) → spot_at spots v ≡ Nowhere
    nowhere v = ap (λ (s : List Spot). spot_at s v) e ∙ gone v

    none : (r : Reg) → holder_at (replicate 16 None) r ≡ None
    none r = get_or-replicate 16 (number_of r) None None (number_limit r)

-- ---- a value comes into a free register

pub entered_inside : (spots : List Spot) (holders : List (Option ℕ)) (uses : List (List ℕ)) (value : ℕ) (r : Reg)
    → IsInside spots holders uses → value < length spots → is_in_register (spot_at spots value) ≡ false
    → holder_at holders r ≡ None → is_stack r ≡ false
    → IsInside (slice_set spots value (Register r)) (slice_set holders (number_of r) (Some value)) uses
entered_inside spots holders uses value r inside w out free stack = record {
  size = length-set holders (number_of r) (Some value) ∙ inside.size;
  holds = λ v q e. elim (cases_eq v value) [
    | inl same ↦
        let here : Register r ≡ Register q = sym (spot_same spots value v (Register r) w same) ∙ e in
        let regs : r ≡ q = cc in
        holder_same holders r q (Some value) inside.size (sym (ap number_of regs)) ∙ ap Some (sym same)
    | inr ne ↦
        let there : holder_at holders q ≡ Some v =
        inside.holds v q (sym (spot_other spots value v (Register r) ne) ∙ e) in
        holder_other holders r q (Some value) (λ n.
        let regs : q ≡ r = same_register q r n in
        let never : None ≡ Some v = sym free ∙ ap (holder_at holders) (sym regs) ∙ there in cc)
        ∙ there
  ];
  held = λ v q e. elim (cases_eq (number_of q) (number_of r)) [
    | inl n ↦
        let regs : q ≡ r = same_register q r n in
        let some : Some value ≡ Some v = sym (holder_same holders r q (Some value) inside.size n) ∙ e in
        let same : v ≡ value = cc in
        spot_same spots value v (Register r) w same ∙ ap Register (sym regs)
    | inr ne ↦
        let there : spot_at spots v ≡ Register q =
        inside.held v q (sym (holder_other holders r q (Some value) ne) ∙ e) in
        spot_other spots value v (Register r) (not_in spots value v q out there) ∙ there
  ];
  stack = holder_other holders r Rsp (Some value)
      (λ n. eqb-false (number_of r) (number_of Rsp) stack (sym n)) ∙ inside.stack;
  frames = λ v slot e. elim (cases_eq v value) [
    | inl same ↦ let never : Register r ≡ Frame slot = sym (spot_same spots value v (Register r) w same)
        ∙ e in absurd cc
    | inr ne ↦ inside.frames v slot (sym (spot_other spots value v (Register r) ne) ∙ e)
  ];
  lists = inside.lists ∙ sym (length-set spots value (Register r));
  ascending = inside.ascending;
}

-- ---- a value leaves its register

no_register : (value : ℕ) (spot : Spot) (q : Reg) → is_outside value spot ≡ true → spot ≡ Register q → ⊥
no_register value spot q out e = false≢true (sym (ap (is_outside value) e) ∙ out)

own_slot : (value slot : ℕ) (spot : Spot) → is_outside value spot ≡ true → spot ≡ Frame slot → slot ≡ value
own_slot value slot spot out e = eqb-true slot value (sym (ap (is_outside value) e) ∙ out)

pub left_inside : (spots : List Spot) (holders : List (Option ℕ)) (uses : List (List ℕ)) (value : ℕ) (r : Reg)
    (spot : Spot) → IsInside spots holders uses → spot_at spots value ≡ Register r → is_outside value spot ≡ true
    → IsInside (slice_set spots value spot) (slice_set holders (number_of r) None) uses
left_inside spots holders uses value r spot inside there out = record {
  size = length-set holders (number_of r) None ∙ inside.size;
  holds = λ v q e. elim (cases_eq v value) [
    | inl same ↦ absurd (no_register value spot q out (sym (spot_same spots value v spot w same) ∙ e))
    | inr ne ↦
        let at : holder_at holders q ≡ Some v = inside.holds v q (sym (spot_other spots value v spot ne) ∙ e) in
        holder_other holders r q None (λ n.
        let regs : q ≡ r = same_register q r n in
        let own : holder_at holders r ≡ Some value = inside.holds value r there in
        let both : Some v ≡ Some value = sym at ∙ ap (holder_at holders) regs ∙ own in
        let same : v ≡ value = cc in ne same)
        ∙ at
  ];
  held = λ v q e. elim (cases_eq (number_of q) (number_of r)) [
    | inl n ↦ let never : None ≡ Some v = sym (holder_same holders r q None inside.size n) ∙ e in absurd cc
    | inr ne ↦
        let at : spot_at spots v ≡ Register q = inside.held v q (sym (holder_other holders r q None ne) ∙ e) in
        spot_other spots value v spot (λ same.
        let both : Register q ≡ Register r = sym at ∙ ap (spot_at spots) same ∙ there in
        let regs : q ≡ r = cc in ne (ap number_of regs))
        ∙ at
  ];
  stack = elim (cases_eq (number_of Rsp) (number_of r)) [
    | inl n ↦ holder_same holders r Rsp None inside.size n
    | inr ne ↦ holder_other holders r Rsp None ne ∙ inside.stack
  ];
  frames = λ v slot e. elim (cases_eq v value) [
    | inl same ↦ own_slot value slot spot out (sym (spot_same spots value v spot w same) ∙ e) ∙ sym same
    | inr ne ↦ inside.frames v slot (sym (spot_other spots value v spot ne) ∙ e)
  ];
  lists = inside.lists ∙ sym (length-set spots value spot);
  ascending = inside.ascending;
}
  where
    w : value < length spots
    w = spot_range spots value r there

-- a value that is in no register is nowhere
pub released_inside : (spots : List Spot) (holders : List (Option ℕ)) (uses : List (List ℕ)) (value : ℕ)
    → IsInside spots holders uses → value < length spots → is_in_register (spot_at spots value) ≡ false
    → IsInside (slice_set spots value Nowhere) holders uses
released_inside spots holders uses value inside w out = record {
  size = inside.size;
  holds = λ v q e. elim (cases_eq v value) [
    | inl same ↦ let never : Nowhere ≡ Register q = sym (spot_same spots value v Nowhere w same) ∙ e in absurd cc
    | inr ne ↦ inside.holds v q (sym (spot_other spots value v Nowhere ne) ∙ e)
  ];
  held = λ v q e.
      let at : spot_at spots v ≡ Register q = inside.held v q e in
      spot_other spots value v Nowhere (not_in spots value v q out at) ∙ at;
  stack = inside.stack;
  frames = λ v slot e. elim (cases_eq v value) [
    | inl same ↦ let never : Nowhere ≡ Frame slot = sym (spot_same spots value v Nowhere w same) ∙ e in absurd cc
    | inr ne ↦ inside.frames v slot (sym (spot_other spots value v Nowhere ne) ∙ e)
  ];
  lists = inside.lists ∙ sym (length-set spots value Nowhere);
  ascending = inside.ascending;
}

-- a value that is known of a register has a list of uses
pub holder_range : (spots : List Spot) (holders : List (Option ℕ)) (uses : List (List ℕ)) → IsInside spots holders uses
    → (r : Reg) (value : ℕ) → holder_at holders r ≡ Some value → value < length uses
holder_range spots holders uses inside r value e =
    subst (λ (n : ℕ). value < n) (sym inside.lists) (spot_range spots value r (inside.held value r e))

-- a spot that is no register
pub outside_by : (spot : Spot) → ((r : Reg) → spot ≡ Register r → ⊥) → is_in_register spot ≡ false
outside_by (Register r) never = absurd (never r refl)
outside_by (Frame slot) never = refl
outside_by Nowhere never = refl
