-- Lines that bring a bit from a register into a flag, and back.
use Rattle.std.proofs.Common.{◌≡◌, ℕ, ◌+◌, ◌-◌, ◌^◌, ◌%◌, ◌<◌, ◌≤◌, Bool, true, nat_le, List, [], ◌∷◌, ◌++◌}
use Rattle.std.proofs.Common.{length, Option, Some, None, refl, sym, ap, ◌∙◌, subst, arith}
use Rattle.std.proofs.lemmas.Bool.Decides.{nat_tests}
use Rattle.base.specs.Options.{guard, pick}
use Rattle.x86_instr.specs.declared.operand.Reg.{Reg}
use Rattle.x86_instr.specs.declared.operand.Reg.TheVariants.{R10, R11}
use Rattle.x86_instr.specs.declared.instr.Cond.{Cond}
use Rattle.x86_instr.specs.declared.instr.Instr.TheVariants as instrs
use Rattle.x86_instr.specs.declared.instr.Un.TheVariants as uns
use Rattle.x86_instr.specs.declared.line.Line.{Line}
use Rattle.terms.specs.declared.nodes.Node.{Node}
use Rattle.terms.specs.declared.nodes.NodeKind.TheVariants as kinds
use Rattle.terms.specs.declared.nodes.Form.TheVariants as forms
use Rattle.terms.specs.Tables.{node_at, Prefix}
use Rattle.terms.specs.Rules.{const_node, finished, normal_of}
use Rattle.intervals.specs.Intervals.{full}
use Rattle.term_store.specs.Interning.{Interned, made}
use Rattle.term_store.proofs.Made.{made_prefix}
use Rattle.term_store.proofs.Places.{IsPlace}
use Rattle.term_store.proofs.Prefixes.{at_front, prefix_trans}
use Rattle.program_nodes.specs.Operands.{IsBit}
use Rattle.program_nodes.specs.Terms.{plus, sum}
use Rattle.symbolic_state.specs.Fetching.{fetched_const}
use Rattle.symbolic_state.specs.Symbols.{Symbols, with_node}
use Rattle.symbolic_values.specs.Steps.{arithmetic, bit_node, byte_of, goes, movzx_step, result_and_overflow}
use Rattle.symbolic_values.specs.Steps.{result_only, step_of}
use Rattle.plain_lower.specs.Blocks.{carry_in, flag_out, overflow_in, set}
use Rattle.plain_lower.specs.Frame.{unowned}
use Rattle.term_laws.proofs.Entries.{IsBase}
use Rattle.plain_checks.proofs.Leading.{Leads, leads_on}
use Rattle.term_laws.proofs.CarryBits.{carry_bit}
use Rattle.term_laws.proofs.ShiftBack.{shift_back}
use Rattle.plain_checks.proofs.Steps.{const_place, later, made_place}
use Rattle.plain_checks.proofs.Work.{Work, state}

-- ---- a constant

pub leads_set : {t : List Node} {rest : List Line} {Q : List Node → Symbols → Type 0}
    (y : Symbols) (w : Work) (dst : Reg) (n : ℕ)
    → ((u : List Node) (m : ℕ) → Prefix t u → m < length u → node_at u m ≡ const_node (n % 2 ^ 64)
    → Leads rest u (with_node dst m (state y (record w { touch = None }))) Q)
    → Leads (unowned (set dst n) ∷ rest) t (state y w) Q
unfolding step_of fetched_const
leads_set {t} {rest} {Q} y w dst n l =
    let m = made t (forms.Const (n % 2 ^ 64)) in
    let place = const_place t (n % 2 ^ 64) in
    leads_on refl refl (l m.table m.number (made_prefix t (forms.Const (n % 2 ^ 64))) place.within place.here)

-- ---- into the carry flag

-- adding the greatest word
carry_in_step : (t : List Node) (y : Symbols) (w : Work) (c : ℕ)
    → let m = made t (forms.Const (2 ^ 64 - 1)) in
    let r = made m.table (sum (plus w.r10 ∷ plus m.number ∷ [])) in
    let z = made r.table (forms.Zero r.number) in
    made r.table (forms.Carry (w.r10 ∷ m.number ∷ [])) ≡ record { table = r.table; number = c }
    → step_of carry_in.instr t (state y w) ≡ goes z.table (state y (record w {
      r10 = r.number;
      cf = Some c;
      of = None;
      zf = Some z.number;
      touch = None;
    }))
unfolding step_of fetched_const arithmetic
carry_in_step t y w c e =
    let m = made t (forms.Const (2 ^ 64 - 1)) in
    let r = made m.table (sum (plus w.r10 ∷ plus m.number ∷ [])) in
    ap (λ (o : Interned). let z = made o.table (forms.Zero r.number) in goes z.table (state y (record w {
      r10 = r.number;
      cf = Some o.number;
      of = None;
      zf = Some z.number;
      touch = None;
    }))) e

pub leads_carry_in : {t0 t : List Node} {rest : List Line} {Q : List Node → Symbols → Type 0}
    (y : Symbols) (w : Work) → IsBase t0 → Prefix t0 t → IsBit t0 w.r10
    → ((u : List Node) (x z : ℕ) → Prefix t u → Leads rest u (state y (record w {
      r10 = x;
      cf = Some w.r10;
      of = None;
      zf = Some z;
      touch = None;
    })) Q)
    → Leads (carry_in ∷ rest) t (state y w) Q
leads_carry_in {t0} {t} {rest} {Q} y w base p bit l =
    let m = made t (forms.Const (2 ^ 64 - 1)) in
    let place = const_place t (2 ^ 64 - 1) in
    let form = sum (plus w.r10 ∷ plus m.number ∷ []) in
    let r = made m.table form in
    let z = made r.table (forms.Zero r.number) in
    let pm = made_prefix t (forms.Const (2 ^ 64 - 1)) in
    let pr = made_prefix m.table form in
    let there : node_at r.table m.number ≡ const_node (2 ^ 64 - 1) = at_front m.number pr place.within ∙ place.here in
    let carry = carry_bit w.r10 m.number base (prefix_trans p (prefix_trans pm pr)) bit.inside bit.high
    (later m.number pr place.within) there in
    leads_on refl (carry_in_step t y w w.r10 carry)
    (l z.table r.number z.number (prefix_trans pm (prefix_trans pr (made_prefix r.table (forms.Zero r.number)))))

-- ---- into the overflow flag

bit_there : (t : List Node) (n : ℕ) → (node_at t n).high ≤ 1 → bit_node t n ≡ Some n
bit_there t n h =
    let e : nat_le (node_at t n).high 1 ≡ true = grind (arith, nat_tests) in ap (λ (b : Bool). guard b n) e

-- adding 1 to a sum that has the bit when 2^63 - 2 is taken away
increment_step : (t : List Node) (y : Symbols) (w : Work) (c : ℕ)
    → let r = made t (forms.Lin 1 (plus w.r10 ∷ [])) in
    let z = made r.table (forms.Zero r.number) in
    made r.table (forms.Lin (2 ^ 63 + 2) (plus w.r10 ∷ [])) ≡ record { table = r.table; number = c }
    → bit_node z.table c ≡ Some c
    → step_of (instrs.Un uns.Inc R10) t (state y w) ≡ goes z.table (state y (record w {
      r10 = r.number;
      of = Some c;
      zf = Some z.number;
      touch = None;
    }))
unfolding step_of result_and_overflow
increment_step t y w c e b =
    let r = made t (forms.Lin 1 (plus w.r10 ∷ [])) in
    let next : Option ℕ → ℕ → Symbols = λ of zf. state y (record w {
      r10 = r.number;
      of = of;
      zf = Some zf;
      touch = None;
    }) in
    ap (λ (o : Interned). let z = made o.table (forms.Zero r.number) in
    goes z.table (next (bit_node z.table o.number) z.number)) e
    ∙ ap (λ (of : Option ℕ). let z = made r.table (forms.Zero r.number) in goes z.table (next of z.number)) b

pub leads_overflow_in : {t0 t : List Node} {rest : List Line} {Q : List Node → Symbols → Type 0}
    (y : Symbols) (w : Work) → IsBase t0 → Prefix t0 t → IsBit t0 w.r10
    → ((u : List Node) (x m z : ℕ) → Prefix t u → Leads rest u (state y (record w {
      r10 = x;
      r11 = m;
      of = Some w.r10;
      zf = Some z;
      touch = None;
    })) Q)
    → Leads (overflow_in ++ rest) t (state y w) Q
unfolding step_of result_only
leads_overflow_in {t0} {t} {rest} {Q} y w base p bit l = leads_set y w R11 9223372036854775806 (λ u m pu within here.
    let form = sum (plus w.r10 ∷ plus m ∷ []) in
    let d = made u form in
    let r = made d.table (forms.Lin 1 (plus d.number ∷ [])) in
    let z = made r.table (forms.Zero r.number) in
    let pd = made_prefix u form in
    let pr = made_prefix d.table (forms.Lin 1 (plus d.number ∷ [])) in
    let pz = made_prefix r.table (forms.Zero r.number) in
    let pu0 = prefix_trans p pu in
    let back = shift_back w.r10 m base pu0 bit.inside bit.high within here pr in
    let all = prefix_trans pd (prefix_trans pr pz) in
    let high : (node_at z.table w.r10).high ≤ 1 =
    subst (λ (o : Node). o.high ≤ 1) (sym (at_front w.r10 (prefix_trans pu0 all) bit.inside)) bit.high in
    leads_on refl refl
    (leads_on refl
    (increment_step d.table y (record w { r10 = d.number; r11 = m; touch = None }) w.r10 back
    (bit_there z.table w.r10 high))
    (l z.table r.number m z.number (prefix_trans pu all))))

-- ---- out of a flag

byte_there : (t : List Node) (v q : ℕ) → (node_at t q).high ≤ 1
    → byte_of t (finished (kinds.SetB v q) full).kind ≡ Some q
unfolding finished
byte_there t v q h =
    let e : nat_le (node_at t q).high 255 ≡ true = grind (arith, nat_tests) in ap (λ (b : Bool). guard b q) e

set_place : (t : List Node) (v q : ℕ)
    → IsPlace (made t (forms.SetB v q)).table (finished (kinds.SetB v q) full) (made t (forms.SetB v q)).number
unfolding normal_of
set_place t v q = made_place t (forms.SetB v q) (finished (kinds.SetB v q) full) refl

-- the low byte of a register that was given the bit
widened_step : (t : List Node) (y : Symbols) (w : Work) (q : ℕ) → byte_of t (node_at t w.r10).kind ≡ Some q
    → step_of (instrs.Movzx R10 R10) t (state y w) ≡ goes t (state y (record w { r10 = q; touch = None }))
unfolding step_of movzx_step
widened_step t y w q e = ap (λ (o : Option ℕ). pick o (λ b. goes t (state y (record w { r10 = b; touch = None })))
    (let mask = made t (forms.Const 255) in
    result_only R10 (forms.And w.r10 mask.number) mask.table (state y (record w { touch = None })))) e

pub leads_flag_out : {t0 t : List Node} {rest : List Line} {Q : List Node → Symbols → Type 0}
    (y : Symbols) (w : Work) (q : ℕ) → Prefix t0 t → IsBit t0 q → (cond : Cond)
    → step_of (instrs.Set cond R10) t (state y w)
    ≡ result_only R10 (forms.SetB w.r10 q) t (state y (record w { touch = None }))
    → ((u : List Node) → Prefix t u → Leads rest u (state y (record w { r10 = q; touch = None })) Q)
    → Leads (flag_out cond ++ rest) t (state y w) Q
unfolding result_only
leads_flag_out {t0} {t} {rest} {Q} y w q p bit cond step l =
    let r = made t (forms.SetB w.r10 q) in
    let pr = made_prefix t (forms.SetB w.r10 q) in
    let place = set_place t w.r10 q in
    let high : (node_at r.table q).high ≤ 1 =
    subst (λ (o : Node). o.high ≤ 1) (sym (at_front q (prefix_trans p pr) bit.inside)) bit.high in
    leads_on refl step
    (leads_on refl
    (widened_step r.table y (record w { r10 = r.number; touch = None }) q
    (ap (λ (o : Node). byte_of r.table o.kind) place.here ∙ byte_there r.table w.r10 q high))
    (l r.table pr))
