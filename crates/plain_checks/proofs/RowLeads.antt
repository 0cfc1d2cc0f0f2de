-- Each row of the table of blocks: its middle leads from its loads to its saves.
use Rattle.std.proofs.Common.{◌≡◌, ℕ, zero, suc, ◌<◌, Bool, true, false, List, [], ◌∷◌, ◌++◌, length, refl, sym}
use Rattle.std.proofs.Common.{arith}
use Rattle.word_operations.specs.declared.kind.Kind.{Kind}
use Rattle.word_operations.specs.declared.kind.Kind.TheVariants.{AddCarry, SubBorrow, MulX, CMov, Add, Sub, Mul, And}
use Rattle.word_operations.specs.declared.kind.Kind.TheVariants.{Or, Xor, Not, Copy, Shl, Shr, Shrd}
use Rattle.word_operations.specs.Operations.{operand_count}
use Rattle.word_program.specs.Accepted.{HasShift}
use Rattle.x86_instr.specs.declared.operand.Reg.TheVariants.{Rcx, Rdx, R10}
use Rattle.x86_instr.specs.declared.line.Line.{Line}
use Rattle.terms.specs.declared.nodes.Node.{Node}
use Rattle.terms.specs.Tables.{node_at, Prefix}
use Rattle.terms.specs.Rules.{const_node}
use Rattle.term_store.proofs.Prefixes.{prefix_refl}
use Rattle.symbolic_state.specs.Symbols.{Symbols}
use Rattle.plain_lower.specs.Blocks.{Place, bit_and_two, factors, in_rax, in_rax_and, last_two, one, row_of, two}
use Rattle.term_laws.proofs.Entries.{IsBase}
use Rattle.plain_checks.proofs.Beside.{AreIn, Beside, beside_itself}
use Rattle.plain_checks.proofs.CarryMiddles.{leads_adc, leads_adcx, leads_add_first, leads_adox, leads_lea_first}
use Rattle.plain_checks.proofs.CarryMiddles.{leads_sbb, leads_sub_first}
use Rattle.plain_checks.proofs.ChoiceMiddles.{leads_chosen_by_carry, leads_chosen_by_test}
use Rattle.plain_checks.proofs.Leading.{Leads}
use Rattle.plain_checks.proofs.Nodes.{HasResults}
use Rattle.plain_checks.proofs.PlainMiddles.{leads_add, leads_and, leads_copy, leads_imul, leads_lea, leads_low_of_mulx}
use Rattle.plain_checks.proofs.PlainMiddles.{leads_mul, leads_mulx, leads_not, leads_or, leads_sub, leads_xor}
use Rattle.plain_checks.proofs.ShiftMiddles.{leads_shifted_double, leads_shl, leads_shlx, leads_shr, leads_shrd}
use Rattle.plain_checks.proofs.ShiftMiddles.{leads_shrx}
use Rattle.plain_checks.proofs.Work.{Ends, Work, beside_state, leads_from, state, work_of}

-- the template is for a carry or borrow that is the literal 0, which it does not load
abbrev pub starts_at_zero : Kind → ℕ → Bool
starts_at_zero AddCarry (suc (suc (suc zero))) = true
starts_at_zero AddCarry (suc (suc (suc (suc zero)))) = true
starts_at_zero SubBorrow (suc zero) = true
starts_at_zero kind template = false

-- ---- the nodes that a row loads

-- a carry, borrow or condition and two words; the words alone; two words; two factors; one word; and a word to copy
module _ (y : Symbols) (args : ℕ → ℕ) where
  abbrev bit_and_words : Work
  bit_and_words = record (work_of y) { rax = args 1; rcx = args 2; r10 = args 0 }

  abbrev last_words : Work
  last_words = record (work_of y) { rax = args 1; rcx = args 2 }

  abbrev words : Work
  words = record (work_of y) { rax = args 0; rcx = args 1 }

  abbrev in_rdx : Work
  in_rdx = record (work_of y) { rcx = args 1; rdx = args 0 }

  abbrev word : Work
  word = record (work_of y) { rax = args 0 }

  abbrev in_rcx : Work
  in_rcx = record (work_of y) { rcx = args 0 }

  module _ {lines : List Line} {t : List Node} {Q : List Node → Symbols → Type 0} (sixteen : length y.regs ≡ 16) where
    from_bit_and_two : AreIn y args bit_and_two → Leads lines t (state y bit_and_words) Q → Leads lines t y Q
    from_bit_and_two h l = leads_from sixteen bit_and_words
        (λ i. record (work_of y) { rax = sym h.1.0 i; rcx = sym h.1.1.0 i; r10 = sym h.0 i }) l

    from_last_two : AreIn y args last_two → Leads lines t (state y last_words) Q → Leads lines t y Q
    from_last_two h l = leads_from sixteen last_words
        (λ i. record (work_of y) { rax = sym h.0 i; rcx = sym h.1.0 i }) l

    from_two : AreIn y args two → Leads lines t (state y words) Q → Leads lines t y Q
    from_two h l = leads_from sixteen words (λ i. record (work_of y) { rax = sym h.0 i; rcx = sym h.1.0 i }) l

    from_factors : AreIn y args factors → Leads lines t (state y in_rdx) Q → Leads lines t y Q
    from_factors h l = leads_from sixteen in_rdx (λ i. record (work_of y) { rcx = sym h.1.0 i; rdx = sym h.0 i }) l

    from_one : AreIn y args one → Leads lines t (state y word) Q → Leads lines t y Q
    from_one h l = leads_from sixteen word (λ i. record (work_of y) { rax = sym h.0 i }) l

    from_rcx : AreIn y args ((Rcx, 0) ∷ []) → Leads lines t (state y in_rcx) Q → Leads lines t y Q
    from_rcx h l = leads_from sixteen in_rcx (λ i. record (work_of y) { rcx = sym h.0 i }) l

-- ---- the rows

module _ {t0 t : List Node} (y : Symbols) (rest : List Line) (Q : List Node → Symbols → Type 0)
    (args results : ℕ → ℕ) (op : ℕ) (base : IsBase t0) (p : Prefix t0 t) (sixteen : length y.regs ≡ 16) where
  -- what a row leads to
  abbrev Given : List Place → Type 0
  Given saves = (u : List Node) (z : Symbols) → Prefix t u → Beside y z → AreIn z results saves → Leads rest u z Q

  ends_of : (saves : List Place) → Given saves → Ends t y results saves rest Q
  ends_of saves given = λ u w pu are. given u (state y w) pu (beside_state y w) are

  abbrev LeadsOn : Kind → ℕ → Type 0
  LeadsOn kind template = HasShift kind → ((place : ℕ) → place < operand_count kind → args place < length t0)
      → HasResults t0 kind (args 0) (args 1) (args 2) (results 0) (results 1)
      → (starts_at_zero kind template ≡ true → node_at t0 (args 0) ≡ const_node 0)
      → AreIn y args (row_of kind template).loads
      → Given (row_of kind template).saves
      → Leads ((row_of kind template).middle op ++ rest) t y Q

  -- where there is no row
  of_none : Given [] → Leads rest t y Q
  of_none given = given t y (prefix_refl t) (beside_itself y sixteen) tt

  add_carries : (template : ℕ) → LeadsOn AddCarry template
  unfolding row_of
  add_carries zero shift inside has nought loaded given = from_bit_and_two y args sixteen loaded
      (leads_adc y results op base p (bit_and_words y args)
      (record { has = has; first = inside 1 (omega arith); second = inside 2 (omega arith) })
      (ends_of (in_rax_and R10) given))
  add_carries (suc zero) shift inside has nought loaded given = from_bit_and_two y args sixteen loaded
      (leads_adcx y results op base p (bit_and_words y args)
      (record { has = has; first = inside 1 (omega arith); second = inside 2 (omega arith) })
      (ends_of (in_rax_and R10) given))
  add_carries (suc (suc zero)) shift inside has nought loaded given = from_bit_and_two y args sixteen loaded
      (leads_adox y results op base p (bit_and_words y args)
      (record { has = has; first = inside 1 (omega arith); second = inside 2 (omega arith) })
      (ends_of (in_rax_and R10) given))
  add_carries (suc (suc (suc zero))) shift inside has nought loaded given = from_last_two y args sixteen loaded
      (leads_add_first y results op base p (last_words y args) (args 0) (nought refl)
      (inside 1 (omega arith)) (inside 2 (omega arith)) has (ends_of (in_rax_and R10) given))
  add_carries (suc (suc (suc (suc zero)))) shift inside has nought loaded given = from_last_two y args sixteen loaded
      (leads_lea_first y results op base p (last_words y args) (args 0) (nought refl)
      (inside 1 (omega arith)) (inside 2 (omega arith)) has (ends_of in_rax given))
  add_carries (suc (suc (suc (suc (suc template))))) shift inside has nought loaded given = of_none given

  subtract_borrows : (template : ℕ) → LeadsOn SubBorrow template
  unfolding row_of
  subtract_borrows zero shift inside has nought loaded given = from_bit_and_two y args sixteen loaded
      (leads_sbb y results op base p (bit_and_words y args) has (ends_of (in_rax_and R10) given))
  subtract_borrows (suc zero) shift inside has nought loaded given = from_last_two y args sixteen loaded
      (leads_sub_first y results op base p (last_words y args) (args 0) (nought refl)
      (inside 1 (omega arith)) (inside 2 (omega arith)) has (ends_of (in_rax_and R10) given))
  subtract_borrows (suc (suc template)) shift inside has nought loaded given = of_none given

  choices : (template : ℕ) → LeadsOn CMov template
  unfolding row_of
  choices zero shift inside has nought loaded given = from_bit_and_two y args sixteen loaded
      (leads_chosen_by_test y results op base p (bit_and_words y args) has (ends_of in_rax given))
  choices (suc zero) shift inside has nought loaded given = from_bit_and_two y args sixteen loaded
      (leads_chosen_by_carry y results op base p (bit_and_words y args) has (ends_of in_rax given))
  choices (suc (suc template)) shift inside has nought loaded given = of_none given

  rows : (kind : Kind) (template : ℕ) → LeadsOn kind template
  unfolding row_of
  rows AddCarry template shift inside has nought loaded given =
      add_carries template shift inside has nought loaded given
  rows SubBorrow template shift inside has nought loaded given =
      subtract_borrows template shift inside has nought loaded given
  rows CMov template shift inside has nought loaded given = choices template shift inside has nought loaded given
  rows MulX zero shift inside has nought loaded given = from_factors y args sixteen loaded
      (leads_mulx y results op base p (in_rdx y args) has (ends_of (in_rax_and R10) given))
  rows MulX (suc zero) shift inside has nought loaded given = from_two y args sixteen loaded
      (leads_mul y results op base p (words y args) has (ends_of (in_rax_and Rdx) given))
  rows MulX (suc (suc template)) shift inside has nought loaded given = of_none given
  rows Mul zero shift inside has nought loaded given = from_two y args sixteen loaded
      (leads_imul y results op base p (words y args) has (ends_of in_rax given))
  rows Mul (suc zero) shift inside has nought loaded given = from_factors y args sixteen loaded
      (leads_low_of_mulx y results op base p (in_rdx y args) has (ends_of in_rax given))
  rows Mul (suc (suc template)) shift inside has nought loaded given = of_none given
  rows Add zero shift inside has nought loaded given = from_two y args sixteen loaded
      (leads_add y results op base p (words y args) has (ends_of in_rax given))
  rows Add (suc zero) shift inside has nought loaded given = from_two y args sixteen loaded
      (leads_lea y results op base p (words y args) has (ends_of in_rax given))
  rows Add (suc (suc template)) shift inside has nought loaded given = of_none given
  rows Sub zero shift inside has nought loaded given = from_two y args sixteen loaded
      (leads_sub y results op base p (words y args) has (ends_of in_rax given))
  rows Sub (suc template) shift inside has nought loaded given = of_none given
  rows And zero shift inside has nought loaded given = from_two y args sixteen loaded
      (leads_and y results op base p (words y args) has (ends_of in_rax given))
  rows And (suc template) shift inside has nought loaded given = of_none given
  rows Or zero shift inside has nought loaded given = from_two y args sixteen loaded
      (leads_or y results op base p (words y args) has (ends_of in_rax given))
  rows Or (suc template) shift inside has nought loaded given = of_none given
  rows Xor zero shift inside has nought loaded given = from_two y args sixteen loaded
      (leads_xor y results op base p (words y args) has (ends_of in_rax given))
  rows Xor (suc template) shift inside has nought loaded given = of_none given
  rows Not zero shift inside has nought loaded given = from_one y args sixteen loaded
      (leads_not y results op base p (word y args) has (ends_of in_rax given))
  rows Not (suc template) shift inside has nought loaded given = of_none given
  rows Copy zero shift inside has nought loaded given = from_rcx y args sixteen loaded
      (leads_copy y results op base p (in_rcx y args) has (ends_of in_rax given))
  rows Copy (suc template) shift inside has nought loaded given = of_none given
  rows (Shl k) zero shift inside has nought loaded given = from_one y args sixteen loaded
      (leads_shl y results op base p (word y args) k shift.0 shift.1 has (ends_of in_rax given))
  rows (Shl k) (suc zero) shift inside has nought loaded given = from_one y args sixteen loaded
      (leads_shlx y results op base p (word y args) k shift.0 shift.1 has (ends_of in_rax given))
  rows (Shl k) (suc (suc template)) shift inside has nought loaded given = of_none given
  rows (Shr k) zero shift inside has nought loaded given = from_one y args sixteen loaded
      (leads_shr y results op base p (word y args) k shift.0 shift.1 has (ends_of in_rax given))
  rows (Shr k) (suc zero) shift inside has nought loaded given = from_one y args sixteen loaded
      (leads_shrx y results op base p (word y args) k shift.0 shift.1 has (ends_of in_rax given))
  rows (Shr k) (suc (suc template)) shift inside has nought loaded given = of_none given
  rows (Shrd k) zero shift inside has nought loaded given = from_two y args sixteen loaded
      (leads_shrd y results op base p (words y args) k shift.0 shift.1 has (ends_of in_rax given))
  rows (Shrd k) (suc zero) shift inside has nought loaded given = from_two y args sixteen loaded
      (leads_shifted_double y results op base p (words y args) k shift.0 shift.1 has (ends_of in_rax given))
  rows (Shrd k) (suc (suc template)) shift inside has nought loaded given = of_none given

-- With the operands' nodes in the registers of its loads, a row's middle leaves the results' nodes in those of its
-- saves.
pub row_leads : {t0 t : List Node} (kind : Kind) (template number : ℕ) (args results : ℕ → ℕ) → IsBase t0
    → HasShift kind → ((place : ℕ) → place < operand_count kind → args place < length t0)
    → HasResults t0 kind (args 0) (args 1) (args 2) (results 0) (results 1)
    → (starts_at_zero kind template ≡ true → node_at t0 (args 0) ≡ const_node 0)
    → Prefix t0 t → {y : Symbols} → length y.regs ≡ 16 → AreIn y args (row_of kind template).loads
    → {rest : List Line} {Q : List Node → Symbols → Type 0}
    → ((u : List Node) (z : Symbols) → Prefix t u → Beside y z → AreIn z results (row_of kind template).saves
    → Leads rest u z Q)
    → Leads ((row_of kind template).middle number ++ rest) t y Q
row_leads kind template number args results base shift inside has nought p {y} sixteen loaded {rest} {Q} given =
    rows y rest Q args results number base p sixteen kind template shift inside has nought loaded given
