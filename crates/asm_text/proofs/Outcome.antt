-- What the answers of the reading say by the relation.
use Rattle.std.proofs.Common.{◌≡◌, ℕ, Bool, true, false, cond, List, [], length, nat_lt, Result, Ok, Err, refl, ap}
use Rattle.std.proofs.Common.{subst, arith, suc, ◌⊎◌, inl, inr, IfOk, IfErr}
use Rattle.x86_instr.specs.declared.listing.ListingFault.TheVariants as causes
use Rattle.std.specs.Str.Lines.{lines}
use Rattle.std.proofs.lemmas.Bool.{ltb-true, ltb-false}
use Rattle.x86_instr.specs.Listings.{NamedLines, ends_at_ret}
use Rattle.asm_tokens.specs.Whole.{IsFirstFault, read_lines}
use Rattle.asm_tokens.proofs.FirstFault.{read_ok, ok_read, read_err, first_fault, stands_no_fault, one_fault}
use Rattle.asm_text.specs.Reading.{state, start, step, done, read_text}
use Rattle.asm_text.specs.Texts.{Stands, Refuses}
use Rattle.asm_text.specs.Faults.{answer, after_reading, under_rules, Told}
use Rattle.asm_text.specs.declared.fault.TextFault.{TextFault}
use Rattle.asm_text.specs.declared.fault.TextFault.TheVariants as faults
use Rattle.asm_text.proofs.Relation.{finished_stands, stands_finished}
use Rattle.asm_text.proofs.Going.{goes_on}

pub read_stands : (bytes : List ℕ) (v : NamedLines) → read_text bytes ≡ Ok v → Stands (lines bytes) v
unfolding read_text
read_stands bytes v e = finished_stands (lines bytes) v (read_ok step done (state start []) (lines bytes) 1 v e)

pub stands_read : (bytes : List ℕ) (v : NamedLines) → Stands (lines bytes) v → read_text bytes ≡ Ok v
unfolding read_text
stands_read bytes v s = ok_read step done (state start []) (lines bytes) 1 v (stands_finished (lines bytes) v s)

pub one_listing : (bytes : List ℕ) (v w : NamedLines) → Stands (lines bytes) v → Stands (lines bytes) w → v ≡ w
one_listing bytes v w s t = let a = stands_read bytes v s in let b = stands_read bytes w t in cc

fault_first : (ls : List (List ℕ)) (n : ℕ) → read_lines step done (state start []) ls 1 ≡ Err n
    → IsFirstFault Stands ls n
fault_first ls n e =
    let h = read_err step done (state start []) ls 1 n e in
    let same : suc h.0 ≡ n = omega (arith, h.1) in
    let P : ℕ → Type 0 = λ m. IsFirstFault Stands ls m in
    subst P same (first_fault step done (state start []) Stands ls h.0 stands_finished finished_stands goes_on h.2)

pub fails_first : (bytes : List ℕ) (n : ℕ) → read_text bytes ≡ Err n → IsFirstFault Stands (lines bytes) n
unfolding read_text
fails_first bytes n e = fault_first (lines bytes) n e

fails_there : (bytes : List ℕ) (n : ℕ) (r : Result NamedLines ℕ) → read_text bytes ≡ r
    → IsFirstFault Stands (lines bytes) n → r ≡ Err n
fails_there bytes n (Ok v) e f = absurd (stands_no_fault Stands (lines bytes) v n (read_stands bytes v e) f)
fails_there bytes n (Err m) e f = let same = one_fault Stands (lines bytes) m n (fails_first bytes m e) f in
    rw same refl

pub first_fails : (bytes : List ℕ) (n : ℕ) → IsFirstFault Stands (lines bytes) n → read_text bytes ≡ Err n
first_fails bytes n f = fails_there bytes n (read_text bytes) refl f

rules_ok : (long ends : Bool) (v l : NamedLines)
    → under_rules (cond long (Err causes.TooLong) (cond ends (Ok v) (Err causes.NoReturn))) ≡ Ok l → v ≡ l
rules_ok true ends v l e = cc
rules_ok false true v l e = cc
rules_ok false false v l e = cc

rules_err : (long ends : Bool) (v : NamedLines) (fault : TextFault)
    → under_rules (cond long (Err causes.TooLong) (cond ends (Ok v) (Err causes.NoReturn))) ≡ Err fault
    → ((faults.TooLong ≡ fault) × (long ≡ true)) ⊎ ((faults.NoReturn ≡ fault) × (long ≡ false) × (ends ≡ false))
rules_err true ends v fault e = inl (cc, refl)
rules_err false true v fault e = cc
rules_err false false v fault e = inr (cc, refl, refl)

ok_there : (r : Result NamedLines ℕ) (l : NamedLines) → after_reading r ≡ Ok l → r ≡ Ok l
ok_there (Ok v) l e = ap (λ w. Ok w) (rules_ok (nat_lt 65536 (length v.lines)) (ends_at_ret v.lines) v l e)
ok_there (Err n) l e = cc

answer_stands : (bytes : List ℕ) (l : NamedLines) → answer bytes ≡ Ok l → Stands (lines bytes) l
unfolding answer
answer_stands bytes l e = read_stands bytes l (ok_there (read_text bytes) l e)

refused : (bytes : List ℕ) (fault : TextFault) (r : Result NamedLines ℕ) → read_text bytes ≡ r
    → after_reading r ≡ Err fault → Refuses (lines bytes) fault
refused bytes fault (Ok v) e f =
    let P : TextFault → Type 0 = λ x. Refuses (lines bytes) x in
    elim (rules_err (nat_lt 65536 (length v.lines)) (ends_at_ret v.lines) v fault f) [
      | inl long ↦ subst P long.0 (v, read_stands bytes v e, ltb-true 65536 (length v.lines) long.1)
      | inr open_end ↦ subst P open_end.0 (
        v,
        read_stands bytes v e,
        ltb-false 65536 (length v.lines) open_end.1,
        open_end.2,
      )
    ]
refused bytes fault (Err n) e f =
    let P : TextFault → Type 0 = λ x. Refuses (lines bytes) x in
    let same : faults.Line n ≡ fault = cc in
    subst P same (fails_first bytes n e)

answer_refuses : (bytes : List ℕ) (fault : TextFault) → answer bytes ≡ Err fault → Refuses (lines bytes) fault
unfolding answer
answer_refuses bytes fault e = refused bytes fault (read_text bytes) refl e

pub told_ok : (r : Result NamedLines TextFault) (bytes : List ℕ) → Told r (answer bytes)
    → IfOk r (λ l. Stands (lines bytes) l)
told_ok (Ok l) bytes t = answer_stands bytes l t
told_ok (Err fault) bytes t = tt

pub told_err : (r : Result NamedLines TextFault) (bytes : List ℕ) → Told r (answer bytes)
    → IfErr r (λ e. Refuses (lines bytes) e)
told_err (Ok l) bytes t = tt
told_err (Err (faults.Line n)) bytes t = answer_refuses bytes (faults.Line n) t
told_err (Err faults.TooLong) bytes t = answer_refuses bytes faults.TooLong t
told_err (Err faults.NoReturn) bytes t = answer_refuses bytes faults.NoReturn t
told_err (Err faults.Memory) bytes t = tt
