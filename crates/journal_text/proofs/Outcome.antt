-- What the answers of the reading say by the relation.
use Rattle.std.proofs.Common.{◌≡◌, ℕ, ◌<◌, ◌^◌, Bool, true, false, cond, ◌==◌, List, [], ◌∷◌, Some, None}
use Rattle.std.proofs.Common.{Result, Ok, Err}
use Rattle.std.proofs.Common.{refl, sym, ◌∙◌, ap, subst, arith, suc, IfOk, IfErr}
use Rattle.base.proofs.Options.{bind_then}
use Rattle.std.proofs.lemmas.Bool.{ne_eqb}
use Rattle.asm_tokens.specs.Whole.{IsFirstFault, read_lines}
use Rattle.asm_tokens.proofs.FirstFault.{read_ok, ok_read, read_err, first_fault, stands_no_fault, one_fault}
use Rattle.journal_rules.specs.declared.journal.Journal.{Journal}
use Rattle.journal_text.specs.Text.{first_line, text_of}
use Rattle.journal_text.specs.Limits.{IsWithin, IsTyped}
use Rattle.journal_text.specs.Lines.{full_lines}
use Rattle.journal_text.specs.Stands.{Stands, IsOther, Refuses}
use Rattle.journal_text.specs.Faults.{Gives}
use Rattle.journal_text.specs.Reading.{step, done, start, read_text, version_in, other_in, first_other}
use Rattle.journal_text.specs.declared.fault.JournalFault.{JournalFault}
use Rattle.journal_text.specs.declared.fault.JournalFault.TheVariants as faults
use Rattle.journal_text.proofs.StepsBoth.{version_is, version_back}
use Rattle.journal_text.proofs.Sound.{finished_stands}
use Rattle.journal_text.proofs.Complete.{stands_finished, goes_on}
use Rattle.journal_text.proofs.LinesBack.{text_stands}

-- ---- the reading and the relation

pub read_stands : (bytes : List ℕ) (j : Journal) → read_text bytes ≡ Ok j → Stands (full_lines bytes) j
unfolding read_text
read_stands bytes j e = finished_stands (full_lines bytes) j (read_ok step done start (full_lines bytes) 1 j e)

pub stands_read : (bytes : List ℕ) (j : Journal) → Stands (full_lines bytes) j → read_text bytes ≡ Ok j
unfolding read_text
stands_read bytes j s = ok_read step done start (full_lines bytes) 1 j (stands_finished (full_lines bytes) j s)

pub one_journal : (bytes : List ℕ) (j k : Journal) → Stands (full_lines bytes) j → Stands (full_lines bytes) k → j ≡ k
one_journal bytes j k s t = let a = stands_read bytes j s in let b = stands_read bytes k t in cc

fault_first : (lines : List (List ℕ)) (n : ℕ) → read_lines step done start lines 1 ≡ Err n
    → IsFirstFault Stands lines n
fault_first lines n e =
    let h = read_err step done start lines 1 n e in
    let same : suc h.0 ≡ n = omega (arith, h.1) in
    let P : ℕ → Type 0 = λ m. IsFirstFault Stands lines m in
    subst P same (first_fault step done start Stands lines h.0 stands_finished finished_stands goes_on h.2)

pub fails_first : (bytes : List ℕ) (n : ℕ) → read_text bytes ≡ Err n → IsFirstFault Stands (full_lines bytes) n
unfolding read_text
fails_first bytes n e = fault_first (full_lines bytes) n e

fails_there : (bytes : List ℕ) (n : ℕ) (r : Result Journal ℕ) → read_text bytes ≡ r
    → IsFirstFault Stands (full_lines bytes) n → r ≡ Err n
fails_there bytes n (Ok v) e f = absurd (stands_no_fault Stands (full_lines bytes) v n (read_stands bytes v e) f)
fails_there bytes n (Err m) e f =
    let same = one_fault Stands (full_lines bytes) m n (fails_first bytes m e) f in rw same refl

pub first_fails : (bytes : List ℕ) (n : ℕ) → IsFirstFault Stands (full_lines bytes) n → read_text bytes ≡ Err n
first_fails bytes n f = fails_there bytes n (read_text bytes) refl f

pub reads_back : (j : Journal) → IsWithin j → IsTyped j → read_text (text_of j) ≡ Ok j
reads_back j h t = stands_read (text_of j) j (text_stands j h t)

-- ---- other versions

other_is : (line : List ℕ) (found : ℕ) (rest : List (List ℕ)) → other_in line ≡ Some found → IsOther (line ∷ rest) found
unfolding other_in
other_is line found rest e = bind_then (version_in line) _ found (IsOther (line ∷ rest) found) (λ n is other.
    by_tests n (n == 1) (n == 2) refl refl (version_is line n is).0 (version_is line n is).1 other) e
  where
    by_tests : (n : ℕ) (a b : Bool) → (n == 1) ≡ a → (n == 2) ≡ b → line ≡ first_line n → n < 2 ^ 64
        → cond a None (cond b None (Some n)) ≡ Some found → IsOther (line ∷ rest) found
    by_tests n true b x y spelled small f = cc
    by_tests n false true x y spelled small f = cc
    by_tests n false false x y spelled small f =
        let same : n ≡ found = cc in
        let P : ℕ → Type 0 = λ m. IsOther (line ∷ rest) m in
        subst P same (record {
          rest = rest;
          spelled = ap (λ l. l ∷ rest) spelled;
          small = small;
          no_one = λ one. (let e : (n == 1) ≡ true = rw one refl in let h : true ≡ false = sym e ∙ x in cc);
          no_two = λ two. (let e : (n == 2) ≡ true = rw two refl in let h : true ≡ false = sym e ∙ y in cc);
        })

pub first_is : (lines : List (List ℕ)) (found : ℕ) → first_other lines ≡ Some found → IsOther lines found
first_is [] found e = cc
first_is (line ∷ lines) found e = other_is line found lines e

other_back : (found : ℕ) → found < 2 ^ 64 → (found ≡ 1 → ⊥) → (found ≡ 2 → ⊥) → other_in (first_line found) ≡ Some found
unfolding other_in
other_back found small no_one no_two =
    rw (version_back found small, ne_eqb found 1 no_one, ne_eqb found 2 no_two) refl

pub first_back : (lines : List (List ℕ)) (found : ℕ) → IsOther lines found → first_other lines ≡ Some found
first_back lines found o =
    let P : List (List ℕ) → Type 0 = λ ls. first_other ls ≡ Some found in
    subst P (sym o.spelled) (other_back found o.small o.no_one o.no_two)

-- ---- the answer

none_other : (lines : List (List ℕ)) → first_other lines ≡ None → (found : ℕ) → IsOther lines found → ⊥
none_other lines none found o = let h : None ≡ Some found = sym none ∙ first_back lines found o in cc

pub given_ok : (r : Result Journal JournalFault) (bytes : List ℕ) → Gives (read_text bytes) r
    → IfOk r (λ j. Stands (full_lines bytes) j)
given_ok (Ok j) bytes g = read_stands bytes j g
given_ok (Err fault) bytes g = tt

pub given_within : (r : Result Journal JournalFault) (bytes : List ℕ) → Gives (read_text bytes) r
    → IfOk r (λ j. IsWithin j)
given_within (Ok j) bytes g = (read_stands bytes j g).within
given_within (Err fault) bytes g = tt

pub given_err : (r : Result Journal JournalFault) (bytes : List ℕ) → first_other (full_lines bytes) ≡ None
    → Gives (read_text bytes) r → IfErr r (λ fault. Refuses (full_lines bytes) fault)
given_err (Ok j) bytes none g = tt
given_err (Err (faults.Line n)) bytes none g = (fails_first bytes n g, none_other (full_lines bytes) none)
given_err (Err (faults.Version found)) bytes none g = absurd g
given_err (Err faults.Memory) bytes none g = tt
