-- The fall-back as a whole: how many lines it has, that it ends at its only `ret`, and that it names no preserved
-- register.
use Rattle.std.proofs.Common.{◌≡◌, ℕ, ◌+◌, ◌*◌, ◌≤◌, Bool, true, false, List, [], ◌∷◌, ◌++◌, length, refl}
use Rattle.std.proofs.Common.{arith, ap, cond, ◌∙◌}
use Rattle.std.proofs.lemmas.List.{length-append}
use Rattle.std.proofs.lemmas.List.Folds.{list_all-append}
use Rattle.std.proofs.lemmas.List.Recursion.{is_count_by}
use Rattle.std.proofs.lemmas.List.Sums.{count_by-le-length}
use Rattle.std.proofs.lemmas.Bool.Decides.{nat_tests}
use Rattle.std.specs.Prelude.{not, ◌&&◌, if◌then◌else◌, nat_lt, Ok, Err, count_by}
use Rattle.std.specs.List.{list_all}
use Rattle.word_program.specs.declared.parameter.Param.{Param}
use Rattle.word_program.specs.declared.operation.Target.{Target}
use Rattle.word_program.specs.declared.operation.Target.TheVariants as targets
use Rattle.word_program.specs.Program.{Source}
use Rattle.word_program.specs.Values.{targets_of}
use Rattle.word_program.specs.Accepted.{IsAccepted}
use Rattle.word_program.proofs.RowLemmas.{and_true}
use Rattle.x86_instr.specs.declared.operand.Reg.{Reg}
use Rattle.x86_instr.specs.declared.line.Line.{Line}
use Rattle.x86_instr.specs.declared.listing.ListingFault.{ListingFault}
use Rattle.x86_instr.specs.declared.listing.ListingFault.TheVariants.{TooLong, NoReturn}
use Rattle.x86_instr.specs.Listings.{is_ret, ends_at_ret, listing_of}
use Rattle.op_order.specs.declared.slot.Slot.{Slot}
use Rattle.op_order.specs.Legal.{IsLegal}
use Rattle.op_order.proofs.LegalLemmas.{legal_count}
use Rattle.plain_lower.specs.Plain.{saves_from, entry, late_from, late_stores, exit}
use Rattle.plain_lower.proofs.Parts.{goes_on, ends_behind}
use Rattle.fast_lower.specs.Named.{preserved, is_in, is_named, preserved_count}
use Rattle.fast_lower.specs.Fast.{is_output_word, output_words, most_lines}
use Rattle.fast_lower.specs.FallBack.{blocks, fall_back_lines}
use Rattle.fast_lower.proofs.Quiet.{is_calm, is_quiet, IsPart}
use Rattle.fast_lower.proofs.BlockParts.{weaker, quiet_calm, blocks_part}

-- ---- entry and late stores

-- of the first parameters, of which there are at most six
saves_quiet : (ps : List Param) → length ps ≤ 6 → IsPart is_quiet 6 (saves_from 0 ps)
saves_quiet [] w = record { short = omega arith; all = refl }
saves_quiet (a ∷ []) w = record { short = omega arith; all = refl }
saves_quiet (a ∷ b ∷ []) w = record { short = omega arith; all = refl }
saves_quiet (a ∷ b ∷ c ∷ []) w = record { short = omega arith; all = refl }
saves_quiet (a ∷ b ∷ c ∷ d ∷ []) w = record { short = omega arith; all = refl }
saves_quiet (a ∷ b ∷ c ∷ d ∷ e ∷ []) w = record { short = omega arith; all = refl }
saves_quiet (a ∷ b ∷ c ∷ d ∷ e ∷ f ∷ []) w = record { short = omega arith; all = refl }
saves_quiet (a ∷ b ∷ c ∷ d ∷ e ∷ f ∷ g ∷ ps) w = absurd (omega arith)

pub entry_quiet : (p : Source) → IsAccepted p → IsPart is_quiet 7 (entry p)
entry_quiet p accepted =
    let saves = saves_quiet p.params accepted.params_limit in
    let short = saves.short in
    record { short = omega arith; all = saves.all }

-- how many of the targets are output words, by recursion
outputs_in : List Target → ℕ
outputs_in [] = 0
outputs_in (targets.Value ∷ ts) = outputs_in ts
outputs_in (targets.Unused ∷ ts) = outputs_in ts
outputs_in (targets.Output param word ∷ ts) = 1 + outputs_in ts

one_more : (t : Target) (ts : List Target)
    → outputs_in (t ∷ ts) ≡ cond (is_output_word t) (1 + outputs_in ts) (outputs_in ts)
unfolding outputs_in
one_more targets.Value ts = refl
one_more targets.Unused ts = refl
one_more (targets.Output param word) ts = refl

outputs_are : (ts : List Target) → outputs_in ts ≡ count_by is_output_word ts
unfolding outputs_in
outputs_are ts = is_count_by outputs_in is_output_word refl one_more ts

late_quiet : (p : Source) (value : ℕ) (ts : List Target) → IsPart is_quiet (3 * outputs_in ts) (late_from p value ts)
unfolding outputs_in
late_quiet p value [] = record { short = omega arith; all = refl }
late_quiet p value (targets.Value ∷ ts) =
    let rest = late_quiet p (value + 1) ts in
    let short = rest.short in
    record { short = omega arith; all = rest.all }
late_quiet p value (targets.Unused ∷ ts) =
    let rest = late_quiet p (value + 1) ts in
    let short = rest.short in
    record { short = omega arith; all = rest.all }
late_quiet p value (targets.Output param word ∷ ts) =
    let rest = late_quiet p (value + 1) ts in
    let short = rest.short in
    record { short = omega arith; all = rest.all }

late_if_quiet : (overlap : Bool) (p : Source) (ts : List Target)
    → IsPart is_quiet (3 * outputs_in ts) (if overlap then late_from p 0 ts else [])
late_if_quiet true p ts = late_quiet p 0 ts
late_if_quiet false p ts = record { short = omega arith; all = refl }

pub late_stores_quiet : (p : Source) → IsPart is_quiet (3 * output_words p) (late_stores p)
late_stores_quiet p =
    let late = late_if_quiet p.overlap p (targets_of p.ops) in
    let short = late.short in
    let same = outputs_are (targets_of p.ops) in
    record { short = omega arith; all = late.all }

-- ---- its lines

lines_count : (p : Source) (slots : List Slot) → IsAccepted p
    → length (fall_back_lines p slots) ≤ 16 * length slots + 9 + 3 * output_words p
unfolding fall_back_lines
lines_count p slots accepted =
    let first = (entry_quiet p accepted).short in
    let second = (blocks_part p slots).short in
    let third = (late_stores_quiet p).short in
    let a = length-append (entry p) (blocks p slots ++ (late_stores p ++ exit p)) in
    let b = length-append (blocks p slots) (late_stores p ++ exit p) in
    let c = length-append (late_stores p) (exit p) in
    omega arith

pub lines_short : (p : Source) (slots : List Slot) → IsAccepted p → IsLegal p slots
    → length (fall_back_lines p slots) ≤ most_lines p
lines_short p slots accepted legal =
    let most = lines_count p slots accepted in
    let count = legal_count p slots legal in
    omega arith

-- ---- its end

calm_goes_on : (lines : List Line) → list_all is_calm lines ≡ true → list_all goes_on lines ≡ true
calm_goes_on lines e = weaker is_calm goes_on
    (λ line h. (and_true (not (is_ret line.instr)) (list_all (λ r. not (is_in r line.instr)) preserved) h).0) lines e

lines_end : (p : Source) (slots : List Slot) → IsAccepted p → ends_at_ret (fall_back_lines p slots) ≡ true
unfolding fall_back_lines
lines_end p slots accepted =
    ends_behind (entry p) (blocks p slots ++ (late_stores p ++ exit p))
    (calm_goes_on (entry p) (quiet_calm 7 (entry p) (entry_quiet p accepted)).all)
    ∙ ends_behind (blocks p slots) (late_stores p ++ exit p) (calm_goes_on (blocks p slots) (blocks_part p slots).all)
    ∙ ends_behind (late_stores p) (exit p)
    (calm_goes_on (late_stores p) (quiet_calm (3 * output_words p) (late_stores p) (late_stores_quiet p)).all)

-- so the lines make a listing
pub is_listing : (p : Source) (slots : List Slot) → IsAccepted p → IsLegal p slots → (name : List ℕ) (lines : List Line)
    → lines ≡ fall_back_lines p slots → (fault : ListingFault) → listing_of name lines ≡ Err fault → ⊥
is_listing p slots accepted legal name lines same fault e =
    let most = lines_count p slots accepted in
    let slot_count = legal_count p slots legal in
    let ops = accepted.ops_limit in
    let values = accepted.values_limit in
    let outputs = count_by-le-length is_output_word (targets_of p.ops) in
    let count = ap length same in
    let short : length lines ≤ 65536 = omega arith in
    let few : nat_lt 65536 (length lines) ≡ false = grind (arith, nat_tests) in
    let end : ends_at_ret lines ≡ true = ap ends_at_ret same ∙ lines_end p slots accepted in
    let is : listing_of name lines ≡ Ok (record { name = name; lines = lines }) =
    ap (λ b. if b then Err TooLong
    else (if ends_at_ret lines then Ok (record { name = name; lines = lines }) else Err NoReturn)) few
    ∙ ap (λ b. if b then Ok (record { name = name; lines = lines }) else Err NoReturn) end in
    absurd (cc)

-- ---- the registers that it names

abbrev is_nameless : List Reg → Line → Bool
is_nameless rs line = list_all (λ r. not (is_in r line.instr)) rs

calm_nameless : (lines : List Line) → list_all is_calm lines ≡ true → list_all (is_nameless preserved) lines ≡ true
calm_nameless lines e = weaker is_calm (is_nameless preserved)
    (λ line h. (and_true (not (is_ret line.instr)) (is_nameless preserved line) h).1) lines e

lines_nameless : (p : Source) (slots : List Slot) → IsAccepted p
    → list_all (is_nameless preserved) (fall_back_lines p slots) ≡ true
unfolding fall_back_lines
lines_nameless p slots accepted =
    let test : Line → Bool = is_nameless preserved in
    let first = calm_nameless (entry p) (quiet_calm 7 (entry p) (entry_quiet p accepted)).all in
    let second = calm_nameless (blocks p slots) (blocks_part p slots).all in
    let third = calm_nameless (late_stores p)
    (quiet_calm (3 * output_words p) (late_stores p) (late_stores_quiet p)).all in
    list_all-append test (entry p) (blocks p slots ++ (late_stores p ++ exit p))
    ∙ ap (λ b. b && list_all test (blocks p slots ++ (late_stores p ++ exit p))) first
    ∙ list_all-append test (blocks p slots) (late_stores p ++ exit p)
    ∙ ap (λ b. b && list_all test (late_stores p ++ exit p)) second
    ∙ list_all-append test (late_stores p) (exit p)
    ∙ ap (λ b. b && list_all test (exit p)) third

-- of the registers that no line names, the first one
first_unnamed : (r : Reg) (rs : List Reg) (lines : List Line) → list_all (is_nameless (r ∷ rs)) lines ≡ true
    → (is_named lines r ≡ false) × (list_all (is_nameless rs) lines ≡ true)
first_unnamed r rs [] e = (refl, refl)
first_unnamed r rs (line ∷ lines) e =
    let t = and_true (is_nameless (r ∷ rs) line) (list_all (is_nameless (r ∷ rs)) lines) e in
    let u = and_true (not (is_in r line.instr)) (is_nameless rs line) t.0 in
    let v = first_unnamed r rs lines t.1 in
    let here : is_in r line.instr ≡ false = not_false (is_in r line.instr) u.0 in
    let a = v.0 in
    let b = v.1 in
    let c = u.1 in
    (rw (here, a) refl, rw (c, b) refl)
  where
    not_false : (b : Bool) → not b ≡ true → b ≡ false
    not_false true h = absurd (cc)
    not_false false h = refl

none_named : (rs : List Reg) (lines : List Line) → list_all (is_nameless rs) lines ≡ true
    → count_by (is_named lines) rs ≡ 0
none_named [] lines e = refl
none_named (r ∷ rs) lines e =
    let t = first_unnamed r rs lines e in
    let rest = none_named rs lines t.1 in
    let here = t.0 in
    rw (here, rest) refl

pub lines_preserve : (p : Source) (slots : List Slot) → IsAccepted p → preserved_count (fall_back_lines p slots) ≡ 0
unfolding preserved_count
lines_preserve p slots accepted = none_named preserved (fall_back_lines p slots) (lines_nameless p slots accepted)
