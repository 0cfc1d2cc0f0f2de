-- How many lines the whole listing has at most, and that it ends at its only `ret`.
use Rattle.std.proofs.Common.{◌≡◌, ℕ, ◌+◌, ◌*◌, ◌≤◌, Bool, true, false, List, [], ◌∷◌, ◌++◌, length, refl, ap, ◌∙◌}
use Rattle.std.proofs.Common.{arith}
use Rattle.std.proofs.lemmas.List.{length-append}
use Rattle.std.proofs.lemmas.Bool.Decides.{nat_tests}
use Rattle.std.specs.Prelude.{if◌then◌else◌, nat_lt, Ok, Err}
use Rattle.word_program.specs.declared.parameter.Param.{Param}
use Rattle.word_program.specs.declared.operation.Target.{Target}
use Rattle.word_program.specs.declared.operation.Target.TheVariants as targets
use Rattle.word_program.specs.Program.{Source}
use Rattle.word_program.specs.Values.{targets_of}
use Rattle.word_program.specs.Accepted.{IsAccepted}
use Rattle.x86_instr.specs.declared.line.Line.{Line}
use Rattle.x86_instr.specs.declared.listing.ListingFault.{ListingFault}
use Rattle.x86_instr.specs.declared.listing.ListingFault.TheVariants.{TooLong, NoReturn}
use Rattle.x86_instr.specs.Listings.{ends_at_ret, listing_of}
use Rattle.op_order.specs.declared.slot.Slot.{Slot}
use Rattle.op_order.specs.Legal.{IsLegal}
use Rattle.op_order.proofs.LegalLemmas.{legal_count}
use Rattle.plain_lower.specs.Frame.{store_late}
use Rattle.plain_lower.specs.Plain.{saves_from, entry, blocks, late_from, late_stores, exit, plain_lines}
use Rattle.plain_lower.proofs.Parts.{IsPart, both, at_most, ends_behind}
use Rattle.plain_lower.proofs.BlockParts.{blocks_part}

saves_part : (param : ℕ) (ps : List Param) → IsPart (length ps) (saves_from param ps)
saves_part param [] = record { short = omega arith; on = refl }
saves_part param (p ∷ ps) = let rest = saves_part (param + 1) ps in let short = rest.short in
    record { short = omega arith; on = rest.on }

entry_part : (p : Source) → IsPart (1 + length p.params) (entry p)
entry_part p = let saves = saves_part 0 p.params in let short = saves.short in
    record { short = omega arith; on = saves.on }

late_part : (p : Source) (value : ℕ) (t : Target) → IsPart 3 (store_late p value t)
late_part p value targets.Value = record { short = omega arith; on = refl }
late_part p value targets.Unused = record { short = omega arith; on = refl }
late_part p value (targets.Output param word) = record { short = omega arith; on = refl }

all_late_part : (p : Source) (value : ℕ) (ts : List Target) → IsPart (3 * length ts) (late_from p value ts)
all_late_part p value [] = record { short = omega arith; on = refl }
all_late_part p value (t ∷ ts) =
    at_most (3 + 3 * length ts) (3 * length (t ∷ ts)) (late_from p value (t ∷ ts)) (omega arith)
    (both 3 (3 * length ts) (store_late p value t) (late_from p (value + 1) ts) (late_part p value t)
    (all_late_part p (value + 1) ts))

late_if : (overlap : Bool) (p : Source) (ts : List Target)
    → IsPart (3 * length ts) (if overlap then late_from p 0 ts else [])
late_if true p ts = all_late_part p 0 ts
late_if false p ts = record { short = omega arith; on = refl }

late_stores_part : (p : Source) → IsPart (3 * length (targets_of p.ops)) (late_stores p)
late_stores_part p = late_if p.overlap p (targets_of p.ops)

-- a parameter has a line, a slot 16 at most, and a value 3 behind them
lines_count : (p : Source) (slots : List Slot) → length (plain_lines p slots)
    ≤ 3 + (length p.params + (16 * length slots + 3 * length (targets_of p.ops)))
unfolding plain_lines
lines_count p slots =
    let first = (entry_part p).short in
    let second = (blocks_part p slots).short in
    let third = (late_stores_part p).short in
    let a = length-append (entry p) (blocks p slots ++ (late_stores p ++ exit p)) in
    let b = length-append (blocks p slots) (late_stores p ++ exit p) in
    let c = length-append (late_stores p) (exit p) in
    omega arith

lines_short : (p : Source) (slots : List Slot) → IsAccepted p → IsLegal p slots
    → length (plain_lines p slots) ≤ 65536
lines_short p slots accepted legal =
    let most = lines_count p slots in
    let count = legal_count p slots legal in
    let params = accepted.params_limit in
    let ops = accepted.ops_limit in
    let values = accepted.values_limit in
    omega arith

lines_end : (p : Source) (slots : List Slot) → ends_at_ret (plain_lines p slots) ≡ true
unfolding plain_lines
lines_end p slots =
    ends_behind (entry p) (blocks p slots ++ (late_stores p ++ exit p)) (entry_part p).on
    ∙ ends_behind (blocks p slots) (late_stores p ++ exit p) (blocks_part p slots).on
    ∙ ends_behind (late_stores p) (exit p) (late_stores_part p).on

-- so the lines make a listing
pub is_listing : (p : Source) (slots : List Slot) → IsAccepted p → IsLegal p slots → (name : List ℕ) (lines : List Line)
    → lines ≡ plain_lines p slots → (fault : ListingFault) → listing_of name lines ≡ Err fault → ⊥
is_listing p slots accepted legal name lines same fault e =
    let short = lines_short p slots accepted legal in
    let count = ap length same in
    let few : nat_lt 65536 (length lines) ≡ false = grind (arith, nat_tests) in
    let end : ends_at_ret lines ≡ true = ap ends_at_ret same ∙ lines_end p slots in
    let is : listing_of name lines ≡ Ok (record { name = name; lines = lines }) =
    ap (λ b. if b then Err TooLong
    else (if ends_at_ret lines then Ok (record { name = name; lines = lines }) else Err NoReturn)) few
    ∙ ap (λ b. if b then Ok (record { name = name; lines = lines }) else Err NoReturn) end in
    absurd (cc)
