-- What is known of the output words that are never written.
use Rattle.std.proofs.Common.{◌≡◌, ℕ, ◌+◌, ◌<◌, List, [], ◌∷◌, drop, length, refl, arith, suc}
use Rattle.std.proofs.Math.Seq.{drop-cons}
use Rattle.std.specs.Prelude.{not}
use Rattle.std.specs.Option.{option_or}
use Rattle.word_text.specs.declared.codes.TheConstants.{OUTPUT}
use Rattle.word_text.specs.declared.fault.Section.TheVariants.{Returns}
use Rattle.word_program.specs.declared.parameter.Bounds.{Bounds}
use Rattle.word_program.specs.declared.operation.Target.{Target}
use Rattle.word_program.specs.Program.{full}
use Rattle.word_program.specs.Rules.{missing_word, is_written}
use Rattle.word_program.specs.Walk.{walk, at, place_in}

-- the word with this number is tried, and then those behind it
pub missing_step : (ts : List Target) (param n i : ℕ) (bs : List Bounds) → i < length bs
    → walk (missing_word ts param) (λ u b. u) tt n (drop i bs) ≡ option_or
    (at (place_in Returns param n) ((OUTPUT, not (is_written ts param n)) ∷ []))
    (walk (missing_word ts param) (λ u b. u) tt (n + 1) (drop (i + 1) bs))
missing_step ts param n i bs lt = let e : i + 1 ≡ suc i = omega arith in rw (e, drop-cons bs i full) refl
