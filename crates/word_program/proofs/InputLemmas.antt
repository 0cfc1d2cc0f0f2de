-- What is known of input words and their bounds.
use Rattle.std.proofs.Common.{◌≡◌, ℕ, ◌+◌, ◌-◌, ◌*◌, ◌<◌, ◌≤◌, Bool, true, false, List, [], ◌∷◌, ◌++◌, map, length}
use Rattle.std.proofs.Common.{drop, refl, arith, suc, sym, ◌∙◌, ap, append_assoc}
use Rattle.std.proofs.Math.Seq.{drop-cons}
use Rattle.std.proofs.lemmas.Bool.Decides.{nat_tests}
use Rattle.std.proofs.lemmas.List.{length-append, take_all}
use Rattle.std.proofs.lemmas.List.Concat.{length-flat_map}
use Rattle.std.specs.Prelude.{Some, None, ◌&&◌, nat_le, slice_index_or, sum_by, take, if◌then◌else◌}
use Rattle.std.specs.List.{AllByRecursion, range_with_len}
use Rattle.word_program.specs.declared.parameter.Bounds.{Bounds}
use Rattle.word_program.specs.declared.parameter.Param.{Param}
use Rattle.word_program.specs.Program.{full}
use Rattle.word_program.specs.Values.{is_output, input_words, input_bounds, AreWithin}
use Rattle.word_program.specs.Evaluates.{is_within, outside}
use Rattle.word_program.specs.Accepted.{IsParam}
use Rattle.word_program.proofs.ParamLemmas.{range_step}

words_of_role : (b : Bool) (bs : List Bounds) → length bs ≤ 32 → length (if b then [] else bs) ≤ 32
words_of_role true bs few = omega arith
words_of_role false bs few = few

-- each parameter has at most 32 input words
pub inputs_limit : (params : List Param) → AllByRecursion IsParam params
    → length (input_bounds params) ≤ 32 * length params
inputs_limit [] all = omega arith
inputs_limit (p ∷ ps) all =
    let rest = inputs_limit ps all.1 in
    let here = words_of_role (is_output p.role) p.bounds all.0.words in
    let sum = length-append (if is_output p.role then [] else p.bounds) (input_bounds ps) in
    omega arith

-- where no word is outside, each is within
pub within_by : (n : ℕ) (xs : List ℕ) (bs : List Bounds) → length xs ≡ length bs → outside n xs bs ≡ None
    → AreWithin xs bs
within_by n [] [] same none = tt
within_by n [] (b ∷ bs) same none = absurd (omega arith)
within_by n (x ∷ xs) [] same none = absurd (omega arith)
within_by n (x ∷ xs) (b ∷ bs) same none =
    step (nat_le b.low x) (nat_le x b.high) refl refl (within_by (n + 1) xs bs (omega arith)) none
  where
    step : (p q : Bool) → nat_le b.low x ≡ p → nat_le x b.high ≡ q → (outside (n + 1) xs bs ≡ None → AreWithin xs bs)
        → (if p && q then outside (n + 1) xs bs else Some n) ≡ None → AreWithin (x ∷ xs) (b ∷ bs)
    step true true ep eq rest e = (grind (arith, nat_tests), grind (arith, nat_tests), rest e)
    step true false ep eq rest e = absurd (cc)
    step false q ep eq rest e = absurd (cc)

-- the word with this number is tried, and then those behind it
pub outside_step : (n i : ℕ) (xs : List ℕ) (bs : List Bounds) → i < length xs → i < length bs
    → outside n (drop i xs) (drop i bs) ≡ (if is_within (slice_index_or bs i full) (slice_index_or xs i 0) then
    outside (n + 1) (drop (i + 1) xs) (drop (i + 1) bs) else Some n)
outside_step n i xs bs lt lt' = let e : i + 1 ≡ suc i = omega arith in
    rw (e, drop-cons xs i 0, drop-cons bs i full) refl

-- the output word with this number is the next one
pub words_step : (f : ℕ → ℕ) (words : List ℕ) (a e : ℕ) → a < e
    → words ++ map f (range_with_len a (e - a)) ≡ (words ++ f a ∷ []) ++ map f (range_with_len (a + 1) (e - (a + 1)))
words_step f words a e lt = rw (range_step a e lt) (sym (append_assoc words (f a ∷ []) _))

length_if : (b : Bool) (bs : List Bounds) → length (if b then [] else bs) ≡ (if b then 0 else length bs)
length_if true bs = refl
length_if false bs = refl

-- the bounds of the input words are as many as the input words of all parameters, of which there are at most six
pub inputs_sum : (params : List Param) → length params ≤ 6
    → sum_by input_words (take 6 params) ≡ length (input_bounds params)
inputs_sum params few =
    let each : (λ (p : Param). length (if is_output p.role then [] else p.bounds)) ≡ input_words =
    λ i p. length_if (is_output p.role) p.bounds i in
    rw (take_all 6 params few) (sym (length-flat_map (λ (p : Param). if is_output p.role then [] else p.bounds) params
    ∙ ap (λ f. sum_by f params) each))
