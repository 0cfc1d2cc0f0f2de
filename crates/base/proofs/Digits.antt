-- Numerals, digit by digit.
use Rattle.std.proofs.Common.{◌≡◌, ℕ, ◌+◌, ◌*◌, ◌^◌, ◌<◌, ◌≤◌, Bool, true, false, ◌&&◌, cond, List, [], ◌∷◌, length}
use Rattle.std.proofs.Common.{drop, get_or, refl, arith, nat_lt, Option, Some, None, mul-le-mul_left, subst, drop-cons}
use Rattle.std.proofs.Common.{add-one, suc}
use Rattle.std.proofs.lemmas.List.{drop_all}
use Rattle.std.specs.Char.{digit_value}
use Rattle.std.specs.Str.Parse.{digits_value_after}
use Rattle.std.proofs.lemmas.Bool.{lt-ltb, le-ltb, and_right, and_parts}
use Rattle.std.specs.Str.Parse.{digits_value}
use Rattle.base.specs.Numbers.{all_digits, numeral, is_hex, word}
use Rattle.base.proofs.Options.{guard_some}
use Rattle.base.proofs.Arithmetic.{below_by_test}

-- the number that n and the digits behind it write
abbrev pub numeral_after : ℕ → ℕ → List ℕ → Option ℕ
numeral_after radix n cs = cond (all_digits radix cs && nat_lt (digits_value_after radix n cs) (2 ^ 64))
    (Some (digits_value_after radix n cs)) None

pub numeral_start : (radix : ℕ) (text : List ℕ) → 0 < length text → numeral radix text ≡ numeral_after radix 0 text
numeral_start radix [] more = absurd (omega arith)
numeral_start radix (c ∷ cs) more = refl

-- more digits make no smaller number
grows : (radix n : ℕ) (cs : List ℕ) → 0 < radix → n ≤ digits_value_after radix n cs
grows radix n [] some = omega arith
grows radix n (c ∷ cs) some =
    let h = grows radix (n * radix + digit_value c) cs some in
    let g : n * 1 ≤ n * radix = mul-le-mul_left n (omega arith) in omega arith

none_over : (all : Bool) (v : ℕ) → 2 ^ 64 ≤ v → cond (all && nat_lt v (2 ^ 64)) (Some v) None ≡ None
none_over all v over = rw (le-ltb v (2 ^ 64) over, and_right all false refl) refl

over_here : (radix n c : ℕ) (cs : List ℕ) → 0 < radix → 2 ^ 64 ≤ n * radix + digit_value c
    → numeral_after radix n (c ∷ cs) ≡ None
over_here radix n c cs some over =
    let h = grows radix (n * radix + digit_value c) cs some in
    none_over (all_digits radix (c ∷ cs)) (digits_value_after radix n (c ∷ cs)) (omega arith)

-- a number that grew too large stays so
pub numeral_over : (radix n i : ℕ) (text : List ℕ) → 0 < radix → i < length text
    → 2 ^ 64 ≤ n * radix + digit_value (get_or text i 0) → numeral_after radix n (drop i text) ≡ None
numeral_over radix n i text some inside over =
    rw (drop-cons text i 0) (over_here radix n (get_or text i 0) (drop (suc i) text) some over)

-- another byte ends the reading
pub numeral_stop : (radix n i : ℕ) (text : List ℕ) → i < length text → radix ≤ digit_value (get_or text i 0)
    → numeral_after radix n (drop i text) ≡ None
numeral_stop radix n i text inside other =
    rw (drop-cons text i 0, le-ltb (digit_value (get_or text i 0)) radix other) refl

pub numeral_step : (radix n i : ℕ) (text : List ℕ) → i < length text → digit_value (get_or text i 0) < radix
    → numeral_after radix n (drop i text) ≡ numeral_after radix (n * radix + digit_value (get_or text i 0))
    (drop (i + 1) text)
numeral_step radix n i text inside digit =
    rw (drop-cons text i 0, lt-ltb (digit_value (get_or text i 0)) radix digit, add-one) refl

pub numeral_end : (radix n i : ℕ) (text : List ℕ) → length text ≤ i → n < 2 ^ 64
    → numeral_after radix n (drop i text) ≡ Some n
numeral_end radix n i text past fits = rw (drop_all i text past, lt-ltb n (2 ^ 64) fits) refl

numeral_fits_by : (all : Bool) (v n : ℕ) → cond (all && nat_lt v (2 ^ 64)) (Some v) None ≡ Some n → n < 2 ^ 64
numeral_fits_by all v n e =
    let h = guard_some (all && nat_lt v (2 ^ 64)) v n e in
    let below = below_by_test v (2 ^ 64) (and_parts all (nat_lt v (2 ^ 64)) h.0).1 in
    subst (λ (k : ℕ). k < 2 ^ 64) h.1 below

numeral_fits : (radix : ℕ) (text : List ℕ) (n : ℕ) → numeral radix text ≡ Some n → n < 2 ^ 64
numeral_fits radix [] n e = absurd (cc)
numeral_fits radix (c ∷ cs) n e =
    numeral_fits_by (all_digits radix (c ∷ cs)) (digits_value radix (c ∷ cs)) n e

word_fits_by : (hex : Bool) (text : List ℕ) (n : ℕ)
    → cond hex (numeral 16 (drop 2 text)) (numeral 10 text) ≡ Some n → n < 2 ^ 64
word_fits_by true text n e = numeral_fits 16 (drop 2 text) n e
word_fits_by false text n e = numeral_fits 10 text n e

-- what a text writes as a word is one
pub word_fits : (text : List ℕ) (n : ℕ) → word text ≡ Some n → n < 2 ^ 64
unfolding word
word_fits text n e = word_fits_by (is_hex text) text n e

-- reading digit by digit
pub ruleset numeral_steps = (numeral_start, numeral_over, numeral_stop, numeral_step, numeral_end)
