-- What is known of a number that is written in decimal.
use Rattle.std.proofs.Common.{◌≡◌, ℕ, ◌<◌, ◌≤◌, ◌^◌, true, false, ◌==◌, List, [], ◌∷◌, length, Some, refl, arith}
use Rattle.std.proofs.Common.{decimal}
use Rattle.std.specs.List.{list_all}
use Rattle.std.specs.Char.{digit_value}
use Rattle.std.specs.Str.Parse.{AllDigits, digits_value}
use Rattle.std.proofs.lemmas.Bool.{lt-ltb, and_right, ne_eqb, and_from}
use Rattle.std.proofs.lemmas.Bool.Decides.{nat_tests}
use Rattle.std.proofs.lemmas.Fmt.{decimal_is_IsNumeral}
use Rattle.std.proofs.lemmas.Str.Parse.{digit_from_value}
use Rattle.asm_tokens.specs.Tokens.{is_word_byte}
use Rattle.base.specs.Numbers.{all_digits, numeral, word as word_in, is_hex}
use Rattle.asm_tokens.proofs.Spell.{is_word}

-- the text begins with a digit, is a word, and is read as the number
pub record Written (n : ℕ) (text : List ℕ) : Type 0 where
  pub first : ℕ
  pub rest : List ℕ
  pub is : text ≡ first ∷ rest
  pub low : 48 ≤ first
  pub high : first ≤ 57
  pub word : is_word text ≡ true
  pub ten : numeral 10 text ≡ Some n
  pub value : word_in text ≡ Some n

digit_word : (c : ℕ) → digit_value c < 10 → is_word_byte c ≡ true
digit_word c h = let r = digit_from_value c h in let low : 48 ≤ c = r.0 in let high : c ≤ 57 = r.1 in
    grind (arith, nat_tests)

all_tests : (ds : List ℕ) → AllDigits 10 ds → all_digits 10 ds ≡ true
all_tests [] h = refl
all_tests (c ∷ cs) h = rw (lt-ltb (digit_value c) 10 h.0) (all_tests cs h.1)

all_word : (ds : List ℕ) → AllDigits 10 ds → list_all is_word_byte ds ≡ true
all_word [] h = refl
all_word (c ∷ cs) h = rw (digit_word c h.0) (all_word cs h.1)

no_x : (c : ℕ) → digit_value c < 10 → (c == 120) ≡ false
no_x c h = ne_eqb c 120 (λ e. let r = digit_from_value c h in let high : c ≤ 57 = r.1 in omega arith)

not_hex : (ds : List ℕ) → AllDigits 10 ds → is_hex ds ≡ false
not_hex [] h = refl
not_hex (c ∷ []) h = and_right (c == 48) false refl
not_hex (c ∷ d ∷ ds) h = and_right (c == 48) (d == 120) (no_x d h.1.0)

tens : (c : ℕ) (cs : List ℕ) (n : ℕ) → n < 2 ^ 64 → AllDigits 10 (c ∷ cs) → digits_value 10 (c ∷ cs) ≡ n
    → numeral 10 (c ∷ cs) ≡ Some n
tens c cs n fits all same = rw (all_tests (c ∷ cs) all, same, lt-ltb n (2 ^ 64) fits) refl

from_digits : (text : List ℕ) (n : ℕ) → n < 2 ^ 64 → 0 < length text → AllDigits 10 text → digits_value 10 text ≡ n
    → Written n text
unfolding word_in
from_digits [] n fits some all same = absurd (omega arith)
from_digits (c ∷ cs) n fits some all same =
    let r = digit_from_value c all.0 in
    record {
      first = c;
      rest = cs;
      is = refl;
      low = r.0;
      high = r.1;
      word = and_from (is_word_byte c) (list_all is_word_byte cs) (digit_word c all.0) (all_word cs all.1);
      ten = tens c cs n fits all same;
      value = rw (not_hex (c ∷ cs) all) (tens c cs n fits all same);
    }

pub written : (n : ℕ) → n < 2 ^ 64 → Written n (decimal n)
written n fits = let h = decimal_is_IsNumeral n fits in from_digits (decimal n) n fits h.0.0 h.0.1 h.1
