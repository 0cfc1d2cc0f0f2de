-- Numbers and digests: a field is read exactly where it is written so.
use Rattle.std.proofs.Common.{◌≡◌, ℕ, ◌<◌, ◌≤◌, ◌^◌, Bool, true, false, ◌&&◌, cond, List, [], ◌∷◌, ◌++◌}
use Rattle.std.proofs.Common.{length, Option, Some, None, Result, Ok, Err, refl, sym, ◌∙◌, ap, arith}
use Rattle.std.proofs.Common.{append_assoc, subst}
use Rattle.std.proofs.Common.{decimal, nat_lt}
use Rattle.std.specs.Prelude.{nat_le}
use Rattle.std.specs.Str.{bytes_eq}
use Rattle.std.specs.Str.Parse.{AllDigits, digits_value}
use Rattle.std.proofs.lemmas.Bool.{and_parts, ne_eqb, le-leb, leb-true, ltb-true}
use Rattle.std.proofs.lemmas.Fmt.{decimal_is_IsNumeral}
use Rattle.std.proofs.lemmas.Str.Parse.{digit_from_value}
use Rattle.std.proofs.lemmas.List.Elements.{recursion_from_All}
use Rattle.std.specs.List.{AllByRecursion}
use Rattle.hex.specs.Hex.{decode_sized, encode_lower, is_hex_digit, IsBytes}
use Rattle.hex.specs.declared.error.FromHexError.{FromHexError}
use Rattle.hex.proofs.HexLemmas.{decode_sized-ok, decode_sized-twice, decode_of-ok, decode_of-encode_lower}
use Rattle.hex.proofs.HexLemmas.{decode_sized-encode_lower}
use Rattle.base.specs.Options.{◌>>=◌, guard}
use Rattle.base.proofs.Options.{bind_then, guard_some}
use Rattle.base.specs.Numbers.{numeral, all_digits}
use Rattle.asm_tokens.proofs.Decimals.{written}
use Rattle.journal_text.specs.Text.{closed, ended}
use Rattle.journal_text.specs.Lines.{is_byte}
use Rattle.journal_text.specs.Fields.{cut_at, number, number_at, number_to, last_word, last_number, spelled_by}
use Rattle.journal_text.specs.Fields.{digest_of}
use Rattle.journal_text.proofs.Cuts.{lacks, cut_is, cut_back, last_is, last_back, equal_itself, equal_by_bytes}

-- ---- numbers

cond_then : (b : Bool) (x y : ℕ) → cond b (Some x) None ≡ Some y → (b ≡ true) × (x ≡ y)
cond_then true x y e = let same : x ≡ y = cc in (refl, same)
cond_then false x y e = cc

numeral_small : (text : List ℕ) (n : ℕ) → numeral 10 text ≡ Some n → n < 2 ^ 64
numeral_small [] n e = cc
numeral_small (c ∷ cs) n e =
    let h = cond_then (all_digits 10 (c ∷ cs) && nat_lt (digits_value 10 (c ∷ cs)) (2 ^ 64))
    (digits_value 10 (c ∷ cs)) n e in
    let parts = and_parts (all_digits 10 (c ∷ cs)) (nat_lt (digits_value 10 (c ∷ cs)) (2 ^ 64)) h.0 in
    let P : ℕ → Type 0 = λ m. m < 2 ^ 64 in
    subst P h.1 (ltb-true (digits_value 10 (c ∷ cs)) (2 ^ 64) parts.1)

pub number_is : (word : List ℕ) (n : ℕ) → number word ≡ Some n → (word ≡ decimal n) × (n < 2 ^ 64)
unfolding number
number_is word n e = bind_then (numeral 10 word) (λ m. guard (bytes_eq (decimal m) word) m) n
    ((word ≡ decimal n) × (n < 2 ^ 64)) (λ m is spelled.
    let h = guard_some (bytes_eq (decimal m) word) m n spelled in
    let P : ℕ → Type 0 = λ k. (word ≡ decimal k) × (k < 2 ^ 64) in
    subst P h.1 (sym (equal_by_bytes (decimal m) word h.0), numeral_small word m is)) e

pub number_back : (n : ℕ) → n < 2 ^ 64 → number (decimal n) ≡ Some n
unfolding number
number_back n small = rw ((written n small).ten, equal_itself (decimal n)) refl

digits_lack : (byte : ℕ) (ds : List ℕ) → byte < 48 → AllDigits 10 ds → lacks byte ds ≡ true
digits_lack byte [] below all = refl
digits_lack byte (d ∷ ds) below all =
    let r = digit_from_value d all.0 in
    let low : 48 ≤ d = r.0 in
    let other : is_byte byte d ≡ false = ne_eqb d byte (λ e. omega arith) in
    rw other (digits_lack byte ds below all.1)

-- a number has no byte below its digits
pub decimal_lacks : (byte n : ℕ) → byte < 48 → n < 2 ^ 64 → lacks byte (decimal n) ≡ true
decimal_lacks byte n below small = digits_lack byte (decimal n) below (decimal_is_IsNumeral n small).0.1

-- ---- numbers and what ends them

closed_assoc : (byte n : ℕ) (rest : List ℕ) → closed byte n ++ rest ≡ decimal n ++ byte ∷ rest
closed_assoc byte n rest = append_assoc (decimal n) (byte ∷ []) rest

at_is : (byte : ℕ) (text : List ℕ) (p : ℕ × List ℕ) → number_at byte text ≡ Some p
    → (text ≡ closed byte p.0 ++ p.1) × (p.0 < 2 ^ 64)
unfolding number_at
at_is byte text p e =
    let Goal : ℕ × List ℕ → Type 0 = λ q. (text ≡ closed byte q.0 ++ q.1) × (q.0 < 2 ^ 64) in
    bind_then (cut_at byte text) (λ cut. number cut.0 >>= (λ n. Some (n, cut.1))) p (Goal p) (λ cut is more.
    bind_then (number cut.0) (λ n. Some (n, cut.1)) p (Goal p) (λ n read same.
    let h = number_is cut.0 n read in
    let pair : (n, cut.1) ≡ p = ap (given (n, cut.1)) same in
    subst Goal pair (
      cut_is byte text cut is ∙ (ap (λ w. w ++ byte ∷ cut.1) h.0 ∙ sym (closed_assoc byte n cut.1)),
      h.1,
    )) more) e
  where
    given : ℕ × List ℕ → Option (ℕ × List ℕ) → ℕ × List ℕ
    given q None = q
    given q (Some r) = r

at_back : (byte n : ℕ) (rest : List ℕ) → byte < 48 → n < 2 ^ 64
    → number_at byte (closed byte n ++ rest) ≡ Some (n, rest)
unfolding number_at
at_back byte n rest below small = rw (
  closed_assoc byte n rest,
  cut_back byte (decimal n) rest (decimal_lacks byte n below small),
  number_back n small,
) refl

pub to_is : (byte max : ℕ) (text : List ℕ) (p : ℕ × List ℕ) → number_to byte max text ≡ Some p
    → (text ≡ closed byte p.0 ++ p.1) × (p.0 ≤ max)
unfolding number_to
to_is byte max text p e =
    let Goal : ℕ × List ℕ → Type 0 = λ q. (text ≡ closed byte q.0 ++ q.1) × (q.0 ≤ max) in
    bind_then (number_at byte text) (λ q. guard (nat_le q.0 max) q) p (Goal p) (λ q is few.
    let h = guard_some (nat_le q.0 max) q p few in
    subst Goal h.1 ((at_is byte text q is).0, leb-true q.0 max h.0)) e

pub to_back : (byte max n : ℕ) (rest : List ℕ) → byte < 48 → max < 2 ^ 64 → n ≤ max
    → number_to byte max (closed byte n ++ rest) ≡ Some (n, rest)
unfolding number_to
to_back byte max n rest below small within =
    rw (at_back byte n rest below (omega arith), le-leb n max within) refl

-- ---- numbers at the end of a line

pub last_number_is : (text : List ℕ) (n : ℕ) → last_number text ≡ Some n → (text ≡ ended n) × (n < 2 ^ 64)
unfolding last_number
last_number_is text n e = bind_then (last_word text) number n ((text ≡ ended n) × (n < 2 ^ 64)) (λ word is read.
    let h = number_is word n read in
    (last_is text word is ∙ ap (λ w. w ++ 10 ∷ []) h.0, h.1)) e

pub last_number_back : (n : ℕ) → n < 2 ^ 64 → last_number (ended n) ≡ Some n
unfolding last_number
last_number_back n small =
    rw (last_back (decimal n) (decimal_lacks 10 n (omega arith) small), number_back n small) refl

-- ---- digests

spelled_is : (word digest : List ℕ) (r : Result (List ℕ) FromHexError) → spelled_by word r ≡ Some digest
    → (r ≡ Ok digest) × (word ≡ encode_lower digest)
spelled_is word digest (Ok bytes) e =
    let h = guard_some (bytes_eq (encode_lower bytes) word) bytes digest e in (
      ap (λ d. Ok d) h.1,
      sym (equal_by_bytes (encode_lower bytes) word h.0) ∙ ap encode_lower h.1,
    )
spelled_is word digest (Err f) e = cc

pub digest_is : (word digest : List ℕ) → digest_of word ≡ Some digest
    → (word ≡ encode_lower digest) × (length digest ≡ 32) × IsBytes digest
unfolding digest_of
digest_is word digest e =
    let h = spelled_is word digest (decode_sized word 32) e in
    let long = decode_sized-ok word 32 digest h.0 in
    let read = decode_of-ok word digest (sym (decode_sized-twice word 32 long) ∙ h.0) in
    let half : length digest ≡ 32 = omega (arith, read.2, long) in
    (h.1, half, read.3)

pub digest_back : (digest : List ℕ) → length digest ≡ 32 → IsBytes digest
    → digest_of (encode_lower digest) ≡ Some digest
unfolding digest_of
digest_back digest long bytes =
    rw (decode_sized-encode_lower digest 32 long bytes, equal_itself (encode_lower digest)) refl

digit_no_feed : (c : ℕ) → is_hex_digit c ≡ true → is_byte 10 c ≡ false
digit_no_feed c h = ne_eqb c 10 (λ e.
    let P : ℕ → Type 0 = λ d. is_hex_digit d ≡ true in
    let there : is_hex_digit 10 ≡ true = subst P e h in
    let no : false ≡ true = there in cc)

digits_no_feed : (cs : List ℕ) → AllByRecursion (λ c. is_hex_digit c ≡ true) cs → lacks 10 cs ≡ true
digits_no_feed [] all = refl
digits_no_feed (c ∷ cs) all = rw (digit_no_feed c all.0) (digits_no_feed cs all.1)

-- the spelling of a digest stays in its line
pub digest_lacks : (digest : List ℕ) → IsBytes digest → lacks 10 (encode_lower digest) ≡ true
digest_lacks digest bytes =
    let read = decode_of-ok (encode_lower digest) digest (decode_of-encode_lower digest bytes) in
    digits_no_feed (encode_lower digest)
    (recursion_from_All (λ c. is_hex_digit c ≡ true) (encode_lower digest) read.1)
