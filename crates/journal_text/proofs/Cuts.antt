-- Texts cut at a byte, and texts with a known front.
use Rattle.std.proofs.Common.{◌≡◌, ℕ, ◌+◌, ◌<◌, Bool, true, false, not, List, [], ◌∷◌, ◌++◌, length, take, drop}
use Rattle.std.proofs.Common.{Some, refl, sym, ◌∙◌, ap, arith, take_all, drop-drop, length-append, get_or}
use Rattle.std.proofs.Common.{nat_lt}
use Rattle.std.specs.List.{list_all, position_or_len, before_first, after_first}
use Rattle.std.specs.Str.{bytes_eq}
use Rattle.std.proofs.lemmas.Bool.{and_parts, and_from, not-true, lt-ltb, ltb-true, eqb-true}
use Rattle.std.proofs.lemmas.List.{take-append-drop, take-append-le, drop-append-le, drop_all}
use Rattle.std.proofs.lemmas.List.Sums.{split_at_first, passes_at_first}
use Rattle.std.proofs.lemmas.Slice.Eq.{bytes_eq-Decides}
use Rattle.base.specs.Options.{guard}
use Rattle.base.proofs.Options.{bind_then, guard_some}
use Rattle.base.proofs.Arithmetic.{test_of_itself}
use Rattle.journal_text.specs.Lines.{is_byte}
use Rattle.journal_text.specs.Fields.{after, cut_at, is_empty, last_word}

-- ---- bytes that a text lacks

abbrev pub lacks : ℕ → List ℕ → Bool
lacks byte text = list_all (λ b. not (is_byte byte b)) text

pub lacks_first : (byte b : ℕ) (bs : List ℕ) → lacks byte (b ∷ bs) ≡ true
    → (is_byte byte b ≡ false) × (lacks byte bs ≡ true)
lacks_first byte b bs h =
    let parts = and_parts (not (is_byte byte b)) (lacks byte bs) h in
    (not-true (is_byte byte b) parts.0, parts.1)

pub lacks-append : (byte : ℕ) (xs ys : List ℕ) → lacks byte xs ≡ true → lacks byte ys ≡ true
    → lacks byte (xs ++ ys) ≡ true
lacks-append byte [] ys h k = k
lacks-append byte (x ∷ xs) ys h k =
    let parts = and_parts (not (is_byte byte x)) (lacks byte xs) h in
    and_from (not (is_byte byte x)) (lacks byte (xs ++ ys)) parts.0 (lacks-append byte xs ys parts.1 k)

-- ---- fronts

pub take_front : (xs ys : List ℕ) → take (length xs) (xs ++ ys) ≡ xs
take_front xs ys = take-append-le (length xs) xs ys (omega arith) ∙ take_all (length xs) xs (omega arith)

pub drop_front : (xs ys : List ℕ) → drop (length xs) (xs ++ ys) ≡ ys
drop_front xs ys = drop-append-le (length xs) xs ys (omega arith) ∙ rw (drop_all (length xs) xs (omega arith)) refl

pub equal_itself : (xs : List ℕ) → bytes_eq xs xs ≡ true
equal_itself xs = (bytes_eq-Decides xs xs).1 refl

pub equal_by_bytes : (xs ys : List ℕ) → bytes_eq xs ys ≡ true → xs ≡ ys
equal_by_bytes xs ys h = (bytes_eq-Decides xs ys).0 h

pub after_is : (front text rest : List ℕ) → after front text ≡ Some rest → text ≡ front ++ rest
unfolding after
after_is front text rest e =
    let h = guard_some (bytes_eq (take (length front) text) front) (drop (length front) text) rest e in
    let same = equal_by_bytes (take (length front) text) front h.0 in
    sym (take-append-drop (length front) text) ∙ (ap (λ xs. xs ++ drop (length front) text) same
    ∙ ap (λ xs. front ++ xs) h.1)

pub after_back : (front rest : List ℕ) → after front (front ++ rest) ≡ Some rest
unfolding after
after_back front rest = rw (take_front front rest, drop_front front rest, equal_itself front) refl

-- ---- cuts

pub front_len : (byte : ℕ) (word rest : List ℕ) → lacks byte word ≡ true
    → position_or_len (is_byte byte) (word ++ byte ∷ rest) ≡ length word
front_len byte [] rest h = rw (test_of_itself byte) refl
front_len byte (b ∷ bs) rest h =
    let parts = lacks_first byte b bs h in
    let more = front_len byte bs rest parts.1 in rw parts.0 (omega arith)

pub drop_past : (word : List ℕ) (b : ℕ) (rest : List ℕ) → drop (length word + 1) (word ++ b ∷ rest) ≡ rest
drop_past word b rest = sym (drop-drop 1 (length word) (word ++ b ∷ rest)) ∙ rw (drop_front word (b ∷ rest)) refl

pub cut_back : (byte : ℕ) (word rest : List ℕ) → lacks byte word ≡ true
    → cut_at byte (word ++ byte ∷ rest) ≡ Some (word, rest)
unfolding cut_at
cut_back byte word rest h =
    let inside : length word < length (word ++ byte ∷ rest) = rw (length-append word (byte ∷ rest)) (omega arith) in
    rw (
      front_len byte word rest h,
      lt-ltb (length word) (length (word ++ byte ∷ rest)) inside,
      take_front word (byte ∷ rest),
      drop_past word byte rest,
    ) refl

pub cut_is : (byte : ℕ) (text : List ℕ) (c : List ℕ × List ℕ) → cut_at byte text ≡ Some c
    → text ≡ c.0 ++ byte ∷ c.1
unfolding cut_at
cut_is byte text c e =
    let h = guard_some (nat_lt (position_or_len (is_byte byte) text) (length text))
    (before_first (is_byte byte) text, after_first (is_byte byte) text) c e in
    let inside = ltb-true (position_or_len (is_byte byte) text) (length text) h.0 in
    let there : get_or text (position_or_len (is_byte byte) text) 0 ≡ byte =
    eqb-true (get_or text (position_or_len (is_byte byte) text) 0) byte
    (passes_at_first (is_byte byte) text 0 inside) in
    split_at_first (is_byte byte) text 0 inside
    ∙ (ap (λ b. before_first (is_byte byte) text ++ b ∷ after_first (is_byte byte) text) there
    ∙ ap (λ (p : List ℕ × List ℕ). p.0 ++ byte ∷ p.1) h.1)

-- ---- the last word

empty_is : (xs : List ℕ) → is_empty xs ≡ true → xs ≡ []
empty_is [] h = refl
empty_is (x ∷ xs) h = cc

pub last_is : (text word : List ℕ) → last_word text ≡ Some word → text ≡ word ++ 10 ∷ []
unfolding last_word
last_is text word e = bind_then (cut_at 10 text) (λ cut. guard (is_empty cut.1) cut.0) word (text ≡ word ++ 10 ∷ [])
    (λ cut is ends.
    let h = guard_some (is_empty cut.1) cut.0 word ends in
    cut_is 10 text cut is ∙ (ap (λ xs. cut.0 ++ 10 ∷ xs) (empty_is cut.1 h.0) ∙ ap (λ xs. xs ++ 10 ∷ []) h.1)) e

pub last_back : (word : List ℕ) → lacks 10 word ≡ true → last_word (word ++ 10 ∷ []) ≡ Some word
unfolding last_word
last_back word h = rw (cut_back 10 word [] h) refl
