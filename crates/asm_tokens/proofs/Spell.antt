-- Tokens written as text and read back.
use Rattle.std.proofs.Common.{◌≡◌, ℕ, Bool, true, false, not, ◌&&◌, ◌==◌, ◌⊎◌, cond, List, [], ◌∷◌, ◌++◌, refl, ◌∙◌, ap}
use Rattle.std.proofs.Common.{inl, inr, arith}
use Rattle.std.specs.List.{list_all}
use Rattle.std.proofs.lemmas.Bool.{and_parts, and_from, not-true}
use Rattle.std.proofs.lemmas.Bool.Decides.{nat_tests}
use Rattle.asm_tokens.specs.Tokens.{Token, token, is_blank, is_word_byte, goes_on, tokens}
use Rattle.asm_tokens.specs.Lines.{is_feed, is_hash}
use Rattle.asm_tokens.proofs.FirstToken.{word_no_blank}

-- the bytes of tokens, a space before each that is spaced, and then a tail
abbrev pub spell : List Token → List ℕ → List ℕ
spell [] tail = tail
spell (t ∷ ts) tail = cond t.spaced (32 ∷ (t.text ++ spell ts tail)) (t.text ++ spell ts tail)

-- one or more bytes of a word
abbrev pub is_word : List ℕ → Bool
is_word [] = false
is_word (b ∷ bs) = is_word_byte b && list_all is_word_byte bs

-- a byte that stays in its line, and one that begins no comment either
abbrev pub is_inline : ℕ → Bool
is_inline b = not (is_feed b) && not (b == 13)

abbrev pub is_plain : ℕ → Bool
is_plain b = is_inline b && not (is_hash b)

-- one other byte, which is plain
abbrev pub is_mark : List ℕ → Bool
is_mark [] = false
is_mark (b ∷ []) = (not (is_word_byte b) && not (is_blank b)) && is_plain b
is_mark (b ∷ c ∷ bs) = false

-- each token is a mark, or a word that does not go on
abbrev pub Fine : List Token → Type 0
Fine [] = Unit {0}
Fine (t ∷ ts) = ((is_mark t.text ≡ true) ⊎ ((is_word t.text ≡ true) × (goes_on ts ≡ false))) × Fine ts

word_then : (b : ℕ) (bs rest : List ℕ) → is_word_byte b ≡ true → list_all is_word_byte bs ≡ true
    → goes_on (tokens rest) ≡ false → tokens (b ∷ (bs ++ rest)) ≡ token false (b ∷ bs) ∷ tokens rest
unfolding tokens
word_then b [] rest w ws ends = rw (word_no_blank b w, w, ends) refl
word_then b (c ∷ cs) rest w ws ends =
    let parts = and_parts (is_word_byte c) (list_all is_word_byte cs) ws in
    let e = word_then c cs rest parts.0 parts.1 ends in
    rw (word_no_blank b w, w, e, parts.0) refl

mark_then : (text rest : List ℕ) → is_mark text ≡ true → tokens (text ++ rest) ≡ token false text ∷ tokens rest
unfolding tokens
mark_then [] rest m = cc
mark_then (b ∷ []) rest m =
    let parts = and_parts (not (is_word_byte b)) (not (is_blank b))
    (and_parts (not (is_word_byte b) && not (is_blank b)) (is_plain b) m).0 in
    rw (not-true (is_blank b) parts.1, not-true (is_word_byte b) parts.0) refl
mark_then (b ∷ c ∷ bs) rest m = cc

one_then : (text rest : List ℕ) → (is_mark text ≡ true) ⊎ ((is_word text ≡ true) × (goes_on (tokens rest) ≡ false))
    → tokens (text ++ rest) ≡ token false text ∷ tokens rest
one_then text rest (inl m) = mark_then text rest m
one_then [] rest (inr w) = let h : false ≡ true = w.0 in cc
one_then (b ∷ bs) rest (inr w) =
    let parts = and_parts (is_word_byte b) (list_all is_word_byte bs) w.0 in word_then b bs rest parts.0 parts.1 w.1

spaced_then : (b : Bool) (text rest : List ℕ) (ts : List Token) → tokens (text ++ rest) ≡ token false text ∷ ts
    → tokens (cond b (32 ∷ (text ++ rest)) (text ++ rest)) ≡ token b text ∷ ts
unfolding tokens
spaced_then true text rest ts e = rw e refl
spaced_then false text rest ts e = e

-- what is spelled is read
pub tokens_spell : (ts : List Token) (tail : List ℕ) → Fine ts → tokens tail ≡ [] → tokens (spell ts tail) ≡ ts
tokens_spell [] tail fine none = none
tokens_spell (t ∷ ts) tail fine none =
    let more = tokens_spell ts tail fine.1 none in
    let kind : (is_mark t.text ≡ true) ⊎ ((is_word t.text ≡ true) × (goes_on (tokens (spell ts tail)) ≡ false)) =
    rw more fine.0 in
    spaced_then t.spaced t.text (spell ts tail) ts
    (one_then t.text (spell ts tail) kind ∙ ap (λ us. token false t.text ∷ us) more)

word_plain : (b : ℕ) → is_word_byte b ≡ true → is_plain b ≡ true
word_plain b h = grind (arith, nat_tests)

words_plain : (bs : List ℕ) → list_all is_word_byte bs ≡ true → list_all is_plain bs ≡ true
words_plain [] h = refl
words_plain (b ∷ bs) h = let parts = and_parts (is_word_byte b) (list_all is_word_byte bs) h in
    rw (word_plain b parts.0) (words_plain bs parts.1)

pub all_join : (p : ℕ → Bool) (xs ys : List ℕ) → list_all p xs ≡ true → list_all p ys ≡ true
    → list_all p (xs ++ ys) ≡ true
all_join p [] ys h g = g
all_join p (x ∷ xs) ys h g = let parts = and_parts (p x) (list_all p xs) h in
    and_from (p x) (list_all p (xs ++ ys)) parts.0 (all_join p xs ys parts.1 g)

text_plain : (text : List ℕ) (ts : List Token) → (is_mark text ≡ true) ⊎ ((is_word text ≡ true) × (goes_on ts ≡ false))
    → list_all is_plain text ≡ true
text_plain [] ts (inl m) = cc
text_plain (b ∷ []) ts (inl m) = and_from (is_plain b) true
    (and_parts (not (is_word_byte b) && not (is_blank b)) (is_plain b) m).1 refl
text_plain (b ∷ c ∷ bs) ts (inl m) = cc
text_plain [] ts (inr w) = refl
text_plain (b ∷ bs) ts (inr w) = words_plain (b ∷ bs) w.0

with_space : (b : Bool) (xs : List ℕ) → list_all is_plain xs ≡ true → list_all is_plain (cond b (32 ∷ xs) xs) ≡ true
with_space true xs h = h
with_space false xs h = h

-- tokens are written without comments and line ends
pub plain_spell : (ts : List Token) (tail : List ℕ) → Fine ts → list_all is_plain tail ≡ true
    → list_all is_plain (spell ts tail) ≡ true
plain_spell [] tail fine h = h
plain_spell (t ∷ ts) tail fine h = with_space t.spaced (t.text ++ spell ts tail)
    (all_join is_plain t.text (spell ts tail) (text_plain t.text ts fine.0) (plain_spell ts tail fine.1 h))

pub plain_inline : (xs : List ℕ) → list_all is_plain xs ≡ true → list_all is_inline xs ≡ true
plain_inline [] h = refl
plain_inline (x ∷ xs) h =
    let parts = and_parts (is_plain x) (list_all is_plain xs) h in
    and_from (is_inline x) (list_all is_inline xs) (and_parts (is_inline x) (not (is_hash x)) parts.0).0
    (plain_inline xs parts.1)
