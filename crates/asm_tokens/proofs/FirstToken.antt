-- The first token of a text.
use Rattle.std.proofs.Common.{◌≡◌, ℕ, ◌+◌, ◌<◌, Bool, true, false, List, [], ◌∷◌, length, take, drop, refl, ap, ◌∙◌}
use Rattle.std.proofs.Common.{inl, inr, arith, suc, nat_lt}
use Rattle.std.specs.List.{prefix_len}
use Rattle.std.proofs.lemmas.List.{nil_from_length}
use Rattle.std.proofs.lemmas.Bool.{cases_Bool, lt-ltb}
use Rattle.std.proofs.lemmas.Bool.Decides.{nat_tests}
use Rattle.asm_tokens.specs.Tokens.{Token, token, is_blank, is_word_byte, goes_on, after_blank, tokens, token_len}

pub one_more : (k : ℕ) → 1 + k ≡ suc k
one_more k = omega arith

positive : (k : ℕ) → nat_lt 0 (1 + k) ≡ true
positive k = lt-ltb 0 (1 + k) (omega arith)

-- no byte of a word is a blank
pub word_no_blank : (b : ℕ) → is_word_byte b ≡ true → is_blank b ≡ false
word_no_blank b h = grind (arith, nat_tests)

-- a text that begins with no byte of a word does not go on with one
not_goes_on_blank : (ts : List Token) → goes_on (after_blank ts) ≡ false
not_goes_on_blank [] = refl
not_goes_on_blank (t ∷ ts) = refl

pub not_goes_on : (c : ℕ) (cs : List ℕ) → is_word_byte c ≡ false → goes_on (tokens (c ∷ cs)) ≡ false
unfolding tokens
not_goes_on c cs h = elim (cases_Bool (is_blank c)) [
  | inl y ↦ rw y (not_goes_on_blank (tokens cs))
  | inr n ↦
      rw (n, h) (rw h refl)
]

-- a word goes as far as bytes of words do
pub word_first : (b : ℕ) (bs : List ℕ) → is_word_byte b ≡ true
    → tokens (b ∷ bs) ≡ token false (b ∷ take (prefix_len is_word_byte bs) bs)
    ∷ tokens (drop (prefix_len is_word_byte bs) bs)
unfolding tokens
word_first b [] h = rw (word_no_blank b h, h) refl
word_first b (c ∷ cs) h = elim (cases_Bool (is_word_byte c)) [
  | inl y ↦ let e = word_first c cs y in rw (word_no_blank b h, h, e, y, one_more) refl
  | inr n ↦ rw (word_no_blank b h, h, not_goes_on c cs n, n) (rw n refl)
]

-- what stands behind blanks begins with none
behind_blanks : (xs : List ℕ) → prefix_len is_blank (drop (prefix_len is_blank xs) xs) ≡ 0
behind_blanks [] = refl
behind_blanks (b ∷ bs) = elim (cases_Bool (is_blank b)) [
  | inl y ↦ rw (y, one_more) (behind_blanks bs)
  | inr n ↦
      rw (n) (rw n refl)
]

-- blanks mark the token behind them
pub marked : Bool → List Token → List Token
marked true ts = after_blank ts
marked false ts = ts

once : (us : List Token) → after_blank (after_blank us) ≡ after_blank us
once [] = refl
once (t ∷ us) = refl

marked_twice : (b : Bool) (ts : List Token) → after_blank (marked b ts) ≡ after_blank ts
unfolding marked
marked_twice true ts = once ts
marked_twice false ts = refl

tokens_marked : (xs : List ℕ) → tokens xs ≡ marked (nat_lt 0 (prefix_len is_blank xs))
    (tokens (drop (prefix_len is_blank xs) xs))
unfolding tokens marked
tokens_marked [] = refl
tokens_marked (b ∷ bs) = elim (cases_Bool (is_blank b)) [
  | inl y ↦ rw (y, positive (prefix_len is_blank bs), one_more)
      (ap after_blank (tokens_marked bs) ∙ marked_twice (nat_lt 0 (prefix_len is_blank bs))
      (tokens (drop (prefix_len is_blank bs) bs)))
  | inr n ↦ rw n (rw n refl)
]

some_blank : (b : ℕ) (bs : List ℕ) → is_blank b ≡ true → prefix_len is_blank (b ∷ bs) ≡ 0 → ⊥
some_blank b bs e z = let h = rw e at z in omega arith

-- the first token of a text that begins with no blank
one_first : (rest : List ℕ) → prefix_len is_blank rest ≡ 0 → 0 < length rest
    → tokens rest ≡ token false (take (token_len rest) rest) ∷ tokens (drop (token_len rest) rest)
unfolding tokens
one_first [] none more = absurd (omega arith)
one_first (b ∷ bs) none more = elim (cases_Bool (is_word_byte b)) [
  | inl y ↦ word_first b bs y ∙ rw (y, one_more) refl
  | inr n ↦ elim (cases_Bool (is_blank b)) [
    | inl blank ↦ absurd (some_blank b bs blank none)
    | inr full ↦
        rw (full, n) refl
  ]
]

marked_none : (b : Bool) → marked b [] ≡ []
unfolding marked
marked_none true = refl
marked_none false = refl

marked_one : (b : Bool) (text : List ℕ) (ts : List Token) → marked b (token false text ∷ ts) ≡ token b text ∷ ts
unfolding marked
marked_one true text ts = refl
marked_one false text ts = refl

tokens_nil : tokens [] ≡ []
unfolding tokens
tokens_nil = refl

-- no token where there are only blanks
pub no_token : (text : List ℕ) → length (drop (prefix_len is_blank text) text) ≡ 0 → tokens text ≡ []
no_token text none = tokens_marked text ∙
    (rw (nil_from_length (drop (prefix_len is_blank text) text) none, tokens_nil)
    (marked_none (nat_lt 0 (prefix_len is_blank text))))

-- the first token behind the blanks
pub first_token : (text rest : List ℕ) → rest ≡ drop (prefix_len is_blank text) text → 0 < length rest
    → tokens text ≡ token (nat_lt 0 (prefix_len is_blank text)) (take (token_len rest) rest)
    ∷ tokens (drop (token_len rest) rest)
first_token text rest same more = tokens_marked text
    ∙ (rw (← same) (rw (one_first rest (rw same (behind_blanks text)) more)
    (marked_one (nat_lt 0 (prefix_len is_blank text)) _ _)))
