-- Lists of seeds: one is read exactly where it is written so.
use Rattle.std.proofs.Common.{◌≡◌, ℕ, ◌<◌, ◌≤◌, ◌^◌, ◌+◌, Bool, true, false, cond, List, [], ◌∷◌, ◌++◌, length, map}
use Rattle.std.proofs.Common.{Option, Some, None, refl, sym, ◌∙◌, ap, arith, append_assoc, subst, decimal, nat_lt}
use Rattle.std.proofs.Common.{length-append, inl, inr}
use Rattle.std.specs.List.{AllByRecursion, slice_split, join_with_byte, position_or_len, before_first, after_first}
use Rattle.std.proofs.lemmas.Bool.{lt-ltb, ltb-true, ltb-false, cases_Bool}
use Rattle.std.proofs.lemmas.List.{append-nil}
use Rattle.std.proofs.lemmas.List.Splits.{slice_split_first, length-slice_split, join_with_byte-slice_split}
use Rattle.base.specs.Options.{◌>>=◌, guard}
use Rattle.base.proofs.Options.{bind_then, guard_some}
use Rattle.base.proofs.Arithmetic.{test_of_itself}
use Rattle.journal_text.specs.declared.limits.TheConstants.{MAX_SEEDS}
use Rattle.journal_text.specs.Text.{seeds_text}
use Rattle.journal_text.specs.Lines.{is_byte}
use Rattle.journal_text.specs.Fields.{cut_at, number, with_seed, seeds_from, seeds_of}
use Rattle.journal_text.proofs.Cuts.{lacks, lacks_first, lacks-append}
use Rattle.journal_text.proofs.FieldsBoth.{number_is, number_back, decimal_lacks}

abbrev pub IsSmall : ℕ → Type 0
IsSmall n = n < 2 ^ 64

rest_small : (n : ℕ) (ns : List ℕ) → AllByRecursion IsSmall (n ∷ ns) → AllByRecursion IsSmall ns
rest_small n ns h = h.1

-- ---- the words of a text with commas

split_front : (byte : ℕ) (word rest : List ℕ) → lacks byte word ≡ true
    → slice_split (is_byte byte) (word ++ byte ∷ rest) ≡ word ∷ slice_split (is_byte byte) rest
split_front byte [] rest h = rw (test_of_itself byte) refl
split_front byte (b ∷ bs) rest h =
    let parts = lacks_first byte b bs h in rw (parts.0, split_front byte bs rest parts.1) refl

split_only : (byte : ℕ) (word : List ℕ) → lacks byte word ≡ true → slice_split (is_byte byte) word ≡ word ∷ []
split_only byte [] h = refl
split_only byte (b ∷ bs) h = let parts = lacks_first byte b bs h in rw (parts.0, split_only byte bs parts.1) refl

-- what is joined is split again
split_joined : (n : ℕ) (ns : List ℕ) → AllByRecursion IsSmall (n ∷ ns)
    → slice_split (is_byte 44) (seeds_text (n ∷ ns)) ≡ map decimal (n ∷ ns)
split_joined n [] h = split_only 44 (decimal n) (decimal_lacks 44 n (omega arith) h.0)
split_joined n (m ∷ ms) h =
    split_front 44 (decimal n) (seeds_text (m ∷ ms)) (decimal_lacks 44 n (omega arith) h.0)
    ∙ ap (λ ws. decimal n ∷ ws) (split_joined m ms (rest_small n (m ∷ ms) h))

-- ---- reading

pub record AreSeeds (found : List ℕ) (words : List (List ℕ)) (seeds : List ℕ) : Type 0 where
  pub more : List ℕ
  pub all : seeds ≡ found ++ more
  pub spelled : words ≡ map decimal more
  pub few : length seeds ≤ MAX_SEEDS
  pub small : AllByRecursion IsSmall more

with_is : (found word seeds : List ℕ) (P : Type 0) → with_seed found word ≡ Some seeds
    → ((n : ℕ) → seeds ≡ found ++ n ∷ [] → word ≡ decimal n → n < 2 ^ 64 → length found < MAX_SEEDS → P) → P
with_is found word seeds P e next = by_test (nat_lt (length found) MAX_SEEDS) refl e
  where
    by_test : (b : Bool) → nat_lt (length found) MAX_SEEDS ≡ b
        → cond b (number word >>= (λ n. Some (found ++ n ∷ []))) None ≡ Some seeds → P
    by_test false is f = cc
    by_test true is f = bind_then (number word) (λ n. Some (found ++ n ∷ [])) seeds P (λ n read same.
        let h = number_is word n read in
        let whole : found ++ n ∷ [] ≡ seeds = cc in
        next n (sym whole) h.0 h.1 (ltb-true (length found) MAX_SEEDS is)) f

from_is : (found : List ℕ) (words : List (List ℕ)) (seeds : List ℕ) → length found ≤ MAX_SEEDS
    → seeds_from found words ≡ Some seeds → AreSeeds found words seeds
from_is found [] seeds few e =
    let same : found ≡ seeds = cc in
    record {
      more = [];
      all = sym same ∙ sym (append-nil found);
      spelled = refl;
      few = (let P : List ℕ → Type 0 = λ xs. length xs ≤ MAX_SEEDS in subst P same few);
      small = tt;
    }
from_is found (word ∷ words) seeds few e =
    bind_then (with_seed found word) (λ ns. seeds_from ns words) seeds (AreSeeds found (word ∷ words) seeds)
    (λ ns one more. with_is found word ns (AreSeeds found (word ∷ words) seeds) one (λ n is spelled small room.
    let long : length ns ≤ MAX_SEEDS = rw (is, length-append found (n ∷ [])) (omega arith) in
    let h = from_is ns words seeds long more in
    record {
      more = n ∷ h.more;
      all = h.all ∙ (ap (λ xs. xs ++ h.more) is ∙ append_assoc found (n ∷ []) h.more);
      spelled = ap (λ w. w ∷ words) spelled ∙ ap (λ ws. decimal n ∷ ws) h.spelled;
      few = h.few;
      small = (small, h.small);
    })) e

some_more : (words : List (List ℕ)) (ns : List ℕ) → words ≡ map decimal ns → 1 ≤ length words → 1 ≤ length ns
some_more words [] e h = (let P : List (List ℕ) → Type 0 = λ ws. 1 ≤ length ws in subst P e h)
some_more words (n ∷ ns) e h = omega arith

pub seeds_is : (word seeds : List ℕ) → seeds_of word ≡ Some seeds
    → (word ≡ seeds_text seeds) × (1 ≤ length seeds) × (length seeds ≤ MAX_SEEDS) × AllByRecursion IsSmall seeds
unfolding seeds_of
seeds_is word seeds e =
    let h = from_is [] (slice_split (is_byte 44) word) seeds (omega arith) e in
    let parts : slice_split (is_byte 44) word ≡ map decimal seeds =
    h.spelled ∙ ap (λ ns. map decimal ns) (sym h.all) in
    let P : List ℕ → Type 0 = λ ns. AllByRecursion IsSmall ns in
    let some : 1 ≤ length (slice_split (is_byte 44) word) =
    (let l = length-slice_split (is_byte 44) word in omega arith) in (
      sym (join_with_byte-slice_split 44 word) ∙ ap (join_with_byte 44) parts,
      some_more (slice_split (is_byte 44) word) seeds parts some,
      h.few,
      subst P (sym h.all) h.small,
    )

from_back : (found ns : List ℕ) → length found + length ns ≤ MAX_SEEDS → AllByRecursion IsSmall ns
    → seeds_from found (map decimal ns) ≡ Some (found ++ ns)
from_back found [] room h = rw (append-nil found) refl
from_back found (n ∷ ns) room h =
    let longer : length (found ++ n ∷ []) + length ns ≤ MAX_SEEDS = rw (length-append found (n ∷ [])) (omega arith) in
    rw (lt-ltb (length found) MAX_SEEDS (omega arith), number_back n h.0)
    (from_back (found ++ n ∷ []) ns longer h.1 ∙ ap (λ xs. Some xs) (append_assoc found (n ∷ []) ns))

pub seeds_back : (seeds : List ℕ) → 1 ≤ length seeds → length seeds ≤ MAX_SEEDS → AllByRecursion IsSmall seeds
    → seeds_of (seeds_text seeds) ≡ Some seeds
unfolding seeds_of
seeds_back [] some few h = absurd (omega arith)
seeds_back (n ∷ ns) some few h = rw (split_joined n ns h) (from_back [] (n ∷ ns) (omega arith) h)

pub seeds_lack : (seeds : List ℕ) → AllByRecursion IsSmall seeds → lacks 10 (seeds_text seeds) ≡ true
seeds_lack [] h = refl
seeds_lack (n ∷ []) h = decimal_lacks 10 n (omega arith) h.0
seeds_lack (n ∷ m ∷ ms) h =
    lacks-append 10 (decimal n) (44 ∷ seeds_text (m ∷ ms)) (decimal_lacks 10 n (omega arith) h.0)
    (seeds_lack (m ∷ ms) (rest_small n (m ∷ ms) h))

-- ---- the loop over the words

-- a comma ends the first word
pub split_cut : (text : List ℕ) (c : List ℕ × List ℕ) → Some c ≡ cut_at 44 text
    → slice_split (is_byte 44) text ≡ c.0 ∷ slice_split (is_byte 44) c.1
unfolding cut_at
split_cut text c e =
    let h = guard_some (nat_lt (position_or_len (is_byte 44) text) (length text))
    (before_first (is_byte 44) text, after_first (is_byte 44) text) c (sym e) in
    slice_split_first (is_byte 44) text 0 (ltb-true (position_or_len (is_byte 44) text) (length text) h.0)
    ∙ ap (λ (p : List ℕ × List ℕ). p.0 ∷ slice_split (is_byte 44) p.1) h.1

only_word : (byte : ℕ) (text : List ℕ) → length text ≤ position_or_len (is_byte byte) text
    → slice_split (is_byte byte) text ≡ text ∷ []
only_word byte [] h = refl
only_word byte (b ∷ bs) h = elim (cases_Bool (is_byte byte b)) [
  | inl y ↦ absurd (let g = rw y at h in omega arith)
  | inr n ↦ let g : length bs ≤ position_or_len (is_byte byte) bs = (let g = rw n at h in omega arith) in
      rw (n, only_word byte bs g) refl
]

-- no comma is left
pub split_rest : (text : List ℕ) → None ≡ cut_at 44 text → slice_split (is_byte 44) text ≡ text ∷ []
unfolding cut_at
split_rest text e = only_word 44 text (by_test (nat_lt (position_or_len (is_byte 44) text) (length text)) refl e)
  where
    by_test : (b : Bool) → nat_lt (position_or_len (is_byte 44) text) (length text) ≡ b
        → ◌≡◌ {A = Option (List ℕ × List ℕ)} None
        (guard b (before_first (is_byte 44) text, after_first (is_byte 44) text))
        → length text ≤ position_or_len (is_byte 44) text
    by_test true is f = cc
    by_test false is f = ltb-false (position_or_len (is_byte 44) text) (length text) is

-- the first word is a seed, and more follow
pub seeds_next : (rest found next first more : List ℕ) → Some (first, more) ≡ cut_at 44 rest
    → with_seed found first ≡ Some next
    → seeds_from found (slice_split (is_byte 44) rest) ≡ seeds_from next (slice_split (is_byte 44) more)
seeds_next rest found next first more cut goes = rw (split_cut rest (first, more) cut, goes) refl

-- the first word is none
pub seeds_stop : (rest found first more : List ℕ) → Some (first, more) ≡ cut_at 44 rest
    → with_seed found first ≡ None → seeds_from found (slice_split (is_byte 44) rest) ≡ None
seeds_stop rest found first more cut none = rw (split_cut rest (first, more) cut, none) refl

-- the last word is a seed
pub seeds_last : (rest found next : List ℕ) → None ≡ cut_at 44 rest → with_seed found rest ≡ Some next
    → seeds_from found (slice_split (is_byte 44) rest) ≡ Some next
seeds_last rest found next cut goes = rw (split_rest rest cut, goes) refl

-- the last word is none
pub seeds_short : (rest found : List ℕ) → None ≡ cut_at 44 rest → with_seed found rest ≡ None
    → seeds_from found (slice_split (is_byte 44) rest) ≡ None
seeds_short rest found cut none = rw (split_rest rest cut, none) refl

pub ruleset seeds_steps = (seeds_next, seeds_stop, seeds_last, seeds_short)
