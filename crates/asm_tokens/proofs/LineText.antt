-- Lines and comments, written as text and read back.
use Rattle.std.proofs.Common.{◌≡◌, ℕ, ◌+◌, ◌-◌, ◌<◌, true, false, not, ◌==◌, List, [], ◌∷◌, ◌++◌, length, refl, ◌∙◌, ap}
use Rattle.std.proofs.Common.{arith, suc, get_or}
use Rattle.std.specs.List.{list_all, slice_split}
use Rattle.std.specs.Str.Lines.{lines, lines_of_parts, strip_carriage_return}
use Rattle.std.proofs.lemmas.Bool.{and_parts, not-true}
use Rattle.std.proofs.lemmas.List.Splits.{length-slice_split}
use Rattle.asm_tokens.specs.Lines.{is_feed, is_hash, code_part, comment_part}
use Rattle.asm_tokens.proofs.FirstToken.{one_more}
use Rattle.asm_tokens.proofs.Walk.{before_more}
use Rattle.asm_tokens.proofs.Spell.{is_inline, is_plain}

inline_parts : (x : ℕ) (xs : List ℕ) → list_all is_inline (x ∷ xs) ≡ true
    → (is_feed x ≡ false) × ((x == 13) ≡ false) × (list_all is_inline xs ≡ true)
inline_parts x xs h =
    let parts = and_parts (is_inline x) (list_all is_inline xs) h in
    let here = and_parts (not (is_feed x)) (not (x == 13)) parts.0 in
    (not-true (is_feed x) here.0, not-true (x == 13) here.1, parts.1)

split_front : (l rest : List ℕ) → list_all is_inline l ≡ true
    → slice_split is_feed (l ++ 10 ∷ rest) ≡ l ∷ slice_split is_feed rest
split_front [] rest h = refl
split_front (x ∷ xs) rest h = let parts = inline_parts x xs h in rw (parts.0, split_front xs rest parts.2) refl

-- the last byte is no carriage return
last_inline : (x : ℕ) (xs : List ℕ) → list_all is_inline (x ∷ xs) ≡ true → (get_or (x ∷ xs) (length xs) 0 == 13) ≡ false
last_inline x [] h = (inline_parts x [] h).1
last_inline x (y ∷ ys) h = last_inline y ys (inline_parts x (y ∷ ys) h).2

keeps : (l : List ℕ) → list_all is_inline l ≡ true → strip_carriage_return l ≡ l
keeps [] h = refl
keeps (x ∷ xs) h = let e : length (x ∷ xs) - 1 ≡ length xs = omega arith in rw (e, last_inline x xs h) refl

-- a line and its line feed
pub lines_front : (l rest : List ℕ) → list_all is_inline l ≡ true → lines (l ++ 10 ∷ rest) ≡ l ∷ lines rest
lines_front l rest h =
    let some : 0 < length (slice_split is_feed rest) = (let n = length-slice_split is_feed rest in omega arith) in
    ap lines_of_parts (split_front l rest h) ∙ (before_more l (slice_split is_feed rest) some ∙ rw (keeps l h) refl)

plain_hash : (x : ℕ) (xs : List ℕ) → list_all is_plain (x ∷ xs) ≡ true
    → (is_hash x ≡ false) × (list_all is_plain xs ≡ true)
plain_hash x xs h =
    let parts = and_parts (is_plain x) (list_all is_plain xs) h in
    (not-true (is_hash x) (and_parts (is_inline x) (not (is_hash x)) parts.0).1, parts.1)

past : (k : ℕ) → suc k + 1 ≡ suc (k + 1)
past k = omega arith

-- a line with no comment
pub code_alone : (l : List ℕ) → list_all is_plain l ≡ true → code_part l ≡ l
code_alone [] h = refl
code_alone (x ∷ xs) h = let parts = plain_hash x xs h in
    rw (parts.0, one_more) (ap (λ ys. x ∷ ys) (code_alone xs parts.1))

pub comment_none : (l : List ℕ) → list_all is_plain l ≡ true → comment_part l ≡ []
comment_none [] h = refl
comment_none (x ∷ xs) h = let parts = plain_hash x xs h in rw (parts.0, one_more, past) (comment_none xs parts.1)

-- a line and its comment
pub code_before : (l comment : List ℕ) → list_all is_plain l ≡ true → code_part (l ++ 35 ∷ comment) ≡ l
code_before [] comment h = refl
code_before (x ∷ xs) comment h = let parts = plain_hash x xs h in
    rw (parts.0, one_more) (ap (λ ys. x ∷ ys) (code_before xs comment parts.1))

pub comment_behind : (l comment : List ℕ) → list_all is_plain l ≡ true → comment_part (l ++ 35 ∷ comment) ≡ comment
comment_behind [] comment h = refl
comment_behind (x ∷ xs) comment h = let parts = plain_hash x xs h in
    rw (parts.0, one_more, past) (comment_behind xs comment parts.1)
