-- The first line of a text.
use Rattle.std.proofs.Common.{◌≡◌, ℕ, ◌<◌, ◌≤◌, Bool, false, not, List, [], ◌∷◌, length, take, drop, refl, ap, ◌∙◌, inl}
use Rattle.std.proofs.Common.{inr, arith, ◌==◌, length-drop, drop-drop, take_all}
use Rattle.std.specs.List.{position_or_len, prefix_len, slice_split, after_first}
use Rattle.std.specs.Str.Lines.{lines, lines_of_parts, strip_carriage_return}
use Rattle.std.proofs.lemmas.Bool.{cases_Bool, ne_eqb}
use Rattle.std.proofs.lemmas.List.{nil_from_length}
use Rattle.std.proofs.lemmas.List.Splits.{slice_split_first, length-slice_split}
use Rattle.asm_tokens.specs.Lines.{is_feed}

-- where no byte ends a line, the text is one part
one_part : (xs : List ℕ) → position_or_len is_feed xs ≡ length xs → slice_split is_feed xs ≡ xs ∷ []
one_part [] e = refl
one_part (x ∷ xs) e = elim (cases_Bool (is_feed x)) [
  | inl y ↦ absurd (let h = rw y at e in omega arith)
  | inr n ↦ let h : position_or_len is_feed xs ≡ length xs = (let g = rw n at e in omega arith) in
      rw (n, one_part xs h) refl
]

-- a part that another one follows is a line
pub before_more : (x : List ℕ) (parts : List (List ℕ)) → 0 < length parts
    → lines_of_parts (x ∷ parts) ≡ strip_carriage_return x ∷ lines_of_parts parts
before_more x [] more = absurd (omega arith)
before_more x (y ∷ parts) more = refl

-- the first line of several parts
pub lines_next : (text feed : List ℕ) → feed ≡ drop (position_or_len is_feed text) text → 0 < length feed
    → lines text ≡ strip_carriage_return (take (position_or_len is_feed text) text) ∷ lines (drop 1 feed)
lines_next text feed same more =
    let inside : position_or_len is_feed text < length text =
    (let l = ap length same ∙ length-drop (position_or_len is_feed text) text in omega arith) in
    let parts = slice_split_first is_feed text 0 inside in
    let some : 0 < length (slice_split is_feed (after_first is_feed text)) =
    (let l = length-slice_split is_feed (after_first is_feed text) in omega arith) in
    let tail : drop 1 feed ≡ after_first is_feed text = rw same (drop-drop 1 (position_or_len is_feed text) text) in
    ap lines_of_parts parts ∙ (before_more _ _ some ∙ rw tail refl)

full_prefix : (p : ℕ → Bool) (xs : List ℕ) → prefix_len p xs ≤ length xs
full_prefix p [] = omega arith
full_prefix p (x ∷ xs) = elim (cases_Bool (p x)) [
  | inl y ↦ let h = full_prefix p xs in rw y (omega arith)
  | inr n ↦
      rw n (omega arith)
]

-- the only part is a line unless it is empty
pub lines_last : (text : List ℕ) → length (drop (position_or_len is_feed text) text) ≡ 0 → 0 < length text
    → lines text ≡ take (position_or_len is_feed text) text ∷ lines (drop (position_or_len is_feed text) text)
lines_last text none more =
    let within = full_prefix (λ x. not (is_feed x)) text in
    let l = length-drop (position_or_len is_feed text) text in
    let all : position_or_len is_feed text ≡ length text = omega arith in
    let full : (length text == 0) ≡ false = ne_eqb _ _ (λ e. omega arith) in
    ap lines_of_parts (one_part text all) ∙ rw (full, all)
    (rw (take_all (length text) text (omega arith), nil_from_length (drop (length text) text) (rw (← all) none))
    refl)
