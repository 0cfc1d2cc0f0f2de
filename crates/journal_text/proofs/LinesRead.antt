-- The first line of a text.
use Rattle.std.proofs.Common.{◌≡◌, ℕ, ◌+◌, ◌<◌, ◌≤◌, true, List, [], ◌∷◌, ◌++◌, length, take, drop, refl, ap, ◌∙◌}
use Rattle.std.proofs.Common.{inl, inr, arith, suc, sym, append_assoc, take_all}
use Rattle.std.proofs.lemmas.List.{drop_all}
use Rattle.std.specs.List.{position_or_len, concat, AllByRecursion}
use Rattle.std.proofs.lemmas.Bool.{cases_Bool}
use Rattle.asm_tokens.proofs.FirstToken.{one_more}
use Rattle.journal_text.specs.Lines.{is_byte, full_lines}
use Rattle.journal_text.proofs.Cuts.{lacks, lacks_first}

past_one : (k : ℕ) → suc k + 1 ≡ suc (k + 1)
past_one k = omega arith

-- the first line ends at the first line feed
pub lines_next : (text : List ℕ) → position_or_len (is_byte 10) text < length text
    → full_lines text ≡ take (position_or_len (is_byte 10) text + 1) text
    ∷ full_lines (drop (position_or_len (is_byte 10) text + 1) text)
unfolding full_lines
lines_next [] inside = absurd (omega arith)
lines_next (b ∷ bs) inside = elim (cases_Bool (is_byte 10 b)) [
  | inl y ↦ rw y refl
  | inr n ↦
      let here : position_or_len (is_byte 10) bs < length bs = (let g = rw n at inside in omega arith) in
      rw (n, one_more, past_one, lines_next bs here) refl
]

-- without a line feed the text is one line
pub lines_last : (text : List ℕ) → length text ≤ position_or_len (is_byte 10) text → 0 < length text
    → full_lines text ≡ text ∷ []
unfolding full_lines
lines_last [] past some = absurd (omega arith)
lines_last (b ∷ []) past some = elim (cases_Bool (is_byte 10 b)) [
  | inl y ↦ rw y refl
  | inr n ↦ rw n refl
]
lines_last (b ∷ c ∷ cs) past some = elim (cases_Bool (is_byte 10 b)) [
  | inl y ↦ absurd (let g = rw y at past in omega arith)
  | inr n ↦
      let here : length (c ∷ cs) ≤ position_or_len (is_byte 10) (c ∷ cs) = (let g = rw n at past in omega arith) in
      rw (n, lines_last (c ∷ cs) here (omega arith)) refl
]

-- a line and its line feed
lines_front : (word rest : List ℕ) → lacks 10 word ≡ true
    → full_lines (word ++ 10 ∷ rest) ≡ (word ++ 10 ∷ []) ∷ full_lines rest
unfolding full_lines
lines_front [] rest h = refl
lines_front (b ∷ bs) rest h =
    let parts = lacks_first 10 b bs h in rw (parts.0, lines_front bs rest parts.1) refl

-- bytes that are no line feed, and a line feed
pub record IsLine (line : List ℕ) : Type 0 where
  pub word : List ℕ
  pub is : line ≡ word ++ 10 ∷ []
  pub within : lacks 10 word ≡ true

-- lines that are put together are parted again
pub lines_back : (lines : List (List ℕ)) → AllByRecursion IsLine lines → full_lines (concat lines) ≡ lines
unfolding full_lines
lines_back [] h = refl
lines_back (line ∷ lines) h =
    let l = h.0 in
    let same : concat (line ∷ lines) ≡ l.word ++ 10 ∷ concat lines =
    ap (λ xs. xs ++ concat lines) l.is ∙ append_assoc l.word (10 ∷ []) (concat lines) in
    ap full_lines same ∙ (lines_front l.word (concat lines) l.within
    ∙ (ap (λ xs. xs ∷ full_lines (concat lines)) (sym l.is) ∙ ap (λ ls. line ∷ ls) (lines_back lines h.1)))

no_lines : full_lines [] ≡ []
unfolding full_lines
no_lines = refl

-- the same, in two parts
pub lines_whole : (text : List ℕ) → length text ≤ position_or_len (is_byte 10) text → 0 < length text
    → full_lines text ≡ take (position_or_len (is_byte 10) text) text
    ∷ full_lines (drop (position_or_len (is_byte 10) text) text)
lines_whole text past some =
    lines_last text past some ∙ sym (rw (
      take_all (position_or_len (is_byte 10) text) text past,
      drop_all (position_or_len (is_byte 10) text) text past,
      no_lines,
    ) refl)

-- an empty text has no line
pub lines_none : (text : List ℕ) → length text ≤ 0 → full_lines text ≡ []
lines_none [] none = no_lines
lines_none (b ∷ bs) none = absurd (omega arith)

pub ruleset line_steps = (lines_next, lines_whole, lines_none)
