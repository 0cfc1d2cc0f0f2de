-- The lines of a text, each with its line feed. Behind the last line feed stands one more line without one, unless
-- nothing stands there.
use Rattle.std.specs.Prelude.{ℕ, Bool, ◌==◌, List, [], ◌∷◌, if◌then◌else◌}

abbrev pub is_byte : ℕ → ℕ → Bool
is_byte byte b = b == byte

-- the byte stands before the first line
abbrev pub onto_line : ℕ → List (List ℕ) → List (List ℕ)
onto_line b [] = (b ∷ []) ∷ []
onto_line b (line ∷ lines) = (b ∷ line) ∷ lines

unfoldable pub full_lines : List ℕ → List (List ℕ)
full_lines [] = []
full_lines (b ∷ bs) = if b == 10 then (b ∷ []) ∷ full_lines bs else onto_line b (full_lines bs)
