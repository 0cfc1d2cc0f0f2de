-- The list of input words on a command line: words between commas. The words are this project's own.
use Rattle.std.specs.Prelude.{ℕ, ◌==◌, List, [], ◌∷◌, Option, Some, None}
use Rattle.std.specs.List.{slice_split}
use Rattle.base.specs.Options.{◌>>=◌}
use Rattle.base.specs.Numbers.{word}

-- the words that texts are, where each of them is one
abbrev pub words_of : List (List ℕ) → Option (List ℕ)
words_of [] = Some []
words_of (text ∷ texts) = do
  first ← word text
  rest ← words_of texts
  Some (first ∷ rest)

-- the words between commas; the code of the comma is 44
unfoldable pub inputs_of : List ℕ → Option (List ℕ)
inputs_of list = words_of (slice_split (λ b. b == 44) list)

-- no words where there is no list
abbrev pub inputs_or_none : Option (List ℕ) → Option (List ℕ)
inputs_or_none None = Some []
inputs_or_none (Some list) = inputs_of list
