-- Texts by their lines, and the first faulty line, for any relation between lists of lines and what they
-- stand for.
use Rattle.std.specs.Prelude.{◌<◌, ◌≤◌, ℕ, ◌+◌, ◌-◌, List, [], ◌∷◌, ◌++◌, length, take, Option, Result, Ok, Err}
use Rattle.base.specs.Options.{pick}

-- some whole text begins with the lines
pub record Begins {V : Type 0} (Stands : List (List ℕ) → V → Type 0) (lines : List (List ℕ)) : Type 0 where
  pub more : List (List ℕ)
  pub value : V
  pub stands : Stands (lines ++ more) value

-- line n, counted from 1, is the first faulty one: some whole text begins with the lines before it, and none
-- with these and line n. Where n is the number of lines plus 1, the text ends too early
pub record IsFirstFault {V : Type 0} (Stands : List (List ℕ) → V → Type 0) (lines : List (List ℕ))
    (n : ℕ) : Type 0 where
  pub counted : (1 ≤ n) × (n ≤ length lines + 1)
  pub before : Begins Stands (take (n - 1) lines)
  pub at : n ≤ length lines → ¬ (Begins Stands (take n lines))
  pub end : length lines < n → (value : V) → ¬ (Stands lines value)

-- reading line by line: what is known so far, the next line, and what is known then; at the end what the
-- text stands for. The first line that cannot be read is the fault, `n` being the number of the next line
abbrev pub read_lines : {S V : Type 0} → (S → List ℕ → Option S) → (S → Option V) → S → List (List ℕ) → ℕ → Result V ℕ
read_lines step done s [] n = pick (done s) (λ v. Ok v) (Err n)
read_lines step done s (line ∷ lines) n = pick (step s line) (λ t. read_lines step done t lines (n + 1)) (Err n)
