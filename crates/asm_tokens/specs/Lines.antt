-- The bytes that end a line and begin a comment. The lines of a text are those of `lines` of std: a carriage
-- return before a line feed is dropped, and the last line feed may be missing.
use Rattle.std.specs.Prelude.{ℕ, Bool, ◌==◌, List}
use Rattle.std.specs.List.{before_first, after_first}

abbrev pub is_feed : ℕ → Bool
is_feed b = b == 10

abbrev pub is_hash : ℕ → Bool
is_hash b = b == 35

-- a line without its comment
abbrev pub code_part : List ℕ → List ℕ
code_part line = before_first is_hash line

-- what stands behind the first `#`
abbrev pub comment_part : List ℕ → List ℕ
comment_part line = after_first is_hash line
