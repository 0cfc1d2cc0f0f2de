-- The number that a comment is.
use Rattle.std.specs.Prelude.{ℕ, List, Option}
use Rattle.base.specs.Options.{◌>>=◌, only}
use Rattle.base.specs.Numbers.{numeral}
use Rattle.asm_tokens.specs.Tokens.{tokens}

-- the number that the one token of a comment is, in decimal
unfoldable pub comment_number : List ℕ → Option ℕ
comment_number comment = only (tokens comment) >>= (λ t. numeral 10 t.text)
