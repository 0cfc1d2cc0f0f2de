-- Numbers in the texts of a program: indices, and how many words a datatype has.
use Rattle.std.specs.Prelude.{ℕ, ◌+◌, ◌&&◌, nat_lt, nat_le, List, codes, Option}
use Rattle.std.specs.Str.{bytes_eq}
use Rattle.base.specs.declared.limits.TheConstants.{MAX_ARRAY_WORDS}
use Rattle.base.specs.Options.{◌>>=◌, guard}
use Rattle.base.specs.Numbers.{numeral}
use Rattle.word_text.specs.Texts.{bracketed, is_index}

-- the index that the digits write, where it is below the bound
unfoldable pub index_below : List ℕ → ℕ → Option ℕ
index_below digits bound = do
  n ← numeral 10 digits
  guard (nat_lt n bound) n

-- n, where the text is `u64[n]` with n from 1 to 32
unfoldable pub array_words : List ℕ → Option ℕ
array_words text = do
  parts ← bracketed text
  n ← index_below parts.1 (MAX_ARRAY_WORDS + 1)
  guard (bytes_eq parts.0 (codes "u64") && (is_index parts.1 && nat_le 1 n)) n
