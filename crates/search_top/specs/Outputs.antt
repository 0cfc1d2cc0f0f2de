-- How output words are printed: a line for each, with the word in sixteen hexadecimal digits.
use Rattle.std.specs.Prelude.{ℕ, ◌+◌, List, [], ◌∷◌, ◌++◌, length, take, drop, codes, decimal, if◌then◌else◌}
use Rattle.std.specs.Int.{to_be_bytes, w64}
use Rattle.hex.specs.Hex.{encode_lower}
use Rattle.word_program.specs.declared.parameter.Param.{Param}
use Rattle.word_program.specs.Values.{is_output}

-- `NAME[INDEX] 0xWORD` and a line feed
unfoldable pub word_line : List ℕ → ℕ → ℕ → List ℕ
word_line name index word = name ++ (codes "["
    ++ (decimal index ++ (codes "] 0x" ++ (encode_lower (to_be_bytes w64 word) ++ codes "\n"))))

-- the words of an array from this index on
abbrev pub array_lines : List ℕ → ℕ → List ℕ → List ℕ
array_lines name index [] = []
array_lines name index (word ∷ words) = word_line name index word ++ array_lines name (index + 1) words

-- the output words in the order of the parameters
abbrev pub output_lines : List Param → List ℕ → List ℕ
output_lines [] words = []
output_lines (p ∷ ps) words =
    if is_output p.role then array_lines p.name 0 (take (length p.bounds) words)
    ++ output_lines ps (drop (length p.bounds) words)
    else output_lines ps words
