-- Random words: the key stream of ChaCha20 (RFC 8439, section 2.4), as 32-bit little-endian words. The key is a
-- seed's eight bytes, low bytes first, and 24 zero bytes; the nonce is 12 zero bytes; the blocks count from 0.
use Rattle.std.specs.Prelude.{ℕ, ◌+◌, ◌*◌, List, [], ◌∷◌, ◌++◌, replicate}
use Rattle.std.specs.Int.{w64, to_le_bytes}
use Rattle.rand_chacha.specs.ChaCha.{word_at, key_of}

-- the bytes of the key
abbrev pub key_bytes : ℕ → List ℕ
key_bytes seed = to_le_bytes w64 seed ++ replicate 24 0

-- the word at a place of the seed's stream, after ten double rounds a block
abbrev pub word_of : ℕ → ℕ → ℕ
word_of seed place = word_at 10 (key_of (key_bytes seed)) 0 place

-- the four words of a turn, which no other turn has
unfoldable pub words_of : ℕ → ℕ → List ℕ
words_of seed turn = word_of seed (4 * turn) ∷ word_of seed (4 * turn + 1) ∷ word_of seed (4 * turn + 2)
    ∷ word_of seed (4 * turn + 3) ∷ []
