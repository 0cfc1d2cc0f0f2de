-- The words in the cells of an array, one after the other.
use Rattle.std.proofs.Common.{◌≡◌, ℕ, suc, ◌+◌, ◌*◌, List, [], ◌∷◌, ◌++◌, refl, arith, append_assoc, rules}
use Rattle.x86_meaning.specs.Machine.{Cells}
use Rattle.search_top.specs.Emulate.{cell_word, words_at}

-- no cells have no words
pub words_none : (cells : Cells) (address : ℕ) (before : List ℕ) → before ≡ before ++ words_at cells address 0
unfolding words_at
words_none cells address before = search rules

-- the word of one cell more comes last
next_word : (cells : Cells) (address n : ℕ)
    → words_at cells address (n + 1) ≡ words_at cells address n ++ (cell_word cells (address + 8 * n) ∷ [])
unfolding words_at
next_word cells address n = let e : n + 1 ≡ suc n = omega arith in rw e refl

pub words_more : (cells : Cells) (address n : ℕ) (before now next : List ℕ) → now ≡ before ++ words_at cells address n
    → next ≡ now ++ (cell_word cells (address + 8 * n) ∷ []) → next ≡ before ++ words_at cells address (n + 1)
words_more cells address n before now next a b = rw (b, a, next_word cells address n) (simp append_assoc)
