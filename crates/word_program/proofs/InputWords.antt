-- The input words of a program: each lies within the bounds of its parameter's word.
use Rattle.std.proofs.Common.{◌≡◌, ℕ, zero, suc, ◌+◌, ◌-◌, ◌^◌, ◌<◌, ◌≤◌, Bool, true, false, List, [], ◌∷◌, ◌++◌}
use Rattle.std.proofs.Common.{length, take, sym, ◌∙◌, subst, arith}
use Rattle.std.specs.Prelude.{slice_get, slice_index, slice_index_or, IsSomeAnd, IsFalse, if◌then◌else◌}
use Rattle.std.specs.List.{sum_by, AllByRecursion}
use Rattle.std.proofs.lemmas.List.{get_or_append_left, get_or-append-add, length-append}
use Rattle.std.proofs.lemmas.Bool.{true≢false}
use Rattle.std.proofs.lemmas.List.Sums.{sum_by-cons}
use Rattle.base.proofs.Arithmetic.{not_below_zero}
use Rattle.word_program.specs.declared.parameter.Bounds.{Bounds}
use Rattle.word_program.specs.declared.parameter.Param.{Param}
use Rattle.word_program.specs.Program.{full}
use Rattle.word_program.specs.Values.{is_output, input_words, input_bounds, input_word, word_bounds, AreWithin}
use Rattle.word_program.specs.Accepted.{AreBounds, IsParam}

-- the word lies within the bounds, which are words
pub record IsWithin (b : Bounds) (word : ℕ) : Type 0 where
  pub low : b.low ≤ word
  pub high : word ≤ b.high
  pub most : b.high < 2 ^ 64

-- what a parameter adds to the bounds of the input words
abbrev piece : Bool → List Bounds → List Bounds
piece output bounds = if output then [] else bounds

all_append : (xs ys : List Bounds) → AllByRecursion AreBounds xs → AllByRecursion AreBounds ys
    → AllByRecursion AreBounds (xs ++ ys)
all_append [] ys t u = u
all_append (x ∷ xs) ys t u = (t.0, all_append xs ys t.1 u)

piece_bounds : (output : Bool) (bounds : List Bounds) → AllByRecursion AreBounds bounds
    → AllByRecursion AreBounds (piece output bounds)
piece_bounds true bounds t = tt
piece_bounds false bounds t = t

-- the bounds of the input words are in order, and words
pub all_bounds : (ps : List Param) → AllByRecursion IsParam ps → AllByRecursion AreBounds (input_bounds ps)
all_bounds [] t = tt
all_bounds (p ∷ ps) t = all_append (piece (is_output p.role) p.bounds) (input_bounds ps)
    (piece_bounds (is_output p.role) p.bounds t.0.bounds) (all_bounds ps t.1)

within_at : (xs : List ℕ) (bs : List Bounds) → AreWithin xs bs → AllByRecursion AreBounds bs → (n : ℕ) → n < length bs
    → IsWithin (slice_index_or bs n full) (slice_index xs n)
within_at [] [] w t n h = absurd (not_below_zero n h)
within_at [] (b ∷ bs) w t n h = absurd w
within_at (x ∷ xs) [] w t n h = absurd w
within_at (x ∷ xs) (b ∷ bs) w t zero h = record { low = w.0; high = w.1; most = omega (arith, t.0.word) }
within_at (x ∷ xs) (b ∷ bs) w t (suc n) h = within_at xs bs w.2 t.1 n (omega arith)

-- the place of a word of an input parameter among all input words
abbrev place : List Param → ℕ → ℕ → ℕ
place ps param word = sum_by input_words (take param ps) + word

-- a word of an input parameter
abbrev pub IsInputWord : List Param → ℕ → ℕ → Type 0
IsInputWord ps param word = IsSomeAnd (slice_get ps param) (λ p. IsFalse (is_output p.role) × (word < length p.bounds))

-- its bounds stand at its place among the bounds of all input words
record IsPlace (ps : List Param) (param word : ℕ) : Type 0 where
  within : place ps param word < length (input_bounds ps)
  same : slice_index_or (input_bounds ps) (place ps param word) full ≡ word_bounds ps param word

first_place : (output : Bool) (bounds rest : List Bounds) (word n : ℕ) → n ≡ word → output ≡ false
    → word < length bounds → (n < length (piece output bounds ++ rest))
    × (slice_index_or (piece output bounds ++ rest) n full ≡ slice_index_or bounds word full)
first_place true bounds rest word n e o h = absurd (true≢false o)
first_place false bounds rest word n e o h =
    subst (λ m. (m < length (bounds ++ rest))
    × (slice_index_or (bounds ++ rest) m full ≡ slice_index_or bounds word full)) (sym e)
    (omega (arith, length-append bounds rest), get_or_append_left bounds rest full word h)

later_place : (output : Bool) (bounds rest : List Bounds) (n m : ℕ) (b : Bounds)
    → m ≡ (if output then 0 else length bounds) + n → n < length rest → slice_index_or rest n full ≡ b
    → (m < length (piece output bounds ++ rest)) × (slice_index_or (piece output bounds ++ rest) m full ≡ b)
later_place true bounds rest n m b e h s = let q : m ≡ n = omega (arith, e) in
    subst (λ k. (k < length rest) × (slice_index_or rest k full ≡ b)) (sym q) (h, s)
later_place false bounds rest n m b e h s =
    subst (λ k. (k < length (bounds ++ rest)) × (slice_index_or (bounds ++ rest) k full ≡ b)) (sym e)
    (omega (arith, length-append bounds rest, h), get_or-append-add bounds rest n full ∙ s)

is_place : (ps : List Param) (param word : ℕ) → IsInputWord ps param word → IsPlace ps param word
is_place [] param word h = absurd h
is_place (p ∷ ps) zero word h =
    let r = first_place (is_output p.role) p.bounds (input_bounds ps) word (place (p ∷ ps) zero word)
    (omega arith) h.0 h.1 in
    record { within = r.0; same = r.1 }
is_place (p ∷ ps) (suc param) word h =
    let q : IsPlace ps param word = is_place ps param word h in
    let s : sum_by input_words (p ∷ take param ps) ≡ input_words p + sum_by input_words (take param ps) =
    sum_by-cons input_words p (take param ps) in
    let r = later_place (is_output p.role) p.bounds (input_bounds ps) (place ps param word)
    (place (p ∷ ps) (suc param) word) (word_bounds ps param word) (omega (arith, s)) q.within q.same in
    record { within = r.0; same = r.1 }

-- on inputs within their bounds a word of an input parameter lies within its own
pub input_within : (ps : List Param) (xs : List ℕ) → AreWithin xs (input_bounds ps) → AllByRecursion IsParam ps
    → (param word : ℕ) → IsInputWord ps param word → IsWithin (word_bounds ps param word) (input_word ps xs param word)
input_within ps xs w t param word h =
    let q = is_place ps param word h in
    subst (λ b. IsWithin b (slice_index xs (place ps param word))) q.same
    (within_at xs (input_bounds ps) w (all_bounds ps t) (place ps param word) q.within)
