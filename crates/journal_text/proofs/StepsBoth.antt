-- The first five lines: each is read exactly where it is written so.
use Rattle.std.proofs.Common.{◌≡◌, ℕ, ◌<◌, ◌≤◌, ◌^◌, Bool, true, false, cond, ◌==◌, List, ◌++◌, length}
use Rattle.std.proofs.Common.{Some, refl, ◌∙◌, ap, arith, codes}
use Rattle.std.specs.List.{AllByRecursion}
use Rattle.hex.specs.Hex.{encode_lower, IsBytes}
use Rattle.base.specs.Options.{◌>>=◌, guard}
use Rattle.base.proofs.Options.{bind_then}
use Rattle.base.proofs.Arithmetic.{equal_by_test}
use Rattle.mutations.specs.declared.mutation.Draw.{Draw}
use Rattle.mutations.specs.declared.mutation.Draw.TheVariants.{One, Two}
use Rattle.journal_text.specs.declared.limits.TheConstants.{MAX_SEEDS}
use Rattle.journal_text.specs.Text.{version_of, first_line, program_line, seeds_text, seeds_line, turns_line}
use Rattle.journal_text.specs.Text.{opening_line}
use Rattle.journal_text.specs.Text.{ended}
use Rattle.journal_text.specs.Fields.{after, last_word, last_number, digest_of, seeds_of}
use Rattle.journal_text.specs.Reading.{version_in, draw_of, draw_in, digest_in, seeds_word, turns_in, opening_in}
use Rattle.journal_text.proofs.Cuts.{lacks, after_is, after_back, last_is, last_back}
use Rattle.journal_text.proofs.FieldsBoth.{last_number_is, last_number_back, digest_is, digest_back, digest_lacks}
use Rattle.journal_text.proofs.SeedsBoth.{IsSmall, seeds_is, seeds_back, seeds_lack}

-- ---- a name and a number

named_is : (name line : List ℕ) (n : ℕ) → (after name line >>= last_number) ≡ Some n
    → (line ≡ name ++ ended n) × (n < 2 ^ 64)
named_is name line n e = bind_then (after name line) last_number n ((line ≡ name ++ ended n) × (n < 2 ^ 64))
    (λ rest is read.
    let h = last_number_is rest n read in
    (after_is name line rest is ∙ ap (λ xs. name ++ xs) h.0, h.1)) e

named_back : (name : List ℕ) (n : ℕ) → n < 2 ^ 64 → (after name (name ++ ended n) >>= last_number) ≡ Some n
named_back name n small = rw (after_back name (ended n)) (last_number_back n small)

pub version_is : (line : List ℕ) (n : ℕ) → version_in line ≡ Some n → (line ≡ first_line n) × (n < 2 ^ 64)
unfolding version_in first_line
version_is line n e = named_is (codes "cryptopt-journal ") line n e

pub version_back : (n : ℕ) → n < 2 ^ 64 → version_in (first_line n) ≡ Some n
unfolding version_in first_line
version_back n small = named_back (codes "cryptopt-journal ") n small

pub turns_is : (line : List ℕ) (n : ℕ) → turns_in line ≡ Some n → line ≡ turns_line n
unfolding turns_in turns_line
turns_is line n e = (named_is (codes "turns ") line n e).0

pub turns_back : (n : ℕ) → n < 2 ^ 64 → turns_in (turns_line n) ≡ Some n
unfolding turns_in turns_line
turns_back n small = named_back (codes "turns ") n small

pub opening_is : (line : List ℕ) (n : ℕ) → opening_in line ≡ Some n → line ≡ opening_line n
unfolding opening_in opening_line
opening_is line n e = (named_is (codes "opening ") line n e).0

pub opening_back : (n : ℕ) → n < 2 ^ 64 → opening_in (opening_line n) ≡ Some n
unfolding opening_in opening_line
opening_back n small = named_back (codes "opening ") n small

-- ---- the draw

draw_of_is : (a b : Bool) (n : ℕ) (draw : Draw) → (n == 1) ≡ a → (n == 2) ≡ b
    → cond a (Some One) (guard b Two) ≡ Some draw → n ≡ version_of draw
draw_of_is true b n One x y e = equal_by_test n 1 x
draw_of_is true b n Two x y e = cc
draw_of_is false true n Two x y e = equal_by_test n 2 y
draw_of_is false true n One x y e = cc
draw_of_is false false n draw x y e = cc

draw_number : (n : ℕ) (draw : Draw) → draw_of n ≡ Some draw → n ≡ version_of draw
unfolding draw_of
draw_number n draw e = draw_of_is (n == 1) (n == 2) n draw refl refl e

pub draw_is : (line : List ℕ) (draw : Draw) → draw_in line ≡ Some draw → line ≡ first_line (version_of draw)
unfolding draw_in
draw_is line draw e = bind_then (version_in line) draw_of draw (line ≡ first_line (version_of draw)) (λ n is read.
    (version_is line n is).0 ∙ ap first_line (draw_number n draw read)) e

version_small : (draw : Draw) → version_of draw < 2 ^ 64
version_small One = omega arith
version_small Two = omega arith

number_draw : (draw : Draw) → draw_of (version_of draw) ≡ Some draw
unfolding draw_of
number_draw One = refl
number_draw Two = refl

pub draw_back : (draw : Draw) → draw_in (first_line (version_of draw)) ≡ Some draw
unfolding draw_in
draw_back draw = rw (version_back (version_of draw) (version_small draw)) (number_draw draw)

-- ---- a name and a word

word_is : (name line word : List ℕ) → (after name line >>= last_word) ≡ Some word → line ≡ name ++ (word ++ codes "\n")
word_is name line word e = bind_then (after name line) last_word word (line ≡ name ++ (word ++ codes "\n"))
    (λ rest is read. after_is name line rest is ∙ ap (λ xs. name ++ xs) (last_is rest word read)) e

word_back : (name word : List ℕ) → lacks 10 word ≡ true
    → (after name (name ++ (word ++ codes "\n")) >>= last_word) ≡ Some word
word_back name word h = rw (after_back name (word ++ codes "\n")) (last_back word h)

pub digest_line_is : (line digest : List ℕ) → digest_in line ≡ Some digest
    → (line ≡ program_line digest) × (length digest ≡ 32) × IsBytes digest
unfolding digest_in program_line
digest_line_is line digest e =
    let Goal : Type 0 =
    (line ≡ codes "program " ++ (encode_lower digest ++ codes "\n")) × (length digest ≡ 32) × IsBytes digest in
    bind_then (after (codes "program ") line >>= last_word) digest_of digest Goal (λ word is read.
    let h = digest_is word digest read in
    (word_is (codes "program ") line word is ∙ ap (λ xs. codes "program " ++ (xs ++ codes "\n")) h.0, h.1, h.2)) e

pub digest_line_back : (digest : List ℕ) → length digest ≡ 32 → IsBytes digest
    → digest_in (program_line digest) ≡ Some digest
unfolding digest_in program_line
digest_line_back digest long bytes =
    rw (word_back (codes "program ") (encode_lower digest) (digest_lacks digest bytes)) (digest_back digest long bytes)

pub seeds_line_is : (line seeds : List ℕ) → (seeds_word line >>= seeds_of) ≡ Some seeds
    → (line ≡ seeds_line seeds) × (1 ≤ length seeds) × (length seeds ≤ MAX_SEEDS) × AllByRecursion IsSmall seeds
unfolding seeds_word seeds_line
seeds_line_is line seeds e =
    let Goal : Type 0 = (line ≡ codes "seeds " ++ (seeds_text seeds ++ codes "\n")) × (1 ≤ length seeds)
    × (length seeds ≤ MAX_SEEDS) × AllByRecursion IsSmall seeds in
    bind_then (after (codes "seeds ") line >>= last_word) seeds_of seeds Goal (λ word is read.
    let h = seeds_is word seeds read in
    (word_is (codes "seeds ") line word is ∙ ap (λ xs. codes "seeds " ++ (xs ++ codes "\n")) h.0, h.1, h.2, h.3)) e

pub seeds_line_back : (seeds : List ℕ) → 1 ≤ length seeds → length seeds ≤ MAX_SEEDS → AllByRecursion IsSmall seeds
    → (seeds_word (seeds_line seeds) >>= seeds_of) ≡ Some seeds
unfolding seeds_word seeds_line
seeds_line_back seeds some few small =
    rw (word_back (codes "seeds ") (seeds_text seeds) (seeds_lack seeds small)) (seeds_back seeds some few small)
