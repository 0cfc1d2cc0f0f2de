-- Parts of a listing that have at most so many lines, none of them a `ret`.
use Rattle.std.proofs.Common.{◌≡◌, ℕ, ◌+◌, ◌*◌, ◌≤◌, Bool, true, List, [], ◌∷◌, ◌++◌, length, refl, ap, ◌∙◌}
use Rattle.std.proofs.Common.{arith}
use Rattle.std.proofs.lemmas.List.{length-append}
use Rattle.std.proofs.lemmas.List.Folds.{list_all-append}
use Rattle.std.specs.Prelude.{not, ◌&&◌, if◌then◌else◌}
use Rattle.std.specs.List.{flat_map, list_all}
use Rattle.word_program.proofs.RowLemmas.{and_true, not_true}
use Rattle.x86_instr.specs.declared.line.Line.{Line}
use Rattle.x86_instr.specs.Listings.{is_ret, is_empty, ends_at_ret}

abbrev pub goes_on : Line → Bool
goes_on line = not (is_ret line.instr)

pub record IsPart (most : ℕ) (lines : List Line) : Type 0 where
  pub short : length lines ≤ most
  pub on : list_all goes_on lines ≡ true

pub both : (n m : ℕ) (xs ys : List Line) → IsPart n xs → IsPart m ys → IsPart (n + m) (xs ++ ys)
both n m xs ys a b =
    let count = length-append xs ys in
    let first = a.short in
    let second = b.short in
    record {
      short = omega arith;
      on = list_all-append goes_on xs ys ∙ ap (λ c. c && list_all goes_on ys) a.on ∙ b.on;
    }

pub at_most : (n m : ℕ) (lines : List Line) → n ≤ m → IsPart n lines → IsPart m lines
at_most n m lines w part = let short = part.short in record { short = omega arith; on = part.on }

-- behind such a part a listing ends where what follows it does
pub ends_behind : (xs ys : List Line) → list_all goes_on xs ≡ true → ends_at_ret (xs ++ ys) ≡ ends_at_ret ys
ends_behind [] ys e = refl
ends_behind (x ∷ xs) ys e =
    let t = and_true (goes_on x) (list_all goes_on xs) e in
    ap (λ b. if b then is_empty (xs ++ ys) else ends_at_ret (xs ++ ys)) (not_true (is_ret x.instr) t.0)
    ∙ ends_behind xs ys t.1

-- parts of two lines
pub twice_each : {X : Type 0} (f : X → List Line) → ((x : X) → IsPart 2 (f x)) → (xs : List X)
    → IsPart (2 * length xs) (flat_map f xs)
twice_each f each [] = record { short = omega arith; on = refl }
twice_each f each (x ∷ xs) =
    at_most (2 + 2 * length xs) (2 * length (x ∷ xs)) (flat_map f (x ∷ xs)) (omega arith)
    (both 2 (2 * length xs) (f x) (flat_map f xs) (each x) (twice_each f each xs))
