-- The text of a journal, piece by piece.
use Rattle.std.proofs.Common.{◌≡◌, ℕ, ◌+◌, ◌<◌, ◌^◌, List, [], ◌∷◌, ◌++◌, length, map, refl, sym, ◌∙◌, ap, append_assoc}
use Rattle.std.proofs.Common.{decimal, take, arith, zero, suc, get_or, subst, ◌≤◌}
use Rattle.std.specs.List.{concat, flat_map, AllByRecursion}
use Rattle.std.proofs.lemmas.List.{append-nil, take_more, length-take-le}
use Rattle.journal_rules.specs.declared.journal.Entry.{Entry}
use Rattle.journal_rules.specs.declared.journal.Journal.{Journal}
use Rattle.journal_text.specs.Text.{version_of, first_line, program_line, seeds_text, seeds_line, turns_line}
use Rattle.journal_text.specs.Text.{opening_line}
use Rattle.journal_text.specs.Text.{entry_line, end_line, text_of}
use Rattle.journal_text.proofs.Sound.{all_push}

last_pieces : (es : List Entry) → concat (map entry_line es ++ end_line ∷ []) ≡ flat_map entry_line es ++ end_line
last_pieces [] = append-nil end_line
last_pieces (e ∷ es) =
    ap (λ xs. entry_line e ++ xs) (last_pieces es) ∙ sym (append_assoc (entry_line e) (flat_map entry_line es) end_line)

-- the whole text, in the pieces that are written one behind another
pub text_pieces : (j : Journal) → text_of j ≡ first_line (version_of j.draw) ++ (program_line j.digest
    ++ (seeds_line j.seeds ++ (turns_line j.turns ++ (opening_line j.opening
    ++ (flat_map entry_line j.entries ++ end_line)))))
unfolding text_of
text_pieces j = ap (λ xs. first_line (version_of j.draw) ++ (program_line j.digest ++ (seeds_line j.seeds
    ++ (turns_line j.turns ++ (opening_line j.opening ++ xs))))) (last_pieces j.entries)

-- a number more, behind a comma
pub joined_more : (ns : List ℕ) (n : ℕ) → 0 < length ns
    → seeds_text (ns ++ n ∷ []) ≡ seeds_text ns ++ (44 ∷ decimal n)
joined_more [] n some = absurd (omega arith)
joined_more (m ∷ []) n some = refl
joined_more (m ∷ k ∷ ks) n some =
    ap (λ xs. decimal m ++ (44 ∷ xs)) (joined_more (k ∷ ks) n (omega arith))
    ∙ sym (append_assoc (decimal m) (44 ∷ seeds_text (k ∷ ks)) (44 ∷ decimal n))

-- the numbers up to one that is not the first
pub list_more : (ns : List ℕ) (i : ℕ) → i < length ns → 0 < i
    → seeds_text (take (i + 1) ns) ≡ seeds_text (take i ns) ++ (44 ∷ decimal (get_or ns i 0))
list_more ns i inside later =
    let some : 0 < length (take i ns) = (let l = length-take-le i ns (omega arith) in omega arith) in
    ap seeds_text (take_more ns i 0 inside) ∙ joined_more (take i ns) (get_or ns i 0) some

-- the first number
pub list_first : (ns : List ℕ) (i : ℕ) → i < length ns → i ≤ 0 → seeds_text (take (i + 1) ns) ≡ decimal (get_or ns i 0)
list_first [] i inside none = absurd (omega arith)
list_first (n ∷ ns) zero inside none = refl
list_first (n ∷ ns) (suc i) inside none = absurd (omega arith)

-- before the first number there is none
pub first_take : (ns : List ℕ) (i : ℕ) → i ≤ 0 → seeds_text (take i ns) ≡ []
first_take ns zero none = refl
first_take ns (suc i) none = absurd (omega arith)

pub small_more : (ns : List ℕ) (i : ℕ) → i < length ns → AllByRecursion (λ n. n < 2 ^ 64) (take i ns)
    → get_or ns i 0 < 2 ^ 64 → AllByRecursion (λ n. n < 2 ^ 64) (take (i + 1) ns)
small_more ns i inside all one =
    let P : List ℕ → Type 0 = λ ms. AllByRecursion (λ n. n < 2 ^ 64) ms in
    subst P (sym (take_more ns i 0 inside)) (all_push (λ n. n < 2 ^ 64) (take i ns) (get_or ns i 0) all one)

pub ruleset list_steps = (list_more, list_first, small_more)
