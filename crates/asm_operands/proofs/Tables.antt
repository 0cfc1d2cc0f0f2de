-- Search in tables of names.
use Rattle.std.proofs.Common.{◌≡◌, ℕ, ◌+◌, ◌<◌, ◌≤◌, true, false, List, length, drop, get_or, refl, Some, None}
use Rattle.std.proofs.Common.{drop-cons, add-one}
use Rattle.std.specs.Borrow.{Bor}
use Rattle.std.specs.Str.{bytes_eq}
use Rattle.std.proofs.lemmas.List.{drop_all}
use Rattle.asm_operands.specs.Names.{named_in, rows_of}

pub named_yes : {T : Type 0} (table : List (T × Bor (List ℕ))) (text : List ℕ) (i : ℕ) (d : T × Bor (List ℕ))
    → i < length table
    → bytes_eq (get_or table i d).1.now text ≡ true → named_in (rows_of (drop i table)) text ≡ Some (get_or table i d).0
named_yes table text i d inside same = rw (drop-cons table i d, same) refl

pub named_more : {T : Type 0} (table : List (T × Bor (List ℕ))) (text : List ℕ) (i : ℕ) (d : T × Bor (List ℕ))
    → i < length table
    → bytes_eq (get_or table i d).1.now text ≡ false
    → named_in (rows_of (drop i table)) text ≡ named_in (rows_of (drop (i + 1) table)) text
named_more table text i d inside other = rw (drop-cons table i d, other, add-one) refl

pub named_none : {T : Type 0} (table : List (T × Bor (List ℕ))) (text : List ℕ) (i : ℕ) → length table ≤ i
    → named_in (rows_of (drop i table)) text ≡ None
named_none table text i past = rw (drop_all i table past) refl

-- a search row by row
pub ruleset table_steps = (named_yes, named_more, named_none)
