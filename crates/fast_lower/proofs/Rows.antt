-- What each row of the table of blocks keeps, as it stands and with a source in the memory.
use Rattle.std.proofs.Common.{◌≡◌, ℕ, zero, suc, ◌≤◌, Bool, true, List, [], ◌∷◌, length, map, get_or, refl, arith}
use Rattle.std.proofs.lemmas.Bool.Decides.{nat_tests}
use Rattle.std.specs.Prelude.{◌&&◌, nat_le, if◌then◌else◌}
use Rattle.std.specs.List.{list_all}
use Rattle.word_operations.specs.declared.kind.Kind.{Kind}
use Rattle.word_operations.specs.declared.kind.Kind.TheVariants as kinds
use Rattle.word_program.proofs.RowLemmas.{and_true}
use Rattle.x86_instr.specs.declared.operand.Reg.TheVariants.{Rcx}
use Rattle.x86_instr.specs.declared.line.Line.{Line}
use Rattle.x86_instr.specs.Mnemonics.{mnemonic_of}
use Rattle.plain_lower.specs.Frame.{word_at}
use Rattle.plain_lower.specs.Blocks.{Place, Row, rows_of, no_row, row_of}
use Rattle.fast_lower.specs.Sources.{is_one_source, owned_instrs, reads_memory, reads_register}
use Rattle.fast_lower.specs.FallBack.{line_sourced, but_last}
use Rattle.fast_lower.proofs.Quiet.{is_scratch, is_calm}

-- the middle of a row with its source in the memory
abbrev pub in_memory : ℕ → List Line → List Line
in_memory word lines = map (line_sourced (word_at Rcx word)) lines

-- at most so many loads or stores, of registers that are not preserved
abbrev pub are_few : ℕ → List Place → Bool
are_few most places = nat_le (length places) most && list_all (λ l. is_scratch l.0) places

-- at most six lines, which are calm
abbrev pub is_middle : List Line → Bool
is_middle lines = nat_le (length lines) 6 && list_all is_calm lines

-- one instruction with a source reads it from a register, and from the memory where it is put there
abbrev pub moves : ℕ → List Line → Bool
moves word lines =
    if is_one_source (map (λ instr. mnemonic_of instr) (owned_instrs lines))
    then list_all reads_register (owned_instrs lines) && list_all reads_memory (owned_instrs (in_memory word lines))
    else true

abbrev fits : ℕ → ℕ → Row → Bool
fits op word r = are_few 3 r.loads && (are_few 2 (but_last r.loads) && (are_few 2 r.saves
    && (is_middle (r.middle op) && (is_middle (in_memory word (r.middle op)) && moves word (r.middle op)))))

rows_fit : (op word : ℕ) (kind : Kind) → list_all (fits op word) (rows_of kind) ≡ true
rows_fit op word kinds.AddCarry = refl
rows_fit op word kinds.SubBorrow = refl
rows_fit op word kinds.MulX = refl
rows_fit op word kinds.CMov = refl
rows_fit op word kinds.Add = refl
rows_fit op word kinds.Sub = refl
rows_fit op word kinds.Mul = refl
rows_fit op word kinds.And = refl
rows_fit op word kinds.Or = refl
rows_fit op word kinds.Xor = refl
rows_fit op word kinds.Not = refl
rows_fit op word kinds.Copy = refl
rows_fit op word (kinds.Shl count) = refl
rows_fit op word (kinds.Shr count) = refl
rows_fit op word (kinds.Shrd count) = refl

one_passes : {X : Type 0} (test : X → Bool) (xs : List X) (n : ℕ) (d : X) → list_all test xs ≡ true → test d ≡ true
    → test (get_or xs n d) ≡ true
one_passes test [] n d e f = f
one_passes test (x ∷ xs) zero d e f = (and_true (test x) (list_all test xs) e).0
one_passes test (x ∷ xs) (suc n) d e f = one_passes test xs n d (and_true (test x) (list_all test xs) e).1 f

pub record RowFits (op word : ℕ) (r : Row) : Type 0 where
  pub loads : are_few 3 r.loads ≡ true
  pub front : are_few 2 (but_last r.loads) ≡ true
  pub saves : are_few 2 r.saves ≡ true
  pub middle : is_middle (r.middle op) ≡ true
  pub sourced : is_middle (in_memory word (r.middle op)) ≡ true
  pub moved : moves word (r.middle op) ≡ true

all_fits : (a b c d e f : Bool) → (a && (b && (c && (d && (e && f))))) ≡ true
    → (a ≡ true) × (b ≡ true) × (c ≡ true) × (d ≡ true) × (e ≡ true) × (f ≡ true)
all_fits a b c d e f h =
    let t = and_true a (b && (c && (d && (e && f)))) h in
    let u = and_true b (c && (d && (e && f))) t.1 in
    let v = and_true c (d && (e && f)) u.1 in
    let w = and_true d (e && f) v.1 in
    let x = and_true e f w.1 in
    (t.0, u.0, v.0, w.0, x.0, x.1)

from_test : (op word : ℕ) (r : Row) → fits op word r ≡ true → RowFits op word r
from_test op word r h =
    let t = all_fits (are_few 3 r.loads) (are_few 2 (but_last r.loads)) (are_few 2 r.saves)
    (is_middle (r.middle op)) (is_middle (in_memory word (r.middle op))) (moves word (r.middle op)) h in
    record { loads = t.0; front = t.1; saves = t.2; middle = t.3; sourced = t.4; moved = t.5 }

pub row_fits : (op word : ℕ) (kind : Kind) (template : ℕ) → RowFits op word (row_of kind template)
unfolding row_of
row_fits op word kind template = from_test op word (row_of kind template)
    (one_passes (fits op word) (rows_of kind) template no_row (rows_fit op word kind) refl)

pub below : (n m : ℕ) → nat_le n m ≡ true → n ≤ m
below n m e = grind (arith, nat_tests, e)
