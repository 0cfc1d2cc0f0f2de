-- What an operation keeps where a template is one of its own: which operand is the literal 0, which result is unused,
-- and that its block saves every result that is used.
use Rattle.std.proofs.Common.{◌≡◌, ℕ, zero, suc, ◌<◌, ◌≤◌, Bool, true, false, List, [], ◌∷◌, length, map, refl}
use Rattle.std.proofs.Common.{ap, subst, ◌∙◌, arith, get_or, Option, Some, None}
use Rattle.std.proofs.lemmas.Bool.Decides.{nat_tests}
use Rattle.std.proofs.lemmas.List.{length-map}
use Rattle.std.specs.Prelude.{◌&&◌, ◌||◌, ◌==◌, cond, slice_get}
use Rattle.std.specs.List.{filter, list_all, list_any, AllByRecursion}
use Rattle.std.specs.Option.{option_map_or}
use Rattle.base.proofs.Arithmetic.{equal_by_test}
use Rattle.word_operations.specs.declared.kind.Kind.{Kind}
use Rattle.word_operations.specs.declared.kind.Kind.TheVariants as kinds
use Rattle.word_operations.specs.Operations.{result_count}
use Rattle.word_program.specs.declared.operation.Op.{Op}
use Rattle.word_program.specs.declared.operation.Operand.{Operand}
use Rattle.word_program.specs.declared.operation.Operand.TheVariants as operands
use Rattle.word_program.specs.declared.operation.Target.{Target}
use Rattle.word_program.specs.declared.operation.Target.TheVariants as targets
use Rattle.word_program.specs.Program.{Source}
use Rattle.word_program.proofs.RowLemmas.{and_true}
use Rattle.templates.specs.Table.{is_zero, is_unused, carry_in_zero, carry_in_zero_out_unused, templates_of, count_of}
use Rattle.templates.specs.Table as templates
use Rattle.plain_lower.specs.Blocks.{Row, Place, rows_of, no_row, row_of}

-- ---- how many templates there are

-- the template is one of the operation itself
pub template_below : (program : Source) (number : ℕ) (op : Op) (template : ℕ) → slice_get program.ops number ≡ Some op
    → template < count_of program number → template < length (templates_of op)
template_below program number op template e h =
    subst (λ (o : Option Op). template < length (option_map_or templates_of o [])) e h

-- as many as rows pass their tests
abbrev passing : (op : Op) (kind : Kind) → List Bool
passing op kind = map (λ r. r.when op) (templates.rows_of kind)

abbrev more_if : Bool → ℕ → ℕ
more_if b n = cond b (suc n) n

abbrev counted : List Bool → ℕ
counted [] = 0
counted (b ∷ bs) = more_if b (counted bs)

kept_count : (op : Op) (rows : List templates.Row)
    → length (filter (λ r. r.when op) rows) ≡ counted (map (λ r. r.when op) rows)
kept_count op [] = refl
kept_count op (r ∷ rows) = on (r.when op) (kept_count op rows)
  where
    on : (b : Bool) → length (filter (λ r. r.when op) rows) ≡ counted (map (λ r. r.when op) rows)
        → length (cond b (r ∷ filter (λ s. s.when op) rows) (filter (λ s. s.when op) rows))
        ≡ more_if b (counted (map (λ r. r.when op) rows))
    on true e = ap suc e
    on false e = e

templates_count : (op : Op) → length (templates_of op) ≡ counted (passing op op.kind)
unfolding templates_of
templates_count op = length-map (filter (λ r. r.when op) (templates.rows_of op.kind)) (λ r. r.mnemonics)
    ∙ kept_count op (templates.rows_of op.kind)

-- ---- the literal 0

count_add : (op : Op) → op.kind ≡ kinds.AddCarry → length (templates_of op)
    ≡ suc (suc (suc (more_if (carry_in_zero op) (more_if (carry_in_zero_out_unused op) 0))))
count_add op e = templates_count op ∙ ap (λ (k : Kind). counted (passing op k)) e

count_sub : (op : Op) → op.kind ≡ kinds.SubBorrow → length (templates_of op) ≡ suc (more_if (carry_in_zero op) 0)
count_sub op e = templates_count op ∙ ap (λ (k : Kind). counted (passing op k)) e

zero_operand : (o : Option Operand) → option_map_or is_zero o false ≡ true → o ≡ Some (operands.Literal 0)
zero_operand None e = absurd (cc)
zero_operand (Some (operands.Literal n)) e = ap (λ k. Some (operands.Literal k)) (equal_by_test n 0 e)
zero_operand (Some (operands.Input param word)) e = absurd (cc)
zero_operand (Some (operands.Value v)) e = absurd (cc)

unused_target : (o : Option Target) → option_map_or is_unused o false ≡ true → o ≡ Some targets.Unused
unused_target None e = absurd (cc)
unused_target (Some targets.Value) e = absurd (cc)
unused_target (Some targets.Unused) e = refl
unused_target (Some (targets.Output param word)) e = absurd (cc)

-- where three rows are there and more, the fourth one's test passes; where there are five, both do
fourth : (a b : Bool) (n : ℕ) → 3 ≤ n → n < suc (suc (suc (more_if a (more_if (a && b) 0)))) → a ≡ true
fourth true b n low high = refl
fourth false b n low high = absurd (omega arith)

fifth : (a b : Bool) (n : ℕ) → 4 ≤ n → n < suc (suc (suc (more_if a (more_if (a && b) 0)))) → b ≡ true
fifth true true n low high = refl
fifth true false n low high = absurd (omega arith)
fifth false b n low high = absurd (omega arith)

second : (a : Bool) (n : ℕ) → 1 ≤ n → n < suc (more_if a 0) → a ≡ true
second true n low high = refl
second false n low high = absurd (omega arith)

-- the templates of `addcarryx` from the fourth on are there where the carry that goes in is the literal 0
pub add_from_nought : (op : Op) (template : ℕ) → op.kind ≡ kinds.AddCarry → template < length (templates_of op)
    → 3 ≤ template → slice_get op.args 0 ≡ Some (operands.Literal 0)
add_from_nought op template e h low = zero_operand (slice_get op.args 0)
    (fourth (carry_in_zero op) (option_map_or is_unused (slice_get op.targets 1) false) template low
    (subst (λ (k : ℕ). template < k) (count_add op e) h))

-- the fifth one is there where beside that the carry that comes out is unused
pub add_to_unused : (op : Op) (template : ℕ) → op.kind ≡ kinds.AddCarry → template < length (templates_of op)
    → 4 ≤ template → slice_get op.targets 1 ≡ Some targets.Unused
add_to_unused op template e h low = unused_target (slice_get op.targets 1)
    (fifth (carry_in_zero op) (option_map_or is_unused (slice_get op.targets 1) false) template low
    (subst (λ (k : ℕ). template < k) (count_add op e) h))

-- the second template of `subborrowx` is there where the borrow that goes in is the literal 0
pub sub_from_nought : (op : Op) (template : ℕ) → op.kind ≡ kinds.SubBorrow → template < length (templates_of op)
    → 1 ≤ template → slice_get op.args 0 ≡ Some (operands.Literal 0)
sub_from_nought op template e h low = zero_operand (slice_get op.args 0)
    (second (carry_in_zero op) template low (subst (λ (k : ℕ). template < k) (count_sub op e) h))

-- ---- the rows of blocks

counted_most : (bs : List Bool) → counted bs ≤ length bs
counted_most [] = omega arith
counted_most (true ∷ bs) = let rest = counted_most bs in omega arith
counted_most (false ∷ bs) = let rest = counted_most bs in omega arith

same_rows : (kind : Kind) → length (templates.rows_of kind) ≡ length (rows_of kind)
same_rows kinds.AddCarry = refl
same_rows kinds.SubBorrow = refl
same_rows kinds.MulX = refl
same_rows kinds.CMov = refl
same_rows kinds.Add = refl
same_rows kinds.Sub = refl
same_rows kinds.Mul = refl
same_rows kinds.And = refl
same_rows kinds.Or = refl
same_rows kinds.Xor = refl
same_rows kinds.Not = refl
same_rows kinds.Copy = refl
same_rows (kinds.Shl count) = refl
same_rows (kinds.Shr count) = refl
same_rows (kinds.Shrd count) = refl

-- a template of the operation has a row among the blocks of its kind
pub row_there : (op : Op) (template : ℕ) → template < length (templates_of op) → template < length (rows_of op.kind)
row_there op template h =
    let count = templates_count op in
    let most = counted_most (passing op op.kind) in
    let rows = length-map (templates.rows_of op.kind) (λ r. r.when op) in
    let same = same_rows op.kind in
    omega arith

-- ---- saves

-- the result at this place is saved
abbrev saves_place : List Place → ℕ → Bool
saves_place saves place = list_any (λ s. s.1 == place) saves

-- so are all of the first ones
abbrev saves_all : ℕ → List Place → Bool
saves_all zero saves = true
saves_all (suc n) saves = saves_place saves n && saves_all n saves

saved_below : (n : ℕ) (saves : List Place) (place : ℕ) → saves_all n saves ≡ true → place < n
    → saves_place saves place ≡ true
saved_below zero saves place e h = absurd (omega arith)
saved_below (suc n) saves place e h =
    let both = and_true (saves_place saves n) (saves_all n saves) e in
    on (place == n) refl both.0 (saved_below n saves place both.1)
  where
    on : (b : Bool) → (place == n) ≡ b → saves_place saves n ≡ true → (place < n → saves_place saves place ≡ true)
        → saves_place saves place ≡ true
    on true f here rest = ap (saves_place saves) (equal_by_test place n f) ∙ here
    on false f here rest = rest (grind (arith, nat_tests, f, h))

-- what holds of each place that is saved, holds of this one
saved_one : (P : ℕ → Type 0) (saves : List Place) (place : ℕ) → AllByRecursion (λ s. P s.1) saves
    → saves_place saves place ≡ true → P place
saved_one P [] place all e = absurd (cc)
saved_one P (s ∷ saves) place all e = on (s.1 == place) refl e (saved_one P saves place all.1)
  where
    on : (b : Bool) → (s.1 == place) ≡ b → (b || saves_place saves place) ≡ true
        → (saves_place saves place ≡ true → P place) → P place
    on true f g rest = subst P (equal_by_test s.1 place f) all.0
    on false f g rest = rest g

passes_at : {X : Type 0} (test : X → Bool) (xs : List X) (n : ℕ) (d : X) → list_all test xs ≡ true → n < length xs
    → test (get_or xs n d) ≡ true
passes_at test [] n d e h = absurd (omega arith)
passes_at test (x ∷ xs) zero d e h = (and_true (test x) (list_all test xs) e).0
passes_at test (x ∷ xs) (suc n) d e h = passes_at test xs n d (and_true (test x) (list_all test xs) e).1 (omega arith)

-- what holds of the places that the row saves
abbrev AllSaved : (ℕ → Type 0) → Row → Type 0
AllSaved P r = AllByRecursion (λ s. P s.1) r.saves

-- where each row of the kind saves so many results, it holds of each of them
by_rows : (P : ℕ → Type 0) (kind : Kind) (template many : ℕ)
    → list_all (λ r. saves_all many r.saves) (rows_of kind) ≡ true → template < length (rows_of kind)
    → AllSaved P (row_of kind template) → (place : ℕ) → place < many → P place
unfolding row_of
by_rows P kind template many e h all place w =
    let saves : List Place = (row_of kind template).saves in
    saved_one P saves place all (saved_below many saves place
    (passes_at (λ r. saves_all many r.saves) (rows_of kind) template no_row e h) w)

-- a row of `addcarryx` saves both results, or is the fifth one
by_add_rows : (P : ℕ → Type 0) (template : ℕ) → template < 5 → (4 ≤ template → P 1)
    → AllSaved P (row_of kinds.AddCarry template) → (place : ℕ) → place < 2 → P place
unfolding row_of
by_add_rows P template h unused all zero w = saved_one P (row_of kinds.AddCarry template).saves 0 all
    (saved_below 1 (row_of kinds.AddCarry template).saves 0
    (passes_at (λ r. saves_all 1 r.saves) (rows_of kinds.AddCarry) template no_row refl h) (omega arith))
by_add_rows P zero h unused all (suc zero) w = all.1.0
by_add_rows P (suc zero) h unused all (suc zero) w = all.1.0
by_add_rows P (suc (suc zero)) h unused all (suc zero) w = all.1.0
by_add_rows P (suc (suc (suc zero))) h unused all (suc zero) w = all.1.0
by_add_rows P (suc (suc (suc (suc n)))) h unused all (suc zero) w = unused (omega arith)
by_add_rows P template h unused all (suc (suc place)) w = absurd (omega arith)

by_kind : (P : ℕ → Type 0) (kind : Kind) (template : ℕ) → template < length (rows_of kind)
    → (kind ≡ kinds.AddCarry → 4 ≤ template → P 1) → AllSaved P (row_of kind template) → (place : ℕ)
    → place < result_count kind → P place
by_kind P kinds.AddCarry n h unused all place w = by_add_rows P n h (unused refl) all place w
by_kind P kinds.SubBorrow n h unused all place w = by_rows P kinds.SubBorrow n 2 refl h all place w
by_kind P kinds.MulX n h unused all place w = by_rows P kinds.MulX n 2 refl h all place w
by_kind P kinds.CMov n h unused all place w = by_rows P kinds.CMov n 1 refl h all place w
by_kind P kinds.Add n h unused all place w = by_rows P kinds.Add n 1 refl h all place w
by_kind P kinds.Sub n h unused all place w = by_rows P kinds.Sub n 1 refl h all place w
by_kind P kinds.Mul n h unused all place w = by_rows P kinds.Mul n 1 refl h all place w
by_kind P kinds.And n h unused all place w = by_rows P kinds.And n 1 refl h all place w
by_kind P kinds.Or n h unused all place w = by_rows P kinds.Or n 1 refl h all place w
by_kind P kinds.Xor n h unused all place w = by_rows P kinds.Xor n 1 refl h all place w
by_kind P kinds.Not n h unused all place w = by_rows P kinds.Not n 1 refl h all place w
by_kind P kinds.Copy n h unused all place w = by_rows P kinds.Copy n 1 refl h all place w
by_kind P (kinds.Shl count) n h unused all place w = by_rows P (kinds.Shl count) n 1 refl h all place w
by_kind P (kinds.Shr count) n h unused all place w = by_rows P (kinds.Shr count) n 1 refl h all place w
by_kind P (kinds.Shrd count) n h unused all place w = by_rows P (kinds.Shrd count) n 1 refl h all place w

-- What holds of each result that the block saves, and of an unused one, holds of every result.
pub all_saved : (P : ℕ → Type 0) (op : Op) (template : ℕ) → template < length (templates_of op)
    → length op.targets ≡ result_count op.kind
    → ((place : ℕ) → slice_get op.targets place ≡ Some targets.Unused → P place)
    → AllByRecursion (λ s. P s.1) (row_of op.kind template).saves → (place : ℕ) → place < length op.targets → P place
all_saved P op template h count unused all place w =
    by_kind P op.kind template (row_there op template h)
    (λ (e : op.kind ≡ kinds.AddCarry) (low : 4 ≤ template). unused 1 (add_to_unused op template e h low)) all place
    (omega arith)
