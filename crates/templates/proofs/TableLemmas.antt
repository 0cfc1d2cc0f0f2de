-- The rows of a kind that are not always there stand at the end, so that a template's number is that of its row.
use Rattle.std.proofs.Common.{◌≡◌, ℕ, zero, suc, ◌<◌, ◌≤◌, Bool, true, false, List, [], ◌∷◌, ◌++◌, length, map, refl}
use Rattle.std.proofs.Common.{sym, ap, subst, ◌∙◌, arith}
use Rattle.std.specs.Prelude.{cond, ◌&&◌, slice_get, slice_index_or}
use Rattle.std.specs.List.{filter, flat_map, AllByRecursion}
use Rattle.std.specs.Option.{option_map_or}
use Rattle.std.proofs.lemmas.List.{get_or_append_left}
use Rattle.base.proofs.Arithmetic.{not_below_zero}
use Rattle.word_program.specs.declared.operation.Op.{Op}
use Rattle.word_operations.specs.declared.kind.Kind.{Kind}
use Rattle.word_operations.specs.declared.kind.Kind.TheVariants as kinds
use Rattle.x86_instr.specs.declared.mnemonic.Mnemonic.{Mnemonic}
use Rattle.x86_instr.specs.declared.mnemonic.Mnemonic.TheVariants.{Adc, Adcx, Add, Adox, Lea, Sbb, Sub}
use Rattle.word_program.specs.Program.{Source}
use Rattle.templates.specs.Table.{Row, rows_of, carry_in_zero, is_unused, templates_of, count_of, mnemonics_of}

abbrev mnemonics : List Row → List (List Mnemonic)
mnemonics rows = map (λ r. r.mnemonics) rows

-- the templates of the rows that are there
abbrev there : Op → List Row → List (List Mnemonic)
there op rows = mnemonics (filter (λ r. r.when op) rows)

-- ---- the row with a number

-- what a row adds, by its test
abbrev added : Row → Bool → List (List Mnemonic)
added r b = cond b (r.mnemonics ∷ []) []

abbrev added_by : Op → List Row → List (List Mnemonic)
added_by op rows = flat_map (λ r. added r (r.when op)) rows

there_by : (r : Row) (b : Bool) (rest : List Row) (list : List (List Mnemonic)) → mnemonics rest ≡ list
    → mnemonics (cond b (r ∷ rest) rest) ≡ added r b ++ list
there_by r true rest list e = ap (λ l. r.mnemonics ∷ l) e
there_by r false rest list e = e

-- the rows that are there are what each row adds
there_added : (op : Op) (rows : List Row) → there op rows ≡ added_by op rows
there_added op [] = refl
there_added op (r ∷ rows) = there_by r (r.when op) (filter (λ s. s.when op) rows) (added_by op rows)
    (there_added op rows)

-- the templates of `addcarryx`, where the tests have these answers
abbrev add_rows : Bool → Bool → List (List Mnemonic)
add_rows zero_in unused = (Adc ∷ []) ∷ (Adcx ∷ []) ∷ (Adox ∷ [])
    ∷ (cond zero_in ((Add ∷ []) ∷ []) [] ++ (cond (zero_in && unused) ((Lea ∷ []) ∷ []) [] ++ []))

add_same : (zero_in unused : Bool) (n : ℕ) → n < length (add_rows zero_in unused)
    → slice_index_or (mnemonics (rows_of kinds.AddCarry)) n [] ≡ slice_index_or (add_rows zero_in unused) n []
add_same true true n h = refl
add_same true false n h = get_or_append_left ((Adc ∷ []) ∷ (Adcx ∷ []) ∷ (Adox ∷ []) ∷ (Add ∷ []) ∷ [])
    ((Lea ∷ []) ∷ []) [] n h
add_same false unused n h = get_or_append_left ((Adc ∷ []) ∷ (Adcx ∷ []) ∷ (Adox ∷ []) ∷ [])
    ((Add ∷ []) ∷ (Lea ∷ []) ∷ []) [] n h

-- the templates of `subborrowx`
abbrev sub_rows : Bool → List (List Mnemonic)
sub_rows zero_in = (Sbb ∷ []) ∷ (cond zero_in ((Sub ∷ []) ∷ []) [] ++ [])

sub_same : (zero_in : Bool) (n : ℕ) → n < length (sub_rows zero_in)
    → slice_index_or (mnemonics (rows_of kinds.SubBorrow)) n [] ≡ slice_index_or (sub_rows zero_in) n []
sub_same true n h = refl
sub_same false n h = get_or_append_left ((Sbb ∷ []) ∷ []) ((Sub ∷ []) ∷ []) [] n h

same_added : (kind : Kind) (op : Op) (n : ℕ) → n < length (added_by op (rows_of kind))
    → slice_index_or (mnemonics (rows_of kind)) n [] ≡ slice_index_or (added_by op (rows_of kind)) n []
same_added kinds.AddCarry op n h = add_same (carry_in_zero op)
    (option_map_or is_unused (slice_get op.targets 1) false) n h
same_added kinds.SubBorrow op n h = sub_same (carry_in_zero op) n h
same_added kinds.MulX op n h = refl
same_added kinds.CMov op n h = refl
same_added kinds.Add op n h = refl
same_added kinds.Sub op n h = refl
same_added kinds.Mul op n h = refl
same_added kinds.And op n h = refl
same_added kinds.Or op n h = refl
same_added kinds.Xor op n h = refl
same_added kinds.Not op n h = refl
same_added kinds.Copy op n h = refl
same_added (kinds.Shl count) op n h = refl
same_added (kinds.Shr count) op n h = refl
same_added (kinds.Shrd count) op n h = refl

same : (kind : Kind) (op : Op) (n : ℕ) → n < length (there op (rows_of kind))
    → slice_index_or (mnemonics (rows_of kind)) n [] ≡ slice_index_or (there op (rows_of kind)) n []
same kind op = subst (λ list. (n : ℕ) → n < length list
    → slice_index_or (mnemonics (rows_of kind)) n [] ≡ slice_index_or list n []) (sym (there_added op (rows_of kind)))
    (same_added kind op)

-- the template of an operation with a number is the row of its kind with the number
pub row_is : (op : Op) (n : ℕ) → n < length (templates_of op)
    → slice_index_or (map (λ r. r.mnemonics) (rows_of op.kind)) n [] ≡ slice_index_or (templates_of op) n []
unfolding templates_of
row_is op n h = same op.kind op n h

-- ---- no template is empty

abbrev HasSome : List Mnemonic → Type 0
HasSome list = 1 ≤ length list

all_some : (kind : Kind) → AllByRecursion HasSome (mnemonics (rows_of kind))
all_some kinds.AddCarry = (omega arith, (omega arith, (omega arith, (omega arith, (omega arith, tt)))))
all_some kinds.SubBorrow = (omega arith, (omega arith, tt))
all_some kinds.MulX = (omega arith, (omega arith, tt))
all_some kinds.CMov = (omega arith, (omega arith, tt))
all_some kinds.Add = (omega arith, (omega arith, tt))
all_some kinds.Sub = (omega arith, tt)
all_some kinds.Mul = (omega arith, (omega arith, tt))
all_some kinds.And = (omega arith, tt)
all_some kinds.Or = (omega arith, tt)
all_some kinds.Xor = (omega arith, tt)
all_some kinds.Not = (omega arith, tt)
all_some kinds.Copy = (omega arith, tt)
all_some (kinds.Shl count) = (omega arith, (omega arith, tt))
all_some (kinds.Shr count) = (omega arith, (omega arith, tt))
all_some (kinds.Shrd count) = (omega arith, (omega arith, tt))

kept_by : (r : Row) (b : Bool) (rest : List Row) → HasSome r.mnemonics → AllByRecursion HasSome (mnemonics rest)
    → AllByRecursion HasSome (mnemonics (cond b (r ∷ rest) rest))
kept_by r true rest h all = (h, all)
kept_by r false rest h all = all

-- nor one of those that pass a test
kept_some : (op : Op) (rows : List Row) → AllByRecursion HasSome (mnemonics rows)
    → AllByRecursion HasSome (there op rows)
kept_some op [] all = tt
kept_some op (r ∷ rows) all = kept_by r (r.when op) (filter (λ s. s.when op) rows) all.0 (kept_some op rows all.1)

some_at : (lists : List (List Mnemonic)) → AllByRecursion HasSome lists → (n : ℕ) → n < length lists
    → 1 ≤ length (slice_index_or lists n [])
some_at [] all n h = absurd (not_below_zero n h)
some_at (x ∷ xs) all zero h = all.0
some_at (x ∷ xs) all (suc n) h = some_at xs all.1 n (omega arith)

-- a template has a mnemonic
pub template_some : (op : Op) (n : ℕ) → n < length (templates_of op)
    → 1 ≤ length (slice_index_or (templates_of op) n [])
unfolding templates_of
template_some op n h = some_at (there op (rows_of op.kind)) (kept_some op (rows_of op.kind) (all_some op.kind)) n h

-- ---- the first row is always there

some_there : (kind : Kind) (op : Op) → 1 ≤ length (there op (rows_of kind))
some_there kinds.AddCarry op = omega arith
some_there kinds.SubBorrow op = omega arith
some_there kinds.MulX op = omega arith
some_there kinds.CMov op = omega arith
some_there kinds.Add op = omega arith
some_there kinds.Sub op = omega arith
some_there kinds.Mul op = omega arith
some_there kinds.And op = omega arith
some_there kinds.Or op = omega arith
some_there kinds.Xor op = omega arith
some_there kinds.Not op = omega arith
some_there kinds.Copy op = omega arith
some_there (kinds.Shl count) op = omega arith
some_there (kinds.Shr count) op = omega arith
some_there (kinds.Shrd count) op = omega arith

-- an operation has a template
pub has_template : (op : Op) → 1 ≤ length (templates_of op)
unfolding templates_of
has_template op = some_there op.kind op

-- ---- the operation with a number

templates_is : (ops : List Op) (n : ℕ) (other : Op) → n < length ops
    → option_map_or templates_of (slice_get ops n) [] ≡ templates_of (slice_index_or ops n other)
templates_is [] n other h = absurd (not_below_zero n h)
templates_is (op ∷ ops) zero other h = refl
templates_is (op ∷ ops) (suc n) other h = templates_is ops n other (omega arith)

-- the row of its kind is its template, which has a mnemonic
pub record IsChosen (program : Source) (op number : ℕ) (row : List Mnemonic) : Type 0 where
  pub is : row ≡ mnemonics_of program op number
  pub some : 1 ≤ length row

chosen_at : (program : Source) (n number : ℕ) (other : Op) → n < length program.ops → number < count_of program n
    → IsChosen program n number (slice_index_or
    (map (λ r. r.mnemonics) (rows_of (slice_index_or program.ops n other).kind)) number [])
chosen_at program n number other h k =
    let op = slice_index_or program.ops n other in
    let at = templates_is program.ops n other h in
    let below : number < length (templates_of op) = subst (λ (ts : List (List Mnemonic)). number < length ts) at k in
    let is = row_is op number below in
    record {
      is = is ∙ ap (λ ts. slice_index_or ts number []) (sym at);
      some = subst (λ (list : List Mnemonic). 1 ≤ length list) (sym is) (template_some op number below);
    }

pub chosen : (program : Source) (ops : List Op) (n number : ℕ) (other : Op) → ops ≡ program.ops
    → n < length program.ops → number < count_of program n
    → IsChosen program n number (slice_index_or
    (map (λ r. r.mnemonics) (rows_of (slice_index_or ops n other).kind)) number [])
chosen program ops n number other e h k =
    subst (λ list. IsChosen program n number
    (slice_index_or (map (λ r. r.mnemonics) (rows_of (slice_index_or list n other).kind)) number [])) (sym e)
    (chosen_at program n number other h k)
