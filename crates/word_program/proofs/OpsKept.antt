-- What operations keep that break no rule.
use Rattle.std.proofs.Common.{◌≡◌, ℕ, ◌+◌, ◌<◌, ◌≤◌, Bool, true, false, List, [], ◌∷◌, ◌++◌, map, length, take, refl}
use Rattle.std.proofs.Common.{arith, zero, suc, sym, ◌∙◌, ap, subst, zero-add, add-zero, append_assoc}
use Rattle.std.proofs.lemmas.Bool.Decides.{nat_tests}
use Rattle.std.proofs.lemmas.List.{append-nil, length-append, length-map, length-take}
use Rattle.std.specs.Prelude.{Option, Some, None, is_none, not, ◌&&◌, ◌==◌, min, fold, slice_get, slice_index_or}
use Rattle.std.specs.Prelude.{if◌then◌else◌, IfSome, IsTrue}
use Rattle.std.specs.List.{AllByRecursion}
use Rattle.base.proofs.Arithmetic.{test_of_itself}
use Rattle.word_text.specs.declared.fault.Section.TheVariants.{Body}
use Rattle.word_text.specs.declared.parts.RawOp.{RawOp}
use Rattle.word_text.specs.Texts.{starts_with_digit}
use Rattle.word_operations.specs.declared.kind.Kind.{Kind}
use Rattle.word_operations.specs.declared.kind.Kind.TheVariants.{AddCarry, SubBorrow, MulX, CMov, Add, Sub, Mul, And}
use Rattle.word_operations.specs.declared.kind.Kind.TheVariants.{Or, Xor, Not, Copy, Shl, Shr, Shrd}
use Rattle.word_operations.specs.Operations.{kind_named, operand_count, argument_count, result_count, takes_shift}
use Rattle.word_operations.specs.Operations.{takes_bit, needs_bit, needs_shift, with_shift, bits_on}
use Rattle.word_program.specs.declared.parameter.Param.{Param}
use Rattle.word_program.specs.declared.operation.Op.{Op}
use Rattle.word_program.specs.declared.operation.Operand.{Operand}
use Rattle.word_program.specs.declared.operation.Operand.TheVariants as operands
use Rattle.word_program.specs.Values.{is_bit_by, op_bits}
use Rattle.word_program.specs.Walk.{first_code, walk, place_in}
use Rattle.word_program.specs.Rules.{Scope, kind_or, operand_of, operand_or, is_shift, shift_or, argument_rules}
use Rattle.word_program.specs.Rules.{argument_fault, target_of, with_op, op_of, with_operation, operation_fault}
use Rattle.word_program.specs.Accepted.{IsParam, IsOperand, IsTarget, HasShift, IsOp, AreOps}
use Rattle.word_program.proofs.RowLemmas.{rows4, at_none, or_none, some_of}
use Rattle.word_program.proofs.BodyLemmas.{with_results, operation_scope, operation_passes, op_targets}
use Rattle.word_program.proofs.OperandKept.{operand_is, target_is}

-- ---- kinds

-- a shift count changes nothing of a kind's form
same_form : (kind : Kind) (n : ℕ) → (operand_count (with_shift kind n) ≡ operand_count kind)
    × (result_count (with_shift kind n) ≡ result_count kind) × (takes_bit (with_shift kind n) ≡ takes_bit kind)
same_form AddCarry n = (refl, refl, refl)
same_form SubBorrow n = (refl, refl, refl)
same_form MulX n = (refl, refl, refl)
same_form CMov n = (refl, refl, refl)
same_form Add n = (refl, refl, refl)
same_form Sub n = (refl, refl, refl)
same_form Mul n = (refl, refl, refl)
same_form And n = (refl, refl, refl)
same_form Or n = (refl, refl, refl)
same_form Xor n = (refl, refl, refl)
same_form Not n = (refl, refl, refl)
same_form Copy n = (refl, refl, refl)
same_form (Shl m) n = (refl, refl, refl)
same_form (Shr m) n = (refl, refl, refl)
same_form (Shrd m) n = (refl, refl, refl)

count_kept : (kind : Kind) (n : ℕ) → (takes_shift kind ≡ true → (1 ≤ n) × (n ≤ 63)) → HasShift (with_shift kind n)
count_kept AddCarry n f = tt
count_kept SubBorrow n f = tt
count_kept MulX n f = tt
count_kept CMov n f = tt
count_kept Add n f = tt
count_kept Sub n f = tt
count_kept Mul n f = tt
count_kept And n f = tt
count_kept Or n f = tt
count_kept Xor n f = tt
count_kept Not n f = tt
count_kept Copy n f = tt
count_kept (Shl m) n f = f refl
count_kept (Shr m) n f = f refl
count_kept (Shrd m) n f = f refl

-- as many bits as results
pub bits_count : (kind : Kind) (a b c : Bool) → length (bits_on kind a b c) ≡ result_count kind
bits_count AddCarry a b c = refl
bits_count SubBorrow a b c = refl
bits_count MulX a b c = refl
bits_count CMov a b c = refl
bits_count Add a b c = refl
bits_count Sub a b c = refl
bits_count Mul a b c = refl
bits_count And a b c = refl
bits_count Or a b c = refl
bits_count Xor a b c = refl
bits_count Not a b c = refl
bits_count Copy a b c = refl
bits_count (Shl n) a b c = refl
bits_count (Shr n) a b c = refl
bits_count (Shrd n) a b c = refl

-- a kind that takes a bit has three operands
three : (kind : Kind) → takes_bit kind ≡ true → operand_count kind ≡ 3
three AddCarry e = refl
three SubBorrow e = refl
three CMov e = refl
three MulX e = absurd (cc)
three Add e = absurd (cc)
three Sub e = absurd (cc)
three Mul e = absurd (cc)
three And e = absurd (cc)
three Or e = absurd (cc)
three Xor e = absurd (cc)
three Not e = absurd (cc)
three Copy e = absurd (cc)
three (Shl n) e = absurd (cc)
three (Shr n) e = absurd (cc)
three (Shrd n) e = absurd (cc)

-- ---- arguments

-- the operand that an argument is read as
abbrev read_as : Scope → List ℕ → Operand
read_as s text = operand_or (operand_of s text)

-- none of these arguments, of which the first has this number, breaks a rule
abbrev ArgumentsPass : Scope → ℕ → Kind → ℕ → List (List ℕ) → Type 0
ArgumentsPass s i kind n texts = walk (argument_fault s i kind) (λ u text. u) tt n texts ≡ None

-- the operand at this place, where there is one, is a shift count
abbrev pub IsShiftAt : List Operand → ℕ → Type 0
IsShiftAt operands place = IfSome (slice_get operands place) (λ o. IsTrue (is_shift o))

-- what an argument keeps that breaks no rule
record IsArgument (s : Scope) (kind : Kind) (place : ℕ) (text : List ℕ) : Type 0 where
  is : IsOperand s.params (length s.names) (read_as s text)
  count : needs_shift kind place ≡ true → is_shift (read_as s text) ≡ true
  bit : needs_bit kind place ≡ true → is_bit_by s.params s.bits (read_as s text) ≡ true

neither : (digit none : Bool) → not digit && none ≡ false → digit && none ≡ false → none ≡ false
neither true none a b = b
neither false none a b = a

needed : (need test : Bool) → need && not test ≡ false → need ≡ true → test ≡ true
needed true true a b = refl
needed true false a b = absurd (cc)
needed false test a b = absurd (cc)

argument_kept : (s : Scope) (kind : Kind) (place : ℕ) (text : List ℕ) → AllByRecursion IsParam s.params
    → first_code (argument_rules s kind place text) ≡ None → IsArgument s kind place text
unfolding argument_rules
argument_kept s kind place text all none =
    let r = rows4 _ _ _ _ (not (starts_with_digit text) && is_none (operand_of s text))
    (starts_with_digit text && is_none (operand_of s text))
    (needs_shift kind place && not (is_shift (read_as s text)))
    (needs_bit kind place && not (is_bit_by s.params s.bits (read_as s text))) none in
    let found = some_of (operand_of s text) (neither (starts_with_digit text) (is_none (operand_of s text)) r.0 r.1) in
    let same : found.0 ≡ read_as s text = sym (ap operand_or found.1) in
    record {
      is = subst (IsOperand s.params (length s.names)) same (operand_is s text found.0 all found.1);
      count = needed (needs_shift kind place) (is_shift (read_as s text)) r.2;
      bit = needed (needs_bit kind place) (is_bit_by s.params s.bits (read_as s text)) r.3;
    }

arguments_kept : (s : Scope) (i : ℕ) (kind : Kind) (texts : List (List ℕ)) (n : ℕ) → AllByRecursion IsParam s.params
    → ArgumentsPass s i kind n texts
    → AllByRecursion (IsOperand s.params (length s.names)) (map (read_as s) texts)
arguments_kept s i kind [] n all none = tt
arguments_kept s i kind (text ∷ texts) n all none =
    let r = or_none (argument_fault s i kind tt n text)
    (walk (argument_fault s i kind) (λ u text. u) tt (n + 1) texts) none in (
      (argument_kept s kind n text all (at_none (place_in Body i (1 + n)) (argument_rules s kind n text) r.0)).is,
      arguments_kept s i kind texts (n + 1) all r.1,
    )

-- the argument at a place
argument_at : (s : Scope) (i : ℕ) (kind : Kind) (texts : List (List ℕ)) (n j : ℕ) (d : Operand)
    → AllByRecursion IsParam s.params
    → ArgumentsPass s i kind n texts → j < length texts
    → (text : List ℕ) × IsArgument s kind (n + j) text × (slice_get (map (read_as s) texts) j ≡ Some (read_as s text))
    × (slice_index_or (map (read_as s) texts) j d ≡ read_as s text)
argument_at s i kind [] n j d all none lt = absurd (omega arith)
argument_at s i kind (text ∷ texts) n zero d all none lt =
    let r = or_none (argument_fault s i kind tt n text)
    (walk (argument_fault s i kind) (λ u text. u) tt (n + 1) texts) none in
    let e : n ≡ n + 0 = omega arith in (
      text,
      subst (λ (k : ℕ). IsArgument s kind k text) e
          (argument_kept s kind n text all (at_none (place_in Body i (1 + n)) (argument_rules s kind n text) r.0)),
      refl,
      refl,
    )
argument_at s i kind (text ∷ texts) n (suc j) d all none lt =
    let r = or_none (argument_fault s i kind tt n text)
    (walk (argument_fault s i kind) (λ u text. u) tt (n + 1) texts) none in
    let e : n + 1 + j ≡ n + suc j = omega arith in
    let rest = argument_at s i kind texts (n + 1) j d all r.1 (omega arith) in
    (rest.0, subst (λ (k : ℕ). IsArgument s kind k rest.0) e rest.1, rest.2, rest.3)

with_bit : (kind : Kind) → takes_shift kind ≡ true → needs_shift kind (operand_count kind) ≡ true
with_bit kind e = rw (e, test_of_itself (operand_count kind)) refl

-- the argument behind the operands is a shift count
count_passes : (s : Scope) (kind : Kind) (place : ℕ) (text : List ℕ)
    → first_code (argument_rules s kind place text) ≡ None → needs_shift kind place ≡ true
    → is_shift (read_as s text) ≡ true
unfolding argument_rules
count_passes s kind place text none =
    let r = rows4 _ _ _ _ (not (starts_with_digit text) && is_none (operand_of s text))
    (starts_with_digit text && is_none (operand_of s text))
    (needs_shift kind place && not (is_shift (read_as s text)))
    (needs_bit kind place && not (is_bit_by s.params s.bits (read_as s text))) none in
    needed (needs_shift kind place) (is_shift (read_as s text)) r.2

count_at : (s : Scope) (i : ℕ) (kind : Kind) (texts : List (List ℕ)) (n j : ℕ)
    → ArgumentsPass s i kind n texts → needs_shift kind (n + j) ≡ true → IsShiftAt (map (read_as s) texts) j
count_at s i kind [] n j none need = tt
count_at s i kind (text ∷ texts) n zero none need =
    let r = or_none (argument_fault s i kind tt n text)
    (walk (argument_fault s i kind) (λ u text. u) tt (n + 1) texts) none in
    let e : n + 0 ≡ n = omega arith in
    count_passes s kind n text (at_none (place_in Body i (1 + n)) (argument_rules s kind n text) r.0)
    (subst (λ (k : ℕ). needs_shift kind k ≡ true) e need)
count_at s i kind (text ∷ texts) n (suc j) none need =
    let r = or_none (argument_fault s i kind tt n text)
    (walk (argument_fault s i kind) (λ u text. u) tt (n + 1) texts) none in
    let e : n + suc j ≡ n + 1 + j = omega arith in
    count_at s i kind texts (n + 1) j r.1 (subst (λ (k : ℕ). needs_shift kind k ≡ true) e need)

nothing_behind : (s : Scope) (texts : List (List ℕ)) (j : ℕ) → length texts ≡ j
    → slice_get (map (read_as s) texts) j ≡ None
nothing_behind s [] j e = refl
nothing_behind s (text ∷ texts) zero e = absurd (omega arith)
nothing_behind s (text ∷ texts) (suc j) e = nothing_behind s texts j (omega arith)

counted_by : (s : Scope) (i : ℕ) (kind : Kind) (texts : List (List ℕ)) (b : Bool) → takes_shift kind ≡ b
    → ArgumentsPass s i kind 0 texts → length texts ≡ operand_count kind + (if b then 1 else 0)
    → IsShiftAt (map (read_as s) texts) (operand_count kind)
counted_by s i kind texts true has none count =
    count_at s i kind texts 0 (operand_count kind) none
    (ap (needs_shift kind) (zero-add (operand_count kind)) ∙ with_bit kind has)
counted_by s i kind texts false has none count =
    subst (λ (o : Option Operand). IfSome o (λ o. IsTrue (is_shift o)))
    (sym (nothing_behind s texts (operand_count kind) (count ∙ add-zero (operand_count kind)))) tt

-- where no argument breaks a rule, the one behind the operands is a shift count
pub counted : (s : Scope) (i : ℕ) (kind : Kind) (texts : List (List ℕ)) (operands : List Operand)
    → walk (argument_fault s i kind) (λ u text. u) tt 0 texts ≡ None → length texts ≡ argument_count kind
    → operands ≡ map (λ text. operand_or (operand_of s text)) texts → IsShiftAt operands (operand_count kind)
counted s i kind texts operands none count is =
    subst (λ (xs : List Operand). IsShiftAt xs (operand_count kind)) (sym is)
    (counted_by s i kind texts (takes_shift kind) refl none count)

all_take : {X : Type 0} (P : X → Type 0) (n : ℕ) (xs : List X) → AllByRecursion P xs → AllByRecursion P (take n xs)
all_take P zero xs all = tt
all_take P (suc n) [] all = tt
all_take P (suc n) (x ∷ xs) all = (all.0, all_take P n xs all.1)

first_of_take : {X : Type 0} (n : ℕ) (xs : List X) (d : X)
    → slice_index_or (take (suc n) xs) 0 d ≡ slice_index_or xs 0 d
first_of_take n [] d = refl
first_of_take n (x ∷ xs) d = refl

count_in : (o : Operand) → is_shift o ≡ true → (1 ≤ shift_or (Some o)) × (shift_or (Some o) ≤ 63)
count_in (operands.Literal n) e = (grind (arith, nat_tests), grind (arith, nat_tests))
count_in (operands.Input param word) e = absurd (cc)
count_in (operands.Value n) e = absurd (cc)

all_targets : (params : List Param) (texts : List (List ℕ))
    → AllByRecursion (IsTarget params) (map (target_of params) texts)
all_targets params [] = tt
all_targets params (text ∷ texts) = (target_is params text, all_targets params texts)

-- ---- operations

first_bit_needed : (kind : Kind) → takes_bit kind ≡ true → needs_bit kind 0 ≡ true
first_bit_needed kind e = rw e refl

more_arguments : (kind : Kind) → takes_shift kind ≡ true → operand_count kind < argument_count kind
more_arguments kind e = rw e (omega arith)

min_left : (a b : ℕ) → a ≤ b → min a b ≡ a
min_left a b le = omega arith

enough_arguments : (b : Bool) (n : ℕ) → n ≤ n + (if b then 1 else 0)
enough_arguments true n = omega arith
enough_arguments false n = omega arith

-- an operation that breaks no rule
pub op_kept : (s : Scope) (n : ℕ) (o : RawOp) → AllByRecursion IsParam s.params → length s.names ≡ length s.bits
    → operation_fault s n o ≡ None → IsOp s.params s.bits (op_of s o)
unfolding op_of
op_kept s n o all same none =
    let p = operation_passes s n o none in
    let kind : Kind = kind_or (kind_named o.operation) in
    let reads : List Operand = map (read_as s) o.arguments in
    let count : ℕ = shift_or (slice_get reads (operand_count kind)) in
    let form = same_form kind count in
    let given : length reads ≡ argument_count kind = length-map o.arguments (read_as s) ∙ p.shape.arguments in
    let enough : operand_count kind ≤ length reads =
    subst (λ (k : ℕ). operand_count kind ≤ k) (sym given)
    (enough_arguments (takes_shift kind) (operand_count kind)) in
    let counted : takes_shift kind ≡ true → (1 ≤ count) × (count ≤ 63) = λ (h : takes_shift kind ≡ true).
    let room : operand_count kind < length o.arguments =
    subst (λ (k : ℕ). operand_count kind < k) (sym p.shape.arguments) (more_arguments kind h) in
    let a = argument_at s n kind o.arguments 0 (operand_count kind) (operands.Literal 0) all p.arguments room in
    let here : is_shift (read_as s a.0) ≡ true =
    a.1.count (ap (needs_shift kind) (zero-add (operand_count kind)) ∙ with_bit kind h) in
    subst (λ (x : Option Operand). (1 ≤ shift_or x) × (shift_or x ≤ 63)) (sym a.2) (count_in (read_as s a.0) here) in
    let first : takes_bit kind ≡ true → is_bit_by s.params s.bits
    (slice_index_or (take (operand_count kind) reads) 0 (operands.Literal 0)) ≡ true =
    λ (h : takes_bit kind ≡ true).
    let k3 = three kind h in
    let room : 0 < length o.arguments = let l = length-map o.arguments (read_as s) in omega arith in
    let a = argument_at s n kind o.arguments 0 0 (operands.Literal 0) all p.arguments room in
    let here : is_bit_by s.params s.bits (read_as s a.0) ≡ true = a.1.bit (first_bit_needed kind h) in
    let at_first : slice_index_or (take (operand_count kind) reads) 0 (operands.Literal 0) ≡ read_as s a.0 =
    ap (λ k. slice_index_or (take k reads) 0 (operands.Literal 0)) k3 ∙ first_of_take 2 reads (operands.Literal 0)
    ∙ a.3 in
    ap (is_bit_by s.params s.bits) at_first ∙ here in
    record {
      arguments = length-take (operand_count kind) reads ∙ min_left (operand_count kind) (length reads) enough
          ∙ sym form.0;
      results = length-map o.results (target_of s.params) ∙ p.shape.results ∙ sym form.1;
      count = count_kept kind count counted;
      reads = all_take (IsOperand s.params (length s.bits)) (operand_count kind) reads
          (subst (λ (k : ℕ). AllByRecursion (IsOperand s.params k) reads) same
          (arguments_kept s n kind o.arguments 0 all p.arguments));
      writes = all_targets s.params o.results;
      bit = λ (h : takes_bit (with_shift kind count) ≡ true). first (sym form.2 ∙ h);
    }

-- operations that break no rule, behind those that are there
pub record AreKept (s t : Scope) : Type 0 where
  pub news : List Op
  pub behind : t.ops ≡ s.ops ++ news
  pub legal : AreOps s.params s.bits news

pub ops_kept : (raws : List RawOp) (s : Scope) (n : ℕ) → AllByRecursion IsParam s.params
    → length s.names ≡ length s.bits
    → walk operation_fault with_operation s n raws ≡ None → AreKept s (fold with_operation s raws)
ops_kept [] s n all same none = record { news = []; behind = sym (append-nil s.ops); legal = tt }
ops_kept (o ∷ os) s n all same none =
    let r = or_none (operation_fault s n o)
    (walk operation_fault with_operation (with_operation s o) (n + 1) os) none in
    let op : Op = op_of s o in
    let next : Scope = with_operation s o in
    let is : next ≡ with_op (with_results s o.results) op = operation_scope s o in
    let params : next.params ≡ s.params = ap (λ t. t.params) is in
    let bits : next.bits ≡ s.bits ++ op_bits s.params s.bits op = ap (λ t. t.bits) is in
    let ops : next.ops ≡ s.ops ++ op ∷ [] = ap (λ t. t.ops) is in
    let names : next.names ≡ s.names ++ o.results = ap (λ t. t.names) is in
    let kept = op_kept s n o all same r.0 in
    let bit_count : length (op_bits s.params s.bits op) ≡ length o.results =
    bits_count op.kind _ _ _ ∙ sym kept.results ∙ ap length (op_targets s o)
    ∙ length-map o.results (target_of s.params) in
    let count : length next.names ≡ length next.bits =
    let a = ap length names ∙ length-append s.names o.results in
    let b = ap length bits ∙ length-append s.bits (op_bits s.params s.bits op) in
    omega arith in
    let rest = ops_kept os next (n + 1) (subst (AllByRecursion IsParam) (sym params) all) count r.1 in
    let legal : AreOps s.params (s.bits ++ op_bits s.params s.bits op) rest.news =
    subst (λ (b : List Bool). AreOps s.params b rest.news) bits
    (subst (λ (ps : List Param). AreOps ps next.bits rest.news) params rest.legal) in
    record {
      news = op ∷ rest.news;
      behind = rest.behind ∙ ap (λ xs. xs ++ rest.news) ops ∙ append_assoc s.ops (op ∷ []) rest.news;
      legal = (kept, legal);
    }
