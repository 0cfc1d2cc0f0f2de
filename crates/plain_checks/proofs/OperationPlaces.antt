-- Where an operation with a number stands among a program's: its values and targets, and what is made before it.
use Rattle.std.proofs.Common.{◌≡◌, ℕ, zero, suc, ◌+◌, ◌<◌, ◌≤◌, Bool, List, [], ◌∷◌, ◌++◌, length, Some}
use Rattle.std.proofs.Common.{refl, sym, ap, ◌∙◌, subst, arith, append_assoc, append-nil, zero-add}
use Rattle.std.specs.Prelude.{fold, slice_get, slice_index}
use Rattle.std.specs.List.{AllByRecursion}
use Rattle.std.proofs.lemmas.List.{length-append}
use Rattle.std.proofs.lemmas.Option.{get_or_from_slice_get, same_Some, slice_get_within}
use Rattle.base.proofs.Arithmetic.{not_below_zero}
use Rattle.word_program.specs.declared.parameter.Param.{Param}
use Rattle.word_program.specs.declared.operation.Op.{Op}
use Rattle.word_program.specs.Values.{op_bits, targets_of}
use Rattle.word_program.specs.Accepted.{AreOps, IsOp, IsParam}
use Rattle.terms.specs.Tables.{Prefix}
use Rattle.term_store.specs.Interning.{AllMade}
use Rattle.program_nodes.specs.Sources.{and_op, op_made, operands_made}
use Rattle.program_nodes.proofs.SourceTables.{AreSourced, ops_grow, step_sourced}
use Rattle.dependency_graph.proofs.NeedLemmas.{results, results_more}
use Rattle.dependency_graph.proofs.OrderLemmas.{results_limit, results_next}
use Rattle.plain_checks.proofs.SourceResults.{many_results}

-- ---- its targets

get_front : {X : Type 0} (xs ys : List X) (n : ℕ) → n < length xs → slice_get (xs ++ ys) n ≡ slice_get xs n
get_front [] ys n h = absurd (not_below_zero n h)
get_front (x ∷ xs) ys zero h = refl
get_front (x ∷ xs) ys (suc n) h = get_front xs ys n (omega (arith, h))

get_behind : {X : Type 0} (xs ys : List X) (n m : ℕ) → m ≡ length xs + n → slice_get (xs ++ ys) m ≡ slice_get ys n
get_behind [] ys n m e = ap (slice_get ys) (e ∙ zero-add n)
get_behind (x ∷ xs) ys n zero e = absurd (not_below_zero n (omega (arith, e)))
get_behind (x ∷ xs) ys n (suc m) e = get_behind xs ys n m (omega (arith, e))

pub target_there : (ops : List Op) (number place : ℕ) (op : Op) → slice_get ops number ≡ Some op
    → place < length op.targets → slice_get (targets_of ops) (results ops number + place) ≡ slice_get op.targets place
target_there [] number place op e h = absurd cc
target_there (o ∷ ops) zero place op e h =
    let same : o ≡ op = same_Some o op e in
    ap (slice_get (targets_of (o ∷ ops))) (zero-add place)
    ∙ get_front o.targets (targets_of ops) place (subst (λ (x : Op). place < length x.targets) (sym same) h)
    ∙ ap (λ (x : Op). slice_get x.targets place) same
target_there (o ∷ ops) (suc number) place op e h =
    get_behind o.targets (targets_of ops) (results ops number + place) (results (o ∷ ops) (suc number) + place)
    (omega (arith, results_more o ops number (suc number) refl))
    ∙ target_there ops number place op e h

-- the operations behind it have their values behind its own
pub results_behind : (ops : List Op) (number : ℕ) (op : Op) → slice_get ops number ≡ Some op
    → results ops (suc number) ≡ results ops number + length op.targets
results_behind ops number op e =
    let next : number + 1 ≡ suc number = omega arith in
    ap (results ops) (sym next) ∙ results_next ops number op (slice_get_within ops number op e)
    ∙ ap (λ (x : Op). results ops number + length x.targets) (get_or_from_slice_get ops number op op e)

pub results_among : (ops : List Op) (number : ℕ) (op : Op) → slice_get ops number ≡ Some op
    → results ops number + length op.targets ≤ length (targets_of ops)
results_among ops number op e = omega (arith, results_limit ops (suc number), results_behind ops number op e)

-- ---- what is made before it

-- of operations that are made behind m
pub record Comes (ps : List Param) (m : AllMade) (ops : List Op) (number : ℕ) (op : Op) : Type 0 where
  pub before : AllMade
  pub bits : List Bool
  pub legal : IsOp ps bits op
  pub so : AreSourced ps bits before
  pub later : Prefix (op_made ps before.numbers before.table op).table (fold (and_op ps) m ops).table
  pub more : List ℕ
  pub numbers : (fold (and_op ps) m ops).numbers
      ≡ before.numbers ++ ((op_made ps before.numbers before.table op).numbers ++ more)
  pub first : length before.numbers ≡ length m.numbers + results ops number

-- an operation has as many nodes as targets
pub many_made : (ps : List Param) (m : AllMade) (bits : List Bool) (op : Op) → IsOp ps bits op
    → length (op_made ps m.numbers m.table op).numbers ≡ length op.targets
unfolding op_made
many_made ps m bits op is =
    let args = operands_made ps m.numbers m.table op.args in
    many_results op.kind args.table (slice_index args.numbers 0) (slice_index args.numbers 1)
    (slice_index args.numbers 2)
    ∙ sym is.results

-- the nodes so far stay in front
record GoesOn (ps : List Param) (m : AllMade) (ops : List Op) : Type 0 where
  more : List ℕ
  is : (fold (and_op ps) m ops).numbers ≡ m.numbers ++ more

goes_on : (ps : List Param) (m : AllMade) (ops : List Op) → GoesOn ps m ops
goes_on ps m [] = record { more = []; is = sym (append-nil m.numbers) }
goes_on ps m (op ∷ ops) =
    let rest = goes_on ps (and_op ps m op) ops in
    let here = (op_made ps m.numbers m.table op).numbers in
    record { more = here ++ rest.more; is = rest.is ∙ append_assoc m.numbers here rest.more }

pub comes : (ps : List Param) → AllByRecursion IsParam ps → (m : AllMade) (bits : List Bool) (ops : List Op)
    → AreOps ps bits ops → AreSourced ps bits m → (number : ℕ) (op : Op) → slice_get ops number ≡ Some op
    → Comes ps m ops number op
comes ps params m bits [] are so number op e = absurd cc
comes ps params m bits (o ∷ ops) are so zero op e =
    let n = and_op ps m o in
    let on = goes_on ps n ops in
    let next = step_sourced ps params bits m o are.0 so in
    let grows = ops_grow ps params ops (bits ++ op_bits ps bits o) n are.1 next in
    let here = (op_made ps m.numbers m.table o).numbers in
    subst (Comes ps m (o ∷ ops) 0) (same_Some o op e) (record {
      before = m;
      bits = bits;
      legal = are.0;
      so = so;
      later = grows.prefix;
      more = on.more;
      numbers = on.is ∙ append_assoc m.numbers here on.more;
      first = omega arith;
    })
comes ps params m bits (o ∷ ops) are so (suc number) op e =
    let n = and_op ps m o in
    let c = comes ps params n (bits ++ op_bits ps bits o) ops are.1 (step_sourced ps params bits m o are.0 so) number op
    e in
    let here = (op_made ps m.numbers m.table o).numbers in
    let both : length n.numbers ≡ length m.numbers + length here = length-append m.numbers here in
    let many = many_made ps m bits o are.0 in
    let first = c.first in
    record {
      before = c.before;
      bits = c.bits;
      legal = c.legal;
      so = c.so;
      later = c.later;
      more = c.more;
      numbers = c.numbers;
      first = omega (arith, first, both, many, results_more o ops number (suc number) refl);
    }
