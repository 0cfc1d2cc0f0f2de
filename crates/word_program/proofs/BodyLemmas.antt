-- What is known of the scope after operations.
use Rattle.std.proofs.Common.{◌≡◌, ℕ, List, [], ◌∷◌, ◌++◌, map, refl, sym, ◌∙◌, ap, subst, append_assoc, ◌+◌, length}
use Rattle.std.proofs.Common.{arith}
use Rattle.std.proofs.lemmas.List.{append-nil, length-append, length-map}
use Rattle.std.proofs.lemmas.Grind.{flat_map-append}
use Rattle.std.proofs.lemmas.Bool.Decides.{nat_tests}
use Rattle.std.specs.Prelude.{fold, Option, Some, None, is_none, not, ◌==◌, ◌*◌, ◌≤◌, true, false}
use Rattle.base.proofs.Arithmetic.{equal_by_test}
use Rattle.word_text.specs.declared.parts.RawOp.{RawOp}
use Rattle.word_program.specs.declared.parameter.Param.{Param}
use Rattle.word_program.specs.declared.operation.Op.{Op}
use Rattle.word_operations.specs.declared.kind.Kind.{Kind}
use Rattle.word_operations.specs.declared.kind.Kind.TheVariants.{AddCarry, SubBorrow, MulX, CMov, Add, Sub, Mul, And}
use Rattle.word_operations.specs.declared.kind.Kind.TheVariants.{Or, Xor, Not, Copy, Shl, Shr, Shrd}
use Rattle.word_text.specs.declared.fault.Section.TheVariants.{Body}
use Rattle.word_program.specs.Walk.{first_code, walk, at, place_in}
use Rattle.word_program.proofs.RowLemmas.{row_passes, at_none, or_none, not_false, and_true}
use Rattle.word_program.specs.declared.operation.Operand.{Operand}
use Rattle.word_program.specs.declared.operation.Target.{Target}
use Rattle.word_operations.specs.Operations.{kind_named, argument_count, result_count}
use Rattle.word_program.specs.Values.{targets_of, bits_of, op_bits}
use Rattle.word_program.specs.Rules.{Scope, kind_or, operand_of, operand_or, target_of, with_result, with_op, op_on}
use Rattle.word_program.specs.Rules.{op_of, with_operation, start, scope_after, has_arity, shape_rules, argument_fault}
use Rattle.word_program.specs.Rules.{result_fault, operation_fault}

-- the scope that the parts of an operation make is the one after it
pub operation_is : (s t : Scope) (o : RawOp) (kind : Kind) (texts outs : List (List ℕ)) (arguments : List Operand)
    (ts : List Target)
    → texts ≡ o.arguments → outs ≡ o.results → kind ≡ kind_or (kind_named o.operation)
    → arguments ≡ map (λ text. operand_or (operand_of s text)) texts
    → ts ≡ map (target_of s.params) outs → t ≡ fold with_result s outs
    → with_op t (op_on kind arguments ts) ≡ with_operation s o
unfolding with_operation op_of
operation_is s t o kind texts outs arguments ts ea er ek eo et es = rw (es, ek, eo, et, ea, er) refl

-- the scope with the results of these texts
abbrev pub with_results : Scope → List (List ℕ) → Scope
with_results s texts = record {
  params = s.params;
  names = s.names ++ texts;
  targets = s.targets ++ map (target_of s.params) texts;
  bits = s.bits;
  ops = s.ops;
}

pub fold_results : (texts : List (List ℕ)) (s : Scope) → fold with_result s texts ≡ with_results s texts
fold_results [] s = rw (append-nil s.names, append-nil s.targets) refl
fold_results (text ∷ texts) s = fold_results texts (with_result s text)
    ∙ rw (
      append_assoc s.names (text ∷ []) texts,
      append_assoc s.targets (target_of s.params text ∷ []) (map (target_of s.params) texts),
    ) refl

-- the scope after an operation, field by field
pub operation_scope : (s : Scope) (o : RawOp) → with_operation s o ≡ with_op (with_results s o.results) (op_of s o)
unfolding with_operation
operation_scope s o = rw (fold_results o.results s) refl

pub op_targets : (s : Scope) (o : RawOp) → (op_of s o).targets ≡ map (target_of s.params) o.results
unfolding op_of
op_targets s o = refl

pub fold_more : {A B : Type 0} (f : B → A → B) (a : B) (xs : List A) (x : A)
    → fold f a (xs ++ x ∷ []) ≡ f (fold f a xs) x
fold_more f a [] x = refl
fold_more f a (y ∷ ys) x = fold_more f (f a y) ys x

pub targets_more : (ops : List Op) (op : Op) → targets_of (ops ++ op ∷ []) ≡ targets_of ops ++ op.targets
targets_more ops op = flat_map-append (λ (o : Op). o.targets) ops (op ∷ []) ∙ rw (append-nil op.targets) refl

-- the targets and the bits that a scope has are those of its operations
pub record IsScope (params : List Param) (s : Scope) : Type 0 where
  pub params_kept : s.params ≡ params
  pub targets_kept : s.targets ≡ targets_of s.ops
  pub bits_kept : s.bits ≡ bits_of params s.ops

pub scope_step : (params : List Param) (s : Scope) (o : RawOp) → IsScope params s → IsScope params (with_operation s o)
scope_step params s o is = subst (IsScope params) (sym (operation_scope s o)) record {
  params_kept = is.params_kept;
  targets_kept = rw (targets_more s.ops (op_of s o), op_targets s o, is.targets_kept) refl;
  bits_kept = rw (
    fold_more (λ bits op. bits ++ op_bits params bits op) [] s.ops (op_of s o),
    is.params_kept,
    is.bits_kept,
  ) refl;
}

pub scope_kept : (params : List Param) (raws : List RawOp) (s : Scope) → IsScope params s
    → IsScope params (fold with_operation s raws)
scope_kept params [] s is = is
scope_kept params (o ∷ os) s is = scope_kept params os (with_operation s o) (scope_step params s o is)

-- the same of the scope after a whole body
pub scope_fact : (params ps : List Param) (body : List RawOp) (s : Scope) → ps ≡ params → s ≡ scope_after ps body
    → IsScope params s
scope_fact params ps body s same is =
    let start_kept : IsScope params (start ps) = record { params_kept = same; targets_kept = refl; bits_kept = refl } in
    subst (IsScope params) (sym is) (scope_kept params body (start ps) start_kept)

-- as many operations as parts
pub ops_count : (raws : List RawOp) (s : Scope) → length (fold with_operation s raws).ops ≡ length s.ops + length raws
ops_count [] s = omega arith
ops_count (o ∷ os) s =
    let rest = ops_count os (with_operation s o) in
    let here : length (with_operation s o).ops ≡ length s.ops + 1 =
    ap (λ t. length t.ops) (operation_scope s o) ∙ length-append s.ops (op_of s o ∷ []) in
    omega arith

-- an operation has one result or two
pub result_count_limit : (kind : Kind) → result_count kind ≤ 2
result_count_limit AddCarry = omega arith
result_count_limit SubBorrow = omega arith
result_count_limit MulX = omega arith
result_count_limit CMov = omega arith
result_count_limit Add = omega arith
result_count_limit Sub = omega arith
result_count_limit Mul = omega arith
result_count_limit And = omega arith
result_count_limit Or = omega arith
result_count_limit Xor = omega arith
result_count_limit Not = omega arith
result_count_limit Copy = omega arith
result_count_limit (Shl count) = omega arith
result_count_limit (Shr count) = omega arith
result_count_limit (Shrd count) = omega arith

-- an operation of a form that breaks no rule has as many arguments and results as its kind
pub record HasShape (o : RawOp) : Type 0 where
  pub named : kind_named o.operation ≡ Some (kind_or (kind_named o.operation))
  pub arguments : length o.arguments ≡ argument_count (kind_or (kind_named o.operation))
  pub results : length o.results ≡ result_count (kind_or (kind_named o.operation))

named_kind : (o : Option Kind) → is_none o ≡ false → o ≡ Some (kind_or o)
named_kind None e = absurd (cc)
named_kind (Some kind) e = refl

pub shape_kept : (o : RawOp) → first_code (shape_rules o) ≡ None → HasShape o
unfolding shape_rules
shape_kept o none =
    let r7 = row_passes _ (is_none (kind_named o.operation))
    ((_, not (has_arity (kind_or (kind_named o.operation)) o)) ∷ []) none in
    let r8 = row_passes _ (not (has_arity (kind_or (kind_named o.operation)) o)) [] r7.1 in
    let counts = and_true (length o.arguments == argument_count (kind_or (kind_named o.operation)))
    (length o.results == result_count (kind_or (kind_named o.operation))) (not_false _ r8.0) in
    record {
      named = named_kind (kind_named o.operation) r7.0;
      arguments = equal_by_test _ _ counts.0;
      results = equal_by_test _ _ counts.1;
    }

-- an operation that breaks no rule: its form, its arguments and its results
pub record Passes (s : Scope) (n : ℕ) (o : RawOp) : Type 0 where
  pub shape : HasShape o
  pub arguments : walk (argument_fault s n (kind_or (kind_named o.operation))) (λ u text. u) tt 0 o.arguments ≡ None
  pub results : walk (result_fault n (length o.arguments)) with_result s 0 o.results ≡ None

pub operation_passes : (s : Scope) (n : ℕ) (o : RawOp) → operation_fault s n o ≡ None → Passes s n o
unfolding operation_fault
operation_passes s n o none =
    let a = or_none (at (place_in Body n 0) (shape_rules o)) _ none in
    let b = or_none (walk (argument_fault s n (kind_or (kind_named o.operation))) (λ u text. u) tt 0 o.arguments) _ a.1
    in
    record { shape = shape_kept o (at_none (place_in Body n 0) (shape_rules o) a.0); arguments = b.0; results = b.1 }

-- at most two values an operation
pub targets_count : (raws : List RawOp) (s : Scope) (n : ℕ) → walk operation_fault with_operation s n raws ≡ None
    → length (fold with_operation s raws).targets ≤ length s.targets + 2 * length raws
targets_count [] s n none = omega arith
targets_count (o ∷ os) s n none =
    let p = or_none (operation_fault s n o)
    (walk operation_fault with_operation (with_operation s o) (n + 1) os) none in
    let rest = targets_count os (with_operation s o) (n + 1) p.1 in
    let two : length o.results ≤ 2 = subst (λ (k : ℕ). k ≤ 2) (sym (operation_passes s n o p.0).shape.results)
    (result_count_limit _) in
    let here : length (with_operation s o).targets ≡ length s.targets + length o.results =
    ap (λ t. length t.targets) (operation_scope s o) ∙ length-append s.targets (map (target_of s.params) o.results)
    ∙ ap (λ k. length s.targets + k) (length-map o.results (target_of s.params)) in
    omega arith
