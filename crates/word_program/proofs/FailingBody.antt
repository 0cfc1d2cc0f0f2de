-- The first fault of the operations: of the form of each, of its arguments, and of its results.
use Rattle.std.proofs.Common.{◌≡◌, ℕ, ◌+◌, ◌<◌, ◌⊎◌, inl, inr, Bool, true, false, ◌&&◌, ◌||◌, not, List, length}
use Rattle.std.proofs.Common.{refl, sym, ◌∙◌, ap, subst, arith}
use Rattle.std.proofs.lemmas.Bool.{or_cases}
use Rattle.std.proofs.lemmas.Option.{slice_get_within}
use Rattle.std.specs.Prelude.{Option, Some, None, is_some, is_none, option_map, cond}
use Rattle.std.specs.Option.{option_map_or}
use Rattle.std.specs.List.{position_from}
use Rattle.std.specs.Str.{bytes_eq}
use Rattle.base.specs.Identifiers.{is_identifier}
use Rattle.base.specs.Numbers.{word}
use Rattle.word_text.specs.Texts.{is_unused, is_word_form, starts_with_digit}
use Rattle.word_text.specs.declared.fault.Section.TheVariants.{Body}
use Rattle.word_text.specs.declared.parts.RawOp.{RawOp}
use Rattle.word_operations.specs.Operations.{kind_named, needs_bit, needs_shift}
use Rattle.word_program.specs.declared.parameter.Param.{Param}
use Rattle.word_program.specs.declared.operation.Operand.{Operand}
use Rattle.word_program.specs.declared.operation.Operand.TheVariants as operands
use Rattle.word_program.specs.declared.params.ParamWord.{ParamWord}
use Rattle.word_program.specs.Values.{is_bit_by}
use Rattle.word_program.specs.Walk.{RuleFault, place_in, at, walk}
use Rattle.word_program.specs.Rules.{Scope, param_named, value_named, operand_of, named_operand, array_operand}
use Rattle.word_program.specs.Rules.{operand_or, is_shift, argument_rules}
use Rattle.word_program.specs.Rules.{is_written, output_at, result_rules, kind_or, has_arity, shape_rules}
use Rattle.word_program.specs.Rules.{argument_fault, result_fault, with_result, operation_fault, with_operation, start}
use Rattle.word_program.specs.Failing.{OperationFails, ArgumentFails, ResultFails, turn, IsBefore, by_item, by_part}
use Rattle.word_program.proofs.RowLemmas.{not_true, and_true, at_none, some_of}
use Rattle.word_program.proofs.BodyLemmas.{shape_kept}
use Rattle.word_program.proofs.FailingNames.{none_by_test, or_false, and_both, or_left, or_right}
use Rattle.word_program.proofs.FailingNames.{found_name, name_found, found_param, param_found}
use Rattle.word_program.proofs.FailingNames.{written_contains, contains_written}
use Rattle.word_program.proofs.FailingOrder.{Finds, HasFailed, At, AllBefore, Somewhere, finds_at, finds_or, finds_walk}

-- of two faults of one operation the one at the earlier part is before the other
within : (i p q : ℕ) (f g : RuleFault) → f.1 ≡ place_in Body i p → g.1 ≡ place_in Body i q → p < q → IsBefore f g
within i p q f g fp gp lt =
    let ft : turn f.0 f.1.section ≡ 3 = ap (λ p. turn f.0 p.section) fp in
    let gt : turn g.0 g.1.section ≡ 3 = ap (λ p. turn g.0 p.section) gp in
    let fi : f.1.item ≡ i = ap (λ p. p.item) fp in
    let gi : g.1.item ≡ i = ap (λ p. p.item) gp in
    let fn : f.1.inner ≡ p = ap (λ p. p.inner) fp in
    let gn : g.1.inner ≡ q = ap (λ p. p.inner) gp in
    by_part (ft ∙ sym gt) (fi ∙ sym gi) (omega arith)

-- ---- the form of an operation

operation_failed : (o : RawOp) (code : ℕ) → OperationFails o code → HasFailed code (shape_rules o)
unfolding shape_rules
operation_failed o code (OperationFails.unknown e h) = inl (e, ap is_none h)
operation_failed o code (OperationFails.arity kind e h a) =
    inr (inl (e, ap (λ k. not (has_arity (kind_or k) o)) h ∙ ap not a))

abbrev pub AtOperation : ℕ → RawOp → RuleFault → Type 0
AtOperation i o = At (place_in Body i 0) (OperationFails o)

shape_found : (i : ℕ) (o : RawOp) → Finds (AtOperation i o) (at (place_in Body i 0) (shape_rules o))
unfolding shape_rules
shape_found i o =
    finds_at (OperationFails o) (place_in Body i 0) (shape_rules o) (λ c d a b. refl) refl (
      (λ e. OperationFails.unknown refl (none_by_test _ e)),
      λ n7. (
        (λ e.
            let k = some_of (kind_named o.operation) n7 in
            OperationFails.arity k.0 refl k.1
            (not_true _ (subst (λ p. not (has_arity (kind_or p) o) ≡ true) k.1 e))),
        λ n8. tt,
      ),
    )
    (operation_failed o)

-- ---- an argument

-- what begins with a digit is an operand where it is a word
literal_operand : (s : Scope) (text : List ℕ) → starts_with_digit text ≡ true
    → operand_of s text ≡ option_map operands.Literal (word text)
unfolding operand_of
literal_operand s text h =
    ap (λ b. cond b (option_map operands.Literal (word text))
    (cond (is_identifier text) (named_operand s text) (array_operand s.params text))) h

no_literal : (o : Option ℕ) → option_map operands.Literal o ≡ None → o ≡ None
no_literal None e = refl
no_literal (Some n) e = absurd (cc)

-- where neither the rule of a name nor that of a word fails, there is an operand
known_operand : (digit : Bool) (o : Option Operand) → (not digit && is_none o) ≡ false
    → (digit && is_none o) ≡ false → (a : Operand) × (o ≡ Some a)
known_operand digit (Some a) p q = (a, refl)
known_operand true None p q = absurd (cc)
known_operand false None p q = absurd (cc)

argument_failed : (s : Scope) (o : RawOp) (number : ℕ) (text : List ℕ) (code : ℕ)
    → ArgumentFails s o number text code
    → HasFailed code (argument_rules s (kind_or (kind_named o.operation)) number text)
unfolding argument_rules
argument_failed s o number text code (ArgumentFails.no_operand e d n) =
    inl (e, and_both _ _ (ap not d) (ap is_none n))
argument_failed s o number text code (ArgumentFails.no_word e d n) =
    let none : operand_of s text ≡ None = literal_operand s text d ∙ ap (option_map operands.Literal) n in
    inr (inl (e, and_both _ _ d (ap is_none none)))
argument_failed s o number text code (ArgumentFails.shift kind operand e k needed is fails) =
    inr (inr (inl (
      e,
      and_both _ _ (ap (λ n. needs_shift (kind_or n) number) k ∙ needed)
          (ap (λ a. not (is_shift (operand_or a))) is ∙ ap not fails),
    )))
argument_failed s o number text code (ArgumentFails.bit kind operand e k needed is fails) =
    inr (inr (inr (inl (
      e,
      and_both _ _ (ap (λ n. needs_bit (kind_or n) number) k ∙ needed)
          (ap (λ a. not (is_bit_by s.params s.bits (operand_or a))) is ∙ ap not fails),
    ))))

-- a fault of the argument with this number of the operation with the number i
abbrev pub AtArgument : Scope → ℕ → RawOp → Unit {0} → ℕ → List ℕ → RuleFault → Type 0
AtArgument s i o u number text = At (place_in Body i (1 + number)) (ArgumentFails s o number text)

argument_found : (s : Scope) (i : ℕ) (o : RawOp) → kind_named o.operation ≡ Some (kind_or (kind_named o.operation))
    → (u : Unit {0}) (number : ℕ) (text : List ℕ) → Finds (AtArgument s i o u number text)
    (argument_fault s i (kind_or (kind_named o.operation)) u number text)
unfolding argument_rules
argument_found s i o named u number text =
    let kind = kind_or (kind_named o.operation) in
    finds_at (ArgumentFails s o number text) (place_in Body i (1 + number)) (argument_rules s kind number text)
    (λ c d a b. refl) refl (
      (λ e.
          let p = and_true _ _ e in
          ArgumentFails.no_operand refl (not_true _ p.0) (none_by_test _ p.1)),
      λ n9. (
        (λ e.
            let p = and_true _ _ e in
            let none : operand_of s text ≡ None = none_by_test _ p.1 in
            ArgumentFails.no_word refl p.0 (no_literal (word text) (sym (literal_operand s text p.0) ∙ none))),
        λ n11. (
          (λ e.
              let p = and_true (needs_shift kind number) _ e in
              let a = known_operand (starts_with_digit text) (operand_of s text) n9 n11 in
              ArgumentFails.shift kind a.0 refl named p.0 a.1
              (not_true _ (subst (λ x. not (is_shift (operand_or x)) ≡ true) a.1 p.1))),
          λ n12. (
            (λ e.
                let p = and_true (needs_bit kind number) _ e in
                let a = known_operand (starts_with_digit text) (operand_of s text) n9 n11 in
                ArgumentFails.bit kind a.0 refl named p.0 a.1
                (not_true _ (subst (λ x. not (is_bit_by s.params s.bits (operand_or x)) ≡ true) a.1 p.1))),
            λ n13. tt,
          ),
        ),
      ),
    )
    (argument_failed s o number text)

abbrev pub InArguments : Scope → ℕ → RawOp → RuleFault → Type 0
InArguments s i o = Somewhere (AtArgument s i o) (λ u text. u) tt 0 o.arguments

arguments_found : (s : Scope) (i : ℕ) (o : RawOp) → kind_named o.operation ≡ Some (kind_or (kind_named o.operation))
    → Finds (InArguments s i o)
    (walk (argument_fault s i (kind_or (kind_named o.operation))) (λ u text. u) tt 0 o.arguments)
arguments_found s i o named =
    finds_walk (AtArgument s i o) (argument_fault s i (kind_or (kind_named o.operation))) (λ u text. u)
    (argument_found s i o named) order o.arguments tt 0
  where
    order : (u v : Unit {0}) (n m : ℕ) (x y : List ℕ) → n < m
        → AllBefore (AtArgument s i o u n x) (AtArgument s i o v m y)
    order u v n m x y lt f g a b = within i (1 + n) (1 + m) f g a.0 b.0 (omega arith)

-- ---- a result

-- what is an identifier, and no other text, is found among names
value_name : (names : List (List ℕ)) (text : List ℕ) → is_identifier text ≡ true
    → is_some (value_named names text) ≡ is_some (position_from (λ n. bytes_eq n text) 0 names)
value_name names text h = ap (λ b. is_some (cond b (position_from (λ n. bytes_eq n text) 0 names) None)) h

result_failed : (s : Scope) (text : List ℕ) (code : ℕ) → ResultFails s.params s.names s.targets text code
    → HasFailed code (result_rules s text)
unfolding result_rules
result_failed s text code (ResultFails.form e i u w) =
    let none : (is_identifier text || (is_unused text || is_word_form text)) ≡ false =
    ap (λ a. a || (is_unused text || is_word_form text)) i ∙ ap (λ b. b || is_word_form text) u ∙ w in
    inl (e, ap not none)
result_failed s text code (ResultFails.parameter e i h) =
    inr (inl (e, and_both _ _ i (or_left _ _ (param_found s.params text h))))
result_failed s text code (ResultFails.taken e i h) =
    inr (inl (e, and_both _ _ i (or_right _ _ (value_name s.names text i ∙ name_found s.names text h))))
result_failed s text code (ResultFails.no_output e f n) =
    let t : option_map_or (λ w. is_written s.targets w.param w.word) (output_at s.params text) true ≡ true =
    ap (λ o. option_map_or (λ w. is_written s.targets w.param w.word) o true) n in
    inr (inr (inl (e, and_both _ _ f t)))
result_failed s text code (ResultFails.written w e f is h) =
    let t : option_map_or (λ w. is_written s.targets w.param w.word) (output_at s.params text) true ≡ true =
    ap (λ o. option_map_or (λ w. is_written s.targets w.param w.word) o true) is
    ∙ contains_written s.targets w.param w.word h in
    inr (inr (inl (e, and_both _ _ f t)))

result_taken : (s : Scope) (text : List ℕ) → is_identifier text ≡ true
    → (is_some (param_named s.params text) ≡ true) ⊎ (is_some (value_named s.names text) ≡ true)
    → ResultFails s.params s.names s.targets text 10
result_taken s text i (inl h) = ResultFails.parameter refl i (found_param s.params text h)
result_taken s text i (inr h) =
    ResultFails.taken refl i (found_name s.names text (sym (value_name s.names text i) ∙ h))

result_unwritable : (s : Scope) (text : List ℕ) → is_word_form text ≡ true → (o : Option ParamWord)
    → output_at s.params text ≡ o → option_map_or (λ w. is_written s.targets w.param w.word) o true ≡ true
    → ResultFails s.params s.names s.targets text 14
result_unwritable s text f None is e = ResultFails.no_output refl f is
result_unwritable s text f (Some w) is e =
    ResultFails.written w refl f is (written_contains s.targets w.param w.word e)

-- a fault of the result with this number of an operation with this many arguments
abbrev pub AtResult : ℕ → ℕ → Scope → ℕ → List ℕ → RuleFault → Type 0
AtResult i arguments s number text =
    At (place_in Body i (1 + arguments + number)) (ResultFails s.params s.names s.targets text)

result_found : (i arguments : ℕ) (s : Scope) (number : ℕ) (text : List ℕ)
    → Finds (AtResult i arguments s number text) (result_fault i arguments s number text)
unfolding result_rules
result_found i arguments s number text =
    finds_at (ResultFails s.params s.names s.targets text) (place_in Body i (1 + arguments + number))
    (result_rules s text) (λ c d a b. refl) refl (
      (λ e.
          let p = or_false (is_identifier text) _ (not_true _ e) in
          let q = or_false (is_unused text) _ p.1 in
          ResultFails.form refl p.0 q.0 q.1),
      λ n2. (
        (λ e.
            let p = and_true (is_identifier text) _ e in
            result_taken s text p.0 (or_cases (is_some (param_named s.params text)) _ p.1)),
        λ n10. (
          (λ e.
              let p = and_true (is_word_form text) _ e in
              result_unwritable s text p.0 (output_at s.params text) refl p.1),
          λ n14. tt,
        ),
      ),
    )
    (result_failed s text)

abbrev pub InResults : Scope → ℕ → RawOp → RuleFault → Type 0
InResults s i o = Somewhere (AtResult i (length o.arguments)) with_result s 0 o.results

results_found : (s : Scope) (i : ℕ) (o : RawOp)
    → Finds (InResults s i o) (walk (result_fault i (length o.arguments)) with_result s 0 o.results)
results_found s i o =
    finds_walk (AtResult i (length o.arguments)) (result_fault i (length o.arguments)) with_result
    (result_found i (length o.arguments)) order o.results s 0
  where
    order : (s t : Scope) (n m : ℕ) (x y : List ℕ) → n < m
        → AllBefore (AtResult i (length o.arguments) s n x) (AtResult i (length o.arguments) t m y)
    order s t n m x y lt f g a b =
        within i (1 + length o.arguments + n) (1 + length o.arguments + m) f g a.0 b.0 (omega arith)

-- ---- an operation

-- a fault of the operation with the number i
abbrev pub InOperation : Scope → ℕ → RawOp → RuleFault → Type 0
InOperation s i o f = AtOperation i o f ⊎ (InArguments s i o f ⊎ InResults s i o f)

operation_found : (s : Scope) (i : ℕ) (o : RawOp) → Finds (InOperation s i o) (operation_fault s i o)
unfolding operation_fault
operation_found s i o =
    finds_or (AtOperation i o) (λ f. InArguments s i o f ⊎ InResults s i o f) _ _ shape_first (shape_found i o)
    (λ none.
    let shape = shape_kept o (at_none (place_in Body i 0) (shape_rules o) none) in
    finds_or (InArguments s i o) (InResults s i o) _ _ arguments_first (arguments_found s i o shape.named)
    (λ e. results_found s i o))
  where
    shape_first : AllBefore (AtOperation i o) (λ f. InArguments s i o f ⊎ InResults s i o f)
    shape_first f g a (inl w) = within i 0 (1 + (0 + w.0)) f g a.0 w.3.0 (omega arith)
    shape_first f g a (inr w) = within i 0 (1 + length o.arguments + (0 + w.0)) f g a.0 w.3.0 (omega arith)

    arguments_first : AllBefore (InArguments s i o) (InResults s i o)
    arguments_first f g a b =
        let k = slice_get_within o.arguments a.0 a.1 a.2 in
        within i (1 + (0 + a.0)) (1 + length o.arguments + (0 + b.0)) f g a.3.0 b.3.0 (omega arith)

-- where a fault of an operation is
pub operation_place : (s : Scope) (i : ℕ) (o : RawOp) (f : RuleFault) → InOperation s i o f
    → (inner : ℕ) × (f.1 ≡ place_in Body i inner)
operation_place s i o f (inl a) = (0, a.0)
operation_place s i o f (inr (inl w)) = (1 + (0 + w.0), w.3.0)
operation_place s i o f (inr (inr w)) = (1 + length o.arguments + (0 + w.0), w.3.0)

-- a fault of an operation of a body
abbrev pub InBody : List Param → List RawOp → RuleFault → Type 0
InBody params body = Somewhere InOperation with_operation (start params) 0 body

pub operations_found : (params : List Param) (body : List RawOp)
    → Finds (InBody params body) (walk operation_fault with_operation (start params) 0 body)
operations_found params body =
    finds_walk InOperation operation_fault with_operation operation_found order body (start params) 0
  where
    order : (s t : Scope) (n m : ℕ) (x y : RawOp) → n < m → AllBefore (InOperation s n x) (InOperation t m y)
    order s t n m x y lt f g a b =
        let p = operation_place s n x f a in
        let q = operation_place t m y g b in
        let ft : turn f.0 f.1.section ≡ 3 = ap (λ p. turn f.0 p.section) p.1 in
        let gt : turn g.0 g.1.section ≡ 3 = ap (λ p. turn g.0 p.section) q.1 in
        let fi : f.1.item ≡ n = ap (λ p. p.item) p.1 in
        let gi : g.1.item ≡ m = ap (λ p. p.item) q.1 in
        by_item (ft ∙ sym gt) (omega arith)
