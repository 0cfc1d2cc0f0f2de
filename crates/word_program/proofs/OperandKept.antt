-- What operands and targets keep.
use Rattle.std.proofs.Common.{◌≡◌, ℕ, ◌+◌, ◌^◌, ◌<◌, Bool, true, false, List, [], ◌∷◌, length, refl, arith, zero, suc}
use Rattle.std.proofs.Common.{sym, ◌∙◌, ap, subst}
use Rattle.std.proofs.lemmas.Bool.Decides.{nat_tests}
use Rattle.std.specs.Prelude.{Option, Some, None, ◌&&◌, nat_lt, cond, option_map, option_and_then, slice_get}
use Rattle.std.specs.Prelude.{if◌then◌else◌}
use Rattle.std.specs.List.{AllByRecursion, position_from}
use Rattle.std.specs.Option.{option_or, option_map_or}
use Rattle.std.specs.Str.{bytes_eq}
use Rattle.std.specs.Str.Parse.{digits_value}
use Rattle.base.proofs.Arithmetic.{below_by_test}
use Rattle.base.specs.Options.{guard}
use Rattle.base.specs.Identifiers.{is_identifier}
use Rattle.word_text.specs.Texts.{is_unused, starts_with_digit, word_parts}
use Rattle.base.specs.Numbers.{word}
use Rattle.word_text.specs.Numbers.{index_below}
use Rattle.word_program.specs.declared.parameter.Param.{Param}
use Rattle.word_program.specs.declared.parameter.Role.{Role}
use Rattle.word_program.specs.declared.parameter.Role.TheVariants.{Output, InputArray, InputScalar}
use Rattle.word_program.specs.declared.params.ParamWord.{ParamWord}
use Rattle.word_program.specs.declared.operation.Operand.{Operand}
use Rattle.word_program.specs.declared.operation.Operand.TheVariants as operands
use Rattle.word_program.specs.declared.operation.Target.{Target}
use Rattle.word_program.specs.declared.operation.Target.TheVariants as targets
use Rattle.word_program.specs.Values.{is_output, is_input_array, is_scalar}
use Rattle.word_program.specs.Rules.{Scope, param_named, value_named, word_at, scalar_at, named_operand, array_operand}
use Rattle.word_program.specs.Rules.{operand_of, output_at, target_of}
use Rattle.word_program.specs.Accepted.{IsParam, IsOperand, IsTarget}
use Rattle.base.proofs.Digits.{word_fits}
use Rattle.base.proofs.Options.{bind_some, guard_some}
use Rattle.word_program.proofs.RowLemmas.{and_true}
use Rattle.word_program.proofs.ParamKept.{index_range}

-- ---- names

place_by : (b : Bool) (i n : ℕ) (o : Option ℕ) (m : ℕ) → (o ≡ Some i → i < n + 1 + m) → cond b (Some n) o ≡ Some i
    → i < n + suc m
place_by true i n o m rest e = let same : n ≡ i = cc in omega arith
place_by false i n o m rest e = let r = rest e in omega arith

-- what is found in a list stands in it
pub place_range : {K : Type 0} (test : K → Bool) (xs : List K) (n i : ℕ) → position_from test n xs ≡ Some i
    → i < n + length xs
place_range test [] n i e = absurd (cc)
place_range test (x ∷ xs) n i e = place_by (test x) i n (position_from test (n + 1) xs) (length xs)
    (place_range test xs (n + 1) i) e

known_by : (b : Bool) (o : Option ℕ) (i m : ℕ) → (o ≡ Some i → i < m) → cond b o None ≡ Some i → i < m
known_by true o i m h e = h e
known_by false o i m h e = absurd (cc)

pub known_range : (names : List (List ℕ)) (name : List ℕ) (i : ℕ) → value_named names name ≡ Some i → i < length names
known_range names name i e =
    known_by (is_identifier name) (position_from (λ n. bytes_eq n name) 0 names) i (length names)
    (λ (f : position_from (λ n. bytes_eq n name) 0 names ≡ Some i). let r = place_range
    (λ n. bytes_eq n name) names 0 i f in omega arith) e

-- an item of a list of which each keeps P
pub all_get : {X : Type 0} (P : X → Type 0) (xs : List X) (i : ℕ) (x : X) → AllByRecursion P xs
    → slice_get xs i ≡ Some x → P x
all_get P [] i x all e = absurd (cc)
all_get P (y ∷ ys) zero x all e = let same : y ≡ x = cc in subst P same all.0
all_get P (y ∷ ys) (suc i) x all e = all_get P ys i x all.1 e

-- ---- words of parameters

scalar_input : (role : Role) → is_scalar role ≡ true → is_output role ≡ false
scalar_input Output e = absurd (cc)
scalar_input InputArray e = refl
scalar_input InputScalar e = refl

array_input : (role : Role) → is_input_array role ≡ true → is_output role ≡ false
array_input Output e = absurd (cc)
array_input InputArray e = refl
array_input InputScalar e = refl

input_is : (params : List Param) (values param number : ℕ) (p : Param) → slice_get params param ≡ Some p
    → is_output p.role ≡ false → number < length p.bounds
    → IsOperand params values (operands.Input param number)
input_is params values param number p e role lt = rw e (role, lt)

output_is : (params : List Param) (param number : ℕ) (p : Param) → slice_get params param ≡ Some p
    → is_output p.role ≡ true → number < length p.bounds
    → IsTarget params (targets.Output param number)
output_is params param number p e role lt = rw e (role, lt)

pub scalar_is : (params : List Param) (values : ℕ) (name : List ℕ) (o : Operand) → AllByRecursion IsParam params
    → scalar_at params name ≡ Some o → IsOperand params values o
unfolding scalar_at
scalar_is params values name o all e =
    let a = bind_some (λ param. option_and_then (λ (p : Param). guard (is_scalar p.role) (operands.Input param 0))
    (slice_get params param)) (param_named params name) o e in
    let b = bind_some (λ (p : Param). guard (is_scalar p.role) (operands.Input a.0 0)) (slice_get params a.0) o a.2 in
    let h = guard_some (is_scalar b.0.role) (operands.Input a.0 0) o b.2 in
    let some = (all_get IsParam params a.0 b.0 all b.1).some_words in
    subst (IsOperand params values) h.1 (input_is params values a.0 0 b.0 b.1 (scalar_input b.0.role h.0) (omega arith))

-- a word of a parameter, which has it
pub record IsWordOf (params : List Param) (w : ParamWord) : Type 0 where
  pub found : Param
  pub there : slice_get params w.param ≡ Some found
  pub role : w.role ≡ found.role
  pub within : w.word < length found.bounds

pub word_is : (params : List Param) (text : List ℕ) (w : ParamWord) → word_at params text ≡ Some w → IsWordOf params w
unfolding word_at
word_is params text w e =
    let a = bind_some _ (word_parts text) w e in
    let b = bind_some _ (param_named params a.0.0) w a.2 in
    let c = bind_some _ (slice_get params b.0) w b.2 in
    let d = bind_some _ (index_below a.0.1 (length c.0.bounds)) w c.2 in
    let made : Some (record { role = c.0.role; param = b.0; word = d.0 }) ≡ Some w = d.2 in
    let same : record { role = c.0.role; param = b.0; word = d.0 } ≡ w = cc in
    let near = index_range a.0.1 (length c.0.bounds) d.0 d.1 in
    subst (IsWordOf params) same record { found = c.0; there = c.1; role = refl; within = omega arith }

pub array_is : (params : List Param) (values : ℕ) (text : List ℕ) (o : Operand) → array_operand params text ≡ Some o
    → IsOperand params values o
unfolding array_operand
array_is params values text o e =
    let a = bind_some (λ (w : ParamWord). guard (is_input_array w.role) (operands.Input w.param w.word))
    (word_at params text) o e in
    let h = guard_some (is_input_array a.0.role) (operands.Input a.0.param a.0.word) o a.2 in
    let is = word_is params text a.0 a.1 in
    let role : is_output is.found.role ≡ false = ap is_output (sym is.role) ∙ array_input a.0.role h.0 in
    subst (IsOperand params values) h.1 (input_is params values a.0.param a.0.word is.found is.there role is.within)

-- ---- operands

literal_is : (params : List Param) (values : ℕ) (o : Option ℕ) (x : Operand) → ((n : ℕ) → o ≡ Some n → n < 2 ^ 64)
    → option_map operands.Literal o ≡ Some x → IsOperand params values x
literal_is params values None x fits e = absurd (cc)
literal_is params values (Some n) x fits e = let same : operands.Literal n ≡ x = cc in
    subst (IsOperand params values) same (fits n refl)

value_is : (params : List Param) (values : ℕ) (o : Option ℕ) (x : Operand) → ((n : ℕ) → o ≡ Some n → n < values)
    → option_map operands.Value o ≡ Some x → IsOperand params values x
value_is params values None x range e = absurd (cc)
value_is params values (Some n) x range e = let same : operands.Value n ≡ x = cc in
    subst (IsOperand params values) same (range n refl)

either_is : (params : List Param) (values : ℕ) (o p : Option Operand) (x : Operand)
    → (o ≡ Some x → IsOperand params values x) → (p ≡ Some x → IsOperand params values x)
    → option_or o p ≡ Some x → IsOperand params values x
either_is params values None p x f g e = g e
either_is params values (Some y) p x f g e = f e

chosen_is : (params : List Param) (values : ℕ) (b : Bool) (o p : Option Operand) (x : Operand)
    → (o ≡ Some x → IsOperand params values x) → (p ≡ Some x → IsOperand params values x)
    → (if b then o else p) ≡ Some x → IsOperand params values x
chosen_is params values true o p x f g e = f e
chosen_is params values false o p x f g e = g e

-- the operand that a text is stands for a word that is there
pub operand_is : (s : Scope) (text : List ℕ) (x : Operand) → AllByRecursion IsParam s.params
    → operand_of s text ≡ Some x → IsOperand s.params (length s.names) x
unfolding operand_of
operand_is s text x all e =
    chosen_is s.params (length s.names) (starts_with_digit text) (option_map operands.Literal (word text)) _ x
    (literal_is s.params (length s.names) (word text) x (word_fits text))
    (chosen_is s.params (length s.names) (is_identifier text) (named_operand s text) (array_operand s.params text) x
    (either_is s.params (length s.names) (scalar_at s.params text)
    (option_map operands.Value (value_named s.names text)) x
    (scalar_is s.params (length s.names) text x all)
    (value_is s.params (length s.names) (value_named s.names text) x (known_range s.names text)))
    (array_is s.params (length s.names) text x))
    e

-- ---- targets

target_by : (params : List Param) (o : Option ParamWord)
    → ((w : ParamWord) → o ≡ Some w → IsTarget params (targets.Output w.param w.word))
    → IsTarget params (option_map_or (λ w. targets.Output w.param w.word) o targets.Unused)
target_by params None f = tt
target_by params (Some w) f = f w refl

target_if : (params : List Param) (a b : Bool) (t : Target) → IsTarget params t
    → IsTarget params (if a then targets.Value else (if b then targets.Unused else t))
target_if params true b t is = tt
target_if params false true t is = tt
target_if params false false t is = is

pub output_target : (params : List Param) (text : List ℕ) (w : ParamWord) → output_at params text ≡ Some w
    → IsTarget params (targets.Output w.param w.word)
unfolding output_at
output_target params text w e =
    let a = bind_some (λ (v : ParamWord). guard (is_output v.role) v) (word_at params text) w e in
    let h = guard_some (is_output a.0.role) a.0 w a.2 in
    let is = word_is params text a.0 a.1 in
    let role : is_output is.found.role ≡ true = ap is_output (sym is.role) ∙ h.0 in
    subst (λ (v : ParamWord). IsTarget params (targets.Output v.param v.word)) h.1
    (output_is params a.0.param a.0.word is.found is.there role is.within)

-- the target of a result is there
pub target_is : (params : List Param) (text : List ℕ) → IsTarget params (target_of params text)
unfolding target_of
target_is params text = target_if params (is_identifier text) (is_unused text) _
    (target_by params (output_at params text) (output_target params text))
