-- An operand that is a value is one that was named: no operation reads an unused result or a word of an output.
use Rattle.std.proofs.Common.{◌≡◌, ℕ, suc, ◌+◌, Bool, true, false, List, [], ◌∷◌, ◌++◌, map, refl, sym, ◌∙◌}
use Rattle.std.proofs.Common.{ap, subst, arith}
use Rattle.std.proofs.lemmas.Option.{slice_get-map}
use Rattle.std.specs.Prelude.{Option, Some, None, cond, fold, option_map, slice_get, if◌then◌else◌}
use Rattle.std.specs.List.{AllByRecursion, position_from}
use Rattle.std.specs.Option.{option_or}
use Rattle.std.specs.Str.{bytes_eq}
use Rattle.std.proofs.lemmas.Slice.Eq.{bytes_eq-Decides}
use Rattle.base.specs.Identifiers.{is_identifier}
use Rattle.base.specs.Numbers.{word}
use Rattle.base.specs.Options.{guard}
use Rattle.base.proofs.Options.{bind_some, guard_some}
use Rattle.word_text.specs.declared.parts.RawOp.{RawOp}
use Rattle.word_text.specs.Texts.{starts_with_digit}
use Rattle.word_operations.specs.Operations.{operand_count, kind_named}
use Rattle.word_program.specs.declared.parameter.Param.{Param}
use Rattle.word_program.specs.declared.params.ParamWord.{ParamWord}
use Rattle.word_program.specs.declared.operation.Op.{Op}
use Rattle.word_program.specs.declared.operation.Operand.{Operand}
use Rattle.word_program.specs.declared.operation.Operand.TheVariants as operands
use Rattle.word_program.specs.declared.operation.Target.{Target}
use Rattle.word_program.specs.declared.operation.Target.TheVariants as targets
use Rattle.word_program.specs.Program.{Source}
use Rattle.word_program.specs.Values.{is_input_array, is_scalar, targets_of}
use Rattle.word_program.specs.Accepted.{IsKept}
use Rattle.word_program.specs.Rules.{Scope, param_named, value_named, word_at, scalar_at, named_operand, array_operand}
use Rattle.word_program.specs.Rules.{operand_of, operand_or, target_of, kind_or, op_of, with_op}
use Rattle.word_program.specs.Rules.{with_operation, start, scope_after, params_of, program_of}
use Rattle.word_program.proofs.OperandKept.{all_get}
use Rattle.word_program.proofs.BodyLemmas.{with_results, operation_scope, scope_fact}
use Rattle.plain_checks.proofs.Lists.{get_before, all_append, all_same, all_take}

-- ---- lists

map_append : {X Y : Type 0} (f : X → Y) (xs ys : List X) → map f (xs ++ ys) ≡ map f xs ++ map f ys
map_append f [] ys = refl
map_append f (x ∷ xs) ys = ap (λ l. f x ∷ l) (map_append f xs ys)

-- ---- names

-- the text with this number is this name
abbrev IsNameAt : List (List ℕ) → List ℕ → ℕ → Type 0
IsNameAt names name number = slice_get names number ≡ Some name

place_by : (b : Bool) (x name : List ℕ) (names : List (List ℕ)) (n v : ℕ) (o : Option ℕ) → (b ≡ true → x ≡ name)
    → (o ≡ Some v → (i : ℕ) × (v ≡ n + 1 + i) × IsNameAt names name i)
    → cond b (Some n) o ≡ Some v → (i : ℕ) × (v ≡ n + i) × IsNameAt (x ∷ names) name i
place_by true x name names n v o same rest e =
    let is : n ≡ v = cc in
    (0, omega arith, ap (λ t. Some t) (same refl))
place_by false x name names n v o same rest e =
    let r = rest e in
    let here = r.1 in
    (suc r.0, omega arith, r.2)

-- a name that is found stands there
found_name : (names : List (List ℕ)) (name : List ℕ) (n v : ℕ) → position_from (λ m. bytes_eq m name) n names ≡ Some v
    → (i : ℕ) × (v ≡ n + i) × IsNameAt names name i
found_name [] name n v e = absurd (cc)
found_name (x ∷ names) name n v e =
    place_by (bytes_eq x name) x name names n v (position_from (λ m. bytes_eq m name) (n + 1) names)
    (λ (h : bytes_eq x name ≡ true). (bytes_eq-Decides x name).0 h)
    (found_name names name (n + 1) v) e

named_by : (b : Bool) (o : Option ℕ) (v : ℕ) → cond b o None ≡ Some v → (b ≡ true) × (o ≡ Some v)
named_by true o v e = (refl, e)
named_by false o v e = absurd (cc)

-- a value that a text stands for has this text as its name, which is an identifier
value_is : (names : List (List ℕ)) (name : List ℕ) (v : ℕ) → value_named names name ≡ Some v
    → (is_identifier name ≡ true) × IsNameAt names name v
value_is names name v e =
    let b = named_by (is_identifier name) (position_from (λ m. bytes_eq m name) 0 names) v e in
    let f = found_name names name 0 v b.1 in
    let place = f.1 in
    let same : f.0 ≡ v = omega arith in
    (b.0, subst (IsNameAt names name) same f.2)

-- ---- operands

-- an operand that is a value has a target of its own name
abbrev IsNamed : List Target → Operand → Type 0
IsNamed ts (operands.Literal n) = Unit {0}
IsNamed ts (operands.Input param word) = Unit {0}
IsNamed ts (operands.Value v) = slice_get ts v ≡ Some targets.Value

-- the target of each result is that of its text
abbrev InStep : Scope → Type 0
InStep s = s.targets ≡ map (target_of s.params) s.names

target_value : (params : List Param) (name : List ℕ) → is_identifier name ≡ true → target_of params name ≡ targets.Value
unfolding target_of
target_value params name e = rw e refl

known_value : (s : Scope) (name : List ℕ) (v : ℕ) → InStep s → value_named s.names name ≡ Some v
    → slice_get s.targets v ≡ Some targets.Value
known_value s name v step e =
    let is = value_is s.names name v e in
    ap (λ ts. slice_get ts v) step ∙ slice_get-map (target_of s.params) s.names v
    ∙ ap (option_map (target_of s.params)) is.1 ∙ ap (λ t. Some t) (target_value s.params name is.0)

-- what an operand is, where it is there
abbrev IfNamed : List Target → Option Operand → Type 0
IfNamed ts o = IsNamed ts (operand_or o)

if_some : (ts : List Target) (o : Option Operand) → ((x : Operand) → o ≡ Some x → IsNamed ts x) → IfNamed ts o
if_some ts None f = tt
if_some ts (Some x) f = f x refl

either : (ts : List Target) (o p : Option Operand) → IfNamed ts o → IfNamed ts p → IfNamed ts (option_or o p)
either ts None p a b = b
either ts (Some x) p a b = a

chosen : (ts : List Target) (b : Bool) (o p : Option Operand) → IfNamed ts o → IfNamed ts p
    → IfNamed ts (if b then o else p)
chosen ts true o p a c = a
chosen ts false o p a c = c

literal_named : (ts : List Target) (o : Option ℕ) → IfNamed ts (option_map operands.Literal o)
literal_named ts None = tt
literal_named ts (Some n) = tt

value_named_so : (ts : List Target) (o : Option ℕ) → ((v : ℕ) → o ≡ Some v → slice_get ts v ≡ Some targets.Value)
    → IfNamed ts (option_map operands.Value o)
value_named_so ts None f = tt
value_named_so ts (Some v) f = f v refl

scalar_named : (ts : List Target) (params : List Param) (name : List ℕ) (x : Operand) → scalar_at params name ≡ Some x
    → IsNamed ts x
unfolding scalar_at
scalar_named ts params name x e =
    let a = bind_some _ (param_named params name) x e in
    let b = bind_some (λ (p : Param). guard (is_scalar p.role) (operands.Input a.0 0)) (slice_get params a.0) x a.2 in
    let h = guard_some (is_scalar b.0.role) (operands.Input a.0 0) x b.2 in
    subst (IsNamed ts) h.1 tt

array_named : (ts : List Target) (params : List Param) (text : List ℕ) (x : Operand)
    → array_operand params text ≡ Some x → IsNamed ts x
unfolding array_operand
array_named ts params text x e =
    let a = bind_some (λ (w : ParamWord). guard (is_input_array w.role) (operands.Input w.param w.word))
    (word_at params text) x e in
    let h = guard_some (is_input_array a.0.role) (operands.Input a.0.param a.0.word) x a.2 in
    subst (IsNamed ts) h.1 tt

-- the operand that a text is read as
operand_named : (s : Scope) (text : List ℕ) → InStep s → IfNamed s.targets (operand_of s text)
unfolding operand_of
operand_named s text step =
    chosen s.targets (starts_with_digit text) (option_map operands.Literal (word text)) _
    (literal_named s.targets (word text))
    (chosen s.targets (is_identifier text) (named_operand s text) (array_operand s.params text)
    (either s.targets (scalar_at s.params text) (option_map operands.Value (value_named s.names text))
    (if_some s.targets (scalar_at s.params text) (scalar_named s.targets s.params text))
    (value_named_so s.targets (value_named s.names text) (λ (v : ℕ). known_value s text v step)))
    (if_some s.targets (array_operand s.params text) (array_named s.targets s.params text)))

-- ---- operations

abbrev AllNamed : List Target → Op → Type 0
AllNamed ts op = AllByRecursion (IsNamed ts) op.args

texts_named : (s : Scope) (texts : List (List ℕ)) → InStep s
    → AllByRecursion (IsNamed s.targets) (map (λ text. operand_or (operand_of s text)) texts)
texts_named s [] step = tt
texts_named s (text ∷ texts) step = (operand_named s text step, texts_named s texts step)

op_named : (s : Scope) (o : RawOp) → InStep s → AllNamed s.targets (op_of s o)
unfolding op_of
op_named s o step = all_take (IsNamed s.targets) (operand_count (kind_or (kind_named o.operation)))
    (map (λ text. operand_or (operand_of s text)) o.arguments) (texts_named s o.arguments step)

named_more : (ts more : List Target) (x : Operand) → IsNamed ts x → IsNamed (ts ++ more) x
named_more ts more (operands.Literal n) h = tt
named_more ts more (operands.Input param word) h = tt
named_more ts more (operands.Value v) h = get_before ts more v targets.Value h

all_more : (ts more : List Target) (op : Op) → AllNamed ts op → AllNamed (ts ++ more) op
all_more ts more op all = all_same (IsNamed ts) (IsNamed (ts ++ more)) (named_more ts more) op.args all

-- what the scope behind any operations keeps
record Keeps (s : Scope) : Type 0 where
  step : InStep s
  named : AllByRecursion (AllNamed s.targets) s.ops

keeps_on : (s : Scope) (o : RawOp) → Keeps s → Keeps (with_op (with_results s o.results) (op_of s o))
keeps_on s o k =
    let news : List Target = map (target_of s.params) o.results in
    record {
      step = ap (λ ts. ts ++ news) k.step ∙ sym (map_append (target_of s.params) s.names o.results);
      named = all_append (AllNamed (s.targets ++ news)) s.ops (op_of s o ∷ [])
          (all_same (AllNamed s.targets) (AllNamed (s.targets ++ news)) (all_more s.targets news) s.ops k.named)
          (all_more s.targets news (op_of s o) (op_named s o k.step), tt);
    }

keeps_all : (raws : List RawOp) (s : Scope) → Keeps s → Keeps (fold with_operation s raws)
keeps_all [] s k = k
keeps_all (o ∷ os) s k = keeps_all os (with_operation s o)
    (subst Keeps (sym (operation_scope s o)) (keeps_on s o k))

named_at : (ts : List Target) (ops : List Op) (number : ℕ) (op : Op) (place v : ℕ)
    → AllByRecursion (AllNamed ts) ops → slice_get ops number ≡ Some op
    → slice_get op.args place ≡ Some (operands.Value v)
    → slice_get ts v ≡ Some targets.Value
named_at ts ops number op place v all e f =
    all_get (IsNamed ts) op.args place (operands.Value v) (all_get (AllNamed ts) ops number op all e) f

-- every operand that is a value has a name for its target
pub named_reads : (program : Source) (ts : List Target) (bits : List Bool) → IsKept program ts bits
    → (number : ℕ) (op : Op) → slice_get program.ops number ≡ Some op
    → (place v : ℕ) → slice_get op.args place ≡ Some (operands.Value v)
    → slice_get (targets_of program.ops) v ≡ Some targets.Value
unfolding program_of
named_reads program ts bits kept number op e place v f =
    let params : List Param = params_of kept.parts in
    let s : Scope = scope_after params kept.parts.body in
    let ops : program.ops ≡ s.ops = ap (λ (p : Source). p.ops) kept.is in
    let k = keeps_all kept.parts.body (start params) record { step = refl; named = tt } in
    let same : s.targets ≡ targets_of s.ops = (scope_fact params params kept.parts.body s refl refl).targets_kept in
    ap (λ (os : List Op). slice_get (targets_of os) v) ops ∙ ap (λ us. slice_get us v) (sym same)
    ∙ named_at s.targets s.ops number op place v k.named (ap (λ os. slice_get os number) (sym ops) ∙ e) f
