-- The parameters of a program: outputs and then inputs, each under a name of its own.
use Rattle.std.proofs.Common.{◌≡◌, ℕ, zero, suc, ◌+◌, ◌-◌, ◌^◌, ◌<◌, ◌≤◌, Bool, true, false, List, [], ◌∷◌, ◌++◌, map}
use Rattle.std.proofs.Common.{length, refl, arith, sym, ◌∙◌, ap, subst, append_assoc}
use Rattle.std.proofs.lemmas.Bool.{true≢false}
use Rattle.std.proofs.lemmas.Cmp.{nat_list_eq_equiv}
use Rattle.std.proofs.lemmas.Iterator.Adapters.{position_from-zero}
use Rattle.std.proofs.lemmas.List.{append-nil, map-append}
use Rattle.std.proofs.lemmas.Map.Keys.{IsDistinct-push}
use Rattle.std.proofs.lemmas.Slice.Eq.{bytes_eq-Decides}
use Rattle.std.specs.Prelude.{Option, Some, None, is_some, unwrap_or, option_map, slice_get, IsSomeAnd, IsTrue}
use Rattle.std.specs.Prelude.{if◌then◌else◌, cond, codes, ◌||◌}
use Rattle.std.specs.List.{AllByRecursion, IsDistinct, list_any, position_from}
use Rattle.std.specs.Option.{option_or}
use Rattle.std.specs.Str.{bytes_eq}
use Rattle.word_text.specs.declared.fault.Section.{Section}
use Rattle.word_text.specs.declared.fault.Section.TheVariants.{Returns, Arguments}
use Rattle.word_text.specs.declared.parts.RawParam.{RawParam}
use Rattle.word_text.specs.declared.parts.RawProgram.{RawProgram}
use Rattle.word_text.specs.Numbers.{array_words}
use Rattle.word_program.specs.declared.params.Datatype.{Datatype}
use Rattle.word_program.specs.declared.parameter.Param.{Param}
use Rattle.word_program.specs.declared.parameter.Role.TheVariants.{Output, InputArray}
use Rattle.word_program.specs.Values.{is_output}
use Rattle.word_program.specs.Walk.{first_code, walk, place_in}
use Rattle.word_program.specs.Rules.{scalar_of, scalar_named, array_of, datatype_of, no_datatype, param_named}
use Rattle.word_program.specs.Rules.{parameter_rules, parameter_fault, param_of, with_param, parameters_in, params_of}
use Rattle.word_program.specs.Rules.{params_fault}
use Rattle.word_program.specs.Accepted.{IsOutputParam, AreOutputsFirst}
use Rattle.word_program.proofs.RowLemmas.{at_none, or_none, some_of}
use Rattle.word_program.proofs.ParamKept.{parameter_passes}

-- ---- the order

-- the parameters of a section stand behind those that are there, in the order of their parts
pub section_behind : (section : Section) (raws : List RawParam) (ps : List Param)
    → parameters_in section ps raws ≡ ps ++ map (param_of section) raws
section_behind section [] ps = sym (append-nil ps)
section_behind section (raw ∷ raws) ps = section_behind section raws (with_param section ps raw)
    ∙ append_assoc ps (param_of section raw ∷ []) (map (param_of section) raws)

-- the parameters of the returns, and then those of the arguments
pub params_behind : (p : RawProgram) → params_of p ≡ map (param_of Returns) p.returns
    ++ map (param_of Arguments) p.arguments
params_behind p = section_behind Arguments p.arguments (parameters_in Returns [] p.returns)
    ∙ ap (λ ps. ps ++ map (param_of Arguments) p.arguments) (section_behind Returns p.returns [])

abbrev IsOut : Param → Type 0
IsOut p = is_output p.role ≡ true

abbrev IsIn : Param → Type 0
IsIn p = is_output p.role ≡ false

-- what is read as an array of a return is an output
output_role : (o : Option ℕ) → (unwrap_or
    (option_map (λ n. record { role = Output; words = n; most = 2 ^ 64 - 1 }) o) no_datatype).role ≡ Output
output_role None = refl
output_role (Some n) = refl

returns_out : (raws : List RawParam) → AllByRecursion IsOut (map (param_of Returns) raws)
unfolding param_of
returns_out [] = tt
returns_out (raw ∷ raws) = (ap is_output (output_role (array_words raw.datatype)), returns_out raws)

scalar_in : (a b : Bool) (d : Datatype) → (if a then Some (scalar_of (2 ^ 64 - 1)) else
    (if b then Some (scalar_of 1) else None)) ≡ Some d → is_output d.role ≡ false
scalar_in true b d e = let same : scalar_of (2 ^ 64 - 1) ≡ d = cc in ap (λ x. is_output x.role) (sym same)
scalar_in false true d e = let same : scalar_of 1 ≡ d = cc in ap (λ x. is_output x.role) (sym same)
scalar_in false false d e = absurd (cc)

array_in : (o : Option ℕ) (d : Datatype)
    → option_map (λ n. record { role = InputArray; words = n; most = 2 ^ 64 - 1 }) o ≡ Some d → is_output d.role ≡ false
array_in None d e = absurd (cc)
array_in (Some n) d e = let same : record { role = InputArray; words = n; most = 2 ^ 64 - 1 } ≡ d = cc in
    ap (λ x. is_output x.role) (sym same)

either_in : (o p : Option Datatype) (d : Datatype) → (o ≡ Some d → is_output d.role ≡ false)
    → (p ≡ Some d → is_output d.role ≡ false) → option_or o p ≡ Some d → is_output d.role ≡ false
either_in None p d f g e = g e
either_in (Some x) p d f g e = f e

-- what an argument's datatype says is no output
argument_in : (text : List ℕ) (d : Datatype) → datatype_of Arguments text ≡ Some d → is_output d.role ≡ false
argument_in text d e =
    either_in (scalar_named text) (array_of InputArray text) d
    (scalar_in (bytes_eq text (codes "u64")) (bytes_eq text (codes "u1")) d) (array_in (array_words text) d) e

param_in : (raw : RawParam) (d : Datatype) → datatype_of Arguments raw.datatype ≡ Some d
    → IsIn (param_of Arguments raw)
unfolding param_of
param_in raw d e = ap (λ o. is_output (unwrap_or o no_datatype).role) e ∙ argument_in raw.datatype d e

arguments_in : (raws : List RawParam) (ps : List Param) (n : ℕ)
    → walk (parameter_fault Arguments) (with_param Arguments) ps n raws ≡ None
    → AllByRecursion IsIn (map (param_of Arguments) raws)
arguments_in [] ps n none = tt
arguments_in (raw ∷ raws) ps n none =
    let r = or_none (parameter_fault Arguments ps n raw)
    (walk (parameter_fault Arguments) (with_param Arguments) (with_param Arguments ps raw) (n + 1) raws) none in
    let d = parameter_passes Arguments ps raw
    (at_none (place_in Arguments n 0) (parameter_rules Arguments ps raw) r.0) in
    (param_in raw d.datatype d.known, arguments_in raws (with_param Arguments ps raw) (n + 1) r.1)

inputs_last : (ins : List Param) → AllByRecursion IsIn ins → AreOutputsFirst ins
inputs_last [] t = tt
inputs_last (p ∷ ps) t = (λ e. t.1, inputs_last ps t.1)

-- outputs, and then inputs
in_order : (outs ins : List Param) → AllByRecursion IsOut outs → AllByRecursion IsIn ins → AreOutputsFirst (outs ++ ins)
in_order [] ins t u = inputs_last ins u
in_order (p ∷ ps) ins t u = (λ e. absurd (true≢false (sym t.0 ∙ e)), in_order ps ins t.1 u)

pub outputs_first : (p : RawProgram) → params_fault p ≡ None → AreOutputsFirst (params_of p)
outputs_first p none =
    let r = or_none _ _ none in
    subst AreOutputsFirst (sym (params_behind p))
    (in_order (map (param_of Returns) p.returns) (map (param_of Arguments) p.arguments) (returns_out p.returns)
    (arguments_in p.arguments _ 0 r.1))

first_of_returns : (returns arguments : List RawParam) → 1 ≤ length returns
    → IsOutputParam (map (param_of Returns) returns ++ map (param_of Arguments) arguments) 0
first_of_returns [] arguments some = absurd (omega arith)
first_of_returns (raw ∷ raws) arguments some = (returns_out (raw ∷ raws)).0

-- the first parameter of a program with a return is an output
pub first_output : (p : RawProgram) → 1 ≤ length p.returns → IsOutputParam (params_of p) 0
first_output p some = subst (λ ps. IsOutputParam ps 0) (sym (params_behind p))
    (first_of_returns p.returns p.arguments some)

-- ---- names

-- the names of parameters
abbrev names : List Param → List (List ℕ)
names ps = map (λ p. p.name) ps

unnamed_from : (name : List ℕ) (ps : List Param) (n : ℕ) → position_from (λ p. bytes_eq p.name name) n ps ≡ None
    → list_any (bytes_eq name) (names ps) ≡ false
unnamed_from name [] n e = refl
unnamed_from name (p ∷ ps) n e = step (bytes_eq p.name name) (bytes_eq name p.name)
    (position_from (λ q. bytes_eq q.name name) (n + 1) ps) refl refl
    (unnamed_from name ps (n + 1)) e
  where
    step : (a b : Bool) (rest : Option ℕ) → bytes_eq p.name name ≡ a → bytes_eq name p.name ≡ b
        → (rest ≡ None → list_any (bytes_eq name) (names ps) ≡ false) → cond a (Some n) rest ≡ None
        → b || list_any (bytes_eq name) (names ps) ≡ false
    step true b rest ea eb f e = absurd (cc)
    step false true rest ea eb f e =
        let same : name ≡ p.name = (bytes_eq-Decides name p.name).0 eb in
        absurd (true≢false (sym ((bytes_eq-Decides p.name name).1 (sym same)) ∙ ea))
    step false false rest ea eb f e = f e

-- a name that no parameter has
unnamed : (name : List ℕ) (ps : List Param) → is_some (param_named ps name) ≡ false
    → list_any (bytes_eq name) (names ps) ≡ false
unnamed name ps e =
    unnamed_from name ps 0 (sym (position_from-zero (λ p. bytes_eq p.name name) ps) ∙ none_of (param_named ps name) e)
  where
    none_of : (o : Option ℕ) → is_some o ≡ false → o ≡ None
    none_of None e = refl
    none_of (Some n) e = absurd (cc)

section_distinct : (section : Section) (raws : List RawParam) (ps : List Param) (n : ℕ)
    → IsDistinct bytes_eq (names ps) → walk (parameter_fault section) (with_param section) ps n raws ≡ None
    → IsDistinct bytes_eq (names (parameters_in section ps raws))
section_distinct section [] ps n distinct none = distinct
section_distinct section (raw ∷ raws) ps n distinct none =
    let r = or_none (parameter_fault section ps n raw)
    (walk (parameter_fault section) (with_param section) (with_param section ps raw) (n + 1) raws) none in
    let d = parameter_passes section ps raw (at_none (place_in section n 0) (parameter_rules section ps raw) r.0) in
    let more : names (with_param section ps raw) ≡ names ps ++ (param_of section raw).name ∷ [] =
    map-append (λ p. p.name) ps (param_of section raw ∷ []) in
    section_distinct section raws (with_param section ps raw) (n + 1)
    (subst (IsDistinct bytes_eq) (sym more)
    (IsDistinct-push nat_list_eq_equiv (names ps) (param_of section raw).name distinct
    (unnamed (param_of section raw).name ps d.new))) r.1

-- no two parameters have the same name
pub names_distinct : (p : RawProgram) → params_fault p ≡ None → IsDistinct bytes_eq (names (params_of p))
unfolding IsDistinct
names_distinct p none =
    let r = or_none _ _ none in
    section_distinct Arguments p.arguments _ 0 (section_distinct Returns p.returns [] 0 tt r.0) r.1
