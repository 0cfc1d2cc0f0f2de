-- What every parameter keeps that breaks no rule.
use Rattle.std.proofs.Common.{◌≡◌, ℕ, ◌+◌, ◌-◌, ◌<◌, ◌≤◌, ◌^◌, Bool, true, false, List, [], ◌∷◌, ◌++◌, map, length}
use Rattle.std.proofs.Common.{refl, arith, zero, suc, sym, ◌∙◌, ap, subst, zero-add}
use Rattle.std.specs.Prelude.{Option, Some, None, is_some, is_none, unwrap_or, not, ◌&&◌, nat_lt, nat_le, option_map}
use Rattle.std.specs.Prelude.{option_and_then}
use Rattle.std.proofs.lemmas.Bool.Decides.{nat_tests}
use Rattle.std.proofs.lemmas.List.FromFn.{length-map-range_with_len}
use Rattle.std.proofs.lemmas.List.{length-append}
use Rattle.std.specs.List.{range_with_len, AllByRecursion}
use Rattle.std.specs.Option.{option_or}
use Rattle.std.specs.Str.{bytes_eq}
use Rattle.std.specs.Prelude.{codes, if◌then◌else◌}
use Rattle.base.proofs.Arithmetic.{at_most_by_test, below_by_test}
use Rattle.word_text.specs.declared.fault.Section.{Section}
use Rattle.word_text.specs.declared.fault.Section.TheVariants.{Top, Returns, Arguments, Body}
use Rattle.word_text.specs.declared.parts.RawParam.{RawParam}
use Rattle.word_text.specs.declared.parts.RawProgram.{RawProgram}
use Rattle.base.specs.Options.{guard}
use Rattle.base.specs.Identifiers.{is_identifier}
use Rattle.word_text.specs.Texts.{bracketed, is_index}
use Rattle.base.specs.Numbers.{numeral}
use Rattle.word_text.specs.Numbers.{index_below, array_words}
use Rattle.word_program.specs.declared.params.Datatype.{Datatype}
use Rattle.word_program.specs.declared.parameter.Bounds.{Bounds}
use Rattle.word_program.specs.declared.parameter.Param.{Param}
use Rattle.word_program.specs.declared.parameter.Role.{Role}
use Rattle.word_program.specs.declared.parameter.Role.TheVariants.{Output, InputArray, InputScalar}
use Rattle.word_program.specs.Program.{full}
use Rattle.word_program.specs.Values.{is_scalar}
use Rattle.word_program.specs.Walk.{first_code, walk, place_in}
use Rattle.word_program.specs.Rules.{param_named, array_of, scalar_named, datatype_of, limit_at, bound_at, bounds_of}
use Rattle.word_program.specs.Rules.{bounds_said, no_datatype, parameter_rules, param_of, with_param, parameter_fault}
use Rattle.word_program.specs.Rules.{parameters_in, params_of, params_fault}
use Rattle.word_program.specs.Accepted.{AreBounds, IsParam}
use Rattle.base.proofs.Options.{bind_some, guard_some}
use Rattle.word_program.proofs.RowLemmas.{rows4, at_none, or_none, not_false, and_true, some_of}

-- ---- datatypes

-- an index is below its bound
pub index_range : (digits : List ℕ) (bound n : ℕ) → index_below digits bound ≡ Some n → n < bound
unfolding index_below
index_range digits bound n e =
    let p = bind_some (λ m. guard (nat_lt m bound) m) (numeral 10 digits) n e in
    let h = guard_some _ _ _ p.2 in
    subst (λ (k : ℕ). k < bound) h.1 (below_by_test _ _ h.0)

-- an array has 1 to 32 words
pub array_range : (text : List ℕ) (n : ℕ) → array_words text ≡ Some n → (1 ≤ n) × (n ≤ 32)
unfolding array_words
array_range text n e =
    let p = bind_some (λ parts. option_and_then
    (λ m. guard (bytes_eq parts.0 (codes "u64") && (is_index parts.1 && nat_le 1 m)) m) (index_below parts.1 33))
    (bracketed text) n e in
    let q = bind_some (λ m. guard (bytes_eq p.0.0 (codes "u64") && (is_index p.0.1 && nat_le 1 m)) m)
    (index_below p.0.1 33) n p.2 in
    let h = guard_some _ _ _ q.2 in
    let low : 1 ≤ q.0 = at_most_by_test _ _ (and_true _ _ (and_true _ _ h.0).1).1 in
    let high : q.0 < 33 = index_range _ _ _ q.1 in
    subst (λ (k : ℕ). (1 ≤ k) × (k ≤ 32)) h.1 (low, omega arith)

pub record IsDatatype (d : Datatype) : Type 0 where
  pub some_words : 1 ≤ d.words
  pub words : d.words ≤ 32
  pub scalar : is_scalar d.role ≡ true → d.words ≡ 1
  pub most : d.most ≤ 2 ^ 64 - 1

array_datatype : (role : Role) → is_scalar role ≡ false → (o : Option ℕ) (d : Datatype)
    → ((n : ℕ) → o ≡ Some n → (1 ≤ n) × (n ≤ 32))
    → option_map (λ n. record { role = role; words = n; most = 2 ^ 64 - 1 }) o ≡ Some d → IsDatatype d
array_datatype role other None d range e = absurd (cc)
array_datatype role other (Some n) d range e =
    let is : record { role = role; words = n; most = 2 ^ 64 - 1 } ≡ d = cc in
    let r = range n refl in
    subst IsDatatype is record {
      some_words = r.0;
      words = r.1;
      scalar = λ (s : is_scalar role ≡ true). absurd (cc);
      most = omega arith;
    }

scalar_datatype : (text : List ℕ) (a b : Bool) (d : Datatype)
    → (if a then Some (record { role = InputScalar; words = 1; most = 2 ^ 64 - 1 }) else
    (if b then Some (record { role = InputScalar; words = 1; most = 1 }) else None)) ≡ Some d → IsDatatype d
scalar_datatype text true b d e =
    let is : record { role = InputScalar; words = 1; most = 2 ^ 64 - 1 } ≡ d = cc in
    subst IsDatatype is record { some_words = omega arith; words = omega arith; scalar = λ s. refl; most = omega arith }
scalar_datatype text false true d e =
    let is : record { role = InputScalar; words = 1; most = 1 } ≡ d = cc in
    subst IsDatatype is record { some_words = omega arith; words = omega arith; scalar = λ s. refl; most = omega arith }
scalar_datatype text false false d e = absurd (cc)

either_datatype : (o p : Option Datatype) (d : Datatype) → (o ≡ Some d → IsDatatype d) → (p ≡ Some d → IsDatatype d)
    → option_or o p ≡ Some d → IsDatatype d
either_datatype None p d f g e = g e
either_datatype (Some x) p d f g e = f e

-- what a datatype says
pub datatype_range : (section : Section) (text : List ℕ) (d : Datatype) → datatype_of section text ≡ Some d
    → IsDatatype d
datatype_range Top text d e = absurd (cc)
datatype_range Returns text d e = array_datatype Output refl (array_words text) d (array_range text) e
datatype_range Arguments text d e =
    either_datatype (scalar_named text) (array_of InputArray text) d (scalar_datatype text _ _ d)
    (array_datatype InputArray refl (array_words text) d (array_range text)) e
datatype_range Body text d e = absurd (cc)

-- ---- bounds

full_bounds : AreBounds full
full_bounds = record { ordered = omega arith; word = omega arith }

tested_bounds : (low high most : ℕ) (a b : Bool) → nat_le low high ≡ a → nat_le high most ≡ b → most ≤ 2 ^ 64 - 1
    → AreBounds (unwrap_or (guard (a && b) (record { low = low; high = high })) full)
tested_bounds low high most true true ea eb limit = let l = at_most_by_test low high ea in let h =
    at_most_by_test high most eb in record { ordered = l; word = omega arith }
tested_bounds low high most true false ea eb limit = full_bounds
tested_bounds low high most false b ea eb limit = full_bounds

bounds_by : (o p : Option ℕ) (most : ℕ) → most ≤ 2 ^ 64 - 1
    → AreBounds (unwrap_or (option_and_then
    (λ low. option_and_then (λ high. guard (nat_le low high && nat_le high most)
    (record { low = low; high = high })) p) o) full)
bounds_by None p most limit = full_bounds
bounds_by (Some low) None most limit = full_bounds
bounds_by (Some low) (Some high) most limit = tested_bounds low high most _ _ refl refl limit

bound_range : (d : Datatype) (raw : RawParam) (n : ℕ) → d.most ≤ 2 ^ 64 - 1
    → AreBounds (unwrap_or (bound_at d raw n) full)
unfolding bound_at
bound_range d raw n limit = bounds_by (limit_at 0 raw.low n) (limit_at d.most raw.high n) d.most limit

pub all_map : {X : Type 0} (P : X → Type 0) (f : ℕ → X) → ((n : ℕ) → P (f n)) → (a k : ℕ)
    → AllByRecursion P (map f (range_with_len a k))
all_map P f each a zero = tt
all_map P f each a (suc k) = (each a, all_map P f each (a + 1) k)

-- ---- parameters

param_by : (name : List ℕ) (d : Datatype) (raw : RawParam) (bs : List Bounds) → is_identifier name ≡ true
    → IsDatatype d → bounds_of d raw ≡ Some bs
    → IsParam (record { name = name; role = d.role; bounds = bs })
unfolding bounds_of
param_by name d raw bs named is e =
    let h = guard_some _ _ _ e in
    let f : ℕ → Bounds = λ n. unwrap_or (bound_at d raw n) full in
    let count : length bs ≡ d.words = sym (ap length h.1) ∙ length-map-range_with_len f 0 d.words in
    let all : AllByRecursion AreBounds (map f (range_with_len 0 d.words)) =
    all_map AreBounds f (λ n. bound_range d raw n is.most) 0 d.words in
    let w = is.words in let s = is.some_words in record {
      name = named;
      some_words = omega arith;
      words = omega arith;
      scalar = λ (t : is_scalar d.role ≡ true). count ∙ is.scalar t;
      bounds = subst (AllByRecursion AreBounds) h.1 all;
    }

param_form : (name : List ℕ) (o : Option Datatype) (d : Datatype) (p : Option (List Bounds)) (bs : List Bounds)
    → o ≡ Some d → p ≡ Some bs
    → IsParam (record { name = name; role = d.role; bounds = bs })
    → IsParam (record { name = name; role = (unwrap_or o no_datatype).role; bounds = unwrap_or p [] })
param_form name o d p bs eo ep is = rw (eo, ep) is

-- the datatype of a parameter that breaks no rule is one, and its name is new
pub record PassesAsParam (section : Section) (ps : List Param) (raw : RawParam) : Type 0 where
  pub datatype : Datatype
  pub known : datatype_of section raw.datatype ≡ Some datatype
  pub new : is_some (param_named ps (param_of section raw).name) ≡ false

pub parameter_passes : (section : Section) (ps : List Param) (raw : RawParam)
    → first_code (parameter_rules section ps raw) ≡ None → PassesAsParam section ps raw
unfolding parameter_rules param_of
parameter_passes section ps raw none =
    let r = rows4 _ _ _ _ (not (is_identifier raw.name)) (is_none (datatype_of section raw.datatype))
    (is_none (bounds_said section raw)) (is_some (param_named ps raw.name)) none in
    let d = some_of (datatype_of section raw.datatype) r.1 in
    record { datatype = d.0; known = d.1; new = r.3 }

-- a parameter that breaks no rule
pub param_kept : (section : Section) (ps : List Param) (raw : RawParam)
    → first_code (parameter_rules section ps raw) ≡ None → IsParam (param_of section raw)
unfolding parameter_rules param_of
param_kept section ps raw none =
    let r = rows4 _ _ _ _ (not (is_identifier raw.name)) (is_none (datatype_of section raw.datatype))
    (is_none (bounds_said section raw)) (is_some (param_named ps raw.name)) none in
    let d = some_of (datatype_of section raw.datatype) r.1 in
    let bs = some_of (bounds_said section raw) r.2 in
    let said : bounds_of d.0 raw ≡ Some bs.0 = ap (λ o. bounds_of (unwrap_or o no_datatype) raw) (sym d.1) ∙ bs.1 in
    param_form raw.name _ d.0 _ bs.0 d.1 bs.1
    (param_by raw.name d.0 raw bs.0 (not_false _ r.0) (datatype_range section raw.datatype d.0 d.1) said)

pub all_more : {X : Type 0} (P : X → Type 0) (xs : List X) (x : X) → AllByRecursion P xs → P x
    → AllByRecursion P (xs ++ x ∷ [])
all_more P [] x all last = (last, tt)
all_more P (y ∷ ys) x all last = (all.0, all_more P ys x all.1 last)

pub section_kept : (section : Section) (raws : List RawParam) (ps : List Param) (n : ℕ) → AllByRecursion IsParam ps
    → walk (parameter_fault section) (with_param section) ps n raws ≡ None
    → AllByRecursion IsParam (parameters_in section ps raws)
section_kept section [] ps n all none = all
section_kept section (raw ∷ raws) ps n all none =
    let r = or_none _ _ none in
    section_kept section raws (with_param section ps raw) (n + 1)
    (all_more IsParam ps _ all (param_kept section ps raw
    (at_none (place_in section n 0) (parameter_rules section ps raw) r.0))) r.1

-- the parameters of parts that break no rule
pub params_kept : (p : RawProgram) → params_fault p ≡ None → AllByRecursion IsParam (params_of p)
params_kept p none =
    let r = or_none _ _ none in
    section_kept Arguments p.arguments _ 0 (section_kept Returns p.returns [] 0 tt r.0) r.1

-- the parameters of a section break no rule and were read behind those that are there
abbrev IsReadBehind : Section → List Param → List RawParam → List Param → Type 0
IsReadBehind section ps raws after =
    (walk (parameter_fault section) (with_param section) ps 0 raws ≡ None) × (after ≡ parameters_in section ps raws)

-- the parameters as they were read, in two steps
pub params_from : (p : RawProgram) (mid after : List Param) → IsReadBehind Returns [] p.returns mid
    → IsReadBehind Arguments mid p.arguments after → AllByRecursion IsParam after
params_from p mid after returns arguments =
    subst (AllByRecursion IsParam) (sym arguments.1)
    (section_kept Arguments p.arguments mid 0
    (subst (AllByRecursion IsParam) (sym returns.1) (section_kept Returns p.returns [] 0 tt returns.0)) arguments.0)

-- as many parameters as parts
pub section_count : (section : Section) (raws : List RawParam) (ps : List Param)
    → length (parameters_in section ps raws) ≡ length ps + length raws
section_count section [] ps = omega arith
section_count section (raw ∷ raws) ps =
    let rest = section_count section raws (with_param section ps raw) in
    let here : length (with_param section ps raw) ≡ length ps + 1 = length-append ps (param_of section raw ∷ []) in
    omega arith

pub params_count : (p : RawProgram) → length (params_of p) ≡ length p.returns + length p.arguments
params_count p = section_count Arguments p.arguments (parameters_in Returns [] p.returns)
    ∙ ap (λ n. n + length p.arguments) (section_count Returns p.returns [] ∙ zero-add (length p.returns))
