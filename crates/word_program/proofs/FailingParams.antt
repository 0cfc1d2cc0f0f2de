-- The first fault of the program as a whole, and the first of the parameters.
use Rattle.std.proofs.Common.{◌≡◌, ℕ, ◌<◌, ◌⊎◌, inl, inr, true, false, List, [], ◌∷◌, ◌++◌, map, not}
use Rattle.std.proofs.Common.{refl, sym, ◌∙◌, ap, subst, append_assoc, arith}
use Rattle.std.proofs.lemmas.List.{append-nil, map-append}
use Rattle.std.specs.Prelude.{Option, Some, None, is_none, ◌==◌, fold, unwrap_or}
use Rattle.base.proofs.Arithmetic.{below_by_test, test_of_below, equal_by_test}
use Rattle.word_text.specs.declared.fault.Section.{Section}
use Rattle.word_text.specs.declared.fault.Section.TheVariants.{Top, Returns, Arguments, Body}
use Rattle.word_text.specs.declared.parts.RawParam.{RawParam}
use Rattle.word_text.specs.declared.parts.RawProgram.{RawProgram}
use Rattle.word_program.specs.declared.parameter.Param.{Param}
use Rattle.word_program.specs.Walk.{RuleFault, place_in, at, walk}
use Rattle.word_program.specs.Rules.{is_overlap_if_there, top_rules, parameter_rules, parameter_fault, params_fault}
use Rattle.word_program.specs.Rules.{datatype_of, bounds_of}
use Rattle.word_program.specs.Rules.{no_datatype, param_of, with_param, parameters_in}
use Rattle.word_program.specs.Failing.{TopFails, ParameterFails, turn, by_turn, by_item}
use Rattle.word_program.proofs.RowLemmas.{not_true, some_of}
use Rattle.word_program.proofs.FailingNames.{none_by_test, found_param, param_found}
use Rattle.word_program.proofs.FailingOrder.{Finds, HasFailed, At, AllBefore, Somewhere, finds_at, finds_or, finds_walk}

-- ---- the program as a whole

top_failed : (parts : RawProgram) (code : ℕ) → TopFails parts code → HasFailed code (top_rules parts)
unfolding top_rules
top_failed parts code (TopFails.overlap text e is h) =
    inl (e, ap (λ o. not (is_overlap_if_there o)) is ∙ ap not h)
top_failed parts code (TopFails.name e h) = inr (inl (e, ap not h))
top_failed parts code (TopFails.parameters e h) = inr (inr (inl (e, test_of_below 6 _ h)))
top_failed parts code (TopFails.operations e h) = inr (inr (inr (inl (e, test_of_below 2048 _ h))))
top_failed parts code (TopFails.returns e h) = inr (inr (inr (inr (inl (e, ap (λ n. n == 0) h)))))

overlap_fails : (parts : RawProgram) (o : Option (List ℕ)) → parts.overlap ≡ o → is_overlap_if_there o ≡ false
    → TopFails parts 1
overlap_fails parts None is e = absurd (cc)
overlap_fails parts (Some text) is e = TopFails.overlap text refl is e

pub top_found : (parts : RawProgram) → Finds (At (place_in Top 0 0) (TopFails parts)) (at (place_in Top 0 0)
    (top_rules parts))
unfolding top_rules
top_found parts =
    finds_at (TopFails parts) (place_in Top 0 0) (top_rules parts) (λ c d a b. refl) refl (
      (λ e. overlap_fails parts parts.overlap refl (not_true _ e)),
      λ n1. (
        (λ e. TopFails.name refl (not_true _ e)),
        λ n2. (
          (λ e. TopFails.parameters refl (below_by_test 6 _ e)),
          λ n5. (
            (λ e. TopFails.operations refl (below_by_test 2048 _ e)),
            λ n6. ((λ e. TopFails.returns refl (equal_by_test _ 0 e)), λ n15. tt),
          ),
        ),
      ),
    )
    (top_failed parts)

-- ---- a parameter

early : (code : ℕ) (section : Section) → (code == 14) ≡ false → turn code section ≡ turn 0 section
early code Top e = refl
early code Returns e = rw e refl
early code Arguments e = refl
early code Body e = refl

-- the rules of a parameter have one turn
parameter_turn : (section : Section) (names : List (List ℕ)) (param : RawParam) (code : ℕ)
    → ParameterFails section names param code → turn code section ≡ turn 0 section
parameter_turn section names param code (ParameterFails.name e h) = early code section (ap (λ k. k == 14) e)
parameter_turn section names param code (ParameterFails.datatype e h) = early code section (ap (λ k. k == 14) e)
parameter_turn section names param code (ParameterFails.bounds d e h n) = early code section (ap (λ k. k == 14) e)
parameter_turn section names param code (ParameterFails.taken e h) = early code section (ap (λ k. k == 14) e)

parameter_failed : (section : Section) (params : List Param) (param : RawParam) (code : ℕ)
    → ParameterFails section (map (λ p. p.name) params) param code
    → HasFailed code (parameter_rules section params param)
unfolding parameter_rules
parameter_failed section params param code (ParameterFails.name e h) = inl (e, ap not h)
parameter_failed section params param code (ParameterFails.datatype e h) = inr (inl (e, ap is_none h))
parameter_failed section params param code (ParameterFails.bounds d e h n) =
    let is : bounds_of (unwrap_or (datatype_of section param.datatype) no_datatype) param ≡ None =
    ap (λ o. bounds_of (unwrap_or o no_datatype) param) h ∙ n in
    inr (inr (inl (e, ap is_none is)))
parameter_failed section params param code (ParameterFails.taken e h) =
    inr (inr (inr (inl (e, param_found params param.name h))))

-- a fault of the parameter with this number, behind these parameters
abbrev pub AtParameter : Section → List Param → ℕ → RawParam → RuleFault → Type 0
AtParameter section params n param =
    At (place_in section n 0) (ParameterFails section (map (λ p. p.name) params) param)

parameter_found : (section : Section) (params : List Param) (n : ℕ) (param : RawParam)
    → Finds (AtParameter section params n param) (parameter_fault section params n param)
unfolding parameter_rules
parameter_found section params n param =
    finds_at (ParameterFails section (map (λ p. p.name) params) param) (place_in section n 0)
    (parameter_rules section params param)
    (λ c d a b. parameter_turn section _ param c a ∙ sym (parameter_turn section _ param d b)) refl (
      (λ e. ParameterFails.name refl (not_true _ e)),
      λ n2. (
        (λ e. ParameterFails.datatype refl (none_by_test _ e)),
        λ n3. (
          (λ e.
              let d = some_of (datatype_of section param.datatype) n3 in
              ParameterFails.bounds d.0 refl d.1
              (none_by_test _ (subst (λ o. is_none (bounds_of (unwrap_or o no_datatype) param) ≡ true) d.1 e))),
          λ n4. ((λ e. ParameterFails.taken refl (found_param params param.name e)), λ n10. tt),
        ),
      ),
    )
    (parameter_failed section params param)

-- ---- the parameters

parameters_order : (section : Section) (s t : List Param) (n m : ℕ) (x y : RawParam) → n < m
    → AllBefore (AtParameter section s n x) (AtParameter section t m y)
parameters_order section s t n m x y lt f g a b =
    let ft : turn f.0 f.1.section ≡ turn 0 section =
    ap (λ p. turn f.0 p.section) a.0 ∙ parameter_turn section _ x f.0 a.1 in
    let gt : turn g.0 g.1.section ≡ turn 0 section =
    ap (λ p. turn g.0 p.section) b.0 ∙ parameter_turn section _ y g.0 b.1 in
    let fi : f.1.item ≡ n = ap (λ p. p.item) a.0 in
    let gi : g.1.item ≡ m = ap (λ p. p.item) b.0 in
    by_item (ft ∙ sym gt) (omega arith)

-- a fault of a parameter of a section, behind these of the sections before it
abbrev pub InSection : Section → List Param → List RawParam → RuleFault → Type 0
InSection section params raws = Somewhere (AtParameter section) (with_param section) params 0 raws

section_found : (section : Section) (params : List Param) (raws : List RawParam)
    → Finds (InSection section params raws) (walk (parameter_fault section) (with_param section) params 0 raws)
section_found section params raws =
    finds_walk (AtParameter section) (parameter_fault section) (with_param section) (parameter_found section)
    (parameters_order section) raws params 0

-- the turn of a parameter's fault
pub section_turn : (section : Section) (params : List Param) (raws : List RawParam) (f : RuleFault)
    → InSection section params raws f → turn f.0 f.1.section ≡ turn 0 section
section_turn section params raws f w =
    ap (λ p. turn f.0 p.section) w.3.0 ∙ parameter_turn section _ w.1 f.0 w.3.1

-- a fault of a parameter
abbrev pub InParameters : RawProgram → RuleFault → Type 0
InParameters parts f =
    InSection Returns [] parts.returns f ⊎ InSection Arguments
    (parameters_in Returns [] parts.returns) parts.arguments f

pub params_found : (parts : RawProgram) → Finds (InParameters parts) (params_fault parts)
params_found parts =
    finds_or (InSection Returns [] parts.returns)
    (InSection Arguments (parameters_in Returns [] parts.returns) parts.arguments) _ _
    (λ f g a b.
    let ft : turn f.0 f.1.section ≡ 1 = section_turn Returns [] parts.returns f a in
    let gt : turn g.0 g.1.section ≡ 2 = section_turn Arguments _ parts.arguments g b in
    by_turn (omega arith))
    (section_found Returns [] parts.returns)
    (λ e. section_found Arguments (parameters_in Returns [] parts.returns) parts.arguments)

-- the names of parameters with those of others behind them
pub names_behind : (section : Section) (raws : List RawParam) (params : List Param)
    → map (λ p. p.name) (fold (with_param section) params raws) ≡ map (λ p. p.name) params ++ map (λ p. p.name) raws
unfolding param_of
names_behind section [] params = sym (append-nil _)
names_behind section (raw ∷ raws) params =
    names_behind section raws (params ++ param_of section raw ∷ [])
    ∙ ap (λ ns. ns ++ map (λ p. p.name) raws) (map-append _ params (param_of section raw ∷ []))
    ∙ append_assoc (map (λ p. p.name) params) (raw.name ∷ []) (map (λ p. p.name) raws)
