-- Forms that are made one after the other, from the next one on.
use Rattle.std.proofs.Common.{◌≡◌, ℕ, suc, ◌+◌, ◌-◌, ◌<◌, List, [], ◌∷◌, ◌++◌, map, drop, get_or, length, ap}
use Rattle.std.proofs.Common.{append_assoc, arith, refl, subst, sym, ◌∙◌, ◌≤◌}
use Rattle.std.proofs.lemmas.List.FromFn.{length-map-range_with_len}
use Rattle.std.proofs.lemmas.List.{drop_more}
use Rattle.std.specs.List.{AllByRecursion, range_with_len}
use Rattle.terms.specs.declared.nodes.Node.{Node}
use Rattle.terms.specs.declared.nodes.Form.{Form}
use Rattle.term_store.specs.Interning.{made, made_all}
use Rattle.word_program.specs.declared.parameter.Param.{Param}
use Rattle.word_program.specs.declared.operation.Operand.{Operand}
use Rattle.terms.specs.declared.nodes.Form.TheVariants as forms
use Rattle.program_nodes.specs.Sources.{inputs_from, operands_made, param_forms, start_forms}
use Rattle.word_program.specs.Accepted.{IsParam}
use Rattle.program_nodes.specs.Operands.{IsProgramForm}
use Rattle.program_nodes.proofs.Growing.{Grows, grows_more}
use Rattle.program_nodes.proofs.SourceTables.{few_start_forms}
use Rattle.program_nodes.proofs.ProgramNodes.{start_grows}
use Rattle.program_nodes.proofs.SourceStarts.{all_made_table}
use Rattle.term_store.proofs.Made.{made_most}

range_step : (a e : ℕ) → a < e → range_with_len a (e - a) ≡ a ∷ range_with_len (a + 1) (e - (a + 1))
range_step a e h = let n : e - a ≡ suc (e - (a + 1)) = omega arith in rw n refl

-- the form with this number is the next one
pub forms_step : (f : ℕ → Form) (t : List Node) (a e : ℕ) → a < e
    → (made_all t (map f (range_with_len a (e - a)))).table
    ≡ (made_all (made t (f a)).table (map f (range_with_len (a + 1) (e - (a + 1))))).table
forms_step f t a e h = rw (range_step a e h) refl

-- the parameter with this number is the next one
pub inputs_step : (params : List Param) (t : List Node) (n i : ℕ) (d : Param) → i < length params
    → (made_all t (inputs_from params n (drop i params))).table
    ≡ (made_all (made_all t (param_forms params n (get_or params i d))).table
    (inputs_from params (n + 1) (drop (i + 1) params))).table
inputs_step params t n i d h = rw (drop_more params i d h)
    (all_made_table t (param_forms params n (get_or params i d)) (inputs_from params (n + 1) (drop (i + 1) params)))

-- the operand with this number is the next one
pub operands_step : (params : List Param) (values : List ℕ) (t : List Node) (os : List Operand) (i : ℕ) (d : Operand)
    → i < length os
    → operands_made params values t (drop i os)
    ≡ operands_made params values t (get_or os i d ∷ drop (i + 1) os)
operands_step params values t os i d h = ap (operands_made params values t) (drop_more os i d h)

-- the output word with this number is the next one
pub words_step : (f : ℕ → ℕ) (words : List ℕ) (a e : ℕ) → a < e
    → words ++ map f (range_with_len a (e - a)) ≡ (words ++ f a ∷ []) ++ map f (range_with_len (a + 1) (e - (a + 1)))
words_step f words a e h = rw (range_step a e h) (sym (append_assoc words (f a ∷ []) _))

-- ---- what stands before the first operation

all_made_few : (t : List Node) (fs : List Form) → length (made_all t fs).table ≤ length t + length fs
all_made_few t [] = omega arith
all_made_few t (f ∷ fs) = let first = made_most t f in let rest = all_made_few (made t f).table fs in omega arith

-- from an empty table on, the sixteen starts
pub starts_few : (t u : List Node) → t ≡ [] → u ≡ (made_all t (map forms.Start (range_with_len 0 16))).table
    → length u ≤ 16
starts_few t u e f =
    let few = all_made_few t (map forms.Start (range_with_len 0 16)) in
    let none : length t ≡ 0 = ap length e in
    let same : length u ≡ length (made_all t (map forms.Start (range_with_len 0 16))).table = ap length f in
    omega (arith, length-map-range_with_len forms.Start 0 16)

-- and then the input words
pub start_made : (params : List Param) (t u w : List Node) → t ≡ []
    → u ≡ (made_all t (map forms.Start (range_with_len 0 16))).table
    → w ≡ (made_all u (inputs_from params 0 params)).table → w ≡ (made_all [] (start_forms params)).table
start_made params t u w e f g =
    g ∙ ap (λ (v : List Node). (made_all v (inputs_from params 0 params)).table) f
    ∙ sym (all_made_table t (map forms.Start (range_with_len 0 16)) (inputs_from params 0 params))
    ∙ ap (λ (v : List Node). (made_all v (start_forms params)).table) e

-- so it is a table of few nodes that forms of the program made
pub start_grown : (params : List Param) → AllByRecursion IsParam params → length params ≤ 6 → (t u w : List Node)
    → t ≡ [] → u ≡ (made_all t (map forms.Start (range_with_len 0 16))).table
    → w ≡ (made_all u (inputs_from params 0 params)).table → Grows (IsProgramForm params) [] (16 + 192) w
start_grown params all few t u w e f g =
    subst (Grows (IsProgramForm params) [] (16 + 192)) (sym (start_made params t u w e f g))
    (grows_more (IsProgramForm params) [] (made_all [] (start_forms params)).table (length (start_forms params))
    (16 + 192) (few_start_forms params all few) (start_grows params all))
