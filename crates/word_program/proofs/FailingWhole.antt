-- The first fault of a program's parts is the first of all the rules that fail.
use Rattle.std.proofs.Common.{◌≡◌, ℕ, ◌+◌, ◌<◌, ◌≤◌, ◌⊎◌, inl, inr, Bool, true, false, not, List, [], ◌∷◌, ◌++◌, map}
use Rattle.std.proofs.Common.{length}
use Rattle.std.proofs.Common.{refl, sym, ◌∙◌, ap, ap₂, subst, append_assoc, arith, get_or}
use Rattle.std.proofs.lemmas.List.{append-nil, map-append}
use Rattle.std.proofs.lemmas.Option.{slice_get_within, slice_get-get_or}
use Rattle.std.specs.Prelude.{None, fold, cond}
use Rattle.word_text.specs.declared.fault.Section.TheVariants.{Top, Returns, Arguments}
use Rattle.word_text.specs.declared.parts.RawOp.{RawOp}
use Rattle.word_text.specs.declared.parts.RawProgram.{RawProgram}
use Rattle.word_program.specs.declared.parameter.Bounds.{Bounds}
use Rattle.word_program.specs.declared.parameter.Param.{Param}
use Rattle.word_program.specs.declared.operation.Target.{Target}
use Rattle.word_program.specs.Program.{full}
use Rattle.word_program.specs.Values.{is_output}
use Rattle.word_program.specs.Walk.{RuleFault, place_in, walk}
use Rattle.word_program.specs.Rules.{Scope, start, with_result, with_operation, scope_after, target_of}
use Rattle.word_program.specs.Rules.{params_of, is_written, missing_word, missing_in, missing}
use Rattle.word_program.specs.Rules.{first_fault}
use Rattle.word_program.specs.Failing.{TopFails, turn, by_turn}
use Rattle.word_program.specs.Failing.{by_item, by_part, results_in}
use Rattle.word_program.proofs.RowLemmas.{not_true}
use Rattle.word_program.proofs.BodyLemmas.{with_results, fold_results, operation_scope}
use Rattle.word_program.proofs.FailingOrder.{Finds, At, AllBefore, Somewhere, finds_at, finds_as, finds_or, finds_walk}
use Rattle.word_program.proofs.FailingParams.{top_found, section_turn, InParameters, params_found}
use Rattle.word_program.proofs.FailingBody.{operation_place, InBody, operations_found}

pub from_zero : (n : ℕ) → 0 + n ≡ n
from_zero n = omega arith

-- ---- the scope after operations

-- the results so far have these texts
pub record IsRead (params : List Param) (texts : List (List ℕ)) (s : Scope) : Type 0 where
  pub params_kept : s.params ≡ params
  pub names_kept : s.names ≡ texts
  pub targets_kept : s.targets ≡ map (target_of params) texts

read_more : (params : List Param) (texts more : List (List ℕ)) (s : Scope) → IsRead params texts s
    → IsRead params (texts ++ more) (with_results s more)
read_more params texts more s is = record {
  params_kept = is.params_kept;
  names_kept = ap (λ ns. ns ++ more) is.names_kept;
  targets_kept = ap₂ (λ ts ps. ts ++ map (target_of ps) more) is.targets_kept is.params_kept
      ∙ sym (map-append (target_of params) texts more);
}

pub read_results : (params : List Param) (texts more : List (List ℕ)) (s : Scope) → IsRead params texts s
    → IsRead params (texts ++ more) (fold with_result s more)
read_results params texts more s is =
    subst (IsRead params (texts ++ more)) (sym (fold_results more s)) (read_more params texts more s is)

read_operation : (params : List Param) (texts : List (List ℕ)) (s : Scope) (o : RawOp) → IsRead params texts s
    → IsRead params (texts ++ o.results) (with_operation s o)
read_operation params texts s o is =
    let more = read_more params texts o.results s is in
    subst (IsRead params (texts ++ o.results)) (sym (operation_scope s o)) record {
      params_kept = more.params_kept;
      names_kept = more.names_kept;
      targets_kept = more.targets_kept;
    }

read_operations : (params : List Param) (body : List RawOp) (texts : List (List ℕ)) (s : Scope)
    → IsRead params texts s → IsRead params (texts ++ results_in body) (fold with_operation s body)
read_operations params [] texts s is = subst (λ ts. IsRead params ts s) (sym (append-nil texts)) is
read_operations params (o ∷ os) texts s is =
    subst (λ ts. IsRead params ts (fold with_operation (with_operation s o) os))
    (append_assoc texts o.results (results_in os))
    (read_operations params os (texts ++ o.results) (with_operation s o) (read_operation params texts s o is))

pub scope_read : (params : List Param) (body : List RawOp) → IsRead params (results_in body) (scope_after params body)
scope_read params body =
    let none : IsRead params [] (start params) =
    record { params_kept = refl; names_kept = refl; targets_kept = refl } in
    read_operations params body [] (start params) none

-- ---- words that are never written

AtWord : List Target → ℕ → Unit {0} → ℕ → Bounds → RuleFault → Type 0
AtWord ts n u k b = At (place_in Returns n k) (λ code. (code ≡ 14) × (is_written ts n k ≡ false))

word_found : (ts : List Target) (n : ℕ) (u : Unit {0}) (k : ℕ) (b : Bounds)
    → Finds (AtWord ts n u k b) (missing_word ts n u k b)
unfolding AtWord
word_found ts n u k b =
    finds_at (λ code. (code ≡ 14) × (is_written ts n k ≡ false)) (place_in Returns n k)
    ((14, not (is_written ts n k)) ∷ []) (λ c d a b. ap (λ code. turn code Returns) (a.0 ∙ sym b.0)) refl
    ((λ e. (refl, not_true _ e)), λ m. tt) (λ code a. inl (a.0, ap not a.1))

words_found : (ts : List Target) (n : ℕ) (bounds : List Bounds)
    → Finds (Somewhere (AtWord ts n) (λ u b. u) tt 0 bounds) (walk (missing_word ts n) (λ u b. u) tt 0 bounds)
unfolding AtWord
words_found ts n bounds =
    finds_walk (AtWord ts n) (missing_word ts n) (λ u b. u) (word_found ts n) order bounds tt 0
  where
    order : (u v : Unit {0}) (k l : ℕ) (x y : Bounds) → k < l → AllBefore (AtWord ts n u k x) (AtWord ts n v l y)
    order u v k l x y lt f g a b =
        let ft : turn f.0 f.1.section ≡ 4 = ap₂ (λ c p. turn c p.section) a.1.0 a.0 in
        let gt : turn g.0 g.1.section ≡ 4 = ap₂ (λ c p. turn c p.section) b.1.0 b.0 in
        let fn : f.1.inner ≡ k = ap (λ p. p.inner) a.0 in
        let gn : g.1.inner ≡ l = ap (λ p. p.inner) b.0 in
        by_part (ft ∙ sym gt) (ap (λ p. p.item) a.0 ∙ sym (ap (λ p. p.item) b.0)) (omega arith)

-- a word of this parameter is an output word that is never written
abbrev pub IsUnwritten : List Target → Unit {0} → ℕ → Param → RuleFault → Type 0
IsUnwritten ts u n p f =
    (is_output p.role ≡ true) × (k : ℕ) × (k < length p.bounds) × (is_written ts n k ≡ false) × (f.0 ≡ 14)
    × (f.1 ≡ place_in Returns n k)

unwritten_found : (ts : List Target) (u : Unit {0}) (n : ℕ) (p : Param)
    → Finds (IsUnwritten ts u n p) (missing_in ts u n p)
unfolding AtWord
unwritten_found ts u n p = by_role (is_output p.role) refl
  where
    to : is_output p.role ≡ true → (f : RuleFault) → Somewhere (AtWord ts n) (λ u b. u) tt 0 p.bounds f
        → IsUnwritten ts u n p f
    to e f w =
        let k = from_zero w.0 in (
          e,
          w.0,
          slice_get_within p.bounds w.0 w.1 w.2,
          subst (λ m. is_written ts n m ≡ false) k w.3.1.1,
          w.3.1.0,
          w.3.0 ∙ ap (place_in Returns n) k,
        )

    back : (f : RuleFault) → IsUnwritten ts u n p f → Somewhere (AtWord ts n) (λ u b. u) tt 0 p.bounds f
    back f w =
        let k = sym (from_zero w.1) in (
          w.1,
          get_or p.bounds w.1 full,
          slice_get-get_or p.bounds w.1 full w.2,
          (w.5 ∙ ap (place_in Returns n) k, (w.4, subst (λ m. is_written ts n m ≡ false) k w.3)),
        )

    by_role : (b : Bool) → is_output p.role ≡ b
        → Finds (IsUnwritten ts u n p) (cond b (walk (missing_word ts n) (λ u b. u) tt 0 p.bounds) None)
    by_role true e =
        finds_as (Somewhere (AtWord ts n) (λ u b. u) tt 0 p.bounds) (IsUnwritten ts u n p) _ (to e) back
        (words_found ts n p.bounds)
    by_role false e = λ f w. let no : false ≡ true = sym e ∙ w.0 in cc no

unfoldable pub InUnwritten : List Target → List Param → RuleFault → Type 0
InUnwritten ts params = Somewhere (IsUnwritten ts) (λ u p. u) tt 0 params

missing_found : (params : List Param) (ts : List Target) → Finds (InUnwritten ts params) (missing params ts)
unfolding missing InUnwritten
missing_found params ts =
    finds_walk (IsUnwritten ts) (missing_in ts) (λ u p. u) (unwritten_found ts) order params tt 0
  where
    order : (u v : Unit {0}) (n m : ℕ) (x y : Param) → n < m → AllBefore (IsUnwritten ts u n x) (IsUnwritten ts v m y)
    order u v n m x y lt f g a b =
        let ft : turn f.0 f.1.section ≡ 4 = ap₂ (λ c p. turn c p.section) a.4 a.5 in
        let gt : turn g.0 g.1.section ≡ 4 = ap₂ (λ c p. turn c p.section) b.4 b.5 in
        let fi : f.1.item ≡ n = ap (λ p. p.item) a.5 in
        let gi : g.1.item ≡ m = ap (λ p. p.item) b.5 in
        by_item (ft ∙ sym gt) (omega arith)

-- ---- the whole

unfoldable pub final_targets : RawProgram → List Target
final_targets parts = (scope_after (params_of parts) parts.body).targets

abbrev pub InRest : RawProgram → RuleFault → Type 0
InRest parts f = InBody (params_of parts) parts.body f ⊎ InUnwritten (final_targets parts) (params_of parts) f

abbrev pub Anywhere : RawProgram → RuleFault → Type 0
Anywhere parts f = At (place_in Top 0 0) (TopFails parts) f ⊎ (InParameters parts f ⊎ InRest parts f)

params_turn : (parts : RawProgram) (f : RuleFault) → InParameters parts f
    → (turn f.0 f.1.section ≡ 1) ⊎ (turn f.0 f.1.section ≡ 2)
params_turn parts f (inl a) = inl (section_turn Returns [] parts.returns f a)
params_turn parts f (inr a) = inr (section_turn Arguments _ parts.arguments f a)

body_turn : (params : List Param) (body : List RawOp) (f : RuleFault) → InBody params body f
    → turn f.0 f.1.section ≡ 3
body_turn params body f w =
    let p = operation_place _ _ w.1 f w.3 in ap (λ p. turn f.0 p.section) p.1

unwritten_turn : (ts : List Target) (params : List Param) (f : RuleFault) → InUnwritten ts params f
    → turn f.0 f.1.section ≡ 4
unfolding InUnwritten
unwritten_turn ts params f w = ap₂ (λ c p. turn c p.section) w.3.4 w.3.5

rest_turn : (parts : RawProgram) (f : RuleFault) → InRest parts f
    → (turn f.0 f.1.section ≡ 3) ⊎ (turn f.0 f.1.section ≡ 4)
rest_turn parts f (inl a) = inl (body_turn _ parts.body f a)
rest_turn parts f (inr a) = inr (unwritten_turn _ _ f a)

after_top : (parts : RawProgram) (f : RuleFault) → InParameters parts f ⊎ InRest parts f → 1 ≤ turn f.0 f.1.section
after_top parts f (inl a) = let t = params_turn parts f a in grind arith
after_top parts f (inr a) = let t = rest_turn parts f a in grind arith

pub whole_found : (parts : RawProgram) → Finds (Anywhere parts) (first_fault parts)
unfolding first_fault final_targets
whole_found parts =
    finds_or (At (place_in Top 0 0) (TopFails parts)) (λ f. InParameters parts f ⊎ InRest parts f) _ _
    (λ f g a b.
    let ft : turn f.0 f.1.section ≡ 0 = ap (λ p. turn f.0 p.section) a.0 in
    let gt : 1 ≤ turn g.0 g.1.section = after_top parts g b in
    by_turn (omega arith))
    (top_found parts)
    (λ e.
    finds_or (InParameters parts) (InRest parts) _ _
    (λ f g a b.
    let ft : (turn f.0 f.1.section ≡ 1) ⊎ (turn f.0 f.1.section ≡ 2) = params_turn parts f a in
    let gt : (turn g.0 g.1.section ≡ 3) ⊎ (turn g.0 g.1.section ≡ 4) = rest_turn parts g b in
    by_turn (grind arith))
    (params_found parts)
    (λ e.
    finds_or (InBody (params_of parts) parts.body) (InUnwritten (final_targets parts) (params_of parts)) _ _
    (λ f g a b.
    let ft : turn f.0 f.1.section ≡ 3 = body_turn _ parts.body f a in
    let gt : turn g.0 g.1.section ≡ 4 = unwritten_turn _ _ g b in
    by_turn (omega arith))
    (operations_found (params_of parts) parts.body) (λ e. missing_found (params_of parts) (final_targets parts))))
