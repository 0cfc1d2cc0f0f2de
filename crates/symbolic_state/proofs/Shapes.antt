-- The arrays of a symbolic state are those of the program's parameters.
use Rattle.std.proofs.Common.{◌≡◌, ℕ, zero, suc, true, false, List, [], ◌∷◌, length, Some}
use Rattle.std.proofs.Common.{not, slice_get, if◌then◌else◌, refl, sym, ap, ◌∙◌, subst}
use Rattle.std.specs.Option.{option_map_or}
use Rattle.std.proofs.lemmas.Option.{same_Some}
use Rattle.word_program.specs.declared.parameter.Param.{Param}
use Rattle.word_program.specs.declared.parameter.Role.{Role}
use Rattle.word_program.specs.declared.parameter.Role.TheVariants.{Output, InputArray, InputScalar}
use Rattle.word_program.specs.Values.{is_output, is_scalar}
use Rattle.x86_meaning.specs.Start.{array_words, output_words, is_output_array}
use Rattle.symbolic_state.specs.Symbols.{Array}
use Rattle.symbolic_state.specs.Fitting.{HaveShapes}

-- the parameter of an array
pub record ParamOf (params : List Param) (number : ℕ) (array : Array) : Type 0 where
  pub param : Param
  pub there : slice_get params number ≡ Some param
  pub role : array.role ≡ param.role
  pub words : length array.words ≡ (if is_scalar param.role then 0 else length param.bounds)

pub param_of : (params : List Param) (arrays : List Array) (number : ℕ) (array : Array) → HaveShapes params arrays
    → slice_get arrays number ≡ Some array → ParamOf params number array
param_of [] [] number array shapes e = cc
param_of [] (a ∷ arrays) number array shapes e = absurd shapes
param_of (p ∷ params) [] number array shapes e = absurd shapes
param_of (p ∷ params) (a ∷ arrays) zero array shapes e =
    subst (ParamOf (p ∷ params) zero) (same_Some a array e) (record {
      param = p;
      there = refl;
      role = shapes.0;
      words = shapes.1;
    })
param_of (p ∷ params) (a ∷ arrays) (suc number) array shapes e =
    let rest = param_of params arrays number array shapes.2 e in
    record { param = rest.param; there = rest.there; role = rest.role; words = rest.words }

role_words : (role : Role) (n : ℕ) → (if is_scalar role then 0 else n) ≡ (if not (is_scalar role) then n else 0)
role_words Output n = refl
role_words InputArray n = refl
role_words InputScalar n = refl

-- an array has its area's words
pub words_are : (params : List Param) (number : ℕ) (array : Array) → ParamOf params number array
    → length array.words ≡ array_words params number
words_are params number array p = p.words ∙ (role_words p.param.role (length p.param.bounds)
    ∙ ap (λ o. option_map_or (λ q. if not (is_scalar q.role) then length q.bounds else 0) o 0) (sym p.there))

output_role : (role : Role) (n : ℕ) → is_output role ≡ true
    → (if is_scalar role then 0 else n) ≡ (if is_output role then n else 0)
output_role Output n e = refl
output_role InputArray n e = cc
output_role InputScalar n e = cc

-- all of an output's words may be written
pub output_words_are : (params : List Param) (number : ℕ) (array : Array) → ParamOf params number array
    → is_output array.role ≡ true → length array.words ≡ output_words params number
output_words_are params number array p e = p.words
    ∙ (output_role p.param.role (length p.param.bounds) (ap is_output (sym p.role) ∙ e)
    ∙ ap (λ o. option_map_or (λ q. if is_output q.role then length q.bounds else 0) o 0) (sym p.there))

-- whether the parameter is an output
pub output_is : (params : List Param) (number : ℕ) (array : Array) → ParamOf params number array
    → is_output_array params number ≡ is_output array.role
output_is params number array p =
    ap (λ o. option_map_or (λ q. is_output q.role) o false) p.there ∙ ap is_output (sym p.role)
