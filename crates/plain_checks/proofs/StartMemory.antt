-- The memory at the start: the words of input arrays are known.
use Rattle.std.proofs.Common.{◌≡◌, ℕ, zero, suc, ◌+◌, ◌<◌, true, List, [], ◌∷◌, map, ap, ◌∙◌}
use Rattle.std.proofs.Common.{arith, replicate, length, Option, Some, None}
use Rattle.std.specs.Prelude.{slice_get, if◌then◌else◌}
use Rattle.std.specs.List.{range_with_len}
use Rattle.base.specs.Options.{◌>>=◌}
use Rattle.word_program.specs.declared.parameter.Param.{Param}
use Rattle.word_program.specs.declared.parameter.Role.{Role}
use Rattle.word_program.specs.declared.parameter.Role.TheVariants.{Output, InputArray, InputScalar}
use Rattle.word_program.specs.Values.{is_input_array, is_output, is_scalar}
use Rattle.terms.specs.declared.nodes.Node.{Node}
use Rattle.symbolic_state.specs.Symbols.{Array}
use Rattle.symbolic_state.specs.Cells.{known}
use Rattle.symbolic_state.specs.Starts.{array_at_start, arrays_at_start, input_node}

array_at : (t : List Node) (params : List Param) (k : ℕ) (ps : List Param) (i : ℕ) (p : Param)
    → slice_get ps i ≡ Some p → slice_get (arrays_at_start t params k ps) i ≡ Some (array_at_start t params (k + i) p)
array_at t params k [] i p e = absurd (cc)
array_at t params k (q ∷ ps) zero p e =
    let is : q ≡ p = cc in
    ap (λ (x : Param). Some (array_at_start t params k x)) is
    ∙ ap (λ (n : ℕ). Some (array_at_start t params n p)) (omega arith)
array_at t params k (q ∷ ps) (suc i) p e = array_at t params (k + 1) ps i p e
    ∙ ap (λ (n : ℕ). Some (array_at_start t params n p)) (omega arith)

word_known : (f : ℕ → ℕ) (k n word : ℕ) → word < n
    → known (map (λ w. Some (f w)) (range_with_len k n)) word ≡ Some (f (k + word))
word_known f k zero word h = absurd (omega arith)
word_known f k (suc n) zero h = ap (λ (m : ℕ). Some (f m)) (omega arith)
word_known f k (suc n) (suc word) h = word_known f (k + 1) n word (omega arith)
    ∙ ap (λ (m : ℕ). Some (f m)) (omega arith)

-- a word of an input array
role_known : (f : ℕ → ℕ) (role : Role) (n word : ℕ) → is_input_array role ≡ true → word < n
    → known (if is_scalar role then [] else if is_output role then replicate n None else
    map (λ w. Some (f w)) (range_with_len 0 n)) word ≡ Some (f word)
role_known f Output n word e h = absurd (cc)
role_known f InputArray n word e h = word_known f 0 n word h ∙ ap (λ (m : ℕ). Some (f m)) (omega arith)
role_known f InputScalar n word e h = absurd (cc)

pub start_input : (t : List Node) (params : List Param) (param word : ℕ) (p : Param) → slice_get params param ≡ Some p
    → is_input_array p.role ≡ true → word < length p.bounds
    → (slice_get (arrays_at_start t params 0 params) param >>= λ array. known array.words word)
    ≡ Some (input_node t params param word)
start_input t params param word p e role h =
    ap (λ (o : Option Array). o >>= λ array. known array.words word) (array_at t params 0 params param p e)
    ∙ role_known (input_node t params (0 + param)) p.role (length p.bounds) word role h
    ∙ ap (λ (n : ℕ). Some (input_node t params n word)) (omega arith)
