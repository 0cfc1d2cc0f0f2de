-- Where the words that a symbolic state knows of all outputs are the program's nodes, each word of each output is.
use Rattle.std.proofs.Common.{◌≡◌, ℕ, zero, suc, ◌+◌, ◌<◌, true, List, [], ◌∷◌, ◌++◌, length, map, take}
use Rattle.std.proofs.Common.{drop}
use Rattle.std.proofs.Common.{Option, Some, None, refl, sym, ap, ◌∙◌, subst, option_map, arith}
use Rattle.std.specs.Prelude.{slice_get, if◌then◌else◌}
use Rattle.std.specs.List.{flat_map, range_with_len}
use Rattle.std.proofs.Math.Seq.{take-append_seam, drop-append_seam}
use Rattle.std.proofs.lemmas.Option.{slice_get-map, slice_get-get_or}
use Rattle.std.proofs.lemmas.List.FromFn.{get_or-map-range_with_len, length-map-range_with_len}
use Rattle.std.proofs.lemmas.List.{length-map}
use Rattle.base.specs.Options.{◌>>=◌}
use Rattle.word_program.specs.declared.operation.Target.{Target}
use Rattle.word_program.specs.declared.parameter.Param.{Param}
use Rattle.word_program.specs.declared.parameter.Role.{Role}
use Rattle.word_program.specs.declared.parameter.Role.TheVariants.{Output, InputArray, InputScalar}
use Rattle.word_program.specs.Values.{is_output, is_scalar, outputs_from, stored_word}
use Rattle.symbolic_state.specs.Symbols.{Array}
use Rattle.symbolic_state.specs.Cells.{known}
use Rattle.symbolic_state.specs.Fitting.{HaveShapes}

none_is_some : {A : Type 0} (x : A) → None ≡ Some x → ⊥
none_is_some x e = cc

some_inj : {A : Type 0} (x y : A) → Some x ≡ Some y → x ≡ y
some_inj x y e = cc

append_split : {A : Type 0} (xs us ys vs : List A) → length xs ≡ length us → xs ++ ys ≡ us ++ vs → (xs ≡ us) × (ys ≡ vs)
append_split xs us ys vs l e = (
  sym (take-append_seam xs ys) ∙ ap (λ ws. take (length xs) ws) e ∙ ap (λ n. take n (us ++ vs)) l
      ∙ take-append_seam us vs,
  sym (drop-append_seam xs ys) ∙ ap (λ ws. drop (length xs) ws) e ∙ ap (λ n. drop n (us ++ vs)) l
      ∙ drop-append_seam us vs,
)

map_append : {A B : Type 0} (f : A → B) (xs ys : List A) → map f (xs ++ ys) ≡ map f xs ++ map f ys
map_append f [] ys = refl
map_append f (x ∷ xs) ys = ap (λ zs. f x ∷ zs) (map_append f xs ys)

-- the words of an array, where it is an output
abbrev written : Array → List (Option ℕ)
written array = if is_output array.role then array.words else []

module _ (ts : List Target) (ns : List ℕ) where
  abbrev nodes_of : ℕ → ℕ → List ℕ
  nodes_of param count = map (stored_word ts ns param) (range_with_len 0 count)

  abbrev param_nodes : ℕ → Param → List ℕ
  param_nodes param p = if is_output p.role then nodes_of param (length p.bounds) else []

  same_length : (role : Role) (words : List (Option ℕ)) (param count : ℕ)
      → length words ≡ (if is_scalar role then 0 else count)
      → length (if is_output role then words else [])
      ≡ length (map Some (if is_output role then nodes_of param count else []))
  same_length Output words param count e =
      e ∙ sym (length-map (nodes_of param count) Some ∙ length-map-range_with_len (stored_word ts ns param) 0 count)
  same_length InputArray words param count e = refl
  same_length InputScalar words param count e = refl

  first_and_rest : (p : Param) (ps : List Param) (a : Array) (bs : List Array) (k : ℕ) → HaveShapes (p ∷ ps) (a ∷ bs)
      → flat_map written (a ∷ bs) ≡ map Some (outputs_from ts ns k (p ∷ ps))
      → (written a ≡ map Some (param_nodes k p)) × (flat_map written bs ≡ map Some (outputs_from ts ns (k + 1) ps))
  first_and_rest p ps a bs k h e =
      append_split (written a) (map Some (param_nodes k p)) (flat_map written bs) (map Some (outputs_from ts ns
      (k + 1) ps))
      (subst (λ (role : Role). length (if is_output role then a.words else []) ≡ length (map Some (param_nodes k p)))
      (sym h.0) (same_length p.role a.words k (length p.bounds) h.1))
      (e ∙ map_append Some (param_nodes k p) (outputs_from ts ns (k + 1) ps))

  -- a word of the list of an output's nodes
  known_word : (param count word : ℕ) → word < count
      → known (map Some (nodes_of param count)) word ≡ Some (stored_word ts ns param word)
  known_word param count word h =
      let l = length-map-range_with_len (stored_word ts ns param) 0 count in
      ap (λ o. o >>= λ node. node) (slice_get-map Some (nodes_of param count) word)
      ∙ ap (λ (o : Option ℕ). found o) (slice_get-get_or (nodes_of param count) word 0 (omega arith))
      ∙ ap (λ n. Some n) (get_or-map-range_with_len (stored_word ts ns param) 0 count word word 0 h (omega arith)) where
        found : Option ℕ → Option ℕ
        found o = option_map Some o >>= λ node. node

  first_known : (a : Array) (d : Param) (k word : ℕ) → a.role ≡ d.role → written a ≡ map Some (param_nodes k d)
      → is_output d.role ≡ true → word < length d.bounds → known a.words word ≡ Some (stored_word ts ns (k + 0) word)
  first_known a d k word r e o w =
      let f : a.words ≡ map Some (nodes_of k (length d.bounds)) =
      sym (ap (λ b. if b then a.words else []) (ap is_output r ∙ o)) ∙ e
      ∙ ap (λ b. map Some (if b then nodes_of k (length d.bounds) else [])) o in
      ap (λ ws. known ws word) f ∙ known_word k (length d.bounds) word w
      ∙ ap (λ n. Some (stored_word ts ns n word)) (omega arith)

  pub output_known : (ps : List Param) (bs : List Array) (k : ℕ) → HaveShapes ps bs
      → flat_map written bs ≡ map Some (outputs_from ts ns k ps) → (q word : ℕ) (p : Param) → slice_get ps q ≡ Some p
      → is_output p.role ≡ true → word < length p.bounds
      → (slice_get bs q >>= λ array. known array.words word) ≡ Some (stored_word ts ns (k + q) word)
  output_known [] bs k h e q word p g o w = absurd (none_is_some p g)
  output_known (d ∷ ps) [] k h e q word p g o w = absurd h
  output_known (d ∷ ps) (a ∷ bs) k h e zero word p g o w =
      let q : d ≡ p = some_inj d p g in
      let first = (first_and_rest d ps a bs k h e).0 in
      first_known a d k word h.0 first (subst (λ (r : Param). is_output r.role ≡ true) (sym q) o)
      (subst (λ (r : Param). word < length r.bounds) (sym q) w)
  output_known (d ∷ ps) (a ∷ bs) k h e (suc q) word p g o w =
      output_known ps bs (k + 1) h.2 (first_and_rest d ps a bs k h e).1 q word p g o w
      ∙ ap (λ n. Some (stored_word ts ns n word)) (omega arith)
