-- A carry or borrow that is the constant 0 is left out.
use Rattle.std.proofs.Common.{◌≡◌, ℕ, ◌*◌, ◌-◌, ◌^◌, ◌<◌, List, [], ◌∷◌, length, map, Bool, false, cond}
use Rattle.std.proofs.Common.{leb, ltb, sym, ap, ◌∙◌, arith}
use Rattle.std.specs.List.{sum_by}
use Rattle.terms.specs.declared.lists.Term.{Term}
use Rattle.terms.specs.declared.nodes.Node.{Node}
use Rattle.terms.specs.declared.nodes.Form.TheVariants as forms
use Rattle.terms.specs.declared.nodes.Built.TheVariants.{Make}
use Rattle.terms.specs.Tables.{node_at}
use Rattle.terms.specs.Sums.{constant_of, opened, opened_constant, scaled_term, terms_of, weight}
use Rattle.terms.specs.Rules.{borrow_left, borrow_of, by_number, carry_left, carry_of, const_node, high_at}
use Rattle.terms.specs.Rules.{insert_number}
use Rattle.terms.specs.Rules.{is_left, low_at, normal_of, without_zeros}
use Rattle.terms.proofs.Cases.{by_if}
use Rattle.terms.proofs.NumberLists.{total_by_number, total_is_sum}
use Rattle.term_laws.proofs.Rotations.{number_rotated}
use Rattle.term_laws.proofs.SumsAlike.{lin_alike}

-- ---- numbers in order

-- the sum over numbers in order is that over the numbers
pub sum_in_order : (f : ℕ → ℕ) (ms : List ℕ) → sum_by f (by_number ms) ≡ sum_by f ms
sum_in_order f ms = sym (total_is_sum f (by_number ms)) ∙ total_by_number f ms ∙ total_is_sum f ms

module _ (t : List Node) (c : ℕ) (e : node_at t c ≡ const_node 0) where
  not_left : is_left t c ≡ false
  not_left = ap (λ (n : Node). is_left (n ∷ []) 0) e

  left_put : (ns : List ℕ) → without_zeros t (insert_number c ns) ≡ without_zeros t ns
  left_put [] = ap (λ (b : Bool). cond b (c ∷ []) []) not_left
  left_put (n ∷ ns) =
      by_if (λ (l : List ℕ). without_zeros t l ≡ without_zeros t (n ∷ ns)) (ltb n c) (n ∷ insert_number c ns)
      (c ∷ n ∷ ns) (λ _. ap (λ (l : List ℕ). cond (is_left t n) (n ∷ l) l) (left_put ns))
      (λ _. ap (λ (b : Bool). cond b (c ∷ without_zeros t (n ∷ ns)) (without_zeros t (n ∷ ns))) not_left)

  low_nought : low_at t c ≡ 0
  low_nought = ap (λ (n : Node). n.low) e

  high_nought : high_at t c ≡ 0
  high_nought = ap (λ (n : Node). n.high) e

  -- ---- carries and borrows

  carry_left_out : (a b : ℕ) → carry_of t (by_number (a ∷ b ∷ [])) ≡ carry_of t (by_number (c ∷ a ∷ b ∷ []))
  unfolding carry_of by_number
  carry_left_out a b =
      let two = a ∷ b ∷ [] in
      let three = c ∷ a ∷ b ∷ [] in
      let low = low_nought in
      let high = high_nought in
      let lows : sum_by (low_at t) (by_number two) ≡ sum_by (low_at t) (by_number three) =
      sum_in_order (low_at t) two ∙ omega arith ∙ sym (sum_in_order (low_at t) three) in
      let highs : sum_by (high_at t) (by_number two) ≡ sum_by (high_at t) (by_number three) =
      sum_in_order (high_at t) two ∙ omega arith ∙ sym (sum_in_order (high_at t) three) in
      let left : without_zeros t (by_number two) ≡ without_zeros t (by_number three) =
      sym (left_put (by_number two)) ∙ ap (without_zeros t) (number_rotated c a b) in
      (λ i. cond (leb (2 ^ 64) (lows i)) (Make (const_node 1))
      (cond (ltb (highs i) (2 ^ 64)) (Make (const_node 0)) (carry_left t (left i))))

  borrow_left_out : (a b : ℕ) → borrow_of t a (by_number (b ∷ [])) ≡ borrow_of t a (by_number (b ∷ c ∷ []))
  unfolding borrow_of by_number
  borrow_left_out a b =
      let one = b ∷ [] in
      let two = b ∷ c ∷ [] in
      let low = low_nought in
      let high = high_nought in
      let lows : sum_by (low_at t) (by_number one) ≡ sum_by (low_at t) (by_number two) =
      sum_in_order (low_at t) one ∙ omega arith ∙ sym (sum_in_order (low_at t) two) in
      let highs : sum_by (high_at t) (by_number one) ≡ sum_by (high_at t) (by_number two) =
      sum_in_order (high_at t) one ∙ omega arith ∙ sym (sum_in_order (high_at t) two) in
      let left : without_zeros t (by_number one) ≡ without_zeros t (by_number two) =
      sym (left_put (by_number one)) in
      (λ i. cond (leb (highs i) (low_at t a)) (Make (const_node 0))
      (cond (ltb (high_at t a) (lows i)) (Make (const_node 1)) (borrow_left t a (left i))))

  -- ---- sums

  no_constant : (opens : Bool) (times : ℕ) → opened_constant opens t (record { times = times; node = c }) ≡ 0
  no_constant opens times = ap (λ (n : Node). times * constant_of opens n.kind) e ∙ omega arith

  no_weight : (opens : Bool) (times n : ℕ) → weight (opened opens t (record { times = times; node = c })) n ≡ 0
  no_weight opens times n = ap (λ (m : Node). weight (map (scaled_term times) (terms_of opens c m.kind)) n) e

pub sum_nought : (t : List Node) (c a b : ℕ) → node_at t c ≡ const_node 0
    → c < length t → a < length t → b < length t
    → normal_of t (forms.Lin 0 (record { times = 1; node = a } ∷ record { times = 1; node = b } ∷ []))
    ≡ normal_of t (forms.Lin 0 (record { times = 1; node = c } ∷ record { times = 1; node = a }
    ∷ record { times = 1; node = b } ∷ []))
unfolding normal_of
sum_nought t c a b e i j k =
    let one : ℕ → Term = λ n. record { times = 1; node = n } in
    lin_alike t 0 (one a ∷ one b ∷ []) (one c ∷ one a ∷ one b ∷ [])
    (λ opens. let z = no_constant t c e opens 1 in omega arith)
    (λ opens n. let z = no_weight t c e opens 1 n in omega arith)

pub carry_nought : (t : List Node) (c a b : ℕ) → node_at t c ≡ const_node 0
    → normal_of t (forms.Carry (a ∷ b ∷ [])) ≡ normal_of t (forms.Carry (c ∷ a ∷ b ∷ []))
unfolding normal_of
carry_nought t c a b e = carry_left_out t c e a b

pub difference_nought : (t : List Node) (c a b : ℕ) → node_at t c ≡ const_node 0
    → c < length t → a < length t → b < length t
    → normal_of t (forms.Lin 0 (record { times = 1; node = a } ∷ record { times = 2 ^ 64 - 1; node = b } ∷ []))
    ≡ normal_of t (forms.Lin 0 (record { times = 1; node = a } ∷ record { times = 2 ^ 64 - 1; node = b }
    ∷ record { times = 2 ^ 64 - 1; node = c } ∷ []))
unfolding normal_of
difference_nought t c a b e i j k =
    let one : Term = record { times = 1; node = a } in
    let less : ℕ → Term = λ n. record { times = 2 ^ 64 - 1; node = n } in
    lin_alike t 0 (one ∷ less b ∷ []) (one ∷ less b ∷ less c ∷ [])
    (λ opens. let z = no_constant t c e opens (2 ^ 64 - 1) in omega arith)
    (λ opens n. let z = no_weight t c e opens (2 ^ 64 - 1) n in omega arith)

pub borrow_nought : (t : List Node) (c a b : ℕ) → node_at t c ≡ const_node 0
    → normal_of t (forms.Borrow a (b ∷ [])) ≡ normal_of t (forms.Borrow a (b ∷ c ∷ []))
unfolding normal_of
borrow_nought t c a b e = borrow_left_out t c e a b
