-- Results by bits: the rules keep the word of each form, and what they make has it in its interval.
use Rattle.std.proofs.Common.{◌≡◌, ℕ, zero, suc, ◌-◌, ◌*◌, ◌/◌, ◌^◌, ◌<◌, ◌≤◌, List, length, true, false, cond}
use Rattle.std.proofs.Common.{◌||◌, eqb, leb, max, Option, Some, None, refl, sym, ap, ◌∙◌, ⊎_elim, arith}
use Rattle.std.specs.Prelude.{bit_and, bit_or, bit_xor}
use Rattle.std.specs.Int.{leading_zeros, w64}
use Rattle.std.specs.Int.Count.{count_leading_zeros}
use Rattle.std.specs.Int.Bits.{and_self, or_self, xor_self, or_zero_l, or_zero_r, xor_zero_l, xor_zero_r}
use Rattle.std.proofs.lemmas.Nat.{and_comm, and_le_l, and_le_r, le_or_l, le_or_r, or_lt, xor_lt, and_mask}
use Rattle.std.proofs.lemmas.Nat.{leading_length, pow_pos}
use Rattle.std.proofs.lemmas.Bool.{cases_lt}
use Rattle.std.proofs.Math.Nat.{mod-eq_of_lt}
use Rattle.intervals.specs.Intervals.{ones, bits_and, bits_or, bits_xor}
use Rattle.terms.specs.declared.nodes.Node.{Node}
use Rattle.terms.specs.declared.nodes.NodeKind.TheVariants as kinds
use Rattle.terms.specs.declared.nodes.Built.{Built}
use Rattle.terms.specs.declared.nodes.Built.TheVariants.{Make}
use Rattle.terms.specs.Tables.{IsTable}
use Rattle.terms.specs.Meaning.{Start, IsValuation, IsSound, Stands}
use Rattle.terms.specs.Rules.{low_at, high_at, interval_at, constant_at, is_const, const_node, a_bit, covers}
use Rattle.terms.specs.Rules.{both_const}
use Rattle.terms.specs.Rules.{and_of, or_of, xor_of, zero_of}
use Rattle.terms.proofs.Cases.{by_if, first_true, second_true, one_true, from_eqb, from_leb}
use Rattle.terms.proofs.ConstantValues.{const_value, is_const_value, finished_stands}

-- ---- ones

-- a number of so many digits or more has no leading zeros
no_leading : (k n : ℕ) → 2 ^ k ≤ n → count_leading_zeros k n ≡ 0
unfolding count_leading_zeros
no_leading zero n h = refl
no_leading (suc k) zero h = absurd (let p = pow_pos (suc k) in omega arith)
no_leading (suc k) (suc n) h = no_leading k (suc n / 2) (let e : 2 ^ suc k ≡ 2 * 2 ^ k = omega arith in omega arith)

-- a word at most n has at most the digits of n
digits : (x n : ℕ) → x < 2 ^ 64 → x ≤ n → x < 2 ^ (64 - leading_zeros w64 n)
digits x n w h = ⊎_elim
    (λ (p : n < 2 ^ 64). let l = leading_length 64 n p in
    let e : 64 - leading_zeros w64 n ≡ l.0 = omega (arith, l.1) in rw e (omega (arith, l.2)))
    (λ (p : 2 ^ 64 ≤ n). let e : 64 - leading_zeros w64 n ≡ 64 = omega (arith, no_leading 64 n p) in rw e w)
    (cases_lt n (2 ^ 64))

-- ones that are at least a word keep it
ones_keep : (v x : ℕ) → ones v ≡ v → x ≤ v → bit_and v x ≡ x
ones_keep v x e h = mask (64 - leading_zeros w64 v) (sym e) where
  mask : (m : ℕ) → v ≡ 2 ^ m - 1 → bit_and v x ≡ x
  mask m p = let q = pow_pos m in and_comm v x ∙ ap (bit_and x) p ∙ and_mask x m ∙ mod-eq_of_lt (omega arith)

module _ (start : Start) (val : ℕ → ℕ) (table : List Node) (t : IsTable table)
    (i : IsValuation start table val) (s : IsSound table val) where
  -- ---- Zero

  zero_bit : (n : ℕ) → cond (eqb n 0) 1 0 ≤ 1
  zero_bit n = by_if (λ (m : ℕ). m ≤ 1) (eqb n 0) 1 0 (λ _. omega arith) (λ _. omega arith)

  not_zero : (n : ℕ) → 1 ≤ n → ◌≡◌ {A = ℕ} 0 (cond (eqb n 0) 1 0)
  not_zero n h =
      by_if (λ (m : ℕ). ◌≡◌ {A = ℕ} 0 m) (eqb n 0) 1 0 (λ e. let f = from_eqb n 0 e in omega arith) (λ _. refl)

  constant_stands : (v w : ℕ) → v ≡ w → Stands start val w (Make (const_node v))
  constant_stands v w e = (e, omega arith, omega arith)

  pub zero_stands : (x : ℕ) → x < length table → Stands start val (cond (eqb (val x) 0) 1 0) (zero_of table x)
  unfolding zero_of
  zero_stands x h =
      let P : Built → Type 0 = Stands start val (cond (eqb (val x) 0) 1 0) in
      by_if P (leb 1 (low_at table x)) _ _ (λ e. let l = from_leb 1 (low_at table x) e in let a = s.above x h in
      constant_stands 0 _ (not_zero (val x) (omega arith)))
      (λ _. by_if P (is_const table x 0) _ _ (λ e. let z = is_const_value start val table i s x 0 h e in
      constant_stands 1 _ (ap (λ (n : ℕ). cond (eqb n 0) 1 0) (sym z)))
      (λ _. finished_stands start val (kinds.Zero x) a_bit _ refl (omega arith) (zero_bit (val x))))

  -- ---- And

  covered : (a b : ℕ) → a < length table → b < length table → covers (constant_at table a) (high_at table b) ≡ true
      → bit_and (val a) (val b) ≡ val b
  covered a b h j e = by_constant (constant_at table a) refl e where
    by_constant : (o : Option ℕ) → constant_at table a ≡ o → covers o (high_at table b) ≡ true
        → bit_and (val a) (val b) ≡ val b
    by_constant None p c = absurd (let f : false ≡ true = c in cc)
    by_constant (Some v) p c =
        let va = const_value start val table i s a v h p in
        let fits : high_at table b ≤ v = from_leb (high_at table b) v (second_true (eqb (ones v) v) _ c) in
        let below = s.below b j in
        ap (λ (n : ℕ). bit_and n (val b)) va ∙ ones_keep v (val b) (from_eqb _ _ (first_true _ _ c)) (omega arith)

  -- two constants, or else
  both_stand : (f : ℕ → ℕ → ℕ) (a b : ℕ) (other : Built) → a < length table → b < length table
      → Stands start val (f (val a) (val b)) other
      → Stands start val (f (val a) (val b)) (both_const f (constant_at table a) (constant_at table b) other)
  both_stand f a b other h j n = both (constant_at table a) (constant_at table b) refl refl where
    both : (o q : Option ℕ) → constant_at table a ≡ o → constant_at table b ≡ q
        → Stands start val (f (val a) (val b)) (both_const f o q other)
    both (Some v) (Some w) p r =
        let e : val a ≡ v = const_value start val table i s a v h p in
        let g : val b ≡ w = const_value start val table i s b w j r in
        constant_stands (f v w) _ (sym (λ x. f (e x) (g x)))
    both (Some v) None p r = n
    both None q p r = n

  same : (f : ℕ → ℕ → ℕ) → ((n : ℕ) → f n n ≡ n) → (a b : ℕ) → a ≡ b → val a ≡ f (val a) (val b)
  same f self a b e = sym (ap (λ (n : ℕ). f (val a) (val n)) (sym e) ∙ self (val a))

  pub and_stands : (a b : ℕ) → a < length table → b < length table
      → Stands start val (bit_and (val a) (val b)) (and_of table a b)
  unfolding and_of
  and_stands a b h j =
      let P : Built → Type 0 = Stands start val (bit_and (val a) (val b)) in
      by_if P (eqb a b) _ _ (λ e. same bit_and and_self a b (from_eqb a b e))
      (λ _. by_if P (is_const table a 0 || is_const table b 0) _ _ (λ e. ⊎_elim
      (λ (p : is_const table a 0 ≡ true). let z = is_const_value start val table i s a 0 h p in
      let l = and_le_l (val a) (val b) in constant_stands 0 _ (omega arith))
      (λ (p : is_const table b 0 ≡ true). let z = is_const_value start val table i s b 0 j p in
      let l = and_le_r (val a) (val b) in constant_stands 0 _ (omega arith))
      (one_true _ _ e))
      (λ _. by_if P (covers (constant_at table a) (high_at table b)) _ _ (λ e. sym (covered a b h j e))
      (λ _. by_if P (covers (constant_at table b) (high_at table a)) _ _
      (λ e. sym (and_comm (val a) (val b) ∙ covered b a j h e))
      (λ _. both_stand bit_and a b _ h j
      (finished_stands start val (kinds.And a b) (bits_and (interval_at table a) (interval_at table b)) _ refl
      (omega arith) (omega (arith, and_le_l (val a) (val b), and_le_r (val a) (val b), s.below a h, s.below b j)))))))

  -- ---- Or, Xor

  left_digits : (a b : ℕ) → a < length table
      → val a < 2 ^ (64 - leading_zeros w64 (max (high_at table a) (high_at table b)))
  left_digits a b h =
      digits (val a) (max (high_at table a) (high_at table b)) (s.word a h) (omega (arith, s.below a h))

  right_digits : (a b : ℕ) → b < length table
      → val b < 2 ^ (64 - leading_zeros w64 (max (high_at table a) (high_at table b)))
  right_digits a b h =
      digits (val b) (max (high_at table a) (high_at table b)) (s.word b h) (omega (arith, s.below b h))

  below_ones : (x m : ℕ) → x < 2 ^ m → x ≤ 2 ^ m - 1
  below_ones x m h = omega (arith, h)

  pub or_stands : (a b : ℕ) → a < length table → b < length table
      → Stands start val (bit_or (val a) (val b)) (or_of table a b)
  unfolding or_of
  or_stands a b h j =
      let P : Built → Type 0 = Stands start val (bit_or (val a) (val b)) in
      let m = 64 - leading_zeros w64 (max (high_at table a) (high_at table b)) in
      by_if P (eqb a b) _ _ (λ e. same bit_or or_self a b (from_eqb a b e))
      (λ _. by_if P (is_const table a 0) _ _
      (λ e. sym (ap (λ (n : ℕ). bit_or n (val b)) (is_const_value start val table i s a 0 h e) ∙ or_zero_l (val b)))
      (λ _. by_if P (is_const table b 0) _ _
      (λ e. sym (ap (bit_or (val a)) (is_const_value start val table i s b 0 j e) ∙ or_zero_r (val a)))
      (λ _. both_stand bit_or a b _ h j
      (finished_stands start val (kinds.Or a b) (bits_or (interval_at table a) (interval_at table b)) _ refl
      (omega (arith, le_or_l (val a) (val b), le_or_r (val a) (val b), s.above a h, s.above b j))
      (below_ones _ m (or_lt m (val a) (val b) (left_digits a b h) (right_digits a b j)))))))

  pub xor_stands : (a b : ℕ) → a < length table → b < length table
      → Stands start val (bit_xor (val a) (val b)) (xor_of table a b)
  unfolding xor_of
  xor_stands a b h j =
      let P : Built → Type 0 = Stands start val (bit_xor (val a) (val b)) in
      let m = 64 - leading_zeros w64 (max (high_at table a) (high_at table b)) in
      by_if P (eqb a b) _ _ (λ e. constant_stands 0 _
      (sym (ap (λ (n : ℕ). bit_xor (val a) (val n)) (sym (from_eqb a b e)) ∙ xor_self (val a))))
      (λ _. by_if P (is_const table a 0) _ _
      (λ e. sym (ap (λ (n : ℕ). bit_xor n (val b)) (is_const_value start val table i s a 0 h e) ∙ xor_zero_l (val b)))
      (λ _. by_if P (is_const table b 0) _ _
      (λ e. sym (ap (bit_xor (val a)) (is_const_value start val table i s b 0 j e) ∙ xor_zero_r (val a)))
      (λ _. both_stand bit_xor a b _ h j
      (finished_stands start val (kinds.Xor a b) (bits_xor (interval_at table a) (interval_at table b)) _ refl
      (omega arith)
      (below_ones _ m (xor_lt m (val a) (val b) (left_digits a b h) (right_digits a b j)))))))
