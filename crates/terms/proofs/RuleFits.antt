-- What the rules make is a number of the table, or a node that refers to its numbers alone.
use Rattle.std.proofs.Common.{◌≡◌, ℕ, zero, suc, ◌+◌, ◌<◌, List, length, ◌||◌, eqb, leb, Option, Some, None}
use Rattle.std.proofs.Common.{refl, arith}
use Rattle.base.specs.Options.{pick}
use Rattle.intervals.specs.Intervals.{bits_and, bits_or, bits_xor, product_high, choice}
use Rattle.terms.specs.declared.nodes.Node.{Node}
use Rattle.terms.specs.declared.nodes.NodeKind.TheVariants as kinds
use Rattle.terms.specs.declared.nodes.Built.{Built}
use Rattle.terms.specs.Tables.{node_at, IsTable}
use Rattle.terms.specs.Forms.{BuiltFits}
use Rattle.terms.specs.Rules.{low_at, high_at, interval_at, constant_at, is_const, own, a_bit, covers, both_const}
use Rattle.terms.specs.Rules.{tested}
use Rattle.terms.specs.Rules.{zero_of, and_of, or_of, xor_of, mul_hi_of, select_below, select_of}
use Rattle.terms.proofs.Cases.{by_if}
use Rattle.terms.proofs.ConstantValues.{own_fits}
use Rattle.terms.proofs.SelectTurns.{tested_below}

module _ (table : List Node) (t : IsTable table) where
  pub zero_fits : (x : ℕ) → x < length table → BuiltFits table (zero_of table x)
  unfolding zero_of
  zero_fits x h =
      by_if (BuiltFits table) (leb 1 (low_at table x)) _ _ (λ _. tt)
      (λ _. by_if (BuiltFits table) (is_const table x 0) _ _ (λ _. tt) (λ _. own_fits table (kinds.Zero x) a_bit h))

  both_fit : (f : ℕ → ℕ → ℕ) (o q : Option ℕ) (other : Built) → BuiltFits table other
      → BuiltFits table (both_const f o q other)
  both_fit f (Some v) (Some w) other n = tt
  both_fit f (Some v) None other n = n
  both_fit f None q other n = n

  pub and_fits : (a b : ℕ) → a < length table → b < length table → BuiltFits table (and_of table a b)
  unfolding and_of
  and_fits a b h j =
      by_if (BuiltFits table) (eqb a b) _ _ (λ _. h)
      (λ _. by_if (BuiltFits table) (is_const table a 0 || is_const table b 0) _ _ (λ _. tt)
      (λ _. by_if (BuiltFits table) (covers (constant_at table a) (high_at table b)) _ _ (λ _. j)
      (λ _. by_if (BuiltFits table) (covers (constant_at table b) (high_at table a)) _ _ (λ _. h)
      (λ _. both_fit _ (constant_at table a) (constant_at table b) _
      (own_fits table (kinds.And a b) (bits_and (interval_at table a) (interval_at table b)) (h, j))))))

  pub or_fits : (a b : ℕ) → a < length table → b < length table → BuiltFits table (or_of table a b)
  unfolding or_of
  or_fits a b h j =
      by_if (BuiltFits table) (eqb a b) _ _ (λ _. h)
      (λ _. by_if (BuiltFits table) (is_const table a 0) _ _ (λ _. j)
      (λ _. by_if (BuiltFits table) (is_const table b 0) _ _ (λ _. h)
      (λ _. both_fit _ (constant_at table a) (constant_at table b) _
      (own_fits table (kinds.Or a b) (bits_or (interval_at table a) (interval_at table b)) (h, j)))))

  pub xor_fits : (a b : ℕ) → a < length table → b < length table → BuiltFits table (xor_of table a b)
  unfolding xor_of
  xor_fits a b h j =
      by_if (BuiltFits table) (eqb a b) _ _ (λ _. tt)
      (λ _. by_if (BuiltFits table) (is_const table a 0) _ _ (λ _. j)
      (λ _. by_if (BuiltFits table) (is_const table b 0) _ _ (λ _. h)
      (λ _. both_fit _ (constant_at table a) (constant_at table b) _
      (own_fits table (kinds.Xor a b) (bits_xor (interval_at table a) (interval_at table b)) (h, j)))))

  pub mul_hi_fits : (a b : ℕ) → a < length table → b < length table → BuiltFits table (mul_hi_of table a b)
  unfolding mul_hi_of
  mul_hi_fits a b h j =
      own_fits table (kinds.MulHi a b) (product_high (interval_at table a) (interval_at table b)) (h, j)

  below_fits : (bound c x y : ℕ) → c < length table → x < length table → y < length table
      → BuiltFits table (select_below bound table c x y)
  unfolding select_below
  below_fits zero c x y h j k =
      own_fits table (kinds.Select c x y) (choice (interval_at table x) (interval_at table y)) (h, j, k)
  below_fits (suc bound) c x y h j k =
      by_if (BuiltFits table) (leb 1 (low_at table c)) _ _ (λ _. k)
      (λ _. by_if (BuiltFits table) (is_const table c 0) _ _ (λ _. j)
      (λ _. by_if (BuiltFits table) (eqb x y) _ _ (λ _. j)
      (λ _. by_tested (λ b l. below_fits bound b y x (omega arith) k j) (tested (node_at table c).kind) refl))) where
        by_tested : ((b : ℕ) → b < c → BuiltFits table (select_below bound table b y x)) → (o : Option ℕ)
            → tested (node_at table c).kind ≡ o → BuiltFits table (pick o (λ b. select_below bound table b y x)
            (own (kinds.Select c x y) (choice (interval_at table x) (interval_at table y))))
        by_tested turned None e =
            own_fits table (kinds.Select c x y) (choice (interval_at table x) (interval_at table y)) (h, j, k)
        by_tested turned (Some b) e = turned b (tested_below table t c b h e)

  pub select_fits : (c x y : ℕ) → c < length table → x < length table → y < length table
      → BuiltFits table (select_of table c x y)
  unfolding select_of
  select_fits c x y h j k = below_fits (c + 1) c x y h j k
