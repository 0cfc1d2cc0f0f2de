-- What the rules make of sums, carries and borrows refers to numbers of the table alone.
use Rattle.std.proofs.Common.{ℕ, ◌^◌, ◌<◌, List, length, get_or, Bool, true, false, ◌&&◌, eqb, leb, ltb}
use Rattle.std.proofs.Common.{arith}
use Rattle.std.specs.List.{sum_by}
use Rattle.terms.specs.declared.lists.Term.{Term}
use Rattle.terms.specs.declared.nodes.Node.{Node}
use Rattle.terms.specs.declared.nodes.NodeKind.TheVariants as kinds
use Rattle.terms.specs.declared.nodes.Built.{Built}
use Rattle.terms.specs.Tables.{node_at, IsTable, AreBelow, AreTermsBelow}
use Rattle.terms.specs.Forms.{BuiltFits}
use Rattle.terms.specs.Sums.{sum_constant, sum_terms, sum_interval}
use Rattle.terms.specs.Rules.{is_const, no_term, sum_of, lin_of, is_left, low_at, high_at, a_bit}
use Rattle.terms.specs.Rules.{passes, by_number, without_zeros, carry_left, carry_of, borrow_left, borrow_of}
use Rattle.terms.proofs.Cases.{by_if, from_eqb, first_true, second_true}
use Rattle.terms.proofs.ConstantValues.{own_fits}
use Rattle.terms.proofs.SumValues.{AreTerms-below, sum_terms_are}
use Rattle.terms.proofs.NumberLists.{filter_below, number_below}

module _ (table : List Node) (t : IsTable table) where
  sum_fits : (k : ℕ) (ts : List Term) (wide : Built) → AreTermsBelow (length table) ts → BuiltFits table wide
      → BuiltFits table (sum_of table k ts wide)
  unfolding sum_of
  sum_fits k ts wide a w =
      by_if (BuiltFits table) (eqb (length ts) 0) _ _ (λ _. tt)
      (λ _. by_if (BuiltFits table)
      (eqb k 0 && (eqb (length ts) 1 && eqb (get_or ts 0 no_term).times 1)) _ _
      (λ e. let l = from_eqb (length ts) 1 (first_true _ _ (second_true (eqb k 0) _ e)) in a 0 no_term (omega arith))
      (λ _. by_if (BuiltFits table) (leb (length ts) 16) _ _
      (λ _. own_fits table (kinds.Sum k ts) (sum_interval table k ts) a) (λ _. w)))

  pub lin_fits : (k : ℕ) (ts : List Term) → AreTermsBelow (length table) ts → BuiltFits table (lin_of table k ts)
  unfolding lin_of
  lin_fits k ts a =
      let inside = λ (opens : Bool). AreTerms-below (length table) (sum_terms opens table ts)
      (sum_terms_are opens table ts t a) in
      sum_fits (sum_constant true table k ts) (sum_terms true table ts) _ (inside true)
      (own_fits table (kinds.Wide (sum_constant false table k ts) (sum_terms false table ts))
      (sum_interval table (sum_constant false table k ts) (sum_terms false table ts)) (inside false))

  left_carry_fits : (ms : List ℕ) → AreBelow (length table) ms → BuiltFits table (carry_left table ms)
  unfolding carry_left
  left_carry_fits ms a =
      by_if (BuiltFits table) (eqb (length ms) 2 && passes table (get_or ms 0 0) (get_or ms 1 0)) _ _
      (λ e. let l = from_eqb (length ms) 2 (first_true _ _ e) in a 1 0 (omega arith))
      (λ _. by_if (BuiltFits table) (eqb (length ms) 2 && passes table (get_or ms 1 0) (get_or ms 0 0)) _ _
      (λ e. let l = from_eqb (length ms) 2 (first_true _ _ e) in a 0 0 (omega arith))
      (λ _. own_fits table (kinds.Carry ms) a_bit a))

  ordered_carry_fits : (ms : List ℕ) → AreBelow (length table) ms → BuiltFits table (carry_of table ms)
  unfolding carry_of
  ordered_carry_fits ms a =
      by_if (BuiltFits table) (leb (2 ^ 64) (sum_by (low_at table) ms)) _ _ (λ _. tt)
      (λ _. by_if (BuiltFits table) (ltb (sum_by (high_at table) ms) (2 ^ 64)) _ _ (λ _. tt)
      (λ _. left_carry_fits (without_zeros table ms) (filter_below (length table) (is_left table) ms a)))

  pub carry_fits : (list : List ℕ) → AreBelow (length table) list → BuiltFits table (carry_of table (by_number list))
  carry_fits list a = ordered_carry_fits (by_number list) (number_below (length table) list a)

  left_borrow_fits : (a : ℕ) (ms : List ℕ) → a < length table → AreBelow (length table) ms
      → BuiltFits table (borrow_left table a ms)
  unfolding borrow_left
  left_borrow_fits a ms h inside =
      by_if (BuiltFits table)
      (is_const table a 0 && (eqb (length ms) 1 && leb (node_at table (get_or ms 0 0)).high 1)) _ _
      (λ e. let l = from_eqb (length ms) 1 (first_true _ _ (second_true (is_const table a 0) _ e)) in
      inside 0 0 (omega arith))
      (λ _. own_fits table (kinds.Borrow a ms) a_bit (h, inside))

  ordered_borrow_fits : (a : ℕ) (ms : List ℕ) → a < length table → AreBelow (length table) ms
      → BuiltFits table (borrow_of table a ms)
  unfolding borrow_of
  ordered_borrow_fits a ms h inside =
      by_if (BuiltFits table) (leb (sum_by (high_at table) ms) (low_at table a)) _ _ (λ _. tt)
      (λ _. by_if (BuiltFits table) (ltb (high_at table a) (sum_by (low_at table) ms)) _ _ (λ _. tt)
      (λ _. left_borrow_fits a (without_zeros table ms) h (filter_below (length table) (is_left table) ms inside)))

  pub borrow_fits : (a : ℕ) (list : List ℕ) → a < length table → AreBelow (length table) list
      → BuiltFits table (borrow_of table a (by_number list))
  borrow_fits a list h inside = ordered_borrow_fits a (by_number list) h (number_below (length table) list inside)
