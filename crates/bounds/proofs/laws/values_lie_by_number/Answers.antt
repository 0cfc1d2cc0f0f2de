-- Values that lie in intervals, item by item, do so number by number.
use Rattle.std.proofs.Common.{ℕ, zero, suc, ◌<◌, List, [], ◌∷◌, length, arith}
use Rattle.std.specs.Prelude.{slice_index, slice_index_or}
use Rattle.base.proofs.Arithmetic.{not_below_zero}
use Rattle.intervals.specs.declared.interval.Interval.{Interval}
use Rattle.intervals.specs.Intervals.{full}
use Rattle.bounds.specs.Soundness.{LieIn}
use Rattle.intervals.specs.Soundness.{IsBetween}
use Rattle.bounds.proofs.laws.values_lie_by_number.Goals as goal

by_number : (is : List Interval) (vs : List ℕ) → LieIn is vs → (n : ℕ) → n < length vs
    → IsBetween (slice_index_or is n full) (slice_index vs n)
by_number [] [] t n h = absurd (not_below_zero n h)
by_number [] (v ∷ vs) t n h = absurd t
by_number (i ∷ is) [] t n h = absurd t
by_number (i ∷ is) (v ∷ vs) t zero h = record { low = t.0; high = t.1 }
by_number (i ∷ is) (v ∷ vs) t (suc n) h = by_number is vs t.2 n (omega arith)

pub returns : goal.returns
returns c = by_number
