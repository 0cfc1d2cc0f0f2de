-- Results lie in their intervals.
use Rattle.std.proofs.Common.{ℕ}
use Rattle.intervals.specs.declared.interval.Interval.{Interval}
use Rattle.intervals.specs.Soundness.{Holds}
use Rattle.intervals.proofs.Lies.{Lies, either_lies, product_low_lies, product_high_lies, bits_and_lies, bits_or_lies}
use Rattle.intervals.proofs.Lies.{bits_xor_lies, shifted_right_lies}
use Rattle.intervals.proofs.laws.results_lie_in_intervals.Goals as goal

lies : {i : Interval} {a : ℕ} → Holds i a → Lies a i
lies h = record { low = h.between.low; high = h.between.high; word = h.ends }

holds : {i : Interval} {a : ℕ} → Lies a i → Holds i a
holds h = record { between = record { low = h.low; high = h.high }; ends = h.word }

pub returns : goal.returns
returns c = record {
  product_low = λ i j a b h g. holds (product_low_lies a b i j (lies h) (lies g));
  product_high = λ i j a b h g. holds (product_high_lies a b i j (lies h) (lies g));
  bits_and = λ i j a b h g. holds (bits_and_lies a b i j (lies h) (lies g));
  bits_or = λ i j a b h g. holds (bits_or_lies a b i j (lies h) (lies g));
  bits_xor = λ i j a b h g. holds (bits_xor_lies a b i j (lies h) (lies g));
  shifted_right = λ i a k h. holds (shifted_right_lies a k i (lies h));
  choice = λ i j a b first h g. holds (either_lies first a b i j (lies h) (lies g));
}
