-- What intervals say of words.
use Rattle.std.specs.Prelude.{◌≡◌, ℕ, ◌-◌, ◌^◌, ◌<◌, ◌≤◌}
use Rattle.intervals.specs.declared.interval.Interval.{Interval}

-- the word lies in the interval
pub record IsBetween (i : Interval) (word : ℕ) : Type 0 where
  pub low : i.low ≤ word
  pub high : word ≤ i.high

-- the word lies in the interval, whose ends are words
pub record Holds (i : Interval) (word : ℕ) : Type 0 where
  pub between : IsBetween i word
  pub ends : i.high < 2 ^ 64

-- its low end is not above its high end, so a word lies in it
abbrev pub IsOrdered : Interval → Type 0
IsOrdered i = i.low ≤ i.high

-- the number is the least of the numbers 0, 1, 3, 7 .. of ones in binary that is at least the word
pub record AreLeastOnes (word n : ℕ) : Type 0 where
  pub above : word ≤ n
  pub ones : (j : ℕ) × (n ≡ 2 ^ j - 1)
  pub least : (j : ℕ) → word ≤ 2 ^ j - 1 → n ≤ 2 ^ j - 1
