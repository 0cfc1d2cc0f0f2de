-- Intervals of words. An interval has both of its ends. What two operands lie in tells in what a result lies.
use Rattle.std.specs.Prelude.{ℕ, ◌+◌, ◌-◌, ◌*◌, ◌/◌, ◌%◌, ◌^◌, ◌&&◌, ◌==◌, nat_lt, min, max, if◌then◌else◌}
use Rattle.std.specs.Int.{w64, leading_zeros}
use Rattle.intervals.specs.declared.interval.Interval.{Interval}

-- ---- words between two numbers

-- every word
abbrev pub full : Interval
full = record { low = 0; high = 2 ^ 64 - 1 }

-- the numbers from low to high modulo 2^64, where no multiple of 2^64 parts them, and else every word
abbrev pub window : ℕ → ℕ → Interval
window low high = if low / 2 ^ 64 == high / 2 ^ 64 then record { low = low % 2 ^ 64; high = high % 2 ^ 64 } else full

-- the floors of the numbers from low to high divided by 2^64
abbrev pub floors : ℕ → ℕ → Interval
floors low high = record { low = low / 2 ^ 64; high = high / 2 ^ 64 }

-- the numbers from low to high, where both are words, and else every word
abbrev pub fitting : ℕ → ℕ → Interval
fitting low high = if nat_lt low (2 ^ 64) && nat_lt high (2 ^ 64) then record { low = low; high = high } else full

-- the least number of ones in binary that is at least the word: as many ones as the word has digits
abbrev pub ones : ℕ → ℕ
ones word = 2 ^ (64 - leading_zeros w64 word) - 1

-- ---- results of operations

-- the low word of a product, and the high word
abbrev pub product_low : Interval → Interval → Interval
product_low a b = fitting (a.low * b.low) (a.high * b.high)

abbrev pub product_high : Interval → Interval → Interval
product_high a b = floors (a.low * b.low) (a.high * b.high)

-- by bits: and, or, exclusive or
abbrev pub bits_and : Interval → Interval → Interval
bits_and a b = record { low = 0; high = min a.high b.high }

abbrev pub bits_or : Interval → Interval → Interval
bits_or a b = record { low = max a.low b.low; high = ones (max a.high b.high) }

abbrev pub bits_xor : Interval → Interval → Interval
bits_xor a b = record { low = 0; high = ones (max a.high b.high) }

-- a word shifted to the right by k bits
abbrev pub shifted_right : Interval → ℕ → Interval
shifted_right a k = record { low = a.low / 2 ^ k; high = a.high / 2 ^ k }

-- one of two words
abbrev pub choice : Interval → Interval → Interval
choice a b = record { low = min a.low b.low; high = max a.high b.high }
