-- The addresses of a memory.
use Rattle.std.specs.Prelude.{◌≡◌, ℕ, ◌%◌, IsSome}
use Rattle.std.specs.Ordering.{nat_cmp}
use Rattle.std.specs.FinMap as map

-- each address that the memory has is a multiple of 8
abbrev pub AreAligned : map.FinMap nat_cmp ℕ → Type 0
AreAligned cells = (address : ℕ) → IsSome (map.get cells address) → address % 8 ≡ 0
