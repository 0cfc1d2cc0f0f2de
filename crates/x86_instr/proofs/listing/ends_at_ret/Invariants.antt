-- The lines before this one have no `ret`.
use Rattle.std.proofs.Common.{◌≡◌, drop}
use Rattle.x86_instr.specs.Listings.{ends_at_ret}
use Rattle.x86_instr.proofs.listing.ends_at_ret.Given as goal

-- the first `ret` is among the lines to come
abbrev pub invariant-loop-number : goal.invariant-loop-number
invariant-loop-number l = ends_at_ret (drop l.number l.lines) ≡ ends_at_ret l.fn.lines
