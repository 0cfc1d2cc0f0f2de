-- The number so far, and the digits that are left.
use Rattle.std.proofs.Common.{◌≡◌, ◌<◌, ◌^◌, drop}
use Rattle.base.specs.Numbers.{numeral}
use Rattle.base.proofs.Digits.{numeral_after}
use Rattle.base.proofs.numbers.numeral.Given as goal

-- the number so far and the digits that are left write the number
abbrev pub invariant-loop-byte : goal.invariant-loop-byte
invariant-loop-byte l = record {
  fits : l.value < 2 ^ 64;
  read : numeral l.radix l.text ≡ numeral_after l.radix l.value (drop l.byte-index l.text);
}
