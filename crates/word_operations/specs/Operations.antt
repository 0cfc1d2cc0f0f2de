-- The table of operations: the helper functions of Fiat Cryptography (addcarryx, subborrowx, mulx and
-- cmovznz), and plain word operations. A shift's count is a literal in the program and stands in the kind.
-- In the table of kinds it is 0.
use Rattle.std.specs.Prelude.{ℕ, ◌+◌, ◌-◌, ◌*◌, ◌/◌, ◌%◌, ◌^◌, Bool, true, false, ◌&&◌, ◌||◌, ◌==◌, nat_lt, List, []}
use Rattle.std.specs.Prelude.{◌∷◌, codes, Option, find, slice_index, slice_index_or, bit_and, bit_or, bit_xor}
use Rattle.std.specs.Prelude.{if◌then◌else◌}
use Rattle.std.specs.Str.{bytes_eq}
use Rattle.word_operations.specs.declared.kind.Kind.{Kind}
use Rattle.word_operations.specs.declared.kind.Kind.TheVariants.{AddCarry, SubBorrow, MulX, CMov, Add, Sub, Mul, And}
use Rattle.word_operations.specs.declared.kind.Kind.TheVariants.{Or, Xor, Not, Copy, Shl, Shr, Shrd}

-- ---- the form of an operation

abbrev pub kinds : List Kind
kinds = AddCarry ∷ SubBorrow ∷ MulX ∷ CMov ∷ Add ∷ Sub ∷ Mul ∷ And ∷ Or ∷ Xor ∷ Not ∷ Copy ∷ Shl 0 ∷ Shr 0 ∷ Shrd 0 ∷ []

abbrev pub name_of : Kind → List ℕ
name_of AddCarry = codes "addcarryx"
name_of SubBorrow = codes "subborrowx"
name_of MulX = codes "mulx"
name_of CMov = codes "cmovznz"
name_of Add = codes "+"
name_of Sub = codes "-"
name_of Mul = codes "*"
name_of And = codes "&"
name_of Or = codes "|"
name_of Xor = codes "^"
name_of Not = codes "~"
name_of Copy = codes "="
name_of (Shl count) = codes "<<"
name_of (Shr count) = codes ">>"
name_of (Shrd count) = codes "shrd"

abbrev pub kind_among : List Kind → List ℕ → Option Kind
kind_among among text = find (λ kind. bytes_eq text (name_of kind)) among

-- the kind of this name
unfoldable pub kind_named : List ℕ → Option Kind
kind_named text = kind_among kinds text

-- how many operands it has; a shift count is no operand
abbrev pub operand_count : Kind → ℕ
operand_count AddCarry = 3
operand_count SubBorrow = 3
operand_count MulX = 2
operand_count CMov = 3
operand_count Add = 2
operand_count Sub = 2
operand_count Mul = 2
operand_count And = 2
operand_count Or = 2
operand_count Xor = 2
operand_count Not = 1
operand_count Copy = 1
operand_count (Shl count) = 1
operand_count (Shr count) = 1
operand_count (Shrd count) = 2

-- its last argument is a shift count
abbrev pub takes_shift : Kind → Bool
takes_shift AddCarry = false
takes_shift SubBorrow = false
takes_shift MulX = false
takes_shift CMov = false
takes_shift Add = false
takes_shift Sub = false
takes_shift Mul = false
takes_shift And = false
takes_shift Or = false
takes_shift Xor = false
takes_shift Not = false
takes_shift Copy = false
takes_shift (Shl count) = true
takes_shift (Shr count) = true
takes_shift (Shrd count) = true

-- how many arguments it has: the operands, and a shift count after them
abbrev pub argument_count : Kind → ℕ
argument_count kind = operand_count kind + (if takes_shift kind then 1 else 0)

-- how many results it has
abbrev pub result_count : Kind → ℕ
result_count AddCarry = 2
result_count SubBorrow = 2
result_count MulX = 2
result_count CMov = 1
result_count Add = 1
result_count Sub = 1
result_count Mul = 1
result_count And = 1
result_count Or = 1
result_count Xor = 1
result_count Not = 1
result_count Copy = 1
result_count (Shl count) = 1
result_count (Shr count) = 1
result_count (Shrd count) = 1

-- its first argument is a carry, a borrow or a condition, which has to be a bit
abbrev pub takes_bit : Kind → Bool
takes_bit AddCarry = true
takes_bit SubBorrow = true
takes_bit MulX = false
takes_bit CMov = true
takes_bit Add = false
takes_bit Sub = false
takes_bit Mul = false
takes_bit And = false
takes_bit Or = false
takes_bit Xor = false
takes_bit Not = false
takes_bit Copy = false
takes_bit (Shl count) = false
takes_bit (Shr count) = false
takes_bit (Shrd count) = false

-- the argument at this place has to be a bit, or a shift count
abbrev pub needs_bit : Kind → ℕ → Bool
needs_bit kind place = takes_bit kind && place == 0

abbrev pub needs_shift : Kind → ℕ → Bool
needs_shift kind place = takes_shift kind && place == operand_count kind

-- the kind with this shift count, where it has one
abbrev pub with_shift : Kind → ℕ → Kind
with_shift AddCarry n = AddCarry
with_shift SubBorrow n = SubBorrow
with_shift MulX n = MulX
with_shift CMov n = CMov
with_shift Add n = Add
with_shift Sub n = Sub
with_shift Mul n = Mul
with_shift And n = And
with_shift Or n = Or
with_shift Xor n = Xor
with_shift Not n = Not
with_shift Copy n = Copy
with_shift (Shl count) n = Shl n
with_shift (Shr count) n = Shr n
with_shift (Shrd count) n = Shrd n

-- ---- what an operation computes

-- the results of an operation on its operands, in order; a carry, a borrow and a condition come first
abbrev pub results_on : Kind → ℕ → ℕ → ℕ → List ℕ
results_on AddCarry c a b = ((c + a + b) % 2 ^ 64) ∷ ((c + a + b) / 2 ^ 64) ∷ []
-- (a - b - c) modulo 2^64, and the borrow
results_on SubBorrow c a b = ((a + 2 * 2 ^ 64 - (b + c)) % 2 ^ 64) ∷ (if nat_lt a (b + c) then 1 else 0) ∷ []
-- the low word, then the high word
results_on MulX a b z = ((a * b) % 2 ^ 64) ∷ ((a * b) / 2 ^ 64) ∷ []
results_on CMov c z nz = (if c == 0 then z else nz) ∷ []
results_on Add a b z = ((a + b) % 2 ^ 64) ∷ []
results_on Sub a b z = ((a + 2 ^ 64 - b) % 2 ^ 64) ∷ []
results_on Mul a b z = ((a * b) % 2 ^ 64) ∷ []
results_on And a b z = bit_and a b ∷ []
results_on Or a b z = bit_or a b ∷ []
results_on Xor a b z = bit_xor a b ∷ []
results_on Not a y z = (2 ^ 64 - 1 - a) ∷ []
results_on Copy a y z = a ∷ []
results_on (Shl k) a y z = ((a * 2 ^ k) % 2 ^ 64) ∷ []
results_on (Shr k) a y z = (a / 2 ^ k) ∷ []
results_on (Shrd k) lo hi z = (lo / 2 ^ k + (hi * 2 ^ (64 - k)) % 2 ^ 64) ∷ []

-- the results of an operation of this kind on these words
abbrev pub results_of : Kind → List ℕ → List ℕ
results_of kind words = results_on kind (slice_index words 0) (slice_index words 1) (slice_index words 2)

-- ---- which results are bits

-- whether each result is a bit, by whether the operands are
abbrev pub bits_on : Kind → Bool → Bool → Bool → List Bool
bits_on AddCarry c a b = false ∷ true ∷ []
bits_on SubBorrow c a b = false ∷ true ∷ []
bits_on MulX a b z = false ∷ false ∷ []
bits_on CMov c z nz = (z && nz) ∷ []
bits_on Add a b z = false ∷ []
bits_on Sub a b z = false ∷ []
bits_on Mul a b z = false ∷ []
bits_on And a b z = (a || b) ∷ []
bits_on Or a b z = (a && b) ∷ []
bits_on Xor a b z = (a && b) ∷ []
bits_on Not a y z = false ∷ []
bits_on Copy a y z = a ∷ []
bits_on (Shl k) a y z = false ∷ []
bits_on (Shr k) a y z = (k == 63) ∷ []
bits_on (Shrd k) lo hi z = false ∷ []

abbrev pub result_bits : Kind → List Bool → List Bool
result_bits kind bits = bits_on kind (slice_index_or bits 0 false) (slice_index_or bits 1 false)
    (slice_index_or bits 2 false)
