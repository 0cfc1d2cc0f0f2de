-- Identifiers are texts in UTF-8.
use Rattle.std.proofs.Common.{◌≡◌, ℕ, ◌<◌, true, List, [], ◌∷◌, slice_index, arith, suc, zero}
use Rattle.std.specs.List.{list_all}
use Rattle.std.specs.Str.{IsUtf8}
use Rattle.std.proofs.lemmas.Bool.{and_parts}
use Rattle.std.proofs.lemmas.Bool.Decides.{nat_tests}
use Rattle.std.proofs.lemmas.Str.{IsUtf8-from_ascii}
use Rattle.base.specs.Identifiers.{is_name_start, is_name_byte, is_identifier}

start_ascii : (b : ℕ) → is_name_start b ≡ true → b < 128
start_ascii b h = grind (arith, nat_tests)

byte_ascii : (b : ℕ) → is_name_byte b ≡ true → b < 128
byte_ascii b h = grind (arith, nat_tests)

bytes_ascii : (bs : List ℕ) → list_all is_name_byte bs ≡ true → (i : ℕ) → slice_index bs i < 128
bytes_ascii [] h i = omega arith
bytes_ascii (b ∷ bs) h zero = byte_ascii b (and_parts (is_name_byte b) (list_all is_name_byte bs) h).0
bytes_ascii (b ∷ bs) h (suc i) = bytes_ascii bs (and_parts (is_name_byte b) (list_all is_name_byte bs) h).1 i

name_ascii : (bs : List ℕ) → is_identifier bs ≡ true → (i : ℕ) → slice_index bs i < 128
unfolding is_identifier
name_ascii [] h i = omega arith
name_ascii (b ∷ bs) h zero = start_ascii b (and_parts (is_name_start b) _ h).0
name_ascii (b ∷ bs) h (suc i) = bytes_ascii bs
    (and_parts (list_all is_name_byte bs) _ (and_parts (is_name_start b) _ h).1).0 i

pub is_utf8_name : (bs : List ℕ) → is_identifier bs ≡ true → IsUtf8 bs
is_utf8_name bs h = IsUtf8-from_ascii bs (name_ascii bs h)
