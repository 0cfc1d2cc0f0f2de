-- How the code reads; no part of a promise, but for the ranges of numbers. The operands of instructions, as the tokens
-- of a line say them. Each function gives the operand that the tokens begin with, and the tokens behind it, one form
-- tried after the other. `Grammar` says by relations what they read.
use Rattle.std.specs.Prelude.{ℕ, ◌-◌, ◌^◌, ◌%◌, Bool, true, false, List, [], ◌∷◌, Option, Some, None, if◌then◌else◌}
use Rattle.std.specs.Prelude.{option_map, ℤ, pos, neg_ℤ, nat_lt, nat_le, codes}
use Rattle.x86_instr.specs.declared.operand.Reg.{Reg}
use Rattle.x86_instr.specs.declared.operand.Index.{Index}
use Rattle.x86_instr.specs.declared.operand.Mem.{Mem}
use Rattle.x86_instr.specs.declared.operand.Rm.{Rm}
use Rattle.x86_instr.specs.declared.operand.Rm.TheVariants as rms
use Rattle.x86_instr.specs.declared.operand.Src.{Src}
use Rattle.x86_instr.specs.declared.operand.Src.TheVariants as srcs
use Rattle.x86_instr.specs.Ranges.{is_shift_count, is_scale, is_index_reg}
use Rattle.base.specs.Options.{◌>>=◌, pick, guard}
use Rattle.asm_tokens.specs.Tokens.{Token, after, is_spaced}
use Rattle.base.specs.Numbers.{word}
use Rattle.asm_operands.specs.Names.{register_named, byte_register_named}

unfoldable pub register_at : List Token → Option (Reg × List Token)
register_at [] = None
register_at (t ∷ ts) = option_map (λ r. (r, ts)) (register_named t.text)

unfoldable pub byte_register_at : List Token → Option (Reg × List Token)
byte_register_at [] = None
byte_register_at (t ∷ ts) = option_map (λ r. (r, ts)) (byte_register_named t.text)

unfoldable pub number_at : List Token → Option (ℕ × List Token)
number_at [] = None
number_at (t ∷ ts) = option_map (λ n. (n, ts)) (word t.text)

-- the scale behind an index, 1 where none is written
unfoldable pub scale_at : List Token → Option (ℕ × List Token)
scale_at ts = pick (after (codes "*") ts) (λ rest. number_at rest >>= (λ n. guard (is_scale n.0) n)) (Some (1, ts))

unfoldable pub plus_register : List Token → Option (Reg × List Token)
plus_register ts = after (codes "+") ts >>= register_at

unfoldable pub scaled : Reg → List Token → Option (Option Index × List Token)
scaled r ts = scale_at ts >>= (λ s. Some (Some (record { reg = r; scale = s.0 }), s.1))

-- an index where a register follows a plus
unfoldable pub index_at : List Token → Option (Option Index × List Token)
index_at ts = pick (plus_register ts) (λ r. guard (is_index_reg r.0) r >>= (λ r. scaled r.0 r.1)) (Some (None, ts))

-- a number with its sign, from -2^31 to 2^31 - 1
abbrev pub signed_of : Bool → ℕ → Option ℤ
signed_of minus n =
    if minus then (if nat_le n (2 ^ 31) then Some (neg_ℤ (pos n)) else None)
    else (if nat_lt n (2 ^ 31) then Some (pos n) else None)

-- a number with its sign, from -2^63 to 2^64 - 1, modulo 2^64
abbrev pub word_of : Bool → ℕ → Option ℕ
word_of minus n = if minus then (if nat_le n (2 ^ 63) then Some ((2 ^ 64 - n) % 2 ^ 64) else None) else Some n

unfoldable pub offset_at : Bool → List Token → Option (ℤ × List Token)
offset_at minus ts = number_at ts >>= (λ n. signed_of minus n.0 >>= (λ d. Some (d, n.1)))

-- 0 where neither a plus nor a minus follows
unfoldable pub displacement_at : List Token → Option (ℤ × List Token)
displacement_at ts = pick (after (codes "+") ts) (λ rest. offset_at false rest)
    (pick (after (codes "-") ts) (λ rest. offset_at true rest) (Some (pos 0, ts)))

-- `[`, before which `qword ptr` may stand
unfoldable pub opened : List Token → Option (List Token)
opened ts = pick (after (codes "qword") ts) (λ rest. after (codes "ptr") rest >>= after (codes "["))
    (after (codes "[") ts)

unfoldable pub memory_at : List Token → Option (Mem × List Token)
memory_at ts = do
  inner ← opened ts
  base ← register_at inner
  index ← index_at base.1
  disp ← displacement_at index.1
  rest ← after (codes "]") disp.1
  Some (record { base = base.0; index = index.0; disp = disp.0 }, rest)

unfoldable pub rm_at : List Token → Option (Rm × List Token)
rm_at ts = pick (register_at ts) (λ r. Some (rms.Reg r.0, r.1)) (memory_at ts >>= (λ m. Some (rms.Mem m.0, m.1)))

-- whether a minus stands before the number, with no blank between them
unfoldable pub immediate_at : List Token → Option (Bool × ℕ × List Token)
immediate_at ts = pick (after (codes "-") ts)
    (λ rest. if is_spaced rest then None else (number_at rest >>= (λ n. Some (true, n.0, n.1))))
    (number_at ts >>= (λ n. Some (false, n.0, n.1)))

-- an immediate that is extended with its sign
unfoldable pub small_at : List Token → Option (ℤ × List Token)
small_at ts = immediate_at ts >>= (λ i. signed_of i.0 i.1 >>= (λ n. Some (n, i.2)))

-- an immediate of 64 bits
unfoldable pub wide_at : List Token → Option (ℕ × List Token)
wide_at ts = immediate_at ts >>= (λ i. word_of i.0 i.1 >>= (λ n. Some (n, i.2)))

unfoldable pub src_at : List Token → Option (Src × List Token)
src_at ts = pick (register_at ts) (λ r. Some (srcs.Reg r.0, r.1))
    (pick (memory_at ts) (λ m. Some (srcs.Mem m.0, m.1)) (small_at ts >>= (λ n. Some (srcs.Imm n.0, n.1))))

unfoldable pub count_at : List Token → Option (ℕ × List Token)
count_at ts = number_at ts >>= (λ n. guard (is_shift_count n.0) n)
