-- The bytes of the stack that a listing reserves in its first line, by `sub` from the stack pointer.
use Rattle.std.specs.Prelude.{ℕ, ◌%◌, Bool, ◌&&◌, ◌==◌, nat_le, List, [], ◌∷◌, if◌then◌else◌, ℤ, pos, negsuc}
use Rattle.x86_instr.specs.declared.operand.Reg.TheVariants.{Rsp}
use Rattle.x86_instr.specs.declared.operand.Src.TheVariants as srcs
use Rattle.x86_instr.specs.declared.instr.Bin.TheVariants.{Sub}
use Rattle.x86_instr.specs.declared.instr.Instr.{Instr}
use Rattle.x86_instr.specs.declared.instr.Instr.TheVariants as instrs
use Rattle.x86_instr.specs.declared.line.Line.{Line}
use Rattle.x86_instr.specs.declared.listing.TheConstants.{MAX_FRAME_BYTES}

-- a multiple of 8 from 8 to the limit
abbrev pub is_frame : ℕ → Bool
is_frame n = n % 8 == 0 && (nat_le 8 n && nat_le n MAX_FRAME_BYTES)

abbrev pub frame_bytes : ℤ → ℕ
frame_bytes (pos n) = if is_frame n then n else 0
frame_bytes (negsuc n) = 0

abbrev pub reserved_by : Instr → ℕ
reserved_by (instrs.Bin Sub Rsp (srcs.Imm n)) = frame_bytes n
reserved_by _ = 0

-- the bytes that the listing with these lines reserves: F where its first line is `sub rsp, F` with such an
-- F, else 0
abbrev pub frame_of : List Line → ℕ
frame_of [] = 0
frame_of (line ∷ lines) = reserved_by line.instr
