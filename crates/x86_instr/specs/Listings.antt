-- Which lines make a listing.
use Rattle.std.specs.Prelude.{ℕ, Bool, true, false, List, [], ◌∷◌, length, nat_lt, if◌then◌else◌, Result, Ok, Err}
use Rattle.base.specs.declared.limits.TheConstants.{MAX_LINES}
use Rattle.x86_instr.specs.declared.instr.Instr.{Instr}
use Rattle.x86_instr.specs.declared.instr.Instr.TheVariants as instrs
use Rattle.x86_instr.specs.declared.line.Line.{Line}
use Rattle.x86_instr.specs.declared.listing.ListingFault.{ListingFault}
use Rattle.x86_instr.specs.declared.listing.ListingFault.TheVariants.{TooLong, NoReturn}

-- a name and lines
pub record NamedLines : Type 0 where
  pub name : List ℕ
  pub lines : List Line

abbrev pub is_ret : Instr → Bool
is_ret instrs.Ret = true
is_ret _ = false

abbrev pub is_empty : List Line → Bool
is_empty [] = true
is_empty (line ∷ lines) = false

-- the first `ret` is the last line, which is then the only one
abbrev pub ends_at_ret : List Line → Bool
ends_at_ret [] = false
ends_at_ret (line ∷ lines) = if is_ret line.instr then is_empty lines else ends_at_ret lines

-- the listing with this name and these lines, or why there is none
abbrev pub listing_of : List ℕ → List Line → Result NamedLines ListingFault
listing_of name lines =
    if nat_lt MAX_LINES (length lines) then Err TooLong
    else (if ends_at_ret lines then Ok (record { name = name; lines = lines }) else Err NoReturn)
