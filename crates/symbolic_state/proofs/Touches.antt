-- The last access does not tell in a step.
use Rattle.std.proofs.Common.{◌≡◌, ℕ, Bool, true, false, List, Option, Some, None, refl, ap, map}
use Rattle.std.specs.Prelude.{slice_get, slice_set, option_map, option_and_then, if◌then◌else◌}
use Rattle.base.specs.Options.{guard}
use Rattle.word_program.specs.Values.{is_output}
use Rattle.x86_instr.specs.declared.operand.Mem.{Mem}
use Rattle.x86_instr.specs.declared.operand.Rm.{Rm}
use Rattle.x86_instr.specs.declared.operand.Rm.TheVariants as rms
use Rattle.x86_instr.specs.declared.operand.Src.{Src}
use Rattle.x86_instr.specs.declared.operand.Src.TheVariants as srcs
use Rattle.x86_meaning.specs.Start.{Area}
use Rattle.x86_meaning.specs.Start as areas
use Rattle.terms.specs.declared.nodes.Node.{Node}
use Rattle.symbolic_state.specs.declared.touch.Touch.{Touch}
use Rattle.symbolic_state.specs.Symbols.{Array, Symbols, with_touch}
use Rattle.symbolic_state.specs.Cells.{after_output, cell_named, forgotten, stored, with_word}
use Rattle.symbolic_state.specs.Fetching.{fetched_cell, rm_fetched, src_fetched}

pub cell_named_touch : (t : List Node) (y : Symbols) (touch : Option Touch) (n : ℕ)
    → cell_named t (with_touch touch y) n ≡ cell_named t y n
unfolding cell_named
cell_named_touch t y touch n = refl

pub fetched_touch : (t : List Node) (y : Symbols) (touch : Option Touch) (mem : Mem)
    → fetched_cell t (with_touch touch y) mem ≡ fetched_cell t y mem
unfolding fetched_cell cell_named
fetched_touch t y touch mem = refl

-- either way, the states differ in their last access alone
either_touch : (o : Bool) (last : Option Touch) (a b c d : Symbols) → with_touch last a ≡ with_touch last c
    → with_touch last b ≡ with_touch last d
    → with_touch last (if o then a else b) ≡ with_touch last (if o then c else d)
either_touch true last a b c d e f = e
either_touch false last a b c d e f = f

after_touch : (y : Symbols) (touch last : Option Touch)
    → with_touch last (after_output (with_touch touch y)) ≡ with_touch last (after_output y)
after_touch y touch last = either_touch y.overlap last (record y { arrays = map forgotten y.arrays; touch = touch })
    (with_touch touch y) (record y { arrays = map forgotten y.arrays }) y refl refl

guard_touch : (b : Bool) (last : Option Touch) (y z : Symbols) → with_touch last y ≡ with_touch last z
    → option_map (with_touch last) (guard b y) ≡ option_map (with_touch last) (guard b z)
guard_touch true last y z e = ap Some e
guard_touch false last y z e = refl

found_touch : (found : Option Array) (last : Option Touch) (f g : Array → Option Symbols)
    → ((array : Array) → option_map (with_touch last) (f array) ≡ option_map (with_touch last) (g array))
    → option_map (with_touch last) (option_and_then f found) ≡ option_map (with_touch last) (option_and_then g found)
found_touch None last f g e = refl
found_touch (Some array) last f g e = e array

pub stored_touch : (area : Area) (word node : ℕ) (y : Symbols) (touch last : Option Touch)
    → option_map (with_touch last) (stored area word node (with_touch touch y))
    ≡ option_map (with_touch last) (stored area word node y)
stored_touch (areas.Array param) word node y touch last = found_touch (slice_get y.arrays param) last _ _ (λ array.
    guard_touch (is_output array.role) last _ _
    (after_touch (record y { arrays = slice_set y.arrays param (with_word array word node) }) touch last))
stored_touch areas.Frame word node y touch last = refl
stored_touch areas.Return word node y touch last = refl

pub src_fetched_touch : (t : List Node) (y : Symbols) (touch : Option Touch) (src : Src)
    → src_fetched t (with_touch touch y) src ≡ src_fetched t y src
src_fetched_touch t y touch (srcs.Reg r) = refl
src_fetched_touch t y touch (srcs.Mem mem) = fetched_touch t y touch mem
src_fetched_touch t y touch (srcs.Imm n) = refl

pub rm_fetched_touch : (t : List Node) (y : Symbols) (touch : Option Touch) (src : Rm)
    → rm_fetched t (with_touch touch y) src ≡ rm_fetched t y src
rm_fetched_touch t y touch (rms.Reg r) = refl
rm_fetched_touch t y touch (rms.Mem mem) = fetched_touch t y touch mem
