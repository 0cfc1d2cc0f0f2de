-- The operation of the slot, from the program's list.
use Rattle.std.proofs.Common.{◌≡◌, ◌++◌, List, OnOk, subst, sym}
use Rattle.x86_instr.specs.declared.line.Line.{Line}
use Rattle.plain_lower.proofs.SlotOps.{has_shift}
use Rattle.fast_lower.proofs.SlotBlocks.{block_is}
use Rattle.fast_lower.proofs.blocks.push_block.Goals as goal

pub push_block_by-requires-clause-count : goal.push_block_by-requires-clause-count
push_block_by-requires-clause-count c =
    has_shift c.args.program.now c.ops.ensures.accepted c.ops.result.now c.ops.ensures.ops c.args.slot.op _ _
    c.requires.op c.index-ops-slot.is

pub returns : goal.returns
returns c =
    subst (λ (block : List Line). OnOk c.push_block_by.result (c.push_block_by.new.lines ≡ c.args.lines.now ++ block))
    (sym (block_is c.args.program.now c.args.slot c.ops.result.now c.ops.ensures.ops _ _ c.requires.op
    c.index-ops-slot.is)) c.push_block_by.ensures
