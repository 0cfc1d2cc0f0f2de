-- The row of the kind is the template of the operation.
use Rattle.std.proofs.Common.{◌≤◌, ◌∙◌, List, length, subst, sym}
use Rattle.x86_instr.specs.declared.mnemonic.Mnemonic.{Mnemonic}
use Rattle.templates.proofs.TableLemmas.{chosen}
use Rattle.templates.proofs.choices.mnemonics.Goals as goal

pub returns-clause-mnemonics : goal.returns-clause-mnemonics
returns-clause-mnemonics c = c.mnemonics_at.ensures ∙
    (chosen c.args.program.now c.ops.result.now c.args.op c.args.number c.index-ops-op.result c.ops.ensures.ops
    c.requires.op c.requires.number).is

pub returns-clause-some : goal.returns-clause-some
returns-clause-some c = subst (λ (list : List Mnemonic). 1 ≤ length list) (sym c.mnemonics_at.ensures)
    (chosen c.args.program.now c.ops.result.now c.args.op c.args.number c.index-ops-op.result c.ops.ensures.ops
    c.requires.op c.requires.number).some
