-- The map with a word under the key.
use Rattle.std.proofs.Common.{ap, sym, subst, ◌∙◌}
use Rattle.std.specs.FinMap as map
use Rattle.x86_meaning.specs.Aligned.{AreAligned}
use Rattle.x86_meaning.proofs.Entries.{updated, aligned_put}
use Rattle.x86_meaning.proofs.cells.Cells.set.Goals as goal

pub invariant_of-self-2 : goal.invariant_of-self-2
invariant_of-self-2 c =
    subst AreAligned (sym (updated c.self.inside.words c.insert.new.self c.args.address c.args.word
    c.in_ok-insert.ensures.updates))
    (aligned_put (map.from_entries c.self.inside.words.entries) c.args.address c.args.word c.self.invariant c.requires)

pub returns-clause-ok : goal.returns-clause-ok
returns-clause-ok c =
    updated c.self.inside.words c.insert.new.self c.args.address c.args.word c.in_ok-insert.ensures.updates
    ∙ ap (λ m. map.insert m c.args.address c.args.word) c.self.view_is
