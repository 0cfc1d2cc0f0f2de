-- The word in the map, by the key of the code.
use Rattle.std.proofs.Common.{sym, ap, ◌∙◌}
use Rattle.std.specs.FinMap as map
use Rattle.x86_meaning.proofs.Entries.{held, aligned_held}
use Rattle.x86_meaning.proofs.cells.Cells.get.Goals as goal

pub returns-clause-word : goal.returns-clause-word
returns-clause-word c = c.copied.ensures ∙
    (c.get.ensures.value ∙ (sym (held c.self.inside.words c.args.address)
    ∙ ap (λ m. map.get m c.args.address) c.self.view_is))

pub returns-clause-aligned : goal.returns-clause-aligned
returns-clause-aligned c =
    aligned_held (map.from_entries c.self.inside.words.entries) c.args.address c.copied.result c.self.invariant
    (c.copied.ensures ∙ (c.get.ensures.value ∙ sym (held c.self.inside.words c.args.address)))
