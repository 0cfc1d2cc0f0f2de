-- The map with another word under a key that it has.
use Rattle.std.proofs.Common.{◌≡◌, is_some, if◌then◌else◌, true, sym, ap, subst, ◌∙◌}
use Rattle.std.specs.FinMap as map
use Rattle.std.specs.Option.{option_copied_mut}
use Rattle.x86_meaning.specs.Aligned.{AreAligned}
use Rattle.x86_meaning.proofs.Entries.{cells_of, held, replaced, aligned_put}
use Rattle.x86_meaning.proofs.cells.Cells.replace.Goals as goal
use Rattle.x86_meaning.proofs.cells.Cells.replace.Goals.{in-Some, in-None}

-- the address is in the memory exactly where its word is lent
lent : (c : goal.Joined-get_mut) → is_some (map.get c.args.self.now c.args.address) ≡ is_some
    (option_copied_mut c.get_mut.result)
lent c = ap is_some (ap (λ m. map.get m c.args.address) (sym c.self.view_is)
    ∙ (held c.self.inside.words c.args.address ∙ sym c.get_mut.ensures.value))

pub invariant_of-self : goal.invariant_of-self
invariant_of-self c =
    let old = cells_of c.self.inside.words in
    elim c.match-get_mut.branch [
      | in-Some w ↦
          let there : is_some (map.get old c.args.address) ≡ true =
          ap is_some (held c.self.inside.words c.args.address ∙ sym c.get_mut.ensures.value)
          ∙ ap (λ o. is_some (option_copied_mut o)) w.in-Some.is in
          subst AreAligned (sym (ap (λ i. cells_of i.words) w.self-inside-is
          ∙ replaced c.self.inside.words (c.get_mut.follows.lender c.args.word) c.args.address c.args.word
          (c.get_mut.follows.holds c.args.word)
          (ap is_some (sym (held c.self.inside.words c.args.address)) ∙ there)))
          (aligned_put old c.args.address c.args.word c.self.invariant (c.self.invariant c.args.address there))
      | in-None w ↦ subst AreAligned (sym (ap (λ i. cells_of i.words) w.self-inside-is
          ∙ ap cells_of c.get_mut.follows.holds-at-none)) c.self.invariant
    ]

pub returns-clause-there : goal.returns-clause-there
returns-clause-there c =
    elim c.match-get_mut.branch [
      | in-Some w ↦ w.result-is ∙ sym (lent c ∙ ap (λ o. is_some (option_copied_mut o)) w.in-Some.is)
      | in-None w ↦ w.result-is ∙ sym (lent c ∙ ap (λ o. is_some (option_copied_mut o)) w.in-None.is)
    ]

pub returns-clause-cells : goal.returns-clause-cells
returns-clause-cells c =
    elim c.match-get_mut.branch [
      | in-Some w ↦
          let there = lent c ∙ ap (λ o. is_some (option_copied_mut o)) w.in-Some.is in
          ap (λ i. cells_of i.words) w.self-inside-is
          ∙ (replaced c.self.inside.words (c.get_mut.follows.lender c.args.word) c.args.address c.args.word
          (c.get_mut.follows.holds c.args.word)
          (ap is_some (sym c.get_mut.ensures.value) ∙ ap (λ o. is_some (option_copied_mut o)) w.in-Some.is)
          ∙ (ap (λ m. map.insert m c.args.address c.args.word) c.self.view_is
          ∙ sym (ap (λ b. if b then map.insert c.args.self.now c.args.address c.args.word else c.args.self.now)
          there)))
      | in-None w ↦
          let there = lent c ∙ ap (λ o. is_some (option_copied_mut o)) w.in-None.is in
          ap (λ i. cells_of i.words) w.self-inside-is
          ∙ (ap cells_of c.get_mut.follows.holds-at-none
          ∙ (c.self.view_is ∙ sym (ap (λ b. if b then map.insert c.args.self.now c.args.address c.args.word else
          c.args.self.now) there)))
    ]
