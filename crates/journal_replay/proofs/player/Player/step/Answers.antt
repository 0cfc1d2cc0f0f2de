-- The entry is played by the plan that its lane sees.
use Rattle.std.proofs.Common.{◌+◌, drop, sym, ap, ◌∙◌}
use Rattle.std.proofs.lemmas.Bool.{false≢true}
use Rattle.std.proofs.lemmas.List.{take_rest}
use Rattle.journal_replay.specs.Checks.{setup_in}
use Rattle.journal_replay.proofs.StepFacts.{look_at, breaks_drawn, rooms_are, look_fits, played_on}
use Rattle.journal_replay.proofs.player.Player.step.Goals as goal

pub mutation_due-requires-clause-legal : goal.mutation_due-requires-clause-legal
mutation_due-requires-clause-legal c =
    let look = look_at (setup_in c.args.program.now c.args.journal.now) c.args.journal.now.entries c.args.at
    c.args.entry c.args.self.now c.requires.there c.requires.played c.in_default.ensures in
    look.legal

pub returns-then-not-same_mutation : goal.returns-then-not-same_mutation
returns-then-not-same_mutation c =
    let look = look_at (setup_in c.args.program.now c.args.journal.now) c.args.journal.now.entries c.args.at
    c.args.entry c.args.self.now c.requires.there c.requires.played c.in_default.ensures in
    breaks_drawn (setup_in c.args.program.now c.args.journal.now) _ c.args.entry _ c.mutation_due.result
    c.in_default.ensures look c.mutation_due.ensures.mutation
    (λ same. false≢true (sym c.if-not-same_mutation.true ∙ c.same_mutation.ensures.1 same))

pub compare-requires-clause-legal : goal.compare-requires-clause-legal
compare-requires-clause-legal c =
    let look = look_at (setup_in c.args.program.now c.args.journal.now) c.args.journal.now.entries c.args.at
    c.args.entry c.args.self.now c.requires.there c.requires.played c.in_default.ensures in
    look.legal

pub compare-requires-clause-rooms : goal.compare-requires-clause-rooms
compare-requires-clause-rooms c =
    rooms_are (setup_in c.args.program.now c.args.journal.now) _ _ c.args.self.now c.requires.played

pub compare-requires-clause-scratch : goal.compare-requires-clause-scratch
compare-requires-clause-scratch c =
    let look = look_at (setup_in c.args.program.now c.args.journal.now) c.args.journal.now.entries c.args.at
    c.args.entry c.args.self.now c.requires.there c.requires.played c.in_default.ensures in
    look_fits (setup_in c.args.program.now c.args.journal.now) _ _ _ _ look c.requires.played.scratch

pub returns : goal.returns
returns c =
    played_on (setup_in c.args.program.now c.args.journal.now) c.args.journal.now.entries c.args.at c.args.entry
    c.args.self.now c.compare.new.self _ c.mutation_due.result _ c.requires.there c.requires.played
    c.in_default.ensures c.mutation_due.ensures.mutation c.mutation_due.ensures.fits
    (c.same_mutation.ensures.0 c.if-not-same_mutation.false) c.compare.ensures
    (take_rest c.items.result.now (c.args.at + 1) ∙ ap (drop (c.args.at + 1)) c.items.ensures) c.go_on.ensures
