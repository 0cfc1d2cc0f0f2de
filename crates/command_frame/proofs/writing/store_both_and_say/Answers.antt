-- The first text is stored before the rest is written.
use Rattle.std.proofs.Common.{[], ◌∷◌, subst}
use Rattle.command_frame.specs.Change.{change_of}
use Rattle.command_frame.proofs.Storing.{IsStored, writes_on}
use Rattle.command_frame.proofs.writing.store_both_and_say.Goals as goal

pub returns-in-Ok-clause-writes : goal.returns-in-Ok-clause-writes
returns-in-Ok-clause-writes g c =
    let change = change_of g.S.Shelf.held g.S.Shelf.said g.S.Shelf.calls g.S.Shelf.faults in
    let storing = change c.args.shelf.now c.store.new.self in
    let rest = change c.store.new.self c.store_and_say.new.shelf in
    writes_on c.args.first c.args.first_text.now (c.args.second ∷ []) (c.args.second_text.now ∷ []) c.args.word.now
    storing.before storing.after rest.after
    (subst (λ name. IsStored name c.args.first_text.now storing) c.as_str.ensures (record {
      content = c.in-Ok.ensures.content;
      others = c.store.ensures.others;
      output = c.store.ensures.output;
      calls = c.store.ensures.count;
      later = c.store.ensures.cause.later;
    }))
    (c.requires.apart, tt) c.store_and_say.ensures.others c.store_and_say.result c.store_and_say.ensures.writes
