-- That a stuck run is stuck, and that the words of an ended one are told.
use Rattle.std.proofs.Common.{◌≡◌, refl, sym, subst, string_bytes}
use Rattle.search_top.specs.Outputs.{output_lines}
use Rattle.search_top.specs.Emulate.{words_from}
use Rattle.search_top.proofs.StatedOutputs.{left_outputs}
use Rattle.search_top.proofs.emulation.text.Goals as goal

pub returns-in-Err-clause-refused : goal.returns-in-Err-clause-refused
returns-in-Err-clause-refused c = record {
  last = c.run.new.state;
  runs = record {
    within = c.in-Ok.ensures.start.inputs_within;
    start = c.in-Ok.state;
    stated = c.in-Ok.ensures.stated;
    ends = sym c.in-Err.ensures.outcome;
  };
}

pub returns-in-Ok-cell_lines-clause-text : goal.returns-in-Ok-cell_lines-clause-text
returns-in-Ok-cell_lines-clause-text c = (
  refl,
  record {
    last = c.run.new.state;
    runs = record {
      within = c.in-Ok.ensures.start.inputs_within;
      start = c.in-Ok.state;
      stated = c.in-Ok.ensures.stated;
      ends = sym c.in_default.ensures.outcome;
    };
    there = left_outputs c.args.program.now c.args.listing.now.lines c.args.inputs.now c.in-Ok.state c.run.new.state
        c.params.ensures.accepted.params_limit
        c.in-Ok.ensures.stated c.in-Ok.ensures.start c.in_default.ensures.addresses;
    tells = subst (λ ps. string_bytes c.in-Ok-cell_lines.lines ≡ output_lines ps
        (words_from c.run.new.state.cells 0 ps))
        c.params.ensures.params c.in-Ok-cell_lines.ensures;
  },
)
