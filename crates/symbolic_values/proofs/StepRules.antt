-- What the goals of the steps' code want.
use Rattle.term_store.proofs.Prefixes.{fits_later, prefix_length, prefix_refl, prefix_trans}
use Rattle.symbolic_state.proofs.KnownCells.{node_known}
use Rattle.symbolic_state.proofs.LaterTables.{fits_table_later, node_inside}
use Rattle.program_nodes.proofs.FormsFit.{borrow1_fits, borrow2_fits, carry2_fits, carry_last_fits, one_fits}
use Rattle.program_nodes.proofs.FormsFit.{three_fit, two_fit}
use Rattle.symbolic_state.proofs.AddressForms.{address_fits}
use Rattle.symbolic_state.proofs.Touches.{cell_named_touch, rm_fetched_touch, src_fetched_touch, stored_touch}
use Rattle.symbolic_state.proofs.MadeLater.{made_later, several}
use Rattle.symbolic_values.proofs.SourcedSteps.{sourced_leaves, sourced_part}
use Rattle.symbolic_values.proofs.StepParts.{arithmetic_part, bin_source, carry_part, later_part}
use Rattle.symbolic_values.proofs.StepParts.{only_part}
use Rattle.symbolic_values.proofs.StepParts.{bit_part, overflow_part, two_part}
use Rattle.symbolic_values.proofs.StepParts.{zero_later, zero_part}

-- of a table that goes on
pub ruleset growing = (prefix_refl, prefix_trans, prefix_length, fits_later)

-- of a table with forms made one after the other
pub ruleset making = (growing, several)

-- of the forms of a row
pub ruleset fitting = (
  prefix_refl,
  prefix_trans,
  prefix_length,
  node_inside,
  one_fits,
  two_fit,
  three_fit,
  carry2_fits,
  carry_last_fits,
  borrow1_fits,
  borrow2_fits,
  arithmetic_part,
  only_part,
  later_part,
  zero_part,
  zero_later,
  bit_part,
  two_part,
  carry_part,
  overflow_part,
)

-- of the forms of a row behind one that is made first
pub ruleset fitting_later = (fitting, made_later)

-- of the forms of a row that makes several
pub ruleset fitting_several = (fitting, several, fits_later)

-- of words that are read and stored
pub ruleset fetching = (
  prefix_refl,
  prefix_trans,
  node_inside,
  address_fits,
  node_known,
  fits_table_later,
  cell_named_touch,
  stored_touch,
  rm_fetched_touch,
  src_fetched_touch,
  made_later,
  only_part,
  bin_source,
  sourced_leaves,
  sourced_part,
)
