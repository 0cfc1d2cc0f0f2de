-- What the goals of the code that fetches sources want.
use Rattle.term_store.proofs.Prefixes.{prefix_refl, prefix_trans}
use Rattle.symbolic_state.proofs.AddressForms.{address_fits}
use Rattle.symbolic_state.proofs.KnownCells.{node_known}
use Rattle.symbolic_state.proofs.LaterTables.{fits_table_later, node_inside}
use Rattle.symbolic_state.proofs.MadeLater.{made_later}

pub ruleset fetching = (prefix_refl, prefix_trans, node_inside, address_fits, node_known, fits_table_later, made_later)
