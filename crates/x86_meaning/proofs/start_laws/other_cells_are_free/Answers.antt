-- That cells of no input array may hold any word, and that there may be further cells.
use Rattle.x86_meaning.proofs.FreeStates.{cell_is_free, absent_outside}
use Rattle.x86_meaning.proofs.start_laws.other_cells_are_free.Goals as goal

pub returns-clause-held : goal.returns-clause-held
returns-clause-held c = λ program lines inputs s start address word there outside small.
    let place = start.state.addresses address there in
    cell_is_free program lines inputs s start address word place.0 place.1 small outside

pub returns-clause-further : goal.returns-clause-further
returns-clause-further c = λ program lines inputs s start address word absent below aligned small.
    cell_is_free program lines inputs s start address word below aligned small
    (absent_outside program lines inputs s start address absent)
