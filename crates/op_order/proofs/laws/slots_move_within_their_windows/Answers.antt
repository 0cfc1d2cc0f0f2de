-- A slot that moves within its window leaves a legal plan, and no other does.
use Rattle.op_order.proofs.WindowLaw.{moved_legal, legal_in_window}
use Rattle.op_order.proofs.laws.slots_move_within_their_windows.Goals as goal

pub returns : goal.returns
returns c program slots legal from to f t =
    (legal_in_window program slots from to legal f t, moved_legal program slots from to legal f)
