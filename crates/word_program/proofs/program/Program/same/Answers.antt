-- Two programs are equal where each of their parts is.
use Rattle.std.proofs.Common.{refl}
use Rattle.std.specs.Cmp.{booleans_Decides}
use Rattle.std.proofs.lemmas.Bool.Decides.{not_from_Decides}
use Rattle.std.proofs.lemmas.Slice.Eq.{slice_eq-Decides, bytes_eq-Decides}
use Rattle.word_program.proofs.RowLemmas.{not_false}
use Rattle.word_program.proofs.SameLemmas.{op_decides, param_decides, same_from, differ_from, turned_true, turned_false}
use Rattle.word_program.proofs.program.Program.same.Goals as goal

pub returns-then-ne : goal.returns-then-ne
returns-then-ne c =
    let names = bytes_eq-Decides _ _ in
    differ_from (λ s. s.name) _ _ _ _ c.self.view_is c.other.view_is
    (not_from_Decides _ names (turned_true _ _ c.ne.ensures c.if-ne.true))

pub returns-then-ne-2 : goal.returns-then-ne-2
returns-then-ne-2 c =
    let params = slice_eq-Decides param_decides _ _ _ refl in
    differ_from (λ s. s.params) _ _ _ _ c.self.view_is c.other.view_is
    (not_from_Decides _ params (turned_true _ _ c.ne-2.ensures c.if-ne-2.true))

pub returns : goal.returns
returns c =
    let name = (bytes_eq-Decides _ _).0 (turned_false _ _ c.ne.ensures c.if-ne.false) in
    let params = (slice_eq-Decides param_decides _ _ _ refl).0 (turned_false _ _ c.ne-2.ensures c.if-ne-2.false) in
    same_from _ _ _ _ _ c.self.view_is c.other.view_is name params
    ((booleans_Decides _ _).0 (not_false _ c.if-self-other.false)) (slice_eq-Decides op_decides _ _ _ c.eq.ensures)
