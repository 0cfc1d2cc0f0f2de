-- One operation more.
use Rattle.std.proofs.Common.{◌≡◌, ◌<◌, ◌+◌, ◌∷◌, drop, get_or, length, sym, ap, ◌∙◌, subst, arith}
use Rattle.std.proofs.lemmas.List.{drop_more}
use Rattle.std.specs.Prelude.{fold}
use Rattle.word_program.specs.declared.operation.Op.{Op}
use Rattle.term_store.specs.Interning.{AllMade}
use Rattle.program_nodes.specs.Sources.{and_op}
use Rattle.program_nodes.proofs.ProgramNodes.{IsBehind, behind_few, behind_next}
use Rattle.program_nodes.proofs.source_nodes.value_nodes.Goals as goal

pub loop-op-preserved : goal.loop-op-preserved
loop-op-preserved c =
    let params = c.args.params.now in
    let ops = c.args.ops.now in
    let i = c.loop-op.op-index in
    let op = c.op-item.result in
    let rest = drop (i + 1) ops in
    let m : AllMade = record { table = c.loop-op.store; numbers = c.loop-op.numbers.items } in
    let n : AllMade = record { table = c.push_op.new.store; numbers = c.push_op.new.values.items } in
    let within : i < length ops = c.loop-op-test.true in
    let is : get_or ops i op ≡ op = sym c.op-item.is in
    let left : drop i ops ≡ op ∷ rest = drop_more ops i op within ∙ ap (λ (o : Op). o ∷ rest) is in
    let t = c.in_ok-push_op.ensures.table in
    let ns = c.in_ok-push_op.ensures.numbers in
    let next : and_op params m op ≡ n = λ j. record { table = sym t j; numbers = sym ns j } in
    let behind : IsBehind params m (op ∷ rest) = subst (IsBehind params m) left c.loop-op.invariant.behind in
    let few = behind_few params c.requires.params m op rest behind in
    let longer : length c.push_op.new.store ≡ length (and_op params m op).table = ap length t in
    let so_far = c.loop-op.invariant.few in
    record {
      made = c.loop-op.invariant.made ∙ ap (fold (and_op params) m) left
          ∙ ap (λ (k : AllMade). fold (and_op params) k rest) next;
      behind = subst (λ (k : AllMade). IsBehind params k rest) next
          (behind_next params c.requires.params m op rest behind);
      few = omega arith;
    }
