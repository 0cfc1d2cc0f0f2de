-- The three nodes are those of the operation's operands.
use Rattle.program_nodes.proofs.SourceTables.{next_nodes}
use Rattle.program_nodes.proofs.operands.push_op.Goals as goal

pub push_results-requires-clause-nodes : goal.push_results-requires-clause-nodes
push_results-requires-clause-nodes c =
    let nodes = next_nodes c.args.params.now c.requires.params c.args.store.now c.args.values.now.items c.args.op.now
    c.requires.next in
    let t = rw (c.as_slice.ensures.value, c.items.ensures) at c.in_ok-nodes.ensures.table in
    let ns = rw (c.as_slice.ensures.value, c.items.ensures) at c.in_ok-nodes.ensures.numbers in
    let a = rw (c.as_slice-2.ensures.value, ns) at c.number_at-a.ensures in
    let b = rw (c.as_slice-3.ensures.value, ns) at c.number_at-b.ensures in
    let d = rw (c.as_slice-4.ensures.value, ns) at c.number_at-c.ensures in
    rw (t, a, b, d) nodes
