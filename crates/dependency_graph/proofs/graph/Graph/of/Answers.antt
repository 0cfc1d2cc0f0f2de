-- The numbers in the lists are those of operations.
use Rattle.std.proofs.Common.{◌<◌, ◌≤◌, ◌∙◌, List, ℕ, length, map, ap, sym, subst, arith}
use Rattle.std.specs.List.{AllByRecursion}
use Rattle.dependency_graph.specs.Needs.{users_of, all_ops}
use Rattle.dependency_graph.specs.Transposed.{transposed}
use Rattle.dependency_graph.proofs.NeedLemmas.{reads_are, reads_below, users_below, users_count, transposed_reads}
use Rattle.dependency_graph.proofs.graph.Graph.of.Goals as goal

pub transposed-requires-clause-numbers : goal.transposed-requires-clause-numbers
transposed-requires-clause-numbers c =
    let program = c.args.program.now in
    let is = c.as_slice-2.ensures.value ∙ c.in_ok-reads.ensures ∙ reads_are program c.ops-ops.result.now
    c.as_slice.result.now c.ops-ops.ensures.ops (c.as_slice.ensures.value ∙ c.in_ok-definers.ensures) in
    subst (λ (lists : List (List ℕ)). AllByRecursion (AllByRecursion (λ n. n < length lists)) lists) (sym is)
    (reads_below program)

pub transposed-requires-2-clause-numbers : goal.transposed-requires-2-clause-numbers
transposed-requires-2-clause-numbers c =
    let program = c.args.program.now in
    let reads = c.as_slice-2.ensures.value ∙ c.in_ok-reads.ensures ∙ reads_are program c.ops-ops.result.now
    c.as_slice.result.now c.ops-ops.ensures.ops (c.as_slice.ensures.value ∙ c.in_ok-definers.ensures) in
    let is = c.as_slice-3.ensures.value ∙ c.in_ok-users.ensures ∙ ap transposed reads ∙ transposed_reads program in
    subst (λ (lists : List (List ℕ)). AllByRecursion (AllByRecursion (λ n. n < length lists)) lists) (sym is)
    (users_below program)

pub transposed-requires-2-clause-few : goal.transposed-requires-2-clause-few
transposed-requires-2-clause-few c =
    let program = c.args.program.now in
    let reads = c.as_slice-2.ensures.value ∙ c.in_ok-reads.ensures ∙ reads_are program c.ops-ops.result.now
    c.as_slice.result.now c.ops-ops.ensures.ops (c.as_slice.ensures.value ∙ c.in_ok-definers.ensures) in
    let is = c.as_slice-3.ensures.value ∙ c.in_ok-users.ensures ∙ ap transposed reads ∙ transposed_reads program in
    let few : length (map (users_of program) (all_ops program)) ≤ 2048 =
    omega (arith, users_count program, c.ops-ops.ensures.accepted.ops_limit) in
    subst (λ (lists : List (List ℕ)). length lists ≤ 2048) (sym is) few
