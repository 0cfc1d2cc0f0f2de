-- The journal of a board keeps the limits of its text.
use Rattle.std.proofs.Common.{◌≡◌, ℕ, zero, suc, ◌+◌, ◌*◌, ◌<◌, ◌≤◌, Bool, List, [], ◌∷◌, ◌++◌, length, map, take}
use Rattle.std.proofs.Common.{Option, Some, None, get_or, refl, sym, ap, subst, ◌∙◌, arith}
use Rattle.std.specs.Prelude.{slice_get, slice_index, sum_by}
use Rattle.std.specs.List.{AllByRecursion, filter}
use Rattle.std.specs.Option.{option_map_or}
use Rattle.std.proofs.lemmas.List.{length-map}
use Rattle.std.proofs.lemmas.List.Sums.{sum_by-le, count_by-le-length, length-filter}
use Rattle.word_operations.specs.declared.kind.Kind.{Kind}
use Rattle.word_operations.specs.declared.kind.Kind.TheVariants as kinds
use Rattle.word_program.specs.declared.operation.Op.{Op}
use Rattle.word_program.specs.Accepted.{IsAccepted}
use Rattle.word_program.specs.Program.{Source}
use Rattle.x86_instr.specs.declared.line.Line.{Line}
use Rattle.x86_instr.specs.declared.access.Access.{Access}
use Rattle.x86_instr.specs.declared.access.Access.TheVariants as accesses
use Rattle.x86_instr.specs.declared.instr.Instr.{Instr}
use Rattle.x86_instr.specs.declared.instr.Instr.TheVariants as instrs
use Rattle.x86_instr.specs.Access.{access_of}
use Rattle.cost_table.specs.Costs.{base_cost, access_cost, instr_cost, cost_of}
use Rattle.templates.specs.Table.{rows_of, templates_of, count_of}
use Rattle.op_order.specs.declared.slot.Slot.{Slot}
use Rattle.op_order.specs.Plans.{op_at, opening_of}
use Rattle.op_order.specs.Legal.{IsLegal}
use Rattle.op_order.proofs.LegalLemmas.{legal_count}
use Rattle.op_order.proofs.WindowLaw.{high_is}
use Rattle.mutations.specs.declared.mutation.Draw.TheVariants.{Two}
use Rattle.mutations.specs.declared.mutation.Mutation.{Mutation}
use Rattle.mutations.specs.declared.mutation.Mutation.TheVariants.{Move, Template, Swap, Load, Chain}
use Rattle.mutations.specs.Words.{words_of}
use Rattle.mutations.specs.Mutations.{Fits}
use Rattle.mutations.proofs.FitsDrawn.{drawn_fits}
use Rattle.journal_rules.specs.declared.journal.Entry.{Entry}
use Rattle.journal_rules.specs.Numbers.{Setup, plan_at, parent_of, incumbent_at, number_of, numbers_of, opening_number}
use Rattle.journal_rules.specs.Legal.{IsEntry}
use Rattle.journal_rules.specs.Backed.{IsBacked, IsBackedEntry}
use Rattle.journal_rules.proofs.Lists.{split}
use Rattle.journal_rules.proofs.NumberLemmas.{numbered, best_most, has_plans}
use Rattle.journal_rules.proofs.Legality.{each_at, entry_legal, entry_drawn}
use Rattle.journal_text.specs.Limits.{IsMutationWithin, IsEntryWithin, IsWithin}
use Rattle.incumbent_board.specs.Views.{BoardView}
use Rattle.incumbent_board.specs.BoardOk.{IsBoard}
use Rattle.search_top.specs.Lanes.{journal_of}

-- ---- costs

base_most : (i : Instr) → base_cost i ≤ 4
base_most (instrs.Mulx hi lo src) = omega arith
base_most (instrs.Mul src) = omega arith
base_most (instrs.Imul dst src) = omega arith
base_most (instrs.Shrd dst src by) = omega arith
base_most _ = omega arith

access_most : (a : Access) → access_cost a ≤ 4
access_most accesses.None = omega arith
access_most (accesses.Read mem) = omega arith
access_most (accesses.Write mem) = omega arith

cost_most : (lines : List Line) → cost_of lines ≤ length lines * 16
cost_most lines =
    sum_by-le (λ (line : Line). instr_cost line.instr) 16 lines (λ k d h. line_most (get_or lines k d))
  where
    line_most : (line : Line) → instr_cost line.instr ≤ 16
    line_most line =
        let a = base_most line.instr in
        let b = access_most (access_of line.instr) in
        omega arith

-- what a backed number costs
backed_cost : (program : Source) (cost : ℕ) (slots : List Slot)
    → IsBacked program (record { cost = cost; slots = slots }) → cost ≤ 1048576
backed_cost program cost slots backed =
    let most = cost_most backed.listing.lines in
    let short = backed.short in
    let is = backed.cost in
    omega arith

-- ---- mutations

rows_few : (kind : Kind) → length (rows_of kind) ≤ 5
rows_few kinds.AddCarry = omega arith
rows_few kinds.SubBorrow = omega arith
rows_few kinds.MulX = omega arith
rows_few kinds.CMov = omega arith
rows_few kinds.Add = omega arith
rows_few kinds.Sub = omega arith
rows_few kinds.Mul = omega arith
rows_few kinds.And = omega arith
rows_few kinds.Or = omega arith
rows_few kinds.Xor = omega arith
rows_few kinds.Not = omega arith
rows_few kinds.Copy = omega arith
rows_few (kinds.Shl count) = omega arith
rows_few (kinds.Shr count) = omega arith
rows_few (kinds.Shrd count) = omega arith

templates_few : (op : Op) → length (templates_of op) ≤ 5
unfolding templates_of
templates_few op =
    let a = length-map (filter (λ r. r.when op) (rows_of op.kind)) (λ r. r.mnemonics) in
    let b = length-filter (λ r. r.when op) (rows_of op.kind) in
    let c = count_by-le-length (λ r. r.when op) (rows_of op.kind) in
    let d = rows_few op.kind in
    omega (arith, a, b, c, d)

count_by_op : (found : Option Op) → length (option_map_or templates_of found []) ≤ 5
count_by_op None = omega arith
count_by_op (Some op) = templates_few op

count_few : (program : Source) (op : ℕ) → count_of program op ≤ 5
count_few program op = count_by_op (slice_get program.ops op)

-- a mutation that fits a legal plan of a program
fits_within : (program : Source) (slots : List Slot) (m : Mutation) → length program.ops ≤ 2048 → IsLegal program slots
    → Fits program slots m → IsMutationWithin Two m
unfolding Fits
fits_within program slots (Move slot to) few legal fits =
    let count = legal_count program slots legal in
    let low = fits.0 in
    let window = fits.1.high in
    let high = high_is program slots slot legal fits.0 in
    let within = high.within in
    (omega arith, omega arith)
fits_within program slots (Template slot number) few legal fits =
    let count = legal_count program slots legal in
    let low = fits.0 in
    let below = fits.1 in
    let five = count_few program (op_at slots slot) in
    (omega arith, omega arith)
fits_within program slots (Swap slot) few legal fits = let count = legal_count program slots legal in omega arith
fits_within program slots (Load slot) few legal fits = let count = legal_count program slots legal in omega arith
fits_within program slots (Chain slot number) few legal fits =
    let count = legal_count program slots legal in
    let low = fits.0 in
    let some = fits.1 in
    let most = fits.2 in
    (refl, omega arith, some, most)

-- ---- entries

-- what holds of the entry at each place holds of each
all_from : (P : Entry → Type 0) (es : List Entry) → ((k : ℕ) (e : Entry) → slice_get es k ≡ Some e → P e)
    → AllByRecursion P es
all_from P [] at = tt
all_from P (e ∷ es) at = (at 0 e refl, all_from P es (λ k x h. at (suc k) x h))

record HasEntry (es : List Entry) (k : ℕ) : Type 0 where
  entry : Entry
  at : slice_get es k ≡ Some entry

has_entry : (es : List Entry) (k : ℕ) → k < length es → HasEntry es k
has_entry [] k low = absurd (omega arith)
has_entry (e ∷ es) zero low = record { entry = e; at = refl }
has_entry (e ∷ es) (suc k) low = let h = has_entry es k (omega arith) in record { entry = h.entry; at = h.at }

-- the plan of each number of a board is legal
plan_legal : (b : BoardView) → IsBoard b → (j : ℕ) → j ≤ length b.entries
    → IsLegal b.setup.program (plan_at b.setup b.entries j)
plan_legal b is zero low =
    let plans = has_plans b.setup b.entries in
    subst (IsLegal b.setup.program) (sym plans.opening_plan) is.backed.opening.checks.legal
plan_legal b is (suc k) low =
    let h = has_entry b.entries k low in
    let n = numbered b.setup b.entries k h.entry h.at in
    let backed = each_at (IsBackedEntry b.setup) [] b.entries k h.entry is.backed.entries h.at in
    subst (λ m. IsLegal b.setup.program m.slots) (sym n.is) backed.backed.checks.legal

entry_within : (b : BoardView) → IsBoard b → IsAccepted b.setup.program → b.setup.draw ≡ Two
    → length b.entries ≤ length b.setup.seeds * b.setup.turns → (k : ℕ) (e : Entry) → slice_get b.entries k ≡ Some e
    → IsEntryWithin b.setup.draw e
entry_within b is accepted two few k e at =
    let limits = is.limits in
    let legal = entry_legal b.setup b.entries is.machine.journal k e at in
    let s = split b.entries k e at in
    let count = s.count in
    let low = s.low in
    let lane = legal.lane in
    let within = legal.within in
    let seen = legal.seen in
    let lanes = limits.lanes in
    let turns = limits.turns in
    let most = limits.entries in
    let backed = each_at (IsBackedEntry b.setup) [] b.entries k e is.backed.entries at in
    let parent : parent_of b.setup b.entries e ≤ length b.entries =
    (let up = best_most (numbers_of b.setup b.entries) e.seen in omega arith) in
    let plan = plan_legal b is (parent_of b.setup b.entries e) parent in
    let fits = drawn_fits b.setup.program (plan_at b.setup b.entries (parent_of b.setup b.entries e))
    (words_of (slice_index b.setup.seeds e.lane) e.turn) b.setup.draw accepted plan in
    let drawn = entry_drawn b.setup b.entries is.machine.journal k e at in
    let mutation : IsMutationWithin Two e.mutation =
    fits_within b.setup.program (plan_at b.setup b.entries (parent_of b.setup b.entries e)) e.mutation
    accepted.ops_limit plan (subst (Fits b.setup.program (plan_at b.setup b.entries (parent_of b.setup b.entries e)))
    (sym drawn) fits) in
    record {
      lane = omega arith;
      turn = omega arith;
      seen = omega arith;
      mutation = subst (λ d. IsMutationWithin d e.mutation) (sym two) mutation;
      cost = backed_cost b.setup.program _ _ backed.backed;
    }

-- the journal of a board whose lanes draw all kinds of mutation
pub journal_within : (b : BoardView) (digest : List ℕ) → IsBoard b → IsAccepted b.setup.program → b.setup.draw ≡ Two
    → length b.entries ≤ length b.setup.seeds * b.setup.turns → IsWithin (journal_of b.setup digest b.entries)
journal_within b digest is accepted two count =
    let limits = is.limits in
    let entries = limits.entries in
    record {
      lanes = (limits.some, limits.lanes);
      turns = limits.turns;
      offers = limits.entries;
      opening = backed_cost b.setup.program _ _ is.backed.opening;
      count = omega arith;
      each = all_from (IsEntryWithin b.setup.draw) b.entries (λ k e at. entry_within b is accepted two count k e at);
    }
