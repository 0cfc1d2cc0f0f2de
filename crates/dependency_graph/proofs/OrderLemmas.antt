-- Operations are needed by later ones alone, and each value is a result of one operation.
use Rattle.std.proofs.Common.{◌≡◌, ℕ, zero, suc, ◌+◌, ◌<◌, ◌≤◌, Bool, true, false, List, [], ◌∷◌, ◌++◌, length, map}
use Rattle.std.proofs.Common.{refl, sym, zero-add, ap, subst, ◌∙◌, arith}
use Rattle.std.specs.Prelude.{cond, ◌&&◌, nat_lt, nat_le, slice_get, slice_index_or}
use Rattle.std.specs.List.{filter, list_any, range_with_len, AllByRecursion}
use Rattle.std.specs.Option.{option_map_or}
use Rattle.std.proofs.lemmas.Bool.{true≢false}
use Rattle.std.proofs.lemmas.Bool.Decides.{nat_tests}
use Rattle.std.proofs.lemmas.List.{length-append}
use Rattle.std.proofs.lemmas.List.FromFn.{get_or-map-range_with_len, length-map-range_with_len}
use Rattle.word_operations.specs.declared.kind.Kind.{Kind}
use Rattle.word_operations.specs.declared.kind.Kind.TheVariants.{AddCarry, SubBorrow, MulX, CMov, Add, Sub, Mul, And}
use Rattle.word_operations.specs.declared.kind.Kind.TheVariants.{Or, Xor, Not, Copy, Shl, Shr, Shrd}
use Rattle.word_operations.specs.Operations.{bits_on, result_count}
use Rattle.word_program.specs.declared.parameter.Param.{Param}
use Rattle.word_program.specs.declared.operation.Op.{Op}
use Rattle.word_program.specs.declared.operation.Operand.{Operand}
use Rattle.word_program.specs.declared.operation.Operand.TheVariants as operands
use Rattle.word_program.specs.declared.operation.Target.{Target}
use Rattle.word_program.specs.Program.{Source}
use Rattle.word_program.specs.Values.{targets_of, op_bits, is_bit_by}
use Rattle.word_program.specs.Accepted.{IsOperand, IsOp, AreOps, IsAccepted}
use Rattle.dependency_graph.specs.Needs.{Links, IsGraph, first_value, operands_of, is_value_in, defines, is_needed}
use Rattle.dependency_graph.specs.Needs.{all_ops, needs_of, users_of, graph_of, has}
use Rattle.base.proofs.Arithmetic.{not_below_zero}
use Rattle.dependency_graph.proofs.NeedLemmas.{results, results_more, take_past, get_past, needs_within, users_count}
use Rattle.dependency_graph.proofs.NeedLemmas.{has_needs, has_users}

-- ---- the operands of an operation are values before its own

bits_count : (kind : Kind) (a b c : Bool) → length (bits_on kind a b c) ≡ result_count kind
bits_count AddCarry a b c = refl
bits_count SubBorrow a b c = refl
bits_count MulX a b c = refl
bits_count CMov a b c = refl
bits_count Add a b c = refl
bits_count Sub a b c = refl
bits_count Mul a b c = refl
bits_count And a b c = refl
bits_count Or a b c = refl
bits_count Xor a b c = refl
bits_count Not a b c = refl
bits_count Copy a b c = refl
bits_count (Shl count) a b c = refl
bits_count (Shr count) a b c = refl
bits_count (Shrd count) a b c = refl

-- as many bits as results
op_count : (params : List Param) (bits : List Bool) (op : Op) → IsOp params bits op
    → length (bits ++ op_bits params bits op) ≡ length bits + length op.targets
op_count params bits op is =
    let tests = map (is_bit_by params bits) op.args in
    let c = bits_count op.kind (slice_index_or tests 0 false) (slice_index_or tests 1 false)
    (slice_index_or tests 2 false) in
    omega (arith, length-append bits (op_bits params bits op), c, is.results)

operands_before : (params : List Param) (ops : List Op) (bits : List Bool) → AreOps params bits ops → (n : ℕ)
    → AllByRecursion (IsOperand params (length bits + results ops n)) (option_map_or (λ o. o.args) (slice_get ops n) [])
operands_before params [] bits are n = tt
operands_before params (op ∷ ops) bits are zero =
    let same : length bits ≡ length bits + results (op ∷ ops) 0 = omega arith in
    subst (λ (k : ℕ). AllByRecursion (IsOperand params k) op.args) same are.0.reads
operands_before params (op ∷ ops) bits are (suc n) =
    let same : length (bits ++ op_bits params bits op) + results ops n ≡ length bits + results (op ∷ ops) (suc n) =
    omega (arith, op_count params bits op are.0, results_more op ops n (suc n) refl) in
    subst (λ (k : ℕ). AllByRecursion (IsOperand params k) (option_map_or (λ o. o.args) (slice_get ops n) [])) same
    (operands_before params ops (bits ++ op_bits params bits op) are.1 n)

-- ---- they are no results of later operations

none_later : (params : List Param) (limit first end : ℕ) → limit ≤ first → (args : List Operand)
    → AllByRecursion (IsOperand params limit) args → list_any (is_value_in first end) args ≡ false
none_later params limit first end h [] all = refl
none_later params limit first end h (operands.Literal word ∷ args) all = none_later params limit first end h args all.1
none_later params limit first end h (operands.Input param word ∷ args) all =
    none_later params limit first end h args all.1
none_later params limit first end h (operands.Value value ∷ args) all =
    let below : value < limit = all.0 in
    let outside : (nat_le first value && nat_lt value end) ≡ false = grind (arith, nat_tests, h, below) in
    rw outside (none_later params limit first end h args all.1)

results_rise : (ops : List Op) (n m : ℕ) → n ≤ m → results ops n ≤ results ops m
results_rise [] zero m h = omega arith
results_rise [] (suc n) zero h = omega arith
results_rise [] (suc n) (suc m) h = omega arith
results_rise (op ∷ ops) zero m h = omega arith
results_rise (op ∷ ops) (suc n) zero h = absurd (not_below_zero n (omega (arith, h)))
results_rise (op ∷ ops) (suc n) (suc m) h =
    omega (
      arith,
      results_rise ops n m (omega (arith, h)),
      results_more op ops n (suc n) refl,
      results_more op ops m (suc m) refl,
    )

not_later : (program : Source) → IsAccepted program → (op other : ℕ) → op ≤ other → is_needed program op other ≡ false
unfolding is_needed first_value
not_later program accepted op other h =
    let before = operands_before program.params program.ops [] accepted.ops op in
    let limit : 0 + results program.ops op ≤ results program.ops other =
    omega (arith, results_rise program.ops op other h) in
    none_later program.params (0 + results program.ops op) (results program.ops other)
    (results program.ops (other + 1)) limit (operands_of program op) before

-- an operation that is needed is earlier
pub earlier : (program : Source) → IsAccepted program → (op other : ℕ) → is_needed program op other ≡ true → other < op
earlier program accepted op other needed = on (nat_lt other op) refl
  where
    on : (b : Bool) → nat_lt other op ≡ b → other < op
    on true e = grind (arith, nat_tests, e)
    on false e =
        let later : op ≤ other = grind (arith, nat_tests, e) in
        absurd (true≢false (sym needed ∙ not_later program accepted op other later))

-- ---- a value is a result of one operation

inside : (first end value : ℕ) → (nat_le first value && nat_lt value end) ≡ true → (first ≤ value) × (value < end)
inside first end value e = grind (arith, nat_tests, e)

no_second : (program : Source) (op other value : ℕ) → op < other → defines program op value ≡ true
    → defines program other value ≡ true → ⊥
unfolding first_value
no_second program op other value h one two =
    let a = inside (results program.ops op) (results program.ops (op + 1)) value one in
    let b = inside (results program.ops other) (results program.ops (other + 1)) value two in
    not_below_zero 0 (omega (arith, a.1, b.0, results_rise program.ops (op + 1) other (omega (arith, h))))

pub once : (program : Source) (op other value : ℕ) → defines program op value ≡ true
    → defines program other value ≡ true → op ≡ other
once program op other value one two = on (nat_lt op other) (nat_lt other op) refl refl
  where
    on : (b c : Bool) → nat_lt op other ≡ b → nat_lt other op ≡ c → op ≡ other
    on true c e f = absurd (no_second program op other value (grind (arith, nat_tests, e)) one two)
    on false true e f = absurd (no_second program other op value (grind (arith, nat_tests, f)) two one)
    on false false e f = grind (arith, nat_tests, e, f)

-- ---- the lists of a graph

kept_on : (P : ℕ → Type 0) (b : Bool) (x : ℕ) (rest : List ℕ) → (b ≡ true → P x) → AllByRecursion P rest
    → AllByRecursion P (cond b (x ∷ rest) rest)
kept_on P true x rest says all = (says refl, all)
kept_on P false x rest says all = all

all_kept : (P : ℕ → Type 0) (test : ℕ → Bool) → ((n : ℕ) → test n ≡ true → P n) → (list : List ℕ)
    → AllByRecursion P (filter test list)
all_kept P test says [] = tt
all_kept P test says (x ∷ xs) = kept_on P (test x) x (filter test xs) (says x) (all_kept P test says xs)

at_list : (f : ℕ → List ℕ) (P : List ℕ → Type 0) (n op : ℕ) → P (f op) → P []
    → P (slice_index_or (map f (range_with_len 0 n)) op [])
at_list f P n op there none = on (nat_lt op n) refl
  where
    on : (b : Bool) → nat_lt op n ≡ b → P (slice_index_or (map f (range_with_len 0 n)) op [])
    on true e =
        let within : op < n = grind (arith, nat_tests, e) in
        subst P (sym (get_or-map-range_with_len f 0 n op op [] within (zero-add op))) there
    on false e =
        let out : n ≤ op = grind (arith, nat_tests, e) in
        subst P (sym (get_past (map f (range_with_len 0 n)) op []
        (omega (arith, out, length-map-range_with_len f 0 n)))) none

-- what all needs of an operation have in common, those of a graph have
needs_all : (program : Source) (op : ℕ) (P : ℕ → Type 0) → ((other : ℕ) → is_needed program op other ≡ true → P other)
    → AllByRecursion P (slice_index_or (graph_of program).needs op [])
unfolding needs_of
needs_all program op P says = at_list (needs_of program) (AllByRecursion P) (length program.ops) op
    (all_kept P (is_needed program op) says (all_ops program)) tt

users_all : (program : Source) (op : ℕ) (P : ℕ → Type 0) → ((user : ℕ) → is_needed program user op ≡ true → P user)
    → AllByRecursion P (slice_index_or (graph_of program).users op [])
unfolding users_of
users_all program op P says = at_list (users_of program) (AllByRecursion P) (length program.ops) op
    (all_kept P (λ user. is_needed program user op) says (all_ops program)) tt

-- those that a graph's operation needs are earlier
pub needs_earlier : (links : Links) → IsGraph links → (op : ℕ)
    → AllByRecursion (λ other. other < op) (slice_index_or links.needs op [])
needs_earlier links graph op = subst (λ (l : Links). AllByRecursion (λ other. other < op)
    (slice_index_or l.needs op [])) (sym graph.is)
    (needs_all graph.program op (λ other. other < op) (earlier graph.program graph.accepted op))

-- and its users are later
pub users_later : (links : Links) → IsGraph links → (op : ℕ)
    → AllByRecursion (λ user. op < user) (slice_index_or links.users op [])
users_later links graph op = subst (λ (l : Links). AllByRecursion (λ user. op < user) (slice_index_or l.users op []))
    (sym graph.is) (users_all graph.program op (λ user. op < user)
    (λ user. earlier graph.program graph.accepted user op))

user_within : (program : Source) (op user : ℕ) → is_needed program user op ≡ true → user < length program.ops
user_within program op user needed = on (nat_lt user (length program.ops)) refl
  where
    on : (b : Bool) → nat_lt user (length program.ops) ≡ b → user < length program.ops
    on true e = grind (arith, nat_tests, e)
    on false e =
        let out : length program.ops ≤ user = grind (arith, nat_tests, e) in
        absurd (true≢false (sym needed ∙ needs_within program user op out))

graph_count : (program : Source) → length (graph_of program).users ≡ length program.ops
graph_count program = users_count program

-- and they are operations
pub users_are_ops : (links : Links) → IsGraph links → (op : ℕ)
    → AllByRecursion (λ user. user < length links.users) (slice_index_or links.users op [])
users_are_ops links graph op =
    let count = graph_count graph.program in
    let within = users_all graph.program op (λ user. user < length graph.program.ops) (user_within graph.program op) in
    subst (λ (l : Links). AllByRecursion (λ user. user < length l.users) (slice_index_or l.users op [])) (sym graph.is)
    (subst (λ (n : ℕ). AllByRecursion (λ user. user < n) (slice_index_or (graph_of graph.program).users op []))
    (sym count) within)

-- ---- the lists, as a graph has them

pub needs_earlier_at : (inside : Links) → IsGraph inside → (lists : List (List ℕ)) (op : ℕ) → lists ≡ inside.needs
    → AllByRecursion (λ other. other < op) (slice_index_or lists op [])
needs_earlier_at inside graph lists op is =
    subst (λ (ls : List (List ℕ)). AllByRecursion (λ other. other < op) (slice_index_or ls op [])) (sym is)
    (needs_earlier inside graph op)

pub users_later_at : (inside : Links) → IsGraph inside → (lists : List (List ℕ)) (op : ℕ) → lists ≡ inside.users
    → AllByRecursion (λ user. op < user) (slice_index_or lists op [])
users_later_at inside graph lists op is =
    subst (λ (ls : List (List ℕ)). AllByRecursion (λ user. op < user) (slice_index_or ls op [])) (sym is)
    (users_later inside graph op)

pub users_are_ops_at : (inside links : Links) → inside ≡ links → IsGraph inside → (lists : List (List ℕ)) (op : ℕ)
    → lists ≡ inside.users → AllByRecursion (λ user. user < length links.users) (slice_index_or lists op [])
users_are_ops_at inside links same graph lists op is =
    let within = subst (λ (ls : List (List ℕ)). AllByRecursion (λ user. user < length inside.users)
    (slice_index_or ls op [])) (sym is) (users_are_ops inside graph op) in
    subst (λ (l : Links). AllByRecursion (λ user. user < length l.users) (slice_index_or lists op [])) same within

-- ---- the laws

pub needs_at : (program : Source) (op : ℕ) → op < length program.ops
    → slice_index_or (graph_of program).needs op [] ≡ needs_of program op
needs_at program op h = get_or-map-range_with_len (needs_of program) 0 (length program.ops) op op [] h (zero-add op)

pub users_at : (program : Source) (op : ℕ) → op < length program.ops
    → slice_index_or (graph_of program).users op [] ≡ users_of program op
users_at program op h = get_or-map-range_with_len (users_of program) 0 (length program.ops) op op [] h (zero-add op)

pub graph_counts : (program : Source) → (length (graph_of program).needs ≡ length program.ops)
    × (length (graph_of program).users ≡ length program.ops)
graph_counts program = (length-map-range_with_len (needs_of program) 0 (length program.ops), users_count program)

pub converse : (program : Source) (op other : ℕ) → has other (needs_of program op) ≡ has op (users_of program other)
converse program op other = has_needs program op other ∙ sym (has_users program op other)

-- ---- counting results

-- the results of the first operations are among all
pub results_limit : (ops : List Op) (n : ℕ) → results ops n ≤ length (targets_of ops)
results_limit ops n =
    let all : results ops (n + length ops) ≡ length (targets_of ops) =
    ap (λ l. length (targets_of l)) (take_past ops (n + length ops) (omega arith)) in
    omega (arith, results_rise ops n (n + length ops) (omega arith), all)

-- one operation more adds its results
pub results_next : (ops : List Op) (n : ℕ) (other : Op) → n < length ops
    → results ops (n + 1) ≡ results ops n + length (slice_index_or ops n other).targets
results_next [] n other h = absurd (not_below_zero n h)
results_next (op ∷ ops) zero other h = omega (arith, results_more op ops 0 1 refl)
results_next (op ∷ ops) (suc n) other h =
    omega (
      arith,
      results_next ops n other (omega (arith, h)),
      results_more op ops n (suc n) refl,
      results_more op ops (n + 1) (suc n + 1) (omega arith),
    )

-- the first operations of which some result has a larger number
pub defines_by : (program : Source) (op value : ℕ) → results program.ops op ≤ value
    → value < results program.ops (op + 1) → defines program op value ≡ true
unfolding first_value
defines_by program op value low high = grind (arith, nat_tests, low, high)

pub defines_here : (program : Source) (ops : List Op) (i value end : ℕ) (op : Op) (ts : List Target)
    → ops ≡ program.ops → i < length ops → op ≡ slice_index_or ops i op → ts ≡ op.targets → end ≡ results program.ops i
    → end ≤ value → value < end + length ts → defines program i value ≡ true
defines_here program ops i value end op ts same h is targets e low high =
    let there : i < length program.ops = subst (λ (l : List Op). i < length l) same h in
    let is_there : op ≡ slice_index_or program.ops i op = is ∙ ap (λ l. slice_index_or l i op) same in
    let added : length ts ≡ length (slice_index_or program.ops i op).targets =
    ap length targets ∙ ap (λ (o : Op). length o.targets) is_there in
    defines_by program i value (omega (arith, e, low))
    (omega (arith, e, high, added, results_next program.ops i op there))
