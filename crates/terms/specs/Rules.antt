-- The rules: what is made of a form over a table. Where no rule gives a number of the table or a constant, the form's
-- own node is made, with its interval; and where the interval is one word, the node is that constant. Unordered
-- arguments are put in the order of their numbers first.
use Rattle.std.specs.Prelude.{ℕ, zero, suc, ◌+◌, ◌-◌, ◌^◌, Bool, true, false, not, ◌&&◌, ◌||◌, ◌==◌, nat_lt, nat_le}
use Rattle.std.specs.Prelude.{min, max}
use Rattle.std.specs.Prelude.{List, [], ◌∷◌, length, filter, fold, sum_by, slice_index_or, Option, Some, None}
use Rattle.std.specs.Prelude.{if◌then◌else◌, bit_and, bit_or, bit_xor}
use Rattle.base.specs.Options.{pick}
use Rattle.intervals.specs.declared.interval.Interval.{Interval}
use Rattle.intervals.specs.Intervals.{full, ones, bits_and, bits_or, bits_xor, product_low, product_high, shifted_right}
use Rattle.intervals.specs.Intervals.{choice}
use Rattle.terms.specs.declared.lists.Term.{Term}
use Rattle.terms.specs.declared.nodes.Node.{Node}
use Rattle.terms.specs.declared.nodes.NodeKind.{NodeKind}
use Rattle.terms.specs.declared.nodes.NodeKind.TheVariants as kinds
use Rattle.terms.specs.declared.nodes.Form.{Form}
use Rattle.terms.specs.declared.nodes.Form.TheVariants as forms
use Rattle.terms.specs.declared.nodes.Built.{Built}
use Rattle.terms.specs.declared.nodes.Built.TheVariants.{Is, Make}
use Rattle.terms.specs.Tables.{node_at, const_of}
use Rattle.terms.specs.Sums.{sum_constant, sum_terms, sum_interval}

-- ---- what rules read of a table

abbrev pub low_at : List Node → ℕ → ℕ
low_at table n = (node_at table n).low

abbrev pub high_at : List Node → ℕ → ℕ
high_at table n = (node_at table n).high

abbrev pub interval_at : List Node → ℕ → Interval
interval_at table n = record { low = low_at table n; high = high_at table n }

-- the constant that a node is, where it is one
abbrev pub constant_at : List Node → ℕ → Option ℕ
constant_at table n = const_of (node_at table n).kind

abbrev pub is_value : Option ℕ → ℕ → Bool
is_value None v = false
is_value (Some w) v = w == v

-- the node is this constant
abbrev pub is_const : List Node → ℕ → ℕ → Bool
is_const table n v = is_value (constant_at table n) v

-- ---- nodes

abbrev pub const_node : ℕ → Node
const_node v = record { kind = kinds.Const v; low = v; high = v }

-- a node with an interval; the constant where it is one word
unfoldable pub finished : NodeKind → Interval → Node
finished kind i = if i.low == i.high then const_node i.low else record { kind = kind; low = i.low; high = i.high }

-- its own node, where no other rule is left
abbrev pub own : NodeKind → Interval → Built
own kind i = Make (finished kind i)

abbrev pub a_bit : Interval
a_bit = record { low = 0; high = 1 }

-- ---- Lin

abbrev pub no_term : Term
no_term = record { times = 0; node = 0 }

-- the most terms that a sum may have
abbrev pub max_terms : ℕ
max_terms = 16

-- no term left: the constant; one node itself; few terms: a sum; and else `wide`
unfoldable pub sum_of : List Node → ℕ → List Term → Built → Built
sum_of table k terms wide =
    if length terms == 0 then Make (const_node k)
    else (if (k == 0) && ((length terms == 1) && ((slice_index_or terms 0 no_term).times == 1)) then
    Is (slice_index_or terms 0 no_term).node
    else (if nat_le (length terms) max_terms then own (kinds.Sum k terms) (sum_interval table k terms) else wide))

-- of too many terms: the list made again, without opening a sum
abbrev pub wide_of : List Node → ℕ → List Term → Built
wide_of table k terms = own (kinds.Wide k terms) (sum_interval table k terms)

unfoldable pub lin_of : List Node → ℕ → List Term → Built
lin_of table k terms = sum_of table (sum_constant true table k terms) (sum_terms true table terms)
    (wide_of table (sum_constant false table k terms) (sum_terms false table terms))

-- ---- numbers in order

abbrev pub insert_number : ℕ → List ℕ → List ℕ
insert_number m [] = m ∷ []
insert_number m (n ∷ ns) = if nat_lt n m then n ∷ insert_number m ns else m ∷ n ∷ ns

abbrev pub inserted : List ℕ → ℕ → List ℕ
inserted ns m = insert_number m ns

unfoldable pub by_number : List ℕ → List ℕ
by_number ms = fold inserted [] ms

-- the numbers of nodes that are not the constant 0
abbrev pub is_left : List Node → ℕ → Bool
is_left table m = not (is_const table m 0)

abbrev pub without_zeros : List Node → List ℕ → List ℕ
without_zeros table ms = filter (is_left table) ms

-- ---- Carry

-- m is the greatest word, and n at most 1: their carry is n
abbrev pub passes : List Node → ℕ → ℕ → Bool
passes table m n = is_const table m (2 ^ 64 - 1) && nat_le (high_at table n) 1

unfoldable pub carry_left : List Node → List ℕ → Built
carry_left table ms =
    let a = slice_index_or ms 0 0 in let b = slice_index_or ms 1 0 in
    if (length ms == 2) && passes table a b then Is b
    else (if (length ms == 2) && passes table b a then Is a
    else own (kinds.Carry ms) a_bit)

unfoldable pub carry_of : List Node → List ℕ → Built
carry_of table ms =
    if nat_le (2 ^ 64) (sum_by (low_at table) ms) then Make (const_node 1)
    else (if nat_lt (sum_by (high_at table) ms) (2 ^ 64) then Make (const_node 0)
    else carry_left table (without_zeros table ms))

-- ---- Borrow

unfoldable pub borrow_left : List Node → ℕ → List ℕ → Built
borrow_left table a ms =
    let b = slice_index_or ms 0 0 in
    if is_const table a 0 && ((length ms == 1) && nat_le (high_at table b) 1) then Is b
    else own (kinds.Borrow a ms) a_bit

unfoldable pub borrow_of : List Node → ℕ → List ℕ → Built
borrow_of table a ms =
    if nat_le (sum_by (high_at table) ms) (low_at table a) then Make (const_node 0)
    else (if nat_lt (high_at table a) (sum_by (low_at table) ms) then Make (const_node 1)
    else borrow_left table a (without_zeros table ms))

-- ---- Zero

unfoldable pub zero_of : List Node → ℕ → Built
zero_of table x =
    if nat_le 1 (low_at table x) then Make (const_node 0)
    else (if is_const table x 0 then Make (const_node 1) else own (kinds.Zero x) a_bit)

-- ---- products

-- a constant times a node, or the product's own node
abbrev pub product_by : List Node → ℕ → ℕ → Option ℕ → Option ℕ → Built
product_by table a b (Some v) w = lin_of table 0 (record { times = v; node = b } ∷ [])
product_by table a b None (Some w) = lin_of table 0 (record { times = w; node = a } ∷ [])
product_by table a b None None = own (kinds.MulLo a b) (product_low (interval_at table a) (interval_at table b))

unfoldable pub mul_lo_of : List Node → ℕ → ℕ → Built
mul_lo_of table a b = product_by table a b (constant_at table a) (constant_at table b)

unfoldable pub mul_hi_of : List Node → ℕ → ℕ → Built
mul_hi_of table a b = own (kinds.MulHi a b) (product_high (interval_at table a) (interval_at table b))

-- ---- by bits

-- a constant 2^j - 1 that is at least `high`
abbrev pub covers : Option ℕ → ℕ → Bool
covers None high = false
covers (Some v) high = (ones v == v) && nat_le high v

-- the constant of two constants, or else
abbrev pub both_const : (ℕ → ℕ → ℕ) → Option ℕ → Option ℕ → Built → Built
both_const f (Some v) (Some w) other = Make (const_node (f v w))
both_const f (Some v) None other = other
both_const f None w other = other

unfoldable pub and_of : List Node → ℕ → ℕ → Built
and_of table a b =
    if a == b then Is a
    else (if is_const table a 0 || is_const table b 0 then Make (const_node 0)
    else (if covers (constant_at table a) (high_at table b) then Is b
    else (if covers (constant_at table b) (high_at table a) then Is a
    else both_const bit_and (constant_at table a) (constant_at table b)
    (own (kinds.And a b) (bits_and (interval_at table a) (interval_at table b))))))

unfoldable pub or_of : List Node → ℕ → ℕ → Built
or_of table a b =
    if a == b then Is a
    else (if is_const table a 0 then Is b
    else (if is_const table b 0 then Is a
    else both_const bit_or (constant_at table a) (constant_at table b)
    (own (kinds.Or a b) (bits_or (interval_at table a) (interval_at table b)))))

unfoldable pub xor_of : List Node → ℕ → ℕ → Built
xor_of table a b =
    if a == b then Make (const_node 0)
    else (if is_const table a 0 then Is b
    else (if is_const table b 0 then Is a
    else both_const bit_xor (constant_at table a) (constant_at table b)
    (own (kinds.Xor a b) (bits_xor (interval_at table a) (interval_at table b)))))

-- ---- Select

-- the node that is tested to be 0, where the kind is such a test
abbrev pub tested : NodeKind → Option ℕ
tested (kinds.Zero x) = Some x
tested _ = None

-- The condition of a test is turned round: what is tested takes its place, and the choices are exchanged. What is
-- tested has a smaller number than the condition, so for a condition below `bound` the rules come to an end.
unfoldable pub select_below : ℕ → List Node → ℕ → ℕ → ℕ → Built
select_below zero table c x y = own (kinds.Select c x y) (choice (interval_at table x) (interval_at table y))
select_below (suc bound) table c x y =
    if nat_le 1 (low_at table c) then Is y
    else (if is_const table c 0 then Is x
    else (if x == y then Is x
    else pick (tested (node_at table c).kind) (λ b. select_below bound table b y x)
    (own (kinds.Select c x y) (choice (interval_at table x) (interval_at table y)))))

unfoldable pub select_of : List Node → ℕ → ℕ → ℕ → Built
select_of table c x y = select_below (c + 1) table c x y

-- ---- the rules

-- the two numbers in order
abbrev pub of_pair : (ℕ → ℕ → Built) → ℕ → ℕ → Built
of_pair rule a b = rule (min a b) (max a b)

unfoldable pub normal_of : List Node → Form → Built
normal_of table (forms.Const v) = Make (const_node v)
normal_of table (forms.Start reg) = own (kinds.Start reg) full
normal_of table (forms.In param word low high) = own (kinds.In param word) (record { low = low; high = high })
normal_of table (forms.Lin k terms) = lin_of table k terms
normal_of table (forms.Carry list) = carry_of table (by_number list)
normal_of table (forms.Borrow a list) = borrow_of table a (by_number list)
normal_of table (forms.Zero x) = zero_of table x
normal_of table (forms.MulLo a b) = of_pair (mul_lo_of table) a b
normal_of table (forms.MulHi a b) = of_pair (mul_hi_of table) a b
normal_of table (forms.And a b) = of_pair (and_of table) a b
normal_of table (forms.Or a b) = of_pair (or_of table) a b
normal_of table (forms.Xor a b) = of_pair (xor_of table) a b
normal_of table (forms.Shr x k) = own (kinds.Shr x k) (shifted_right (interval_at table x) k)
normal_of table (forms.Select c x y) = select_of table c x y
normal_of table (forms.SetB v b) = own (kinds.SetB v b) full
