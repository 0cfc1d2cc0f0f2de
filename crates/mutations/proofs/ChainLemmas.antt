-- Chains: how they go on, and that they have operations of one kind.
use Rattle.std.proofs.Common.{◌≡◌, ℕ, zero, suc, ◌+◌, ◌-◌, ◌<◌, ◌≤◌, Bool, true, false, List, [], ◌∷◌, length, refl}
use Rattle.std.proofs.Common.{sym, ap, subst, ◌∙◌, arith, inl, inr, ◌⊎◌}
use Rattle.std.proofs.lemmas.Bool.{cases_lt}
use Rattle.std.specs.Prelude.{cond, ◌&&◌, ◌||◌, ◌==◌, Option, Some, None, slice_get}
use Rattle.std.specs.List.{filter, find, range_with_len}
use Rattle.std.specs.Option.{option_map_or}
use Rattle.std.proofs.lemmas.Bool.Decides.{nat_tests}
use Rattle.std.proofs.lemmas.List.{length-map}
use Rattle.word_operations.specs.declared.kind.Kind.{Kind}
use Rattle.word_operations.specs.declared.kind.Kind.TheVariants as kinds
use Rattle.word_program.specs.declared.operation.Op.{Op}
use Rattle.word_program.specs.Program.{Source}
use Rattle.dependency_graph.specs.Needs.{has}
use Rattle.templates.specs.Table.{rows_of, templates_of, count_of}
use Rattle.mutations.specs.Chains.{is_add_carry, adds_carry, carry_of, takes_carry, takes_at, next_of}
use Rattle.mutations.specs.Chains.{chain_from, chain_of}

-- ---- the first number that passes

-- the number passes, and is in the range
pub record IsFound (test : ℕ → Bool) (a n k : ℕ) : Type 0 where
  pub passes : test k ≡ true
  pub low : a ≤ k
  pub high : k < a + n

found_here : (test : ℕ → Bool) (a n : ℕ) (rest : Option ℕ) (k : ℕ) (b : Bool) → test a ≡ b
    → (rest ≡ Some k → IsFound test (a + 1) n k)
    → cond b (Some a) rest ≡ Some k → IsFound test a (suc n) k
found_here test a n rest k true e later is =
    let same : a ≡ k = cc in
    record { passes = subst (λ (i : ℕ). test i ≡ true) same e; low = omega arith; high = omega arith }
found_here test a n rest k false e later is =
    let l = later is in
    let low = l.low in
    let high = l.high in
    record { passes = l.passes; low = omega arith; high = omega arith }

pub found : (test : ℕ → Bool) (a n k : ℕ) → find test (range_with_len a n) ≡ Some k → IsFound test a n k
found test a zero k e = absurd (cc)
found test a (suc n) k e =
    found_here test a n (find test (range_with_len (a + 1) n)) k (test a) refl (found test (a + 1) n k) e

pub not_found : (test : ℕ → Bool) (a n : ℕ) → ((j : ℕ) → a ≤ j → j < a + n → test j ≡ false)
    → find test (range_with_len a n) ≡ None
not_found test a zero none = refl
not_found test a (suc n) none =
    rw (none a (omega arith) (omega arith)) (not_found test (a + 1) n
    (λ j low high. none j (omega arith) (omega arith)))

at_or_above : (a k : ℕ) → a ≤ k → (a ≡ k) ⊎ (a < k)
at_or_above a k h = elim (cases_lt a k) [ inl lt ↦ inr lt | inr le ↦ inl (omega arith) ]

first_by : (test : ℕ → Bool) (a k : ℕ) (rest : Option ℕ) (b : Bool) → test a ≡ b → (a ≡ k) ⊎ (a < k)
    → test k ≡ true → (a < k → test a ≡ false) → (a < k → rest ≡ Some k) → cond b (Some a) rest ≡ Some k
first_by test a k rest true e (inl same) passes none later = ap Some same
first_by test a k rest true e (inr above) passes none later = absurd (let f = none above in cc)
first_by test a k rest false e (inl same) passes none later =
    absurd (let p = subst (λ (i : ℕ). test i ≡ true) (sym same) passes in cc)
first_by test a k rest false e (inr above) passes none later = later above

pub found_first : (test : ℕ → Bool) (a n k : ℕ) → a ≤ k → k < a + n
    → ((j : ℕ) → a ≤ j → j < k → test j ≡ false) → test k ≡ true → find test (range_with_len a n) ≡ Some k
found_first test a zero k low high none passes = absurd (omega arith)
found_first test a (suc n) k low high none passes =
    first_by test a k (find test (range_with_len (a + 1) n)) (test a) refl (at_or_above a k low) passes
    (λ h. none a (omega arith) h)
    (λ h. found_first test (a + 1) n k (omega arith) (omega arith) (λ j l u. none j (omega arith) u) passes)

-- ---- how a chain goes on

-- the next operation is a later one
next_later : (p : Source) (op k : ℕ) → next_of p op ≡ Some k
    → IsFound (takes_at p (carry_of p op)) (op + 1) (length p.ops - (op + 1)) k
unfolding next_of
next_later p op k e = found (takes_at p (carry_of p op)) (op + 1) (length p.ops - (op + 1)) k e

ended : (p : Source) (op : ℕ) (o : Option ℕ) → length p.ops ≤ op → next_of p op ≡ o
    → [] ≡ option_map_or (chain_from p zero) o []
ended p op None h e = refl
ended p op (Some k) h e =
    let l = next_later p op k e in
    let low = l.low in
    let high = l.high in
    absurd (omega arith)

rest_enough : (p : Source) (n op : ℕ) (o : Option ℕ) → next_of p op ≡ o
    → ((k : ℕ) → op < k → chain_from p n k ≡ chain_from p (suc n) k)
    → option_map_or (chain_from p n) o [] ≡ option_map_or (chain_from p (suc n)) o []
rest_enough p n op None e more = refl
rest_enough p n op (Some k) e more =
    let l = next_later p op k e in
    let low = l.low in
    more k (omega arith)

-- so many operations are enough
enough : (p : Source) (n op : ℕ) → length p.ops ≤ op + n → chain_from p n op ≡ chain_from p (suc n) op
enough p zero op h = ap (λ rest. op ∷ rest) (ended p op (next_of p op) (omega arith) refl)
enough p (suc n) op h =
    ap (λ rest. op ∷ rest) (rest_enough p n op (next_of p op) refl (λ k l. enough p n k (omega arith)))

pub goes_on : (p : Source) (op : ℕ) → chain_of p op ≡ op ∷ option_map_or (chain_of p) (next_of p op) []
unfolding chain_of
goes_on p op = enough p (length p.ops) op (omega arith)

-- it ends where no later operation takes the carry
pub ends_here : (p : Source) (op : ℕ) → ((j : ℕ) → op < j → j < length p.ops → takes_at p (carry_of p op) j ≡ false)
    → chain_of p op ≡ op ∷ []
unfolding next_of
ends_here p op none =
    let n = not_found (takes_at p (carry_of p op)) (op + 1) (length p.ops - (op + 1))
    (λ j low high. none j (omega arith) (omega arith)) in
    goes_on p op ∙ ap (λ next. op ∷ option_map_or (chain_of p) next []) n

-- else it goes on with the first that does
pub goes_to : (p : Source) (op k : ℕ) → op < k → k < length p.ops
    → ((j : ℕ) → op < j → j < k → takes_at p (carry_of p op) j ≡ false) → takes_at p (carry_of p op) k ≡ true
    → chain_of p op ≡ op ∷ chain_of p k
unfolding next_of
goes_to p op k low high none takes =
    let f = found_first (takes_at p (carry_of p op)) (op + 1) (length p.ops - (op + 1)) k (omega arith) (omega arith)
    (λ j l h. none j (omega arith) h) takes in
    goes_on p op ∙ ap (λ next. op ∷ option_map_or (chain_of p) next []) f

-- ---- the operations of a chain

first_holds : (a b : Bool) → (a && b) ≡ true → a ≡ true
first_holds true b e = refl
first_holds false b e = e

-- what takes a carry is an `addcarryx`
takes_adds : (p : Source) (carry op : ℕ) → takes_at p carry op ≡ true → adds_carry p op ≡ true
takes_adds p carry op = on (slice_get p.ops op)
  where
    on : (o : Option Op) → option_map_or (takes_carry carry) o false ≡ true
        → option_map_or (λ q. is_add_carry q.kind) o false ≡ true
    on None e = e
    on (Some q) e = first_holds (is_add_carry q.kind) _ e

-- the number is the first one, or among the others
here_or : (p : Source) (first op : ℕ) (b : Bool) (rest : List ℕ) → (first == op) ≡ b → adds_carry p first ≡ true
    → (b || has op rest) ≡ true → (has op rest ≡ true → adds_carry p op ≡ true) → adds_carry p op ≡ true
here_or p first op true rest e adds t later =
    let same : first ≡ op = grind (arith, nat_tests, e) in
    subst (λ (k : ℕ). adds_carry p k ≡ true) same adds
here_or p first op false rest e adds t later = later t

behind : (p : Source) (m first op : ℕ) (o : Option ℕ) → next_of p first ≡ o
    → ((k : ℕ) → adds_carry p k ≡ true → has op (chain_from p m k) ≡ true → adds_carry p op ≡ true)
    → has op (option_map_or (chain_from p m) o []) ≡ true → adds_carry p op ≡ true
behind p m first op None e later t = absurd (cc)
behind p m first op (Some k) e later t =
    let l = next_later p first k e in
    later k (takes_adds p (carry_of p first) k l.passes) t

-- and so is each operation of a chain
all_add : (p : Source) (n first op : ℕ) → adds_carry p first ≡ true → has op (chain_from p n first) ≡ true
    → adds_carry p op ≡ true
all_add p zero first op adds t = here_or p first op (first == op) [] refl adds t (λ e. absurd (cc))
all_add p (suc n) first op adds t =
    here_or p first op (first == op) (option_map_or (chain_from p n) (next_of p first) []) refl adds t
    (behind p n first op (next_of p first) refl (λ k. all_add p n k op))

pub chain_adds : (p : Source) (first op : ℕ) → adds_carry p first ≡ true → has op (chain_of p first) ≡ true
    → adds_carry p op ≡ true
unfolding chain_of
chain_adds p first op adds there = all_add p (length p.ops) first op adds there

-- an `addcarryx` has the templates `adc`, `adcx` and `adox`
three_by : (kind : Kind) (op : Op) → is_add_carry kind ≡ true → 3 ≤ length (filter (λ r. r.when op) (rows_of kind))
three_by kinds.AddCarry op e = omega arith
three_by kinds.SubBorrow op e = absurd (cc)
three_by kinds.MulX op e = absurd (cc)
three_by kinds.CMov op e = absurd (cc)
three_by kinds.Add op e = absurd (cc)
three_by kinds.Sub op e = absurd (cc)
three_by kinds.Mul op e = absurd (cc)
three_by kinds.And op e = absurd (cc)
three_by kinds.Or op e = absurd (cc)
three_by kinds.Xor op e = absurd (cc)
three_by kinds.Not op e = absurd (cc)
three_by kinds.Copy op e = absurd (cc)
three_by (kinds.Shl count) op e = absurd (cc)
three_by (kinds.Shr count) op e = absurd (cc)
three_by (kinds.Shrd count) op e = absurd (cc)

many : (q : Op) → is_add_carry q.kind ≡ true → 3 ≤ length (templates_of q)
unfolding templates_of
many q e =
    omega (arith, three_by q.kind q e, length-map (filter (λ r. r.when q) (rows_of q.kind)) (λ r. r.mnemonics))

pub carry_templates : (p : Source) (op : ℕ) → adds_carry p op ≡ true → 3 ≤ count_of p op
carry_templates p op = on (slice_get p.ops op)
  where
    on : (o : Option Op) → option_map_or (λ q. is_add_carry q.kind) o false ≡ true
        → 3 ≤ length (option_map_or templates_of o [])
    on None e = absurd (cc)
    on (Some q) e = many q e
