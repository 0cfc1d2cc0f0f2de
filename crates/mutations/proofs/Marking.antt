-- The walk over a program that marks a chain.
use Rattle.std.proofs.Common.{◌≡◌, ℕ, zero, suc, ◌+◌, ◌<◌, ◌≤◌, Bool, true, false, List, [], ◌∷◌, ◌++◌, length, get_or}
use Rattle.std.proofs.Common.{set, map, refl, sym, ap, subst, ◌∙◌, arith, append_assoc, inl, inr}
use Rattle.std.specs.Prelude.{◌||◌, ◌==◌, slice_get}
use Rattle.std.specs.List.{All}
use Rattle.std.specs.Option.{option_map_or}
use Rattle.std.proofs.lemmas.Option.{slice_get-get_or}
use Rattle.std.proofs.lemmas.Bool.{cases_eq}
use Rattle.std.proofs.lemmas.Bool.Decides.{nat_tests}
use Rattle.std.proofs.lemmas.List.{length-set, get_or-set_same, get_or-set_other}
use Rattle.std.proofs.lemmas.List.Folds.{list_any-append}
use Rattle.base.specs.declared.limits.TheConstants.{MAX_OPERATIONS}
use Rattle.word_program.specs.declared.limits.TheConstants.{MAX_VALUES}
use Rattle.word_program.specs.declared.operation.Op.{Op}
use Rattle.word_program.specs.declared.operation.Target.{Target}
use Rattle.word_program.specs.Accepted.{IsAccepted}
use Rattle.word_program.specs.Program.{Source}
use Rattle.dependency_graph.specs.Needs.{first_value, has}
use Rattle.dependency_graph.proofs.OrderLemmas.{results_limit, results_next}
use Rattle.op_order.specs.declared.slot.Slot.{Slot}
use Rattle.op_order.specs.Plans.{op_at}
use Rattle.mutations.specs.Chains.{is_add_carry, adds_carry, carry_of, takes_carry, takes_at, chain_of}
use Rattle.mutations.specs.Marks.{AreMarks, templated_by}
use Rattle.mutations.specs.Mutations.{templated_among, chained}
use Rattle.mutations.proofs.ChainLemmas.{ends_here, goes_to}

-- ---- marks

marked_more : (b : Bool) (ops : List ℕ) (k op : ℕ) → (op == k) ≡ b
    → has k (ops ++ op ∷ []) ≡ (has k ops || (b || false))
marked_more b ops k op e =
    list_any-append (λ other. other == k) ops (op ∷ []) ∙ ap (λ c. has k ops || (c || false)) e

or_true : (b : Bool) → (b || (true || false)) ≡ true
or_true true = refl
or_true false = refl

or_false : (b : Bool) → (b || (false || false)) ≡ b
or_false true = refl
or_false false = refl

-- one number more is marked
pub mark_more : (marks : List Bool) (ops : List ℕ) (op : ℕ) → length marks ≡ MAX_OPERATIONS → op < MAX_OPERATIONS
    → AreMarks marks ops → AreMarks (set marks op true) (ops ++ op ∷ [])
mark_more marks ops op size low are k w = elim (cases_eq k op) [
  | inl e ↦ let t : (op == k) ≡ true = grind (arith, nat_tests, e) in
      let is : get_or (set marks op true) k false ≡ true = ap (λ (i : ℕ). get_or (set marks op true) i false) e
      ∙ get_or-set_same marks op true false (omega arith) in
      is ∙ sym (or_true (has k ops)) ∙ sym (marked_more true ops k op t)
  | inr e ↦ let f : (op == k) ≡ false = grind (arith, nat_tests, e) in
      get_or-set_other marks op k true false e ∙ are k w ∙ sym (or_false (has k ops))
      ∙ sym (marked_more false ops k op f)
]

-- ---- the walk

-- before the operation `op`: the last one of the chain so far, and those before it, of which all are marked
pub record IsWalk (p : Source) (first : ℕ) (marks : List Bool) (carry value op : ℕ) : Type 0 where
  pub front : List ℕ
  pub last : ℕ
  pub chain : chain_of p first ≡ front ++ chain_of p last
  pub marked : AreMarks marks (front ++ last ∷ [])
  pub size : length marks ≡ MAX_OPERATIONS
  pub carry_is : carry ≡ carry_of p last
  pub value_is : value ≡ first_value p op
  pub before : last < op
  pub none : (k : ℕ) → last < k → k < op → takes_at p carry k ≡ false

pub walk_begins : (p : Source) (first carry value : ℕ) (marks : List Bool) → length marks ≡ MAX_OPERATIONS
    → AreMarks marks [] → first < MAX_OPERATIONS → carry ≡ carry_of p first → value ≡ first_value p (first + 1)
    → IsWalk p first (set marks first true) carry value (first + 1)
walk_begins p first carry value marks size are low c v = record {
  front = [];
  last = first;
  chain = refl;
  marked = mark_more marks [] first size low are;
  size = length-set marks first true ∙ size;
  carry_is = c;
  value_is = v;
  before = omega arith;
  none = λ k l h. absurd (omega arith);
}

-- an operation that does not take the carry
pub walk_passes : (p : Source) (first : ℕ) (marks : List Bool) (carry value op next : ℕ)
    → IsWalk p first marks carry value op → takes_at p carry op ≡ false → next ≡ first_value p (op + 1)
    → IsWalk p first marks carry next (op + 1)
walk_passes p first marks carry value op next walk takes v = record {
  front = walk.front;
  last = walk.last;
  chain = walk.chain;
  marked = walk.marked;
  size = walk.size;
  carry_is = walk.carry_is;
  value_is = v;
  before = let b = walk.before in omega arith;
  none = λ k l h. elim (cases_eq k op) [
    | inl e ↦ subst (λ (i : ℕ). takes_at p carry i ≡ false) (sym e) takes
    | inr e ↦ walk.none k l (omega (arith, h, e))
  ];
}

-- one that takes it
pub walk_takes : (p : Source) (first : ℕ) (marks : List Bool) (carry value op next : ℕ)
    → IsWalk p first marks carry value op → op < length p.ops → op < MAX_OPERATIONS → takes_at p carry op ≡ true
    → next ≡ first_value p (op + 1) → IsWalk p first (set marks op true) (value + 1) next (op + 1)
walk_takes p first marks carry value op next walk there low takes v =
    let last : ℕ = walk.last in
    let c = walk.carry_is in
    let goes = goes_to p last op walk.before there
    (λ j l h. subst (λ (x : ℕ). takes_at p x j ≡ false) c (walk.none j l h))
    (subst (λ (x : ℕ). takes_at p x op ≡ true) c takes) in
    record {
      front = walk.front ++ last ∷ [];
      last = op;
      chain = walk.chain ∙ ap (λ rest. walk.front ++ rest) goes
          ∙ sym (append_assoc walk.front (last ∷ []) (chain_of p op));
      marked = mark_more marks (walk.front ++ last ∷ []) op walk.size low walk.marked;
      size = length-set marks op true ∙ walk.size;
      carry_is = ap (λ n. n + 1) walk.value_is;
      value_is = v;
      before = omega arith;
      none = λ k l h. absurd (omega arith);
    }

pub walk_ends : (p : Source) (first : ℕ) (marks : List Bool) (carry value op : ℕ) → IsWalk p first marks carry value op
    → length p.ops ≤ op → AreMarks marks (chain_of p first)
walk_ends p first marks carry value op walk past =
    let c = walk.carry_is in
    let e = ends_here p walk.last
    (λ j l h. subst (λ (x : ℕ). takes_at p x j ≡ false) c (walk.none j l (omega arith))) in
    subst (λ (ops : List ℕ). AreMarks marks ops) (sym (walk.chain ∙ ap (λ rest. walk.front ++ rest) e)) walk.marked

-- ---- the slots

same_slots : (ops : List ℕ) (marks : List Bool) (number : ℕ) (slots : List Slot) → AreMarks marks ops
    → All (λ slot. slot.op < MAX_OPERATIONS) slots
    → map (templated_by marks number) slots ≡ map (templated_among ops number) slots
same_slots ops marks number [] are all = refl
same_slots ops marks number (slot ∷ slots) are all =
    let here = are slot.op (all zero slot (omega arith)) in
    let rest = same_slots ops marks number slots are (λ k d w. all (suc k) d (omega arith)) in
    rw (here, rest) refl

-- ---- the operation that comes next

-- whether an operation takes a carry is told by the operation that is read
pub takes_is : (p : Source) (ops : List Op) (carry op : ℕ) (item : Op) (told b : Bool) → ops ≡ p.ops → op < length ops
    → told ≡ takes_carry carry (get_or ops op item) → told ≡ b → takes_at p carry op ≡ b
takes_is p ops carry op item told b same low t e =
    ap (λ l. option_map_or (takes_carry carry) (slice_get l op) false) (sym same)
    ∙ ap (λ o. option_map_or (takes_carry carry) o false) (slice_get-get_or ops op item low) ∙ sym t ∙ e

pub adds_is : (p : Source) (ops : List Op) (op : ℕ) (item : Op) (told b : Bool) → ops ≡ p.ops → op < length ops
    → told ≡ is_add_carry (get_or ops op item).kind → told ≡ b → adds_carry p op ≡ b
adds_is p ops op item told b same low t e =
    ap (λ l. option_map_or (λ q. is_add_carry q.kind) (slice_get l op) false) (sym same)
    ∙ ap (λ o. option_map_or (λ q. is_add_carry q.kind) o false) (slice_get-get_or ops op item low) ∙ sym t ∙ e

pub value_low : (p : Source) (value op : ℕ) → IsAccepted p → value ≡ first_value p op → value ≤ MAX_VALUES
unfolding first_value
value_low p value op accepted e =
    let limit = results_limit p.ops op in
    let all = accepted.values_limit in
    omega arith

-- the first value of the operation that comes next
pub record IsNextValue (p : Source) (op next : ℕ) : Type 0 where
  pub is : next ≡ first_value p (op + 1)
  pub low : next ≤ MAX_VALUES

pub next_value : (p : Source) (ops : List Op) (value op : ℕ) (item : Op) (targets : List Target) → IsAccepted p
    → ops ≡ p.ops → op < length ops → value ≡ first_value p op → targets ≡ (get_or ops op item).targets
    → IsNextValue p op (value + length targets)
unfolding first_value
next_value p ops value op item targets accepted same low v t =
    let there : op < length p.ops = subst (λ l. op < length l) same low in
    let next = results_next p.ops op item there in
    let size : length targets ≡ length (get_or p.ops op item).targets =
    ap length t ∙ ap (λ l. length (get_or l op item).targets) same in
    let e : value + length targets ≡ first_value p (op + 1) = omega arith in
    record { is = e; low = value_low p (value + length targets) (op + 1) accepted e }

-- ---- a chain set

pub chain_set : (p : Source) (slots : List Slot) (at op number : ℕ) (marks : List Bool) → op_at slots at ≡ op
    → adds_carry p op ≡ true → AreMarks marks (chain_of p op) → All (λ slot. slot.op < MAX_OPERATIONS) slots
    → map (templated_by marks number) slots ≡ chained p number slots at
chain_set p slots at op number marks here adds are all =
    rw (here, adds) (same_slots (chain_of p op) marks number slots are all)

pub no_chain : (p : Source) (slots : List Slot) (at op number : ℕ) → op_at slots at ≡ op → adds_carry p op ≡ false
    → slots ≡ chained p number slots at
no_chain p slots at op number here adds = rw (here, adds) refl

-- a program has few operations
pub ops_low : (p : Source) (slots : List Slot) → IsAccepted p → All (λ slot. slot.op < length p.ops) slots
    → All (λ slot. slot.op < MAX_OPERATIONS) slots
ops_low p slots accepted all k d w =
    let here = all k d w in
    let limit = accepted.ops_limit in
    omega arith
