-- The operations that give the operands of an operation.
use Rattle.std.proofs.Common.{◌≡◌, ℕ, zero, suc, ◌+◌, ◌<◌, ◌≤◌, Bool, true, false, List, [], ◌∷◌, ◌++◌, length, get_or}
use Rattle.std.proofs.Common.{refl, sym, ◌∙◌, ap, subst, arith}
use Rattle.std.proofs.lemmas.Bool.Decides.{nat_tests}
use Rattle.std.proofs.lemmas.List.{length-append}
use Rattle.std.specs.Prelude.{◌==◌, max, slice_get}
use Rattle.std.specs.Option.{option_map_or}
use Rattle.std.specs.List.{AllByRecursion, list_any}
use Rattle.word_program.specs.declared.operation.Op.{Op}
use Rattle.word_program.specs.declared.operation.Operand.{Operand}
use Rattle.word_program.specs.declared.operation.Operand.TheVariants as operands
use Rattle.word_program.specs.declared.parameter.Param.{Param}
use Rattle.word_program.specs.Program.{Source}
use Rattle.word_program.specs.Values.{targets_of, op_bits}
use Rattle.word_program.specs.Accepted.{IsOperand, AreOps}
use Rattle.word_program.proofs.OpsKept.{bits_count}
use Rattle.dependency_graph.specs.Needs.{first_value, is_value_in, defines, is_needed}
use Rattle.op_order.specs.declared.slot.Slot.{Slot}
use Rattle.op_order.specs.Windows.{past_last, defines_operand, IsDefinedAmong}
use Rattle.op_order.proofs.LastPlace.{past_last-or, past_last-same, past_last-none}

-- ---- what an accepted program reads it has defined

defined_by : (params : List Param) (n m : ℕ) (args : List Operand) → n ≤ m → AllByRecursion (IsOperand params n) args
    → AllByRecursion (IsDefinedAmong m) args
defined_by params n m [] le all = tt
defined_by params n m (operands.Literal word ∷ args) le all = (tt, defined_by params n m args le all.1)
defined_by params n m (operands.Input param word ∷ args) le all = (tt, defined_by params n m args le all.1)
defined_by params n m (operands.Value number ∷ args) le all = let here : number < n = all.0 in
    (omega arith, defined_by params n m args le all.1)

defined_at : (params : List Param) (bits : List Bool) (ops : List Op) (m : ℕ) → AreOps params bits ops
    → m ≡ length bits + length (targets_of ops)
    → (k : ℕ) (d : Op) → k < length ops → AllByRecursion (IsDefinedAmong m) (get_or ops k d).args
defined_at params bits [] m are e k d w = absurd (omega arith)
defined_at params bits (op ∷ ops) m are e zero d w = defined_by params (length bits) m op.args (omega arith) are.0.reads
defined_at params bits (op ∷ ops) m are e (suc k) d w =
    let now : length (op_bits params bits op) ≡ length op.targets = bits_count op.kind _ _ _ ∙ sym are.0.results in
    let here = length-append op.targets (targets_of ops) in
    let more = length-append bits (op_bits params bits op) in
    defined_at params (bits ++ op_bits params bits op) ops m are.1 (omega arith) k d (omega arith)

pub all_at : {X : Type 0} (P : X → Type 0) (xs : List X) (i : ℕ) (d : X) → AllByRecursion P xs → i < length xs
    → P (get_or xs i d)
all_at P [] i d all w = absurd (omega arith)
all_at P (x ∷ xs) zero d all w = all.0
all_at P (x ∷ xs) (suc i) d all w = all_at P xs i d all.1 (omega arith)

-- the operands of an operation of an accepted program
pub args_defined : (program : Source) → AreOps program.params [] program.ops → (k : ℕ) (d : Op)
    → k < length program.ops → AllByRecursion (IsDefinedAmong (length (targets_of program.ops)))
    (get_or program.ops k d).args
args_defined program are k d w = defined_at program.params [] program.ops (length (targets_of program.ops)) are
    (omega arith) k d w

-- ---- the slots of the operation that gives an operand

same_test : (b : Bool) (other op : ℕ) → (b ≡ true → other ≡ op) → (other ≡ op → b ≡ true) → b ≡ (other == op)
same_test true other op f g = let e = f refl in grind (arith, nat_tests)
same_test false other op f g = on (other == op) refl
  where
    on : (c : Bool) → (other == op) ≡ c → false ≡ c
    on true e = let same : other ≡ op = grind (arith, nat_tests, e) in g same
    on false e = refl

pub past_giver_is : (program : Source) (op value : ℕ) (slots : List Slot)
    → ((other : ℕ) → defines program op value ≡ true → defines program other value ≡ true → op ≡ other)
    → defines program op value ≡ true
    → past_last (λ slot. slot.op == op) slots ≡ past_last
    (λ slot. defines_operand program slot.op (operands.Value value)) slots
past_giver_is program op value slots once here =
    past_last-same (λ slot. slot.op == op) (λ slot. defines_operand program slot.op (operands.Value value)) slots
    (λ (slot : Slot). sym (same_test (defines_operand program slot.op (operands.Value value)) slot.op op
    (λ e. sym (once slot.op here e)) (λ e. subst (λ (k : ℕ). defines program k value ≡ true) (sym e) here)))

-- one past the last slot of an operation that gives one of the operands
abbrev pub past_givers : Source → List Slot → List Operand → ℕ
past_givers program slots args = past_last
    (λ slot. list_any (is_value_in (first_value program slot.op) (first_value program (slot.op + 1))) args) slots

pub past_givers-nil : (program : Source) (slots : List Slot) → past_givers program slots [] ≡ 0
past_givers-nil program slots = past_last-none slots

pub past_givers-cons : (program : Source) (slots : List Slot) (operand : Operand) (args : List Operand)
    → past_givers program slots (operand ∷ args) ≡ max
    (past_last (λ slot. defines_operand program slot.op operand) slots) (past_givers program slots args)
past_givers-cons program slots operand args =
    past_last-or (λ slot. defines_operand program slot.op operand)
    (λ slot. list_any (is_value_in (first_value program slot.op) (first_value program (slot.op + 1))) args) slots

pub max_first : (n : ℕ) → max 0 n ≡ n
max_first n = omega arith

pub max_last : (n : ℕ) → max n 0 ≡ n
max_last n = omega arith

pub max_more : (low definer_of_operand rest all now : ℕ) → now ≡ max low definer_of_operand
    → max low (max definer_of_operand rest) ≡ all → max now rest ≡ all
max_more low definer_of_operand rest all now e h = omega arith

args_at : (ops : List Op) (op : ℕ) (d : Op) → op < length ops
    → option_map_or (λ o. o.args) (slice_get ops op) [] ≡ (get_or ops op d).args
args_at [] op d w = absurd (omega arith)
args_at (o ∷ ops) zero d w = refl
args_at (o ∷ ops) (suc op) d w = args_at ops op d (omega arith)

-- what an operation needs are the givers of its operands
pub needed_are_givers : (program : Source) (slots : List Slot) (op : ℕ) (d : Op) → op < length program.ops
    → past_last (λ slot. is_needed program op slot.op) slots ≡ past_givers program slots (get_or program.ops op d).args
unfolding is_needed
needed_are_givers program slots op d w = ap (past_givers program slots) (args_at program.ops op d w)
