-- A legal plan, slot by slot: each slot's operation is there, and what it reads is defined by slots before it. At the
-- end every value is defined.
use Rattle.std.proofs.Common.{◌≡◌, ℕ, zero, suc, ◌+◌, ◌<◌, ◌≤◌, Bool, true, false, List, [], ◌∷◌, length, get_or, refl}
use Rattle.std.proofs.Common.{sym, ◌∙◌, ap, subst, arith, zero-add, Option, Some}
use Rattle.std.proofs.lemmas.Bool.Decides.{nat_tests}
use Rattle.std.proofs.lemmas.Option.{slice_get_within, get_or_from_slice_get}
use Rattle.std.specs.Prelude.{◌||◌, nat_lt, slice_get}
use Rattle.std.specs.List.{AllByRecursion, list_any}
use Rattle.std.specs.Option.{option_map_or}
use Rattle.word_program.specs.declared.operation.Op.{Op}
use Rattle.word_program.specs.declared.operation.Operand.{Operand}
use Rattle.word_program.specs.declared.operation.Operand.TheVariants as operands
use Rattle.word_program.specs.Program.{Source}
use Rattle.word_program.specs.Values.{targets_of}
use Rattle.word_program.specs.Accepted.{IsAccepted}
use Rattle.word_program.proofs.OperandKept.{all_get}
use Rattle.dependency_graph.specs.Needs.{first_value, is_value_in, defines, is_needed}
use Rattle.dependency_graph.proofs.NeedLemmas.{results, take_past}
use Rattle.dependency_graph.proofs.OrderLemmas.{defines_by}
use Rattle.templates.specs.Table.{count_of}
use Rattle.op_order.specs.declared.slot.Slot.{Slot}
use Rattle.op_order.specs.Plans.{opening_slot, op_at}
use Rattle.op_order.specs.Legal.{IsLegal}
use Rattle.op_order.specs.Windows.{IsDefinedAmong}
use Rattle.op_order.proofs.LegalLemmas.{legal_op, slot_of, needed_before}
use Rattle.op_order.proofs.Definers.{args_defined}
use Rattle.plain_checks.proofs.Between.{is_done}
use Rattle.plain_checks.proofs.Lists.{found}

-- ---- the operation that defines a value

-- an operation of the program that defines the value
record Definer (program : Source) (value : ℕ) : Type 0 where
  op : ℕ
  within : op < length program.ops
  is : defines program op value ≡ true

next_of : (program : Source) (n value : ℕ) (b : Bool) → nat_lt value (results program.ops n) ≡ b
    → (value < results program.ops n → (op : ℕ) × (op < n) × (defines program op value ≡ true))
    → value < results program.ops (suc n) → (op : ℕ) × (op < suc n) × (defines program op value ≡ true)
next_of program n value true e earlier h =
    let r = earlier (grind (arith, nat_tests, e)) in
    let below = r.1 in
    (r.0, omega arith, r.2)
next_of program n value false e earlier h =
    let low : results program.ops n ≤ value = grind (arith, nat_tests, e) in
    let next : suc n ≡ n + 1 = omega arith in
    (n, omega arith, defines_by program n value low (subst (λ (k : ℕ). value < results program.ops k) next h))

definer_below : (program : Source) (n value : ℕ) → value < results program.ops n
    → (op : ℕ) × (op < n) × (defines program op value ≡ true)
definer_below program zero value h = absurd (omega arith)
definer_below program (suc n) value h =
    next_of program n value (nat_lt value (results program.ops n)) refl (definer_below program n value) h

-- each value has one
definer : (program : Source) (value : ℕ) → value < length (targets_of program.ops) → Definer program value
definer program value h =
    let all : results program.ops (length program.ops) ≡ length (targets_of program.ops) =
    ap (λ ops. length (targets_of ops)) (take_past program.ops (length program.ops) (omega arith)) in
    let r = definer_below program (length program.ops) value (subst (λ (k : ℕ). value < k) (sym all) h) in
    record { op = r.0; within = r.1; is = r.2 }

-- ---- what an operation reads

-- an operation that reads a value needs the one that defines it
any_at : {X : Type 0} (test : X → Bool) (xs : List X) (n : ℕ) (x : X) → slice_get xs n ≡ Some x → test x ≡ true
    → list_any test xs ≡ true
any_at test [] n x e h = absurd (cc)
any_at test (y ∷ ys) zero x e h =
    let same : y ≡ x = cc in
    ap (λ b. b || list_any test ys) (ap test same ∙ h)
any_at test (y ∷ ys) (suc n) x e h = either (test y) (any_at test ys n x e h)
  where
    either : (b : Bool) → list_any test ys ≡ true → (b || list_any test ys) ≡ true
    either true r = refl
    either false r = r

needs_definer : (program : Source) (number other : ℕ) (op : Op) (place value : ℕ)
    → slice_get program.ops number ≡ Some op → slice_get op.args place ≡ Some (operands.Value value)
    → defines program other value ≡ true → is_needed program number other ≡ true
unfolding is_needed
needs_definer program number other op place value e f h =
    let test : Operand → Bool = is_value_in (first_value program other) (first_value program (other + 1)) in
    ap (λ (o : Option Op). list_any test (option_map_or (λ x. x.args) o [])) e
    ∙ any_at test op.args place (operands.Value value) f h

-- the value is one of the program
value_there : (program : Source) → IsAccepted program → (number : ℕ) (op : Op) (place value : ℕ)
    → slice_get program.ops number ≡ Some op → slice_get op.args place ≡ Some (operands.Value value)
    → value < length (targets_of program.ops)
value_there program accepted number op place value e f =
    let same : get_or program.ops number op ≡ op = get_or_from_slice_get program.ops number op op e in
    let all = subst (λ (o : Op). AllByRecursion (IsDefinedAmong (length (targets_of program.ops))) o.args) same
    (args_defined program accepted.ops number op (slice_get_within program.ops number op e)) in
    all_get (IsDefinedAmong (length (targets_of program.ops))) op.args place (operands.Value value) all f

-- ---- slot by slot

-- the operation's operands are all defined
abbrev pub ReadsDone : Source → List ℕ → Op → Type 0
ReadsDone program done op = (place value : ℕ) → slice_get op.args place ≡ Some (operands.Value value)
    → is_done program done value ≡ true

-- the slots go on from these operations, of which the last one comes first
abbrev pub GoesOn : Source → List ℕ → List Slot → Type 0
GoesOn program done [] = Unit {0}
GoesOn program done (slot ∷ rest) = (op : Op) × (slice_get program.ops slot.op ≡ Some op)
    × (slot.template < count_of program slot.op) × ReadsDone program done op × GoesOn program (slot.op ∷ done) rest

-- the operations behind the slots
abbrev pub done_after : List ℕ → List Slot → List ℕ
done_after done [] = done
done_after done (slot ∷ rest) = done_after (slot.op ∷ done) rest

-- the rest of the slots begins at a place, and the operations of those before it are done
record At (program : Source) (slots : List Slot) (n : ℕ) (rest : List Slot) (done : List ℕ) : Type 0 where
  count : length slots ≡ n + length rest
  same : (i : ℕ) → get_or slots (n + i) (opening_slot 0) ≡ get_or rest i (opening_slot 0)
  before : (i value : ℕ) → i < n → defines program (op_at slots i) value ≡ true → is_done program done value ≡ true

done_or : (a b : Bool) → b ≡ true → (a || b) ≡ true
done_or true b e = refl
done_or false b e = e

at_next : (program : Source) (slots : List Slot) (n : ℕ) (slot : Slot) (rest : List Slot) (done : List ℕ)
    → At program slots n (slot ∷ rest) done → At program slots (suc n) rest (slot.op ∷ done)
at_next program slots n slot rest done at =
    let count = at.count in
    record {
      count = omega arith;
      same = λ (i : ℕ). let e : suc n + i ≡ n + suc i = omega arith in
          ap (λ k. get_or slots k (opening_slot 0)) e ∙ at.same (suc i);
      before = λ (i value : ℕ) (w : i < suc n) (h : defines program (op_at slots i) value ≡ true).
          here i value w h (nat_lt i n) refl;
    }
  where
    here : (i value : ℕ) → i < suc n → defines program (op_at slots i) value ≡ true → (b : Bool) → nat_lt i n ≡ b
        → is_done program (slot.op ∷ done) value ≡ true
    here i value w h true e =
        done_or (defines program slot.op value) (is_done program done value)
        (at.before i value (grind (arith, nat_tests, e)) h)
    here i value w h false e =
        let high : n ≤ i = grind (arith, nat_tests, e) in
        let last : i ≡ n + 0 = omega arith in
        let is : op_at slots i ≡ slot.op = ap (λ (k : ℕ). op_at slots k) last ∙ ap (λ (s : Slot). s.op) (at.same 0) in
        let now : defines program slot.op value ≡ true =
        subst (λ (k : ℕ). defines program k value ≡ true) is h in
        ap (λ b. b || is_done program done value) now

-- a value whose operation the slot here needs is defined
done_before : (program : Source) (slots : List Slot) → IsLegal program slots → (n : ℕ) (rest : List Slot)
    (done : List ℕ) → At program slots n rest done → n < length slots → (value : ℕ) (d : Definer program value)
    → is_needed program (op_at slots n) d.op ≡ true → is_done program done value ≡ true
done_before program slots legal n rest done at inside value d needed =
    let earlier = needed_before program slots legal n d.op inside needed in
    at.before earlier.0 value earlier.1 (ap (λ (j : ℕ). defines program j value) earlier.2 ∙ d.is)

goes_from : (program : Source) (slots : List Slot) → IsAccepted program → IsLegal program slots → (n : ℕ)
    (rest : List Slot) (done : List ℕ) → At program slots n rest done → GoesOn program done rest
goes_from program slots accepted legal n [] done at = tt
goes_from program slots accepted legal n (slot ∷ rest) done at =
    let count = at.count in
    let inside : n < length slots = omega arith in
    let place : n ≡ n + 0 = omega arith in
    let here : get_or slots n (opening_slot 0) ≡ slot = ap (λ k. get_or slots k (opening_slot 0)) place ∙ at.same 0 in
    let is : op_at slots n ≡ slot.op = ap (λ (s : Slot). s.op) here in
    let there = found program.ops slot.op
    (subst (λ (k : ℕ). k < length program.ops) is (legal_op program slots legal n inside)) in
    let template : slot.template < count_of program slot.op =
    subst (λ (s : Slot). s.template < count_of program s.op) here (legal.templates n (opening_slot 0) inside) in
    let reads : ReadsDone program done there.0 = λ (k value : ℕ)
    (e : slice_get there.0.args k ≡ Some (operands.Value value)).
    let d = definer program value (value_there program accepted slot.op there.0 k value there.1 e) in
    let needed : is_needed program (op_at slots n) d.op ≡ true =
    subst (λ (j : ℕ). is_needed program j d.op ≡ true) (sym is)
    (needs_definer program slot.op d.op there.0 k value there.1 e d.is) in
    done_before program slots legal n (slot ∷ rest) done at inside value d needed in (
      there.0,
      there.1,
      template,
      reads,
      goes_from program slots accepted legal (suc n) rest (slot.op ∷ done)
          (at_next program slots n slot rest done at),
    )

-- from the beginning on, a legal plan's operations read what earlier ones define
pub legal_goes : (program : Source) (slots : List Slot) → IsAccepted program → IsLegal program slots
    → GoesOn program [] slots
legal_goes program slots accepted legal = goes_from program slots accepted legal 0 slots [] record {
  count = omega arith;
  same = λ (i : ℕ). ap (λ k. get_or slots k (opening_slot 0)) (zero-add i);
  before = λ (i value : ℕ) (w : i < 0) (h : defines program (op_at slots i) value ≡ true). absurd (omega arith);
}

-- ---- at the end

-- what is done stays done
done_stays : (program : Source) (slots : List Slot) (done : List ℕ) (value : ℕ) → is_done program done value ≡ true
    → is_done program (done_after done slots) value ≡ true
done_stays program [] done value h = h
done_stays program (slot ∷ rest) done value h = done_stays program rest (slot.op ∷ done) value
    (done_or (defines program slot.op value) (is_done program done value) h)

done_by : (program : Source) (slots : List Slot) (done : List ℕ) (i value : ℕ) → i < length slots
    → defines program (op_at slots i) value ≡ true → is_done program (done_after done slots) value ≡ true
done_by program [] done i value w h = absurd (omega arith)
done_by program (slot ∷ rest) done zero value w h = done_stays program rest (slot.op ∷ done) value
    (ap (λ b. b || is_done program done value) h)
done_by program (slot ∷ rest) done (suc i) value w h =
    done_by program rest (slot.op ∷ done) i value (omega arith) h

-- behind the slots of a legal plan every value is defined
pub all_done : (program : Source) (slots : List Slot) → IsLegal program slots → (value : ℕ)
    → value < length (targets_of program.ops) → is_done program (done_after [] slots) value ≡ true
all_done program slots legal value w =
    let d = definer program value w in
    let s = slot_of program slots legal d.op d.within in
    done_by program slots [] s.at value s.within
    (subst (λ (k : ℕ). defines program k value ≡ true) (sym s.is) d.is)
