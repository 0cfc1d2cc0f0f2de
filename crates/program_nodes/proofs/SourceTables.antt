-- The table of a program's nodes: it is one, and values that are bits have nodes of at most 1.
use Rattle.std.proofs.Common.{◌≡◌, ℕ, zero, suc, ◌+◌, ◌*◌, ◌^◌, ◌<◌, ◌≤◌, Bool, true, false, List, [], ◌∷◌, ◌++◌}
use Rattle.std.proofs.Common.{length, map, refl, sym, ap, ◌∙◌, subst, arith}
use Rattle.std.specs.Prelude.{fold, slice_get, slice_index, slice_index_or, Some, IsFalse, IsSomeAnd, if◌then◌else◌}
use Rattle.std.specs.List.{AllByRecursion, range_with_len}
use Rattle.std.proofs.lemmas.List.{length-append, length-map, get_or-map}
use Rattle.std.proofs.lemmas.List.FromFn.{length-map-range_with_len}
use Rattle.base.proofs.Arithmetic.{at_most_by_test, not_below_zero}
use Rattle.word_operations.specs.declared.kind.Kind.{Kind}
use Rattle.word_operations.specs.declared.kind.Kind.TheVariants.{AddCarry, SubBorrow, MulX, CMov, Add, Sub, Mul, And}
use Rattle.word_operations.specs.declared.kind.Kind.TheVariants.{Or, Xor, Not, Copy, Shl, Shr, Shrd}
use Rattle.word_operations.specs.Operations.{operand_count}
use Rattle.word_program.specs.declared.parameter.Bounds.{Bounds}
use Rattle.word_program.specs.declared.parameter.Param.{Param}
use Rattle.word_program.specs.declared.operation.Op.{Op}
use Rattle.word_program.specs.declared.operation.Operand.{Operand}
use Rattle.word_program.specs.declared.operation.Operand.TheVariants as operands
use Rattle.word_program.specs.Program.{full}
use Rattle.word_program.specs.Values.{is_bit_by, is_output, op_bits, word_bounds}
use Rattle.word_program.specs.Accepted.{AreBounds, AreOps, IsOp, IsOperand, IsParam}
use Rattle.terms.specs.declared.nodes.Node.{Node}
use Rattle.terms.specs.declared.nodes.Form.{Form}
use Rattle.terms.specs.declared.nodes.Form.TheVariants as forms
use Rattle.terms.specs.Tables.{node_at, IsTable}
use Rattle.terms.specs.Forms.{FormFits}
use Rattle.terms.specs.Grown.{IsGrown}
use Rattle.term_store.specs.Interning.{AllMade}
use Rattle.program_nodes.specs.Operands.{AreNodesOf, AreOperandNodes, IsNextOp, IsNodeOf, IsProgramForm}
use Rattle.program_nodes.specs.Sources.{and_op, input_form, inputs_from, op_made, operand_made, operands_made}
use Rattle.program_nodes.specs.Sources.{param_forms, results_made, start_forms}
use Rattle.program_nodes.proofs.Growing.{Grows, all_made_are, all_made_grows, grows_more, grows_not, grows_on}
use Rattle.program_nodes.proofs.Growing.{nodes_append, nodes_later}
use Rattle.program_nodes.proofs.SourceRows.{never, row_grows, row_nodes}

-- ---- nodes by number

-- the node with a number among those that are told of
pub node_of_number : (t : List Node) (bs : List Bool) (ns : List ℕ) → AreNodesOf t bs ns → (k : ℕ) → k < length bs
    → IsNodeOf t (slice_index_or bs k false) (slice_index ns k)
node_of_number t [] ns are k h = absurd (not_below_zero k h)
node_of_number t (b ∷ bs) [] are k h = absurd are
node_of_number t (b ∷ bs) (n ∷ ns) are zero h = are.0
node_of_number t (b ∷ bs) (n ∷ ns) are (suc k) h = node_of_number t bs ns are.1 k (omega arith)

bit_of_number : (t : List Node) (bs : List Bool) (ns : List ℕ) → AreNodesOf t bs ns → (k : ℕ)
    → slice_index_or bs k false ≡ true → (node_at t (slice_index ns k)).high ≤ 1
bit_of_number t [] ns are k e = never e
bit_of_number t (b ∷ bs) [] are k e = absurd are
bit_of_number t (b ∷ bs) (n ∷ ns) are zero e = are.0.bit e
bit_of_number t (b ∷ bs) (n ∷ ns) are (suc k) e = bit_of_number t bs ns are.1 k e

pub as_many_nodes : (t : List Node) (bs : List Bool) (ns : List ℕ) → AreNodesOf t bs ns → length ns ≡ length bs
as_many_nodes t [] [] are = refl
as_many_nodes t [] (n ∷ ns) are = absurd are
as_many_nodes t (b ∷ bs) [] are = absurd are
as_many_nodes t (b ∷ bs) (n ∷ ns) are = ap suc (as_many_nodes t bs ns are.1)

-- ---- bounds of input words

bounds_at : (bs : List Bounds) → AllByRecursion AreBounds bs → (k : ℕ) → (slice_index_or bs k full).high < 2 ^ 64
bounds_at [] t k = omega arith
bounds_at (b ∷ bs) t zero = omega (arith, t.0.word)
bounds_at (b ∷ bs) t (suc k) = bounds_at bs t.1 k

pub bounds_word : (ps : List Param) → AllByRecursion IsParam ps → (param word : ℕ)
    → (word_bounds ps param word).high < 2 ^ 64
bounds_word [] t param word = omega arith
bounds_word (p ∷ ps) t zero word = bounds_at p.bounds t.0.bounds word
bounds_word (p ∷ ps) t (suc param) word = bounds_word ps t.1 param word

-- ---- operands

module _ (ps : List Param) (params : AllByRecursion IsParam ps) where
  module _ (values : List ℕ) (bits : List Bool) where
    pub operand_grows : (t : List Node) → IsTable t → IsGrown (IsProgramForm ps) t → (o : Operand)
        → IsOperand ps (length bits) o → Grows (IsProgramForm ps) t 1 (operand_made ps values t o).table
    operand_grows t table grown (operands.Literal n) h =
        all_made_grows (IsProgramForm ps) t (forms.Const n ∷ []) table grown (h, tt) (tt, tt)
    operand_grows t table grown (operands.Input param word) h =
        all_made_grows (IsProgramForm ps) t (input_form ps param word ∷ []) table grown
        (bounds_word ps params param word, tt) ((refl, h), tt)
    operand_grows t table grown (operands.Value number) h =
        grows_more (IsProgramForm ps) t t 0 1 (omega arith) (grows_not (IsProgramForm ps) t table grown)

    pub operand_nodes : (t : List Node) → IsTable t → IsGrown (IsProgramForm ps) t → AreNodesOf t bits values
        → (o : Operand) → IsOperand ps (length bits) o
        → AreNodesOf (operand_made ps values t o).table (is_bit_by ps bits o ∷ []) (operand_made ps values t o).numbers
    operand_nodes t table grown are (operands.Literal n) h =
        all_made_are (IsProgramForm ps) t (is_bit_by ps bits (operands.Literal n) ∷ []) (forms.Const n ∷ []) table grown
        (h, tt) (tt, tt) ((λ e. at_most_by_test n 1 e), tt)
    operand_nodes t table grown are (operands.Input param word) h =
        all_made_are (IsProgramForm ps) t (is_bit_by ps bits (operands.Input param word) ∷ [])
        (input_form ps param word ∷ []) table grown (bounds_word ps params param word, tt) ((refl, h), tt)
        ((λ e. at_most_by_test (word_bounds ps param word).high 1 e), tt)
    operand_nodes t table grown are (operands.Value number) h = (node_of_number t bits values are number h, tt)

    pub operands_grow : (t : List Node) → IsTable t → IsGrown (IsProgramForm ps) t → (os : List Operand)
        → AllByRecursion (IsOperand ps (length bits)) os
        → Grows (IsProgramForm ps) t (length os) (operands_made ps values t os).table
    operands_grow t table grown [] h = grows_not (IsProgramForm ps) t table grown
    operands_grow t table grown (o ∷ os) h =
        let u = (operand_made ps values t o).table in
        let first = operand_grows t table grown o h.0 in
        grows_on (IsProgramForm ps) t u (operands_made ps values u os).table 1 (length os) (length (o ∷ os))
        (omega arith) first (operands_grow u first.table first.grown os h.1)

    pub operands_nodes : (t : List Node) → IsTable t → IsGrown (IsProgramForm ps) t → AreNodesOf t bits values
        → (os : List Operand) → AllByRecursion (IsOperand ps (length bits)) os
        → AreNodesOf (operands_made ps values t os).table (map (is_bit_by ps bits) os)
        (operands_made ps values t os).numbers
    operands_nodes t table grown are [] h = tt
    operands_nodes t table grown are (o ∷ os) h =
        let u = operand_made ps values t o in
        let first = operand_grows t table grown o h.0 in
        let rest = operands_grow u.table first.table first.grown os h.1 in
        let w = operands_made ps values u.table os in
        nodes_append w.table (is_bit_by ps bits o ∷ []) (map (is_bit_by ps bits) os) u.numbers w.numbers
        (nodes_later u.table w.table (is_bit_by ps bits o ∷ []) u.numbers rest.prefix
        (operand_nodes t table grown are o h.0))
        (operands_nodes u.table first.table first.grown (nodes_later t u.table bits values first.prefix are) os h.1)

-- ---- an operation

pub some_operand : (kind : Kind) → 1 ≤ operand_count kind
some_operand AddCarry = omega arith
some_operand SubBorrow = omega arith
some_operand MulX = omega arith
some_operand CMov = omega arith
some_operand Add = omega arith
some_operand Sub = omega arith
some_operand Mul = omega arith
some_operand And = omega arith
some_operand Or = omega arith
some_operand Xor = omega arith
some_operand Not = omega arith
some_operand Copy = omega arith
some_operand (Shl k) = omega arith
some_operand (Shr k) = omega arith
some_operand (Shrd k) = omega arith

few_operands : (kind : Kind) → operand_count kind ≤ 3
few_operands AddCarry = omega arith
few_operands SubBorrow = omega arith
few_operands MulX = omega arith
few_operands CMov = omega arith
few_operands Add = omega arith
few_operands Sub = omega arith
few_operands Mul = omega arith
few_operands And = omega arith
few_operands Or = omega arith
few_operands Xor = omega arith
few_operands Not = omega arith
few_operands Copy = omega arith
few_operands (Shl k) = omega arith
few_operands (Shr k) = omega arith
few_operands (Shrd k) = omega arith

-- nodes of an operation's operands
pub operand_nodes_of : (ps : List Param) (bits : List Bool) (t : List Node) (ns : List ℕ) (op : Op) → IsOp ps bits op
    → AreNodesOf t (map (is_bit_by ps bits) op.args) ns
    → AreOperandNodes t op.kind (slice_index ns 0) (slice_index ns 1) (slice_index ns 2)
operand_nodes_of ps bits t ns op is are =
    let told = map (is_bit_by ps bits) op.args in
    let many : length told ≡ operand_count op.kind = length-map op.args (is_bit_by ps bits) ∙ is.arguments in
    let some = some_operand op.kind in
    record {
      first = (node_of_number t told ns are 0 (omega arith)).inside;
      second = λ h. (node_of_number t told ns are 1 (omega arith)).inside;
      third = λ h. (node_of_number t told ns are 2 (omega arith)).inside;
      taken = λ e. (node_of_number t told ns are 0 (omega arith)).bit
          (get_or-map (is_bit_by ps bits) op.args 0 (operands.Literal 0) false (omega (arith, is.arguments, some))
          ∙ is.bit e);
    }

-- the same, behind what stands before the operation
pub next_nodes : (ps : List Param) → AllByRecursion IsParam ps → (t : List Node) (values : List ℕ) (op : Op)
    → IsNextOp ps t values op
    → AreOperandNodes (operands_made ps values t op.args).table op.kind
    (slice_index (operands_made ps values t op.args).numbers 0)
    (slice_index (operands_made ps values t op.args).numbers 1)
    (slice_index (operands_made ps values t op.args).numbers 2)
next_nodes ps params t values op n = let args = operands_made ps values t op.args in
    operand_nodes_of ps n.bits args.table args.numbers op n.legal
    (operands_nodes ps params values n.bits t n.is_table n.grown n.nodes op.args n.legal.reads)

module _ (ps : List Param) (params : AllByRecursion IsParam ps) (values : List ℕ) (bits : List Bool)
    (t : List Node) (table : IsTable t) (grown : IsGrown (IsProgramForm ps) t) (op : Op) (is : IsOp ps bits op) where
  pub op_grows : AreNodesOf t bits values → Grows (IsProgramForm ps) t 6 (op_made ps values t op).table
  unfolding op_made
  op_grows are =
      let args = operands_made ps values t op.args in
      let first = operands_grow ps params values bits t table grown op.args is.reads in
      let nodes = operands_nodes ps params values bits t table grown are op.args is.reads in
      let few = few_operands op.kind in
      let count = is.arguments in
      grows_on (IsProgramForm ps) t args.table (results_made op.kind args.table (slice_index args.numbers 0)
      (slice_index args.numbers 1) (slice_index args.numbers 2)).table (length op.args) 3 6 (omega arith) first
      (row_grows ps args.table first.table first.grown op.kind is.count _ _ _
      (operand_nodes_of ps bits args.table args.numbers op is nodes))

  pub op_nodes : AreNodesOf t bits values
      → AreNodesOf (op_made ps values t op).table (op_bits ps bits op) (op_made ps values t op).numbers
  unfolding op_made
  op_nodes are =
      let args = operands_made ps values t op.args in
      let first = operands_grow ps params values bits t table grown op.args is.reads in
      let nodes = operands_nodes ps params values bits t table grown are op.args is.reads in
      let told = map (is_bit_by ps bits) op.args in
      row_nodes ps args.table first.table first.grown op.kind is.count _ _ _ _ _ _
      (operand_nodes_of ps bits args.table args.numbers op is nodes)
      (record {
        first = bit_of_number args.table told args.numbers nodes 0;
        second = bit_of_number args.table told args.numbers nodes 1;
        third = bit_of_number args.table told args.numbers nodes 2;
      })

-- ---- operations in order

-- a table that forms of the program made, with nodes of the values so far, of which these are bits
pub record AreSourced (ps : List Param) (bits : List Bool) (so_far : AllMade) : Type 0 where
  pub table : IsTable so_far.table
  pub grown : IsGrown (IsProgramForm ps) so_far.table
  pub nodes : AreNodesOf so_far.table bits so_far.numbers

module _ (ps : List Param) (params : AllByRecursion IsParam ps) where
  pub step_grows : (bits : List Bool) (m : AllMade) (op : Op) → IsOp ps bits op → AreSourced ps bits m
      → Grows (IsProgramForm ps) m.table 6 (and_op ps m op).table
  step_grows bits m op is so = op_grows ps params m.numbers bits m.table so.table so.grown op is so.nodes

  pub step_sourced : (bits : List Bool) (m : AllMade) (op : Op) → IsOp ps bits op → AreSourced ps bits m
      → AreSourced ps (bits ++ op_bits ps bits op) (and_op ps m op)
  step_sourced bits m op is so =
      let g = step_grows bits m op is so in
      let r = op_made ps m.numbers m.table op in
      record {
        table = g.table;
        grown = g.grown;
        nodes = nodes_append r.table bits (op_bits ps bits op) m.numbers r.numbers
            (nodes_later m.table r.table bits m.numbers g.prefix so.nodes)
            (op_nodes ps params m.numbers bits m.table so.table so.grown op is so.nodes);
      }

  pub ops_sourced : (ops : List Op) (bits : List Bool) (m : AllMade) → AreOps ps bits ops → AreSourced ps bits m
      → AreSourced ps (fold (λ bs op. bs ++ op_bits ps bs op) bits ops) (fold (and_op ps) m ops)
  ops_sourced [] bits m are so = so
  ops_sourced (op ∷ ops) bits m are so =
      ops_sourced ops (bits ++ op_bits ps bits op) (and_op ps m op) are.1 (step_sourced bits m op are.0 so)

  pub ops_grow : (ops : List Op) (bits : List Bool) (m : AllMade) → AreOps ps bits ops → AreSourced ps bits m
      → Grows (IsProgramForm ps) m.table (6 * length ops) (fold (and_op ps) m ops).table
  ops_grow [] bits m are so = grows_not (IsProgramForm ps) m.table so.table so.grown
  ops_grow (op ∷ ops) bits m are so =
      let n = and_op ps m op in
      grows_on (IsProgramForm ps) m.table n.table (fold (and_op ps) n ops).table 6 (6 * length ops)
      (6 * length (op ∷ ops)) (omega arith) (step_grows bits m op are.0 so)
      (ops_grow ops (bits ++ op_bits ps bits op) n are.1 (step_sourced bits m op are.0 so))

-- ---- what stands at the start

all_append : {X : Type 0} (P : X → Type 0) (xs ys : List X) → AllByRecursion P xs → AllByRecursion P ys
    → AllByRecursion P (xs ++ ys)
all_append P [] ys t u = u
all_append P (x ∷ xs) ys t u = (t.0, all_append P xs ys t.1 u)

-- these are the parameters from the one with this number on
abbrev pub ArePlaced : List Param → ℕ → List Param → Type 0
ArePlaced params param ps = (k : ℕ) → slice_get params (param + k) ≡ slice_get ps k

pub placed_next : (params : List Param) (param : ℕ) (p : Param) (ps : List Param) → ArePlaced params param (p ∷ ps)
    → ArePlaced params (param + 1) ps
placed_next params param p ps at k = let e : param + 1 + k ≡ param + suc k = omega arith in
    ap (slice_get params) e ∙ at (suc k)

pub placed_first : (params : List Param) (param : ℕ) (p : Param) (ps : List Param) → ArePlaced params param (p ∷ ps)
    → slice_get params param ≡ Some p
placed_first params param p ps at = let e : param ≡ param + 0 = omega arith in ap (slice_get params) e ∙ at 0

module _ (params : List Param) (all : AllByRecursion IsParam params) where
  word_forms_fit : (param k n : ℕ) → AllByRecursion (FormFits []) (map (input_form params param) (range_with_len k n))
  word_forms_fit param k zero = tt
  word_forms_fit param k (suc n) = (bounds_word params all param k, word_forms_fit param (k + 1) n)

  word_forms_have : (param k n : ℕ) (p : Param) → slice_get params param ≡ Some p → is_output p.role ≡ false
      → k + n ≤ length p.bounds
      → AllByRecursion (IsProgramForm params) (map (input_form params param) (range_with_len k n))
  word_forms_have param k zero p e input h = tt
  word_forms_have param k (suc n) p e input h = (
    (
      refl,
      subst (λ o. IsSomeAnd o (λ q. IsFalse (is_output q.role) × (k < length q.bounds))) (sym e)
          (input, omega arith),
    ),
    word_forms_have param (k + 1) n p e input (omega arith),
  )

  param_forms_fit : (param : ℕ) (b : Bool) (n : ℕ)
      → AllByRecursion (FormFits []) (if b then [] else map (input_form params param) (range_with_len 0 n))
  param_forms_fit param true n = tt
  param_forms_fit param false n = word_forms_fit param 0 n

  param_forms_have : (param : ℕ) (b : Bool) (p : Param) → slice_get params param ≡ Some p → is_output p.role ≡ b
      → AllByRecursion (IsProgramForm params)
      (if b then [] else map (input_form params param) (range_with_len 0 (length p.bounds)))
  param_forms_have param true p e input = tt
  param_forms_have param false p e input = word_forms_have param 0 (length p.bounds) p e input (omega arith)

  inputs_fit : (param : ℕ) (ps : List Param) → AllByRecursion (FormFits []) (inputs_from params param ps)
  inputs_fit param [] = tt
  inputs_fit param (p ∷ ps) = all_append (FormFits []) (param_forms params param p) (inputs_from params (param + 1) ps)
      (param_forms_fit param (is_output p.role) (length p.bounds)) (inputs_fit (param + 1) ps)

  inputs_have : (param : ℕ) (ps : List Param) → ArePlaced params param ps
      → AllByRecursion (IsProgramForm params) (inputs_from params param ps)
  inputs_have param [] at = tt
  inputs_have param (p ∷ ps) at =
      all_append (IsProgramForm params) (param_forms params param p) (inputs_from params (param + 1) ps)
      (param_forms_have param (is_output p.role) p (placed_first params param p ps at) refl)
      (inputs_have (param + 1) ps (placed_next params param p ps at))

  starts_fit : (k n : ℕ) → k + n ≤ 16 → AllByRecursion (FormFits []) (map forms.Start (range_with_len k n))
  starts_fit k zero h = tt
  starts_fit k (suc n) h = (omega arith, starts_fit (k + 1) n (omega arith))

  starts_have : (k n : ℕ) → AllByRecursion (IsProgramForm params) (map forms.Start (range_with_len k n))
  starts_have k zero = tt
  starts_have k (suc n) = (tt, starts_have (k + 1) n)

  pub start_forms_fit : AllByRecursion (FormFits []) (start_forms params)
  start_forms_fit = all_append (FormFits []) (map forms.Start (range_with_len 0 16)) (inputs_from params 0 params)
      (starts_fit 0 16 (omega arith)) (inputs_fit 0 params)

  pub start_forms_have : AllByRecursion (IsProgramForm params) (start_forms params)
  start_forms_have = all_append (IsProgramForm params) (map forms.Start (range_with_len 0 16))
      (inputs_from params 0 params) (starts_have 0 16) (inputs_have 0 params (λ k. ap (slice_get params) (omega arith)))

-- an input has at most 32 words
few_forms : (b : Bool) (f : ℕ → Form) (n : ℕ) → n ≤ 32
    → length (if b then [] else map f (range_with_len 0 n)) ≤ 32
few_forms true f n h = omega arith
few_forms false f n h = let e = length-map-range_with_len f 0 n in omega arith

few_inputs : (params : List Param) (param : ℕ) (ps : List Param) → AllByRecursion IsParam ps
    → length (inputs_from params param ps) ≤ 32 * length ps
few_inputs params param [] t = omega arith
few_inputs params param (p ∷ ps) t =
    let first = few_forms (is_output p.role) (input_form params param) (length p.bounds) t.0.words in
    let rest = few_inputs params (param + 1) ps t.1 in
    let all = length-append (param_forms params param p) (inputs_from params (param + 1) ps) in omega arith

pub few_start_forms : (params : List Param) → AllByRecursion IsParam params → length params ≤ 6
    → length (start_forms params) ≤ 16 + 192
few_start_forms params t h =
    let all = length-append (map forms.Start (range_with_len 0 16)) (inputs_from params 0 params) in
    let starts = length-map-range_with_len forms.Start 0 16 in
    let few = few_inputs params 0 params t in
    omega arith
