-- Which cells the addresses of a plain listing name: words of the frame, and of the array whose place is in a register;
-- and the stack pointer where the frame is taken and given back.
use Rattle.std.proofs.Common.{◌≡◌, ℕ, zero, suc, ◌+◌, ◌-◌, ◌*◌, ◌/◌, ◌^◌, ◌%◌, ◌<◌, List, [], ◌∷◌, length, Bool}
use Rattle.std.proofs.Common.{false, true, cond, ◌&&◌, ◌==◌, nat_lt, Option, Some, option_map, slice_get, refl}
use Rattle.std.proofs.Common.{sym, ap, ◌∙◌, subst, arith}
use Rattle.std.proofs.lemmas.Bool.{lt-ltb}
use Rattle.base.specs.Options.{◌>>=◌, guard}
use Rattle.x86_instr.specs.declared.operand.Reg.{Reg}
use Rattle.x86_instr.specs.declared.operand.Reg.TheVariants.{Rsp}
use Rattle.x86_instr.specs.Registers.{number_of}
use Rattle.x86_meaning.specs.Start as areas
use Rattle.terms.specs.declared.nodes.Node.{Node}
use Rattle.terms.specs.declared.nodes.NodeKind.TheVariants as kinds
use Rattle.terms.specs.declared.nodes.Form.TheVariants as forms
use Rattle.terms.specs.declared.nodes.Built.TheVariants.{Make}
use Rattle.terms.specs.Tables.{node_at, Prefix}
use Rattle.terms.specs.Sums.{constant_of, itself, terms_of}
use Rattle.terms.specs.Rules.{const_node, normal_of, sum_of}
use Rattle.term_store.specs.Interning.{Interned, made}
use Rattle.term_store.proofs.Interned.{made_interned}
use Rattle.term_store.proofs.Made.{interned_place}
use Rattle.term_store.proofs.Prefixes.{at_front, prefix_length}
use Rattle.term_laws.specs.Numbers.{Has}
use Rattle.term_laws.proofs.Stable.{has_start, made_is, made_node}
use Rattle.term_laws.proofs.SumOpened.{wide_for, Opens, opens_other, lin_with_constant}
use Rattle.term_laws.proofs.SumTerms.{IsOther}
use Rattle.program_nodes.proofs.SourceStarts.{start_node}
use Rattle.program_nodes.specs.Terms.{term, plus, minus, sum}
use Rattle.symbolic_state.specs.Symbols.{Array, Symbols, node_in}
use Rattle.symbolic_state.specs.Cells.{Base, Cell, address_form, cell_at, cell_named, param_in}
use Rattle.symbolic_state.specs.Cells as cells
use Rattle.plain_lower.specs.Frame.{param_reg, word_at}
use Rattle.plain_checks.proofs.StartSums.{start_sum, lin_based, sum_more, sum_none}

-- ---- cells

word_is : (word count : ℕ) → word < count → cells.word_at (8 * word) count ≡ Some word
word_is word count h =
    let none : 8 * word % 8 ≡ 0 = omega arith in
    let same : 8 * word / 8 ≡ word = omega arith in
    (λ i. guard (none i == 0 && nat_lt (same i) count) (same i))
    ∙ ap (λ (b : Bool). guard (true && b) word) (lt-ltb word count h)

frame_at : (y : Symbols) (offset word : ℕ) → (offset + 8 * length y.frame) % 2 ^ 64 ≡ 8 * word → word < length y.frame
    → cell_at y (record { reg = 4; offset = offset }) ≡ Some (record { area = areas.Frame; word = word })
frame_at y offset word e h =
    ap (λ (o : Option ℕ). option_map (λ word. record { area = areas.Frame; word = word }) o)
    (ap (λ (n : ℕ). cells.word_at n (length y.frame)) e ∙ word_is word (length y.frame) h)

-- the register of a parameter is no stack pointer, and tells the parameter
register_tells : (param : ℕ) → param < 6
    → ((number_of (param_reg param) == number_of Rsp) ≡ false) × (param_in (number_of (param_reg param)) ≡ Some param)
register_tells zero h = (refl, refl)
register_tells (suc zero) h = (refl, refl)
register_tells (suc (suc zero)) h = (refl, refl)
register_tells (suc (suc (suc zero))) h = (refl, refl)
register_tells (suc (suc (suc (suc zero)))) h = (refl, refl)
register_tells (suc (suc (suc (suc (suc zero))))) h = (refl, refl)
register_tells (suc (suc (suc (suc (suc (suc param)))))) h = absurd (omega arith)

array_at : (y : Symbols) (param word : ℕ) (array : Array) → param < 6 → slice_get y.arrays param ≡ Some array
    → word < length array.words
    → cell_at y (record { reg = number_of (param_reg param); offset = 8 * word })
    ≡ Some (record { area = areas.Array param; word = word })
array_at y param word array few there h =
    let reg = number_of (param_reg param) in
    let tells = register_tells param few in
    let C : ℕ → Option ℕ → Option Cell = λ p o. o >>= λ w. Some (record { area = areas.Array p; word = w }) in
    let A : ℕ → Option Array → Option Cell =
    λ p o. o >>= λ a. C p (cells.word_at (8 * word) (length a.words)) in
    ap (λ (b : Bool). cond b (cells.frame_cell y (record { reg = reg; offset = 8 * word }))
    (cells.array_cell y (record { reg = reg; offset = 8 * word }))) tells.0
    ∙ ap (λ (o : Option ℕ). o >>= λ p. A p (slice_get y.arrays p)) tells.1
    ∙ ap (A param) there
    ∙ ap (C param) (word_is word (length array.words) h)

-- ---- the stack pointer

-- over this table the stack pointer is so many bytes below its start
module _ {b t : List Node} (p : Prefix b t) (has : Has b (forms.Start 4) 4) where
  start_inside : 4 < length t
  start_inside = let h = (has_start 4 has).0 in let longer = prefix_length p in omega arith

  start_is : node_at t 4 ≡ start_node 4
  start_is = at_front 4 p (has_start 4 has).0 ∙ (has_start 4 has).1

  below_opens : (n k : ℕ) → (node_at t n).kind ≡ kinds.Sum k (term 1 4 ∷ []) → Opens t n k (itself 4)
  below_opens n k e = record {
    constant = ap (constant_of true) e;
    terms = ap (terms_of true n) e;
    ascends = (omega arith, start_inside, omega arith, omega arith, tt);
  }

  -- the address, which is made first, names a word of the frame
  pub frame_named : (y : Symbols) (word : ℕ)
      → (node_at t (node_in y Rsp)).kind ≡ kinds.Sum (2 ^ 64 - 8 * length y.frame) (term 1 4 ∷ [])
      → 8 * length y.frame < 2 ^ 63 → word < length y.frame
      → cell_named (made t (address_form y (word_at Rsp word))).table y
      (made t (address_form y (word_at Rsp word))).number ≡ Some (record { area = areas.Frame; word = word })
  unfolding cell_named
  frame_named y word e small h =
      let k = 2 ^ 64 - 8 * length y.frame in
      ap (λ (o : Option Base). o >>= cell_at y)
      (lin_based t 4 4 start_inside start_is (node_in y Rsp) k (8 * word) (below_opens (node_in y Rsp) k e))
      ∙ frame_at y ((8 * word + k) % 2 ^ 64) word (omega arith) h

  -- the frame is taken: a number whose node is the stack pointer's start less the frame's bytes
  pub stack_taken : (s frame : ℕ) → node_at t s ≡ const_node frame → 0 < frame → frame < 2 ^ 64
      → (node_at (made t (sum (plus 4 ∷ minus s ∷ []))).table (made t (sum (plus 4 ∷ minus s ∷ []))).number
      ≡ start_sum (2 ^ 64 - frame) 4)
      × ((made t (sum (plus 4 ∷ minus s ∷ []))).number < length (made t (sum (plus 4 ∷ minus s ∷ []))).table)
  unfolding normal_of
  stack_taken s frame e some small =
      let form = sum (plus 4 ∷ minus s ∷ []) in
      let o = opens_other t 4 start_inside (subst (λ (n : Node). IsOther n.kind) (sym start_is) tt) in
      let wide = wide_for t 0 (plus 4 ∷ minus s ∷ []) in
      let k : (0 + (2 ^ 64 - 1) * frame) % 2 ^ 64 ≡ 2 ^ 64 - frame = omega arith in
      let normal : normal_of t form ≡ Make (start_sum (2 ^ 64 - frame) 4) =
      lin_with_constant t 4 0 (itself 4) o s (2 ^ 64 - 1) frame e
      ∙ ap (λ (j : ℕ). sum_of t j (itself 4) wide) k
      ∙ sum_more t 4 4 start_inside start_is (2 ^ 64 - frame) wide (omega arith) (omega arith) in (
        made_node t form (start_sum (2 ^ 64 - frame) 4) normal,
        subst (λ (r : Interned). r.number < length r.table)
            (sym (made_interned t form (start_sum (2 ^ 64 - frame) 4) normal))
            (interned_place t (start_sum (2 ^ 64 - frame) 4)).within,
      )

  -- the frame is given back: the stack pointer's start
  pub stack_given : (n s frame : ℕ) → (node_at t n).kind ≡ kinds.Sum (2 ^ 64 - frame) (term 1 4 ∷ [])
      → node_at t s ≡ const_node frame → frame < 2 ^ 64
      → made t (sum (plus n ∷ plus s ∷ [])) ≡ record { table = t; number = 4 }
  unfolding normal_of
  stack_given n s frame e c small =
      let form = sum (plus n ∷ plus s ∷ []) in
      let wide = wide_for t 0 (plus n ∷ plus s ∷ []) in
      let k : (2 ^ 64 - frame + 1 * frame) % 2 ^ 64 ≡ 0 = omega arith in
      made_is t form 4
      (lin_with_constant t n (2 ^ 64 - frame) (itself 4) (below_opens n (2 ^ 64 - frame) e) s 1 frame c
      ∙ ap (λ (j : ℕ). sum_of t j (itself 4) wide) k ∙ sum_none t 4 4 start_inside start_is wide)

-- ---- arrays

-- the address, which is made first, names a word of the array whose place is in the register
pub array_named : {b t : List Node} (y : Symbols) (r : Reg) (param word : ℕ) (array : Array) → Prefix b t
    → Has b (forms.Start (number_of (param_reg param))) (node_in y r) → param < 6
    → slice_get y.arrays param ≡ Some array → word < length array.words → 8 * word < 2 ^ 64
    → cell_named (made t (address_form y (word_at r word))).table y (made t (address_form y (word_at r word))).number
    ≡ Some (record { area = areas.Array param; word = word })
unfolding cell_named
array_named {b} {t} y r param word array p has few there h small =
    let n = node_in y r in
    let reg = number_of (param_reg param) in
    let place = has_start reg has in
    let longer = prefix_length p in
    let l = place.0 in
    let inside : n < length t = omega arith in
    let is : node_at t n ≡ start_node reg = at_front n p l ∙ place.1 in
    let o = opens_other t n inside (subst (λ (m : Node). IsOther m.kind) (sym is) tt) in
    let k : (8 * word + 0) % 2 ^ 64 ≡ 8 * word = omega arith in
    ap (λ (o : Option Base). o >>= cell_at y)
    (lin_based t n reg inside is n 0 (8 * word) o
    ∙ ap (λ (j : ℕ). Some (record { reg = reg; offset = j })) k)
    ∙ array_at y param word array few there h
