-- Loads of a plain listing: a word of the frame or of an array, and an operand, into a register.
use Rattle.std.proofs.Common.{◌≡◌, ◌≢◌, ℕ, ◌+◌, ◌^◌, ◌<◌, Bool, true, false, List, ◌∷◌, ◌++◌, length, Option, Some}
use Rattle.std.proofs.Common.{None, refl, sym, ◌∙◌, ap, subst, arith, option_map, length-set, get_or-set_same}
use Rattle.std.proofs.Common.{get_or-set_other}
use Rattle.std.specs.Prelude.{slice_get, IsFalse, IsSomeAnd, if◌then◌else◌}
use Rattle.std.specs.Option.{option_map_or}
use Rattle.std.proofs.lemmas.Bool.{false≢true}
use Rattle.std.proofs.lemmas.Option.{slice_get_within}
use Rattle.word_program.specs.declared.parameter.Param.{Param}
use Rattle.word_program.specs.declared.parameter.Role.{Role}
use Rattle.word_program.specs.declared.parameter.Role.TheVariants.{Output, InputArray, InputScalar}
use Rattle.word_program.specs.declared.operation.Operand.{Operand}
use Rattle.word_program.specs.declared.operation.Operand.TheVariants as operands
use Rattle.word_program.specs.declared.operation.Target.TheVariants as targets
use Rattle.word_program.specs.Program.{Source}
use Rattle.word_program.specs.Values.{is_input_array, is_output, is_scalar, targets_of}
use Rattle.word_program.specs.Accepted.{IsAccepted, IsOperand, IsParam}
use Rattle.x86_instr.specs.declared.line.Line.{Line}
use Rattle.x86_instr.specs.declared.operand.Reg.{Reg}
use Rattle.x86_instr.specs.declared.operand.Reg.TheVariants.{Rsp}
use Rattle.x86_instr.specs.Registers.{number_of}
use Rattle.x86_meaning.specs.Start as areas
use Rattle.x86_meaning.proofs.RegisterLemmas.{number_of-injective}
use Rattle.terms.specs.declared.nodes.Node.{Node}
use Rattle.terms.specs.Tables.{Prefix}
use Rattle.term_store.specs.Interning.{Interned, made}
use Rattle.term_store.proofs.Made.{made_prefix}
use Rattle.term_store.proofs.Prefixes.{prefix_refl, prefix_trans}
use Rattle.symbolic_state.specs.declared.touch.Touch.{Touch}
use Rattle.symbolic_state.specs.Symbols.{Symbols, node_in, with_node, with_touch}
use Rattle.symbolic_state.specs.Cells.{Cell, address_form, known, node_of, touch_of}
use Rattle.symbolic_state.specs.Starts.{input_node}
use Rattle.symbolic_state.proofs.KnownCells.{all_at, array_known, known_within}
use Rattle.symbolic_state.proofs.LaterTables.{number_below}
use Rattle.plain_lower.specs.Frame.{load, load_input, load_word, param_reg, unowned, word_at}
use Rattle.plain_checks.proofs.Leading.{Leads, leads_on}
use Rattle.plain_checks.proofs.Nodes.{IsOperandNode, table_of}
use Rattle.plain_checks.proofs.Beside.{Beside, beside_then, is_scratch}
use Rattle.plain_checks.proofs.Between.{Standing, StandsAs, param_node}
use Rattle.plain_checks.proofs.BetweenLemmas.{Holds, holds_later}
use Rattle.plain_checks.proofs.MoveSteps.{constant_step, word_step}
use Rattle.term_laws.proofs.Stable.{has_later}
use Rattle.plain_checks.proofs.ListingAddresses.{array_address, frame_address}
use Rattle.plain_checks.proofs.SourceBase.{source_base}

-- ---- a register with another node

-- the register has the node; other registers have their nodes, and the memory is as it was
pub record Loaded (y : Symbols) (r : Reg) (n : ℕ) (z : Symbols) : Type 0 where
  pub beside : Beside y z
  pub node : node_in z r ≡ n
  pub others : (s : Reg) → number_of s ≢ number_of r → node_in z s ≡ node_in y s

is_other : (r s : Reg) → is_scratch r ≡ true → is_scratch s ≡ false → number_of s ≢ number_of r
is_other r s e f same = false≢true (sym f ∙ (ap is_scratch (number_of-injective s r same) ∙ e))

loaded : (y : Symbols) (r : Reg) (n : ℕ) (touch : Option Touch) → length y.regs ≡ 16 → is_scratch r ≡ true
    → Loaded y r n (with_node r n (with_touch touch y))
loaded y r n touch sixteen e = record {
  beside = record {
    sixteen = length-set y.regs (number_of r) n ∙ sixteen;
    kept = λ s f. get_or-set_other y.regs (number_of r) (number_of s) n 0 (is_other r s e f);
    arrays = refl;
    frame = refl;
    overlap = refl;
  };
  node = get_or-set_same y.regs (number_of r) n 0 (subst (λ m. number_of r < m) (sym sixteen) (number_below r));
  others = λ s other. get_or-set_other y.regs (number_of r) (number_of s) n 0 other;
}

loaded_again : {y z w : Symbols} {r : Reg} {m n : ℕ} → Loaded y r m z → Loaded z r n w → Loaded y r n w
loaded_again a b = record {
  beside = beside_then a.beside b.beside;
  node = b.node;
  others = λ s other. b.others s other ∙ a.others s other;
}

-- ---- slots of parameters

param_word : (program : Source) (param : ℕ) (p : Param) (b : Bool) → slice_get program.params param ≡ Some p
    → is_scalar p.role ≡ b → param_node program param
    ≡ (if b then input_node (table_of program) program.params param 0 else number_of (param_reg param))
param_word program param p b there e = ap (λ (test : Bool).
    if test then input_node (table_of program) program.params param 0 else number_of (param_reg param))
    (ap (λ (o : Option Param). option_map_or (λ q. is_scalar q.role) o false) there ∙ e)

-- the slot of an array's parameter has the place of the array
pub param_place : (program : Source) (param : ℕ) (p : Param) → slice_get program.params param ≡ Some p
    → is_scalar p.role ≡ false → param_node program param ≡ number_of (param_reg param)
param_place program param p there e = param_word program param p false there e

-- an input word has a parameter
record IsInput (program : Source) (param word : ℕ) : Type 0 where
  p : Param
  there : slice_get program.params param ≡ Some p
  input : is_output p.role ≡ false
  inside : word < length p.bounds

is_input : (program : Source) (param word : ℕ) (o : Option Param) → slice_get program.params param ≡ o
    → IsSomeAnd o (λ p. IsFalse (is_output p.role) × (word < length p.bounds)) → IsInput program param word
is_input program param word None e h = absurd h
is_input program param word (Some p) e h = record { p = p; there = e; input = h.0; inside = h.1 }

-- The operand may be loaded where the values stand that the predicate tells: a literal is a word, an input word is
-- there, and a value stands, under a name.
abbrev pub IsReady : Source → (ℕ → Type 0) → Operand → Type 0
IsReady program There (operands.Literal n) = n < 2 ^ 64
IsReady program There (operands.Input param word) = IsOperand program.params 0 (operands.Input param word)
IsReady program There (operands.Value value) =
    There value × (slice_get (targets_of program.ops) value ≡ Some targets.Value)

module _ (program : Source) (accepted : IsAccepted program) where
  -- ---- words

  -- a word of the frame into a register
  pub frame_word_then : {rest : List Line} {t : List Node} {y : Symbols} {Q : List Node → Symbols → Type 0} (r : Reg)
      (word n : ℕ) → Standing program t y → known y.frame word ≡ Some n → is_scratch r ≡ true
      → ((u : List Node) (z : Symbols) → Prefix t u → Loaded y r n z → Leads rest u z Q)
      → Leads (unowned (load_word r Rsp word) ∷ rest) t y Q
  frame_word_then {rest} {t} {y} {Q} r word n standing is e next =
      let mem = word_at Rsp word in
      let cell : Cell = record { area = areas.Frame; word = word } in
      let names = frame_address program accepted t y standing word (known_within y.frame word n is) in
      leads_on refl (word_step t y r mem cell n names is)
      (next (made t (address_form y mem)).table (with_node r n (with_touch (Some (touch_of false y cell)) y))
      (made_prefix t (address_form y mem)) (loaded y r n (Some (touch_of false y cell)) standing.sixteen e))

  -- a word of an array into a register
  array_word_then : {rest : List Line} {t : List Node} {y : Symbols} {Q : List Node → Symbols → Type 0} (r base : Reg)
      (param word n : ℕ) → Standing program t y → node_in y base ≡ number_of (param_reg param)
      → node_of y (areas.Array param) word ≡ Some n → is_scratch r ≡ true
      → ((u : List Node) (z : Symbols) → Prefix t u → Loaded y r n z → Leads rest u z Q)
      → Leads (unowned (load_word r base word) ∷ rest) t y Q
  array_word_then {rest} {t} {y} {Q} r base param word n standing place is e next =
      let mem = word_at base word in
      let cell : Cell = record { area = areas.Array param; word = word } in
      let names = array_known y param word n (λ array there known.
      array_address program accepted t y standing base param word array place there
      (known_within array.words word n known)) is in
      leads_on refl (word_step t y r mem cell n names is)
      (next (made t (address_form y mem)).table (with_node r n (with_touch (Some (touch_of false y cell)) y))
      (made_prefix t (address_form y mem)) (loaded y r n (Some (touch_of false y cell)) standing.sixteen e))

  -- ---- operands

  module _ (There : ℕ → Type 0) {rest : List Line} {t : List Node} {y : Symbols} {Q : List Node → Symbols → Type 0}
      (r : Reg) (n : ℕ) (holds : Holds program There t y) (e : is_scratch r ≡ true)
      (next : (u : List Node) (z : Symbols) → Prefix t u → Loaded y r n z → Leads rest u z Q) where
    literal_then : (word : ℕ) → word < 2 ^ 64 → IsOperandNode program (operands.Literal word) n
        → Leads (load program r (operands.Literal word) ++ rest) t y Q
    literal_then word w has = leads_on refl
        (constant_step t y r word n w (has_later (source_base program accepted).is_table holds.standing.more has))
        (next t (with_node r n (with_touch None y)) (prefix_refl t) (loaded y r n None holds.standing.sixteen e))

    module _ (param word : ℕ) (i : IsInput program param word)
        (has : IsOperandNode program (operands.Input param word) n) where
      slot : known y.frame param ≡ Some (param_node program param)
      slot = holds.standing.params param (slice_get_within program.params param i.p i.there)

      node : input_node (table_of program) program.params param word ≡ n
      node = ap (λ (made : Interned). made.number) has.is

      scalar_then : i.p.role ≡ InputScalar → Leads (load_input (Some InputScalar) r param word ++ rest) t y Q
      scalar_then is =
          let once = (all_at IsParam program.params param i.p accepted.params i.there).scalar (ap is_scalar is) in
          let inside = i.inside in
          let first : 0 ≡ word = omega (arith, once, inside) in
          let same : param_node program param ≡ n = param_word program param i.p true i.there (ap is_scalar is)
          ∙ (ap (λ (w : ℕ). input_node (table_of program) program.params param w) first ∙ node) in
          frame_word_then r param n holds.standing (slot ∙ ap Some same) e next

      array_then : i.p.role ≡ InputArray → Leads (load_input (Some InputArray) r param word ++ rest) t y Q
      array_then is =
          let place = param_place program param i.p i.there (ap is_scalar is) in
          frame_word_then r param (number_of (param_reg param)) holds.standing (slot ∙ ap Some place) e (λ u z p l.
          let later = holds_later holds p l.beside in
          array_word_then r r param word n later.standing l.node
          (later.inputs param word i.p i.there (ap is_input_array is) i.inside ∙ ap Some node) e
          (λ w x q k. next w x (prefix_trans p q) (loaded_again l k)))

      role_then : (role : Role) → i.p.role ≡ role → Leads (load_input (Some role) r param word ++ rest) t y Q
      role_then Output is = absurd (false≢true (sym i.input ∙ ap is_output is))
      role_then InputArray is = array_then is
      role_then InputScalar is = scalar_then is

      input_then : Leads (load program r (operands.Input param word) ++ rest) t y Q
      input_then = subst (λ (o : Option Role). Leads (load_input o r param word ++ rest) t y Q)
          (sym (ap (λ (o : Option Param). option_map (λ p. p.role) o) i.there)) (role_then i.p.role refl)

    value_then : (value : ℕ) → IsReady program There (operands.Value value)
        → IsOperandNode program (operands.Value value) n
        → Leads (load program r (operands.Value value) ++ rest) t y Q
    value_then value ready has =
        let stands = subst (StandsAs program y value) ready.1 (holds.cells value has.0 ready.0) in
        frame_word_then r (length program.params + value) n holds.standing (stands ∙ ap Some has.1) e next

    pub load_then : (operand : Operand) → IsReady program There operand → IsOperandNode program operand n
        → Leads (load program r operand ++ rest) t y Q
    load_then (operands.Literal word) ready has = literal_then word ready has
    load_then (operands.Input param word) ready has = input_then param word
        (is_input program param word (slice_get program.params param) refl ready) has
    load_then (operands.Value value) ready has = value_then value ready has
