-- Stores of a plain listing: a register into the slot of a value, and into a word of an output.
use Rattle.std.proofs.Common.{◌≡◌, ◌≢◌, ℕ, ◌+◌, ◌<◌, Bool, true, false, List, ◌∷◌, ◌++◌, length, Option, Some}
use Rattle.std.proofs.Common.{refl, sym, ◌∙◌, ap, subst, arith}
use Rattle.std.specs.Prelude.{slice_index, slice_set, if◌then◌else◌}
use Rattle.std.proofs.lemmas.Bool.{false≢true}
use Rattle.std.proofs.lemmas.Option.{slice_get_within}
use Rattle.word_program.specs.declared.parameter.Role.{Role}
use Rattle.word_program.specs.declared.parameter.Role.TheVariants.{Output, InputArray, InputScalar}
use Rattle.word_program.specs.Program.{Source}
use Rattle.word_program.specs.Values.{is_output, is_scalar, targets_of}
use Rattle.word_program.specs.Accepted.{IsAccepted}
use Rattle.x86_instr.specs.declared.instr.Instr.TheVariants as instrs
use Rattle.x86_instr.specs.declared.line.Line.{Line}
use Rattle.x86_instr.specs.declared.operand.Reg.{Reg}
use Rattle.x86_instr.specs.declared.operand.Reg.TheVariants.{Rsp, R11}
use Rattle.x86_instr.specs.Registers.{number_of}
use Rattle.x86_meaning.specs.Start as areas
use Rattle.x86_meaning.proofs.RegisterLemmas.{number_of-injective}
use Rattle.terms.specs.declared.nodes.Node.{Node}
use Rattle.terms.specs.Tables.{Prefix}
use Rattle.term_store.specs.Interning.{made}
use Rattle.term_store.proofs.Made.{made_prefix}
use Rattle.term_store.proofs.Prefixes.{prefix_trans}
use Rattle.symbolic_state.specs.Symbols.{Symbols, node_in, with_touch}
use Rattle.symbolic_state.specs.Cells.{Cell, address_form, known, touch_of}
use Rattle.symbolic_state.specs.Fitting.{HaveShapes}
use Rattle.symbolic_state.proofs.KnownCells.{same_nodes}
use Rattle.plain_lower.specs.Frame.{keep, param_reg, put_out, unowned, word_at}
use Rattle.plain_checks.proofs.Leading.{Leads, leads_on}
use Rattle.plain_checks.proofs.Beside.{is_scratch}
use Rattle.plain_checks.proofs.Between.{Standing}
use Rattle.plain_checks.proofs.BetweenLemmas.{Alike, standing_later}
use Rattle.plain_checks.proofs.MoveSteps.{put_step}
use Rattle.plain_checks.proofs.WrittenOnce.{IsOut}
use Rattle.plain_checks.proofs.MemoryStores.{array_of, SlotSet, slot_set, WordSet, after_word}
use Rattle.plain_checks.proofs.Loads.{Loaded, frame_word_then, param_place}
use Rattle.plain_checks.proofs.ListingAddresses.{array_address, frame_address}

-- ---- the registers and the shapes are as they were

not_r11 : (r : Reg) → is_scratch r ≡ false → number_of r ≢ 11
not_r11 r e same = false≢true (sym e ∙ ap is_scratch (number_of-injective r R11 same))

pub slot_alike : (program : Source) (t : List Node) (y z : Symbols) (value n : ℕ) → Standing program t y
    → SlotSet y (length program.params + value) n z → Alike program y z
slot_alike program t y z value n s set = record {
  sixteen = ap length set.regs ∙ s.sixteen;
  kept = λ r e. ap (λ (regs : List ℕ). slice_index regs (number_of r)) set.regs;
  shapes = subst (HaveShapes program.params) (sym set.arrays) s.shapes;
  frame_long = set.long;
  overlap = set.overlap;
  params = λ param inside. set.others param (λ e. omega (arith, inside, e));
}

pub word_alike : (program : Source) (y z : Symbols) (param word n : ℕ) → WordSet program y param word n z
    → Alike program y z
word_alike program y z param word n set = record {
  sixteen = set.sixteen;
  kept = λ r e. set.kept r (not_r11 r e);
  shapes = set.shapes;
  frame_long = ap length set.frame;
  overlap = set.overlap;
  params = λ param inside. ap (λ (words : List (Option ℕ)). known words param) set.frame;
}

-- a word stored behind a load into `r11`
set_behind : (program : Source) (y z w : Symbols) (param word n m : ℕ) → Loaded y R11 m z
    → WordSet program z param word n w → WordSet program y param word n w
set_behind program y z w param word n m l set = record {
  sixteen = set.sixteen;
  kept = λ r other. set.kept r other ∙ l.others r other;
  frame = set.frame ∙ l.beside.frame;
  overlap = set.overlap ∙ l.beside.overlap;
  shapes = set.shapes;
  here = set.here;
  others = λ q x other is. set.others q x other is
      ∙ same_nodes y z l.beside.arrays l.beside.frame (areas.Array q) x;
}

output_is_array : (role : Role) → is_output role ≡ true → is_scalar role ≡ false
output_is_array Output e = refl
output_is_array InputArray e = refl
output_is_array InputScalar e = sym e

-- an output's array has the words of its parameter
output_words : (role : Role) (n : ℕ) → is_output role ≡ true → n ≡ (if is_scalar role then 0 else n)
output_words role n e = ap (λ (b : Bool). if b then 0 else n) (sym (output_is_array role e))

module _ (program : Source) (accepted : IsAccepted program) where
  -- ---- lines

  -- a register into a slot of a value
  pub keep_then : {rest : List Line} {t : List Node} {y : Symbols} {Q : List Node → Symbols → Type 0} (value n : ℕ)
      (src : Reg) → Standing program t y → value < length (targets_of program.ops) → node_in y src ≡ n
      → ((u : List Node) (z : Symbols) → Prefix t u → SlotSet y (length program.params + value) n z → Leads rest u z Q)
      → Leads (keep program value src ++ rest) t y Q
  keep_then {rest} {t} {y} {Q} value n src s inside is next =
      let slot = length program.params + value in
      let long = s.frame_long in
      let within : slot < length y.frame = omega (arith, long, inside) in
      let cell : Cell = record { area = areas.Frame; word = slot } in
      let names = frame_address program accepted t y s slot within in
      let touch = Some (touch_of true y cell) in
      let z : Symbols = record y { frame = slice_set y.frame slot (Some (node_in y src)) } in
      leads_on refl (put_step t y z src (word_at Rsp slot) cell names refl)
      (next (made t (address_form y (word_at Rsp slot))).table (with_touch touch z)
      (made_prefix t (address_form y (word_at Rsp slot)))
      (subst (λ (m : ℕ). SlotSet y slot m (with_touch touch z)) is (slot_set y slot (node_in y src) touch within)))

  module _ (param word : ℕ) (i : IsOut program param word) {rest : List Line} {Q : List Node → Symbols → Type 0}
      (src : Reg) where
    -- the store itself, of which the place is in `r11`
    word_then : {t : List Node} {y : Symbols} → Standing program t y → node_in y R11 ≡ number_of (param_reg param)
        → ((u : List Node) (z : Symbols) → Prefix t u → WordSet program y param word (node_in y src) z
        → Leads rest u z Q)
        → Leads (unowned (instrs.Store (word_at R11 word) src) ∷ rest) t y Q
    word_then {t} {y} s place next =
        let a = array_of program.params y.arrays param i.p s.shapes i.there in
        let cell : Cell = record { area = areas.Array param; word = word } in
        let out = ap is_output a.role ∙ i.output in
        let many = a.words ∙ sym (output_words i.p.role (length i.p.bounds) i.output) in
        let inside = i.inside in
        let within : word < length a.array.words = omega (arith, many, inside) in
        let names = array_address program accepted t y s R11 param word a.array place a.there within in
        let touch = Some (touch_of true y cell) in
        let after = after_word program y param word (node_in y src) a.array t s a.there out within touch in
        leads_on refl (put_step t y after.state src (word_at R11 word) cell names after.is)
        (next (made t (address_form y (word_at R11 word))).table (with_touch touch after.state)
        (made_prefix t (address_form y (word_at R11 word))) after.set)

    -- a register into a word of an output
    pub put_out_then : {t : List Node} {y : Symbols} (n : ℕ) → Standing program t y → node_in y src ≡ n
        → number_of src ≢ 11
        → ((u : List Node) (z : Symbols) → Prefix t u → WordSet program y param word n z → Leads rest u z Q)
        → Leads (put_out param word src ++ rest) t y Q
    put_out_then {t} {y} n s is other next =
        let place = param_place program param i.p i.there (output_is_array i.p.role i.output) in
        let slot = s.params param (slice_get_within program.params param i.p i.there) ∙ ap Some place in
        frame_word_then program accepted R11 param (number_of (param_reg param)) s slot refl (λ u z p l.
        word_then (standing_later s p l.beside) l.node (λ w x q set.
        next w x (prefix_trans p q) (subst (λ (m : ℕ). WordSet program y param word m x) (l.others src other ∙ is)
        (set_behind program y z x param word (node_in z src) (number_of (param_reg param)) l set))))
