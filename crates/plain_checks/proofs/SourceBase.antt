-- The table of a program's nodes is one on which others stand, and has the starts of the registers and the input words.
use Rattle.std.proofs.Common.{◌≡◌, ℕ, zero, suc, ◌<◌, ◌≤◌, List, [], ◌∷◌, length, take, Some, refl, sym, ap}
use Rattle.std.proofs.Common.{◌∙◌, subst, arith}
use Rattle.std.specs.Prelude.{slice_get, slice_index_or, IsFalse}
use Rattle.std.specs.List.{AllByRecursion}
use Rattle.std.proofs.lemmas.Option.{get_or_from_slice_get, slice_get_within}
use Rattle.word_program.specs.declared.parameter.Bounds.{Bounds}
use Rattle.word_program.specs.declared.parameter.Param.{Param}
use Rattle.word_program.specs.Program.{Source, full}
use Rattle.word_program.specs.Values.{is_output, targets_of, word_bounds}
use Rattle.word_program.specs.Accepted.{AreBounds, IsAccepted, IsParam}
use Rattle.terms.specs.declared.nodes.Form.{Form}
use Rattle.terms.specs.declared.nodes.Form.TheVariants as forms
use Rattle.terms.specs.Meaning.{Admits, IsSound, Start, node_value}
use Rattle.terms.specs.Rules.{finished, normal_of}
use Rattle.terms.specs.Tables.{node_at, no_node}
use Rattle.term_store.specs.Interning.{Interned}
use Rattle.term_store.proofs.Growth.{grown_sound}
use Rattle.term_store.proofs.Interned.{interned_found, made_interned}
use Rattle.term_store.proofs.Places.{place_in_table}
use Rattle.term_store.proofs.Prefixes.{prefix_refl}
use Rattle.term_store.proofs.Values.{valuation}
use Rattle.program_nodes.specs.Operands.{IsProgramForm}
use Rattle.program_nodes.specs.Sources.{input_form}
use Rattle.program_nodes.proofs.ProgramNodes as nodes
use Rattle.program_nodes.proofs.ProgramNodes.{source_grown, source_table}
use Rattle.program_nodes.proofs.SourceStarts as starts
use Rattle.program_nodes.proofs.SourceStarts.{input_there, start_node}
use Rattle.program_nodes.proofs.SourceTables.{bounds_word}
use Rattle.symbolic_state.specs.Starts.{input_node}
use Rattle.symbolic_state.proofs.StartLemmas.{input_param}
use Rattle.term_laws.specs.Numbers.{Has}
use Rattle.term_laws.proofs.Entries.{IsBase, IsEntry}
use Rattle.plain_checks.proofs.Nodes.{table_of, value_node}
use Rattle.plain_checks.proofs.PointNodes.{IsPointed, normal_pointed}

-- ---- every interval is ordered

bounds_ordered : (bs : List Bounds) → AllByRecursion AreBounds bs → (k : ℕ)
    → (slice_index_or bs k full).low ≤ (slice_index_or bs k full).high
bounds_ordered [] t k = omega arith
bounds_ordered (b ∷ bs) t zero = t.0.ordered
bounds_ordered (b ∷ bs) t (suc k) = bounds_ordered bs t.1 k

word_ordered : (ps : List Param) → AllByRecursion IsParam ps → (param word : ℕ)
    → (word_bounds ps param word).low ≤ (word_bounds ps param word).high
word_ordered [] t param word = omega arith
word_ordered (p ∷ ps) t zero word = bounds_ordered p.bounds t.0.bounds word
word_ordered (p ∷ ps) t (suc param) word = word_ordered ps t.1 param word

-- every register 0, and each input word the least one
abbrev least_start : List Param → Start
least_start ps = record { regs = λ r. 0; inputs = λ param word. (word_bounds ps param word).low }

least_admits : (ps : List Param) → AllByRecursion IsParam ps → (form : Form) → IsProgramForm ps form
    → Admits (least_start ps) form
least_admits ps t (forms.Start reg) has = omega arith
least_admits ps t (forms.In param word low high) has =
    let same : word_bounds ps param word ≡ record { low = low; high = high } = has.0 in
    let ordered = word_ordered ps t param word in (
      subst (λ (b : Bounds). b.low ≤ (word_bounds ps param word).low) same (omega arith),
      subst (λ (b : Bounds). (word_bounds ps param word).low ≤ b.high) same ordered,
    )
least_admits ps t _ has = tt

-- ---- the table

module _ (program : Source) (accepted : IsAccepted program) where
  least_sound : IsSound (table_of program) (node_value (least_start program.params) (table_of program))
  least_sound = grown_sound (IsProgramForm program.params) (least_start program.params) _ (table_of program)
      (source_table program accepted) (source_grown program accepted)
      (least_admits program.params accepted.params)
      (valuation (least_start program.params) (table_of program) (source_table program accepted))

  source_entry : (n : ℕ) → n < length (table_of program) → IsEntry (node_at (table_of program) n)
  source_entry n h =
      let made = (source_grown program accepted).each n h in
      let pointed : IsPointed (node_at (table_of program) n) =
      (normal_pointed (take n (table_of program)) made.form).node (node_at (table_of program) n) made.made in
      let low = least_sound.above n h in
      let high = least_sound.below n h in
      record { ordered = omega (arith, low, high); point = pointed.point; constant = pointed.constant }

  pub source_base : IsBase (table_of program)
  source_base = record {
    is_table = source_table program accepted;
    grown = record {
      each = λ n h. let made = (source_grown program accepted).each n h in
          record { form = made.form; has = tt; fits = made.fits; made = made.made };
    };
    entries = source_entry;
  }

  -- ---- what stands before the first operation

  -- the node of a register's start has the register's number
  pub source_starts : (r : ℕ) → r < 16 → Has (table_of program) (forms.Start r) r
  unfolding normal_of finished
  source_starts r h =
      let t = table_of program in
      let here = starts.source_starts program accepted r h in
      let place = place_in_table t (start_node r) r (source_table program accepted)
      (slice_get_within t r (start_node r) here) (get_or_from_slice_get t r (start_node r) no_node here) in
      record {
        fits = h;
        is = made_interned t (forms.Start r) (start_node r) refl ∙ interned_found t (start_node r) r place;
      }

  -- the table has each word of an input parameter
  pub source_input : (param word : ℕ) (p : Param) → slice_get program.params param ≡ Some p → IsFalse (is_output p.role)
      → word < length p.bounds
      → Has (table_of program) (input_form program.params param word)
      (input_node (table_of program) program.params param word)
  source_input param word p e input h =
      let t = table_of program in
      let there = input_there program accepted param word (input_param program.params param word p e input h) in
      let found = there.found t (prefix_refl t) in
      record {
        fits = bounds_word program.params accepted.params param word;
        is = found ∙ ap (λ n. record { table = t; number = n }) (sym (ap (λ (i : Interned). i.number) found));
      }

  -- ---- the numbers of the values

  pub numbers_inside : (v : ℕ) → v < length (targets_of program.ops)
      → value_node program v < length (table_of program)
  numbers_inside v h = (nodes.value_node program accepted v h).inside
