-- Between entry and exit of a plain listing, the addresses of its frame and of its arrays name their cells.
use Rattle.std.proofs.Common.{◌≡◌, ℕ, ◌-◌, ◌*◌, ◌^◌, ◌<◌, ◌≤◌, Bool, true, false, List, [], ◌∷◌, length, Some}
use Rattle.std.proofs.Common.{sym, ◌∙◌, ap, subst, arith}
use Rattle.std.specs.Prelude.{slice_get, if◌then◌else◌}
use Rattle.std.proofs.lemmas.Option.{slice_get_within}
use Rattle.word_program.specs.Program.{Source}
use Rattle.word_program.specs.Values.{is_scalar}
use Rattle.word_program.specs.Accepted.{IsAccepted, IsParam}
use Rattle.x86_instr.specs.declared.operand.Reg.{Reg}
use Rattle.x86_instr.specs.declared.operand.Reg.TheVariants.{Rsp}
use Rattle.x86_instr.specs.Registers.{number_of}
use Rattle.x86_meaning.specs.Start as areas
use Rattle.terms.specs.declared.nodes.Node.{Node}
use Rattle.terms.specs.declared.nodes.NodeKind.TheVariants as kinds
use Rattle.terms.specs.declared.nodes.Form.TheVariants as forms
use Rattle.program_nodes.specs.Terms.{term}
use Rattle.term_laws.specs.Numbers.{Has}
use Rattle.symbolic_state.specs.Symbols.{Array, Symbols, node_in}
use Rattle.symbolic_state.proofs.KnownCells.{all_at}
use Rattle.symbolic_state.proofs.LaterTables.{number_below}
use Rattle.symbolic_state.proofs.Shapes.{param_of}
use Rattle.plain_lower.specs.Frame.{param_reg, word_at}
use Rattle.plain_checks.proofs.Nodes.{table_of}
use Rattle.plain_checks.proofs.Between.{Standing}
use Rattle.plain_checks.proofs.MoveSteps.{Names}
use Rattle.plain_checks.proofs.Addresses.{array_named, frame_named}
use Rattle.plain_checks.proofs.SourceBase.{source_starts}

at_most : (b : Bool) (n m : ℕ) → n ≡ (if b then 0 else m) → n ≤ m
at_most true n m e = omega (arith, e)
at_most false n m e = omega (arith, e)

module _ (program : Source) (accepted : IsAccepted program) (t : List Node) (y : Symbols)
    (standing : Standing program t y) where
  -- a word of the frame
  pub frame_address : (word : ℕ) → word < length y.frame
      → Names t y (word_at Rsp word) (record { area = areas.Frame; word = word })
  frame_address word inside =
      let long = standing.frame_long in
      let params = accepted.params_limit in
      let values = accepted.values_limit in
      frame_named standing.more (source_starts program accepted 4 (omega arith)) y word
      (standing.stack ∙ ap (λ (n : ℕ). kinds.Sum (2 ^ 64 - 8 * n) (term 1 4 ∷ [])) (sym long))
      (omega (arith, long, params, values)) inside

  -- a word of the array of which the place is in a register
  pub array_address : (r : Reg) (param word : ℕ) (array : Array) → node_in y r ≡ number_of (param_reg param)
      → slice_get y.arrays param ≡ Some array → word < length array.words
      → Names t y (word_at r word) (record { area = areas.Array param; word = word })
  array_address r param word array place there inside =
      let reg = number_of (param_reg param) in
      let p = param_of program.params y.arrays param array standing.shapes there in
      let within = slice_get_within program.params param p.param p.there in
      let params = accepted.params_limit in
      let words = (all_at IsParam program.params param p.param accepted.params p.there).words in
      let few = at_most (is_scalar p.param.role) (length array.words) (length p.param.bounds) p.words in
      array_named y r param word array standing.more
      (subst (Has (table_of program) (forms.Start reg)) (sym place)
      (source_starts program accepted reg (number_below (param_reg param))))
      (omega (arith, within, params)) there inside (omega (arith, inside, few, words))
