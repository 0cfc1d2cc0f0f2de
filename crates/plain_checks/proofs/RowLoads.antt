-- The operands of a block, each into its register.
use Rattle.std.proofs.Common.{◌≡◌, ◌≢◌, ℕ, ◌<◌, Bool, true, List, [], ◌∷◌, ◌++◌, refl, sym, ◌∙◌, subst}
use Rattle.std.proofs.Common.{arith, append_assoc}
use Rattle.std.specs.Prelude.{not, nat_lt, ◌&&◌, ◌==◌}
use Rattle.std.proofs.lemmas.Bool.Decides.{nat_tests}
use Rattle.base.proofs.Arithmetic.{below_by_test}
use Rattle.word_program.specs.declared.operation.Op.{Op}
use Rattle.word_program.specs.Program.{Source}
use Rattle.word_program.specs.Accepted.{IsAccepted}
use Rattle.x86_instr.specs.declared.line.Line.{Line}
use Rattle.x86_instr.specs.declared.operand.Reg.{Reg}
use Rattle.x86_instr.specs.Registers.{number_of}
use Rattle.terms.specs.declared.nodes.Node.{Node}
use Rattle.terms.specs.Tables.{Prefix}
use Rattle.terms.proofs.Cases.{first_true, second_true}
use Rattle.term_store.proofs.Prefixes.{prefix_refl, prefix_trans}
use Rattle.symbolic_state.specs.Symbols.{Symbols, node_in}
use Rattle.plain_lower.specs.Frame.{load}
use Rattle.plain_lower.specs.Blocks.{Place, arg_at, load_all}
use Rattle.plain_checks.proofs.Leading.{Leads}
use Rattle.plain_checks.proofs.Nodes.{IsOperandNode}
use Rattle.plain_checks.proofs.Beside.{AreIn, Beside, beside_itself, beside_then, is_scratch}
use Rattle.plain_checks.proofs.BetweenLemmas.{Holds, holds_later}
use Rattle.plain_checks.proofs.Loads.{IsReady, load_then}

-- the register is none of these
abbrev pub is_free : Reg → List Place → Bool
is_free r [] = true
is_free r (l ∷ ls) = not (number_of l.0 == number_of r) && is_free r ls

-- scratch registers, each once, and places among so many operands
abbrev pub are_loads : ℕ → List Place → Bool
are_loads count [] = true
are_loads count (l ∷ ls) = is_scratch l.0 && (nat_lt l.1 count && (is_free l.0 ls && are_loads count ls))

is_another : (r s : Reg) → not (number_of r == number_of s) ≡ true → number_of s ≢ number_of r
is_another r s e same = grind (arith, nat_tests)

-- the registers have these nodes; those that are free keep theirs, and the memory is as it was
pub record LoadedAll (y : Symbols) (args : ℕ → ℕ) (loads : List Place) (z : Symbols) : Type 0 where
  pub beside : Beside y z
  pub all : AreIn z args loads
  pub others : (r : Reg) → is_free r loads ≡ true → node_in z r ≡ node_in y r

module _ (program : Source) (accepted : IsAccepted program) (There : ℕ → Type 0) (op : Op) (args : ℕ → ℕ) (count : ℕ)
    (ready : (place : ℕ) → place < count → IsReady program There (arg_at op place))
    (nodes : (place : ℕ) → place < count → IsOperandNode program (arg_at op place) (args place))
    {rest : List Line} {Q : List Node → Symbols → Type 0} where
  pub loads_then : {t : List Node} {y : Symbols} (loads : List Place) → are_loads count loads ≡ true
      → Holds program There t y
      → ((u : List Node) (z : Symbols) → Prefix t u → LoadedAll y args loads z → Leads rest u z Q)
      → Leads (load_all program op loads ++ rest) t y Q
  loads_then {t} {y} [] e holds next = next t y (prefix_refl t) (record {
    beside = beside_itself y holds.standing.sixteen;
    all = tt;
    others = λ r free. refl;
  })
  loads_then {t} {y} (l ∷ ls) e holds next =
      let one = is_scratch l.0 in
      let two = nat_lt l.1 count in
      let three = is_free l.0 ls in
      let four = are_loads count ls in
      let scratch = first_true one (two && (three && four)) e in
      let more = second_true one (two && (three && four)) e in
      let below = below_by_test l.1 count (first_true two (three && four) more) in
      let last = second_true two (three && four) more in
      subst (λ (lines : List Line). Leads lines t y Q)
      (sym (append_assoc (load program l.0 (arg_at op l.1)) (load_all program op ls) rest))
      (load_then program accepted There l.0 (args l.1) holds scratch (λ u z p first.
      loads_then ls (second_true three four last) (holds_later holds p first.beside) (λ w x q others.
      next w x (prefix_trans p q) (record {
        beside = beside_then first.beside others.beside;
        all = (others.others l.0 (first_true three four last) ∙ first.node, others.all);
        others = λ r free. let test = not (number_of l.0 == number_of r) in
            others.others r (second_true test (is_free r ls) free)
            ∙ first.others r (is_another l.0 r (first_true test (is_free r ls) free));
      })))
      (arg_at op l.1) (ready l.1 below) (nodes l.1 below))
