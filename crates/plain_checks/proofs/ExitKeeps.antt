-- What a run has at the end of its exit: the preserved registers and the stack pointer have their starts, and the
-- outputs are those before the exit.
use Rattle.std.proofs.Common.{◌≡◌, ℕ, Bool, true, false, List, [], ◌∷◌, not, Some, None, refl, sym, ap, subst}
use Rattle.std.proofs.Common.{◌∙◌, cond}
use Rattle.std.specs.Prelude.{find, ◌==◌}
use Rattle.std.specs.List.{AllByRecursion}
use Rattle.base.proofs.Arithmetic.{test_of_itself}
use Rattle.word_program.specs.Program.{Source}
use Rattle.x86_instr.specs.declared.operand.Reg.{Reg}
use Rattle.x86_instr.specs.declared.operand.Reg.TheVariants.{Rbx, Rbp, Rsp, R12, R13, R14, R15}
use Rattle.x86_instr.specs.Registers.{number_of}
use Rattle.terms.specs.declared.nodes.Node.{Node}
use Rattle.program_nodes.specs.Sources.{source_outputs}
use Rattle.symbolic_state.specs.Symbols.{Array, Symbols, node_in}
use Rattle.symbolic_state.specs.Written.{output_words}
use Rattle.equiv_validator.specs.Checks.{HasOutputs, HaveNodes, is_restored, lost_register, saved}
use Rattle.std.specs.List.{flat_map}
use Rattle.plain_checks.proofs.Between.{Standing, is_saved}
use Rattle.plain_checks.proofs.EntryExit.{IsGivenBack}
use Rattle.plain_checks.proofs.StartRegisters.{saved_not_stack}

none_found : {X : Type 0} (test : X → Bool) (xs : List X) → AllByRecursion (λ x. test x ≡ false) xs
    → find test xs ≡ None
none_found test [] all = refl
none_found test (x ∷ xs) all = ap (λ (b : Bool). cond b (Some x) (find test xs)) all.0 ∙ none_found test xs all.1

restored : (y : Symbols) (r : Reg) → node_in y r ≡ number_of r → is_restored y r ≡ true
restored y r e = ap (λ (n : ℕ). n == number_of r) e ∙ test_of_itself (number_of r)

-- a register that is to be given back has its start
kept : (program : Source) (t : List Node) (y last : Symbols) → Standing program t y → IsGivenBack y last → (r : Reg)
    → is_saved r ≡ true → not (is_restored last r) ≡ false
kept program t y last standing back r e =
    ap not (restored last r (back.regs r (saved_not_stack r e) ∙ standing.saved r e))

pub exit_registers : (program : Source) (t : List Node) (y last : Symbols) → Standing program t y → IsGivenBack y last
    → lost_register last ≡ None
exit_registers program t y last standing back =
    let each : (r : Reg) → is_saved r ≡ true → not (is_restored last r) ≡ false = kept program t y last standing back in
    none_found (λ r. not (is_restored last r)) saved (
      each Rbx refl,
      (each Rbp refl, (each R12 refl, (each R13 refl, (each R14 refl, (each R15 refl, tt))))),
    )

pub exit_stack : (y last : Symbols) → IsGivenBack y last → is_restored last Rsp ≡ true
exit_stack y last back = restored last Rsp back.stack

pub exit_outputs : (program : Source) (y last : Symbols) → IsGivenBack y last → HasOutputs program y
    → HasOutputs program last
exit_outputs program y last back outputs =
    subst (λ (arrays : List Array). HaveNodes (flat_map output_words arrays) (source_outputs program))
    (sym back.arrays) outputs
