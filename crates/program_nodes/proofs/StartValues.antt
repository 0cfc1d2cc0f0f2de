-- The words of the nodes that stand before the first operation.
use Rattle.std.proofs.Common.{◌≡◌, ℕ, ◌<◌, List, sym, ap, ◌∙◌, subst, arith}
use Rattle.std.proofs.lemmas.Option.{get_or_from_slice_get, slice_get_within}
use Rattle.word_program.specs.declared.operation.Operand.TheVariants as operands
use Rattle.word_program.specs.Program.{Source}
use Rattle.word_program.specs.Values.{input_word}
use Rattle.word_program.specs.Accepted.{IsAccepted, IsOperand}
use Rattle.word_program.proofs.InputWords.{input_within}
use Rattle.terms.specs.declared.nodes.Node.{Node}
use Rattle.terms.specs.Tables.{no_node}
use Rattle.terms.specs.Meaning.{IsSound, IsValuation, Start, kind_value}
use Rattle.term_store.specs.Interning.{Interned, made}
use Rattle.term_store.proofs.Prefixes.{prefix_refl}
use Rattle.program_nodes.specs.Sources.{IsRunOn, input_form, source_made}
use Rattle.term_store.proofs.Made.{made_value}
use Rattle.program_nodes.proofs.SourceTables.{bounds_word}
use Rattle.program_nodes.proofs.ProgramNodes.{source_table}
use Rattle.program_nodes.proofs.SourceStarts.{input_there, source_starts, start_node}

-- the first sixteen nodes have the words of the registers at the start
pub start_value : (program : Source) → IsAccepted program → (start : Start) (val : ℕ → ℕ)
    → IsValuation start (source_made program).table val → (r : ℕ) → r < 16 → val r ≡ start.regs r
start_value program accepted start val is r h =
    let t = (source_made program).table in
    let here = source_starts program accepted r h in
    is.meets r (slice_get_within t r (start_node r) here)
    ∙ ap (λ (node : Node). kind_value start val node.kind) (get_or_from_slice_get t r (start_node r) no_node here)

-- the node of an input word has that word
pub input_value : (program : Source) (inputs : List ℕ) (start : Start) (val : ℕ → ℕ) (accepted : IsAccepted program)
    → IsRunOn program inputs start val → (param word : ℕ) → (h : IsOperand program.params 0 (operands.Input param word))
    → val (input_there program accepted param word h).number ≡ input_word program.params inputs param word
input_value program inputs start val accepted run param word h =
    let t = (source_made program).table in
    let form = input_form program.params param word in
    let there : made t form ≡ record { table = t; number = (input_there program accepted param word h).number } =
    (input_there program accepted param word h).found t (prefix_refl t) in
    let lies = input_within program.params inputs run.within accepted.params param word h in
    let low = lies.low in let high = lies.high in let same = run.given param word in
    ap (λ (i : Interned). val i.number) (sym there)
    ∙ made_value start val t form (source_table program accepted)
    (bounds_word program.params accepted.params param word) (omega arith, omega arith)
    (subst (λ (i : Interned). IsValuation start i.table val) (sym there) run.valuation)
    (subst (λ (i : Interned). IsSound i.table val) (sym there) run.sound)
    ∙ same
