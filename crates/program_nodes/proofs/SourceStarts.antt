-- The nodes of the registers' starts come first, and those of the input words stand behind them.
use Rattle.std.proofs.Common.{◌≡◌, ℕ, zero, suc, ◌+◌, ◌-◌, ◌^◌, ◌<◌, Bool, true, false, List, [], ◌∷◌, ◌++◌, length}
use Rattle.std.proofs.Common.{map, refl, sym, ap, ◌∙◌, subst, arith, append_assoc, Some}
use Rattle.std.specs.Prelude.{slice_get, IsFalse, IsSomeAnd, if◌then◌else◌}
use Rattle.std.specs.List.{range_with_len}
use Rattle.std.proofs.lemmas.Bool.{true≢false}
use Rattle.base.proofs.Arithmetic.{not_below_zero}
use Rattle.word_program.specs.declared.parameter.Param.{Param}
use Rattle.word_program.specs.declared.operation.Operand.TheVariants as operands
use Rattle.word_program.specs.Program.{Source}
use Rattle.word_program.specs.Values.{is_output}
use Rattle.word_program.specs.Accepted.{IsAccepted, IsOperand}
use Rattle.terms.specs.declared.nodes.Node.{Node}
use Rattle.terms.specs.declared.nodes.NodeKind.TheVariants as kinds
use Rattle.terms.specs.declared.nodes.Form.{Form}
use Rattle.terms.specs.declared.nodes.Form.TheVariants as forms
use Rattle.terms.specs.Tables.{Prefix}
use Rattle.terms.specs.Rules.{finished, normal_of}
use Rattle.term_store.specs.Interning.{Interned, interned, made, made_all}
use Rattle.program_nodes.specs.Sources.{input_form, inputs_from, param_forms, source_made, start_forms}
use Rattle.program_nodes.proofs.SourceTables.{bounds_word}
use Rattle.program_nodes.proofs.ProgramNodes.{source_grows, source_table}
use Rattle.term_store.proofs.Prefixes.{prefix_refl, prefix_trans}
use Rattle.term_store.proofs.Made.{made_again_plain, made_below, made_prefix}

-- ---- forms made one after the other

all_made_prefix : (t : List Node) (fs : List Form) → Prefix t (made_all t fs).table
all_made_prefix t [] = prefix_refl t
all_made_prefix t (f ∷ fs) = prefix_trans (made_prefix t f)
    (all_made_prefix (made t f).table fs)

pub all_made_table : (t : List Node) (fs gs : List Form)
    → (made_all t (fs ++ gs)).table ≡ (made_all (made_all t fs).table gs).table
all_made_table t [] gs = refl
all_made_table t (f ∷ fs) gs = all_made_table (made t f).table fs gs

-- ---- the starts of the registers

abbrev pub start_node : ℕ → Node
start_node reg = record { kind = kinds.Start reg; low = 0; high = 2 ^ 64 - 1 }

starts : (made_all [] (map forms.Start (range_with_len 0 16))).table ≡ map start_node (range_with_len 0 16)
unfolding made interned normal_of finished
starts = refl

get_front : {X : Type 0} (xs ys : List X) (n : ℕ) (x : X) → slice_get xs n ≡ Some x → slice_get (xs ++ ys) n ≡ Some x
get_front [] ys n x e = absurd (cc)
get_front (y ∷ xs) ys zero x e = e
get_front (y ∷ xs) ys (suc n) x e = get_front xs ys n x e

get_mapped : {X : Type 0} (f : ℕ → X) (k n r : ℕ) → r < n → slice_get (map f (range_with_len k n)) r ≡ Some (f (k + r))
get_mapped f k zero r h = absurd (not_below_zero r h)
get_mapped f k (suc n) zero h = ap (λ (m : ℕ). Some (f m)) (omega arith)
get_mapped f k (suc n) (suc r) h =
    let e : k + 1 + r ≡ k + suc r = omega arith in
    get_mapped f (k + 1) n r (omega arith) ∙ ap (λ (m : ℕ). Some (f m)) e

-- the first sixteen nodes are those of the registers' starts
pub source_starts : (program : Source) → IsAccepted program → (r : ℕ) → r < 16
    → slice_get (source_made program).table r ≡ Some (start_node r)
source_starts program accepted r h =
    let inputs = inputs_from program.params 0 program.params in
    let u = (made_all [] (map forms.Start (range_with_len 0 16))).table in
    let w = (made_all [] (start_forms program.params)).table in
    let split : w ≡ (made_all u inputs).table = all_made_table [] (map forms.Start (range_with_len 0 16)) inputs in
    let p = prefix_trans
    (subst (Prefix u) (sym split) (all_made_prefix u inputs)) (source_grows program accepted).prefix in
    let here : slice_get u r ≡ Some (start_node r) =
    ap (λ (t : List Node). slice_get t r) starts ∙ get_mapped start_node 0 16 r h
    ∙ ap (λ (m : ℕ). Some (start_node m)) (omega arith) in
    ap (λ (t : List Node). slice_get t r) p.is ∙ get_front u p.more r (start_node r) here

-- ---- input words

-- the form stands among the forms
pub record Among (f : Form) (fs : List Form) : Type 0 where
  pub before : List Form
  pub after : List Form
  pub is : fs ≡ before ++ f ∷ after

among_left : (f : Form) (fs gs : List Form) → Among f fs → Among f (fs ++ gs)
among_left f fs gs a = record {
  before = a.before;
  after = a.after ++ gs;
  is = ap (λ (hs : List Form). hs ++ gs) a.is ∙ append_assoc a.before (f ∷ a.after) gs;
}

among_right : (f : Form) (fs gs : List Form) → Among f gs → Among f (fs ++ gs)
among_right f fs gs a = record {
  before = fs ++ a.before;
  after = a.after;
  is = ap (λ (hs : List Form). fs ++ hs) a.is ∙ sym (append_assoc fs a.before (f ∷ a.after));
}

among_words : (g : ℕ → Form) (k n word : ℕ) → word < n → Among (g (k + word)) (map g (range_with_len k n))
among_words g k zero word h = absurd (not_below_zero word h)
among_words g k (suc n) zero h =
    let rest = map g (range_with_len (k + 1) n) in
    record { before = []; after = rest; is = ap (λ (m : ℕ). g m ∷ rest) (omega arith) }
among_words g k (suc n) (suc word) h =
    let e : k + 1 + word ≡ k + suc word = omega arith in
    let a = subst (λ (m : ℕ). Among (g m) (map g (range_with_len (k + 1) n))) e
    (among_words g (k + 1) n word (omega arith)) in
    record { before = g k ∷ a.before; after = a.after; is = ap (λ (hs : List Form). g k ∷ hs) a.is }

among_param : (params : List Param) (param : ℕ) (b : Bool) (n word : ℕ) → b ≡ false → word < n
    → Among (input_form params param word) (if b then [] else map (input_form params param) (range_with_len 0 n))
among_param params param true n word e h = absurd (true≢false e)
among_param params param false n word e h =
    subst (λ (m : ℕ). Among (input_form params param m) (map (input_form params param) (range_with_len 0 n)))
    (omega arith) (among_words (input_form params param) 0 n word h)

among_inputs : (params : List Param) (k : ℕ) (ps : List Param) (param word : ℕ)
    → IsSomeAnd (slice_get ps param) (λ p. IsFalse (is_output p.role) × (word < length p.bounds))
    → Among (input_form params (k + param) word) (inputs_from params k ps)
among_inputs params k [] param word h = absurd h
among_inputs params k (p ∷ ps) zero word h =
    subst (λ (m : ℕ). Among (input_form params m word) (inputs_from params k (p ∷ ps))) (omega arith)
    (among_left (input_form params k word) (param_forms params k p) (inputs_from params (k + 1) ps)
    (among_param params k (is_output p.role) (length p.bounds) word h.0 h.1))
among_inputs params k (p ∷ ps) (suc param) word h =
    let e : k + 1 + param ≡ k + suc param = omega arith in
    subst (λ (m : ℕ). Among (input_form params m word) (inputs_from params k (p ∷ ps))) e
    (among_right (input_form params (k + 1 + param) word) (param_forms params k p) (inputs_from params (k + 1) ps)
    (among_inputs params (k + 1) ps param word h))

among_starts : (params : List Param) (param word : ℕ) → IsOperand params 0 (operands.Input param word)
    → Among (input_form params param word) (start_forms params)
among_starts params param word h =
    among_right (input_form params param word) (map forms.Start (range_with_len 0 16)) (inputs_from params 0 params)
    (subst (λ (m : ℕ). Among (input_form params m word) (inputs_from params 0 params)) (omega arith)
    (among_inputs params 0 params param word h))

-- a form stands in a table under a number, and is found there in every longer table
pub record StandsIn (table : List Node) (form : Form) : Type 0 where
  pub number : ℕ
  pub inside : number < length table
  pub found : (longer : List Node) → Prefix table longer → made longer form ≡ record { table = longer; number = number }

-- the form of each input word stands in the table
pub input_there : (program : Source) → IsAccepted program → (param word : ℕ)
    → IsOperand program.params 0 (operands.Input param word)
    → StandsIn (source_made program).table (input_form program.params param word)
input_there program accepted param word h =
    let form = input_form program.params param word in
    let a = among_starts program.params param word h in
    let t = (made_all [] a.before).table in
    let w = (made_all [] (start_forms program.params)).table in
    let whole = (source_made program).table in
    let split : w ≡ (made_all (made t form).table a.after).table =
    ap (λ (fs : List Form). (made_all [] fs).table) a.is ∙ all_made_table [] a.before (form ∷ a.after) in
    let p = prefix_trans
    (subst (Prefix (made t form).table) (sym split) (all_made_prefix (made t form).table a.after))
    (source_grows program accepted).prefix in
    let again = λ (u : List Node) (q : Prefix whole u).
    made_again_plain t form tt (prefix_trans p q) in
    let below = made_below whole form (source_table program accepted)
    (bounds_word program.params accepted.params param word) in
    let here = again whole (prefix_refl whole) in
    record {
      number = (made t form).number;
      inside = subst (λ (i : Interned). i.number < length i.table) here below;
      found = again;
    }
