-- What nodes and forms stand for: words, computed from what registers and inputs hold at the start.
use Rattle.std.specs.Prelude.{◌≡◌, ℕ, ◌+◌, ◌*◌, ◌/◌, ◌%◌, ◌^◌, ◌<◌, ◌≤◌, ◌==◌, nat_lt, List, [], ◌∷◌, ◌++◌, length}
use Rattle.std.specs.Prelude.{fold}
use Rattle.std.specs.Prelude.{slice_index_or, if◌then◌else◌, bit_and, bit_or, bit_xor}
use Rattle.terms.specs.declared.lists.Term.{Term}
use Rattle.terms.specs.declared.nodes.Node.{Node}
use Rattle.terms.specs.declared.nodes.NodeKind.{NodeKind}
use Rattle.terms.specs.declared.nodes.NodeKind.TheVariants as kinds
use Rattle.terms.specs.declared.nodes.Form.{Form}
use Rattle.terms.specs.declared.nodes.Form.TheVariants as forms
use Rattle.terms.specs.declared.nodes.Built.{Built}
use Rattle.terms.specs.declared.nodes.Built.TheVariants.{Is, Make}
use Rattle.terms.specs.Tables.{node_at}

-- ---- the words of kinds and forms

-- what holds at the start: the word of each register by its number, and the input words by parameter and word
pub record Start : Type 0 where
  pub regs : ℕ → ℕ
  pub inputs : ℕ → ℕ → ℕ

-- the values of nodes added up
abbrev pub total : (ℕ → ℕ) → List ℕ → ℕ
total val [] = 0
total val (m ∷ ms) = val m + total val ms

-- the values of terms added up
abbrev pub weighted : (ℕ → ℕ) → List Term → ℕ
weighted val [] = 0
weighted val (t ∷ ts) = t.times * val t.node + weighted val ts

-- the word with another low byte
abbrev pub with_low_byte : ℕ → ℕ → ℕ
with_low_byte word byte = 256 * (word / 256) + byte % 256

-- the word of a kind, where `val` gives the words of the numbers to which it refers
abbrev pub kind_value : Start → (ℕ → ℕ) → NodeKind → ℕ
kind_value start val (kinds.Const v) = v
kind_value start val (kinds.Start reg) = start.regs reg
kind_value start val (kinds.In param word) = start.inputs param word
kind_value start val (kinds.Sum k terms) = (k + weighted val terms) % 2 ^ 64
kind_value start val (kinds.Wide k terms) = (k + weighted val terms) % 2 ^ 64
kind_value start val (kinds.Carry list) = total val list / 2 ^ 64
kind_value start val (kinds.Borrow a list) = if nat_lt (val a) (total val list) then 1 else 0
kind_value start val (kinds.Zero x) = if val x == 0 then 1 else 0
kind_value start val (kinds.MulLo a b) = val a * val b % 2 ^ 64
kind_value start val (kinds.MulHi a b) = val a * val b / 2 ^ 64
kind_value start val (kinds.And a b) = bit_and (val a) (val b)
kind_value start val (kinds.Or a b) = bit_or (val a) (val b)
kind_value start val (kinds.Xor a b) = bit_xor (val a) (val b)
kind_value start val (kinds.Shr x k) = val x / 2 ^ k
kind_value start val (kinds.Select c x y) = if val c == 0 then val x else val y
kind_value start val (kinds.SetB v b) = with_low_byte (val v) (val b)

-- the word of a form
abbrev pub form_value : Start → (ℕ → ℕ) → Form → ℕ
form_value start val (forms.Const v) = v
form_value start val (forms.Start reg) = start.regs reg
form_value start val (forms.In param word low high) = start.inputs param word
form_value start val (forms.Lin k terms) = (k + weighted val terms) % 2 ^ 64
form_value start val (forms.Carry list) = total val list / 2 ^ 64
form_value start val (forms.Borrow a list) = if nat_lt (val a) (total val list) then 1 else 0
form_value start val (forms.Zero x) = if val x == 0 then 1 else 0
form_value start val (forms.MulLo a b) = val a * val b % 2 ^ 64
form_value start val (forms.MulHi a b) = val a * val b / 2 ^ 64
form_value start val (forms.And a b) = bit_and (val a) (val b)
form_value start val (forms.Or a b) = bit_or (val a) (val b)
form_value start val (forms.Xor a b) = bit_xor (val a) (val b)
form_value start val (forms.Shr x k) = val x / 2 ^ k
form_value start val (forms.Select c x y) = if val c == 0 then val x else val y
form_value start val (forms.SetB v b) = with_low_byte (val v) (val b)

-- ---- the words of a table's nodes

-- the words so far, and that of one node more
unfoldable pub next_words : Start → List ℕ → Node → List ℕ
next_words start words node = words ++ kind_value start (λ m. slice_index_or words m 0) node.kind ∷ []

-- the words of a table's nodes in order
unfoldable pub words_of : Start → List Node → List ℕ
words_of start table = fold (next_words start) [] table

-- the word for which the node with this number stands
unfoldable pub node_value : Start → List Node → ℕ → ℕ
node_value start table n = slice_index_or (words_of start table) n 0

-- `val` gives each number of the table the word of its node
pub record IsValuation (start : Start) (table : List Node) (val : ℕ → ℕ) : Type 0 where
  pub meets : (n : ℕ) → n < length table → val n ≡ kind_value start val (node_at table n).kind

-- ---- sound nodes

-- each node's word is a word, and lies in the node's interval
pub record IsSound (table : List Node) (val : ℕ → ℕ) : Type 0 where
  pub above : (n : ℕ) → n < length table → (node_at table n).low ≤ val n
  pub below : (n : ℕ) → n < length table → val n ≤ (node_at table n).high
  pub word : (n : ℕ) → n < length table → val n < 2 ^ 64

-- a register holds a word, and an input word lies within the bounds that its form carries
abbrev pub Admits : Start → Form → Type 0
Admits start (forms.Start reg) = start.regs reg < 2 ^ 64
Admits start (forms.In param word low high) = (low ≤ start.inputs param word) × (start.inputs param word ≤ high)
Admits start _ = Unit {0}

-- what the rules made stands for the word v; a node to put into the table has v in its interval
abbrev pub Stands : Start → (ℕ → ℕ) → ℕ → Built → Type 0
Stands start val v (Is n) = val n ≡ v
Stands start val v (Make node) = (kind_value start val node.kind ≡ v) × (node.low ≤ v) × (v ≤ node.high)
