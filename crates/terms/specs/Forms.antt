-- Forms: what the rules turn into a number of the table, or into a node to put there.
use Rattle.std.specs.Prelude.{ℕ, ◌^◌, ◌<◌, ◌≤◌, Bool, nat_lt, List, length, count_by}
use Rattle.terms.specs.declared.nodes.Node.{Node}
use Rattle.terms.specs.declared.nodes.Form.{Form}
use Rattle.terms.specs.declared.nodes.Form.TheVariants as forms
use Rattle.terms.specs.declared.nodes.Built.{Built}
use Rattle.terms.specs.declared.nodes.Built.TheVariants.{Is, Make}
use Rattle.terms.specs.Tables.{node_at, AreTermsBelow, AreBelow, RefersBelow}

-- the node may be more than 1
abbrev pub is_no_bit : List Node → ℕ → Bool
is_no_bit table n = nat_lt 1 (node_at table n).high

-- Over this table the form has numbers of the table alone, and words, registers, counts and lists in their ranges.
-- A carry is that of two or three nodes, of which at most two may be more than 1, so it is a bit.
abbrev pub FormFits : List Node → Form → Type 0
FormFits table (forms.Const v) = v < 2 ^ 64
FormFits table (forms.Start reg) = reg < 16
FormFits table (forms.In param word low high) = high < 2 ^ 64
FormFits table (forms.Lin k terms) = AreTermsBelow (length table) terms × (length terms ≤ 16)
FormFits table (forms.Carry list) = AreBelow (length table) list × (2 ≤ length list) × (length list ≤ 3)
    × (count_by (is_no_bit table) list ≤ 2)
FormFits table (forms.Borrow a list) = (a < length table) × AreBelow (length table) list × (1 ≤ length list)
    × (length list ≤ 2)
FormFits table (forms.Zero x) = x < length table
FormFits table (forms.MulLo a b) = (a < length table) × (b < length table)
FormFits table (forms.MulHi a b) = (a < length table) × (b < length table)
FormFits table (forms.And a b) = (a < length table) × (b < length table)
FormFits table (forms.Or a b) = (a < length table) × (b < length table)
FormFits table (forms.Xor a b) = (a < length table) × (b < length table)
FormFits table (forms.Shr x k) = (x < length table) × (1 ≤ k) × (k ≤ 63)
FormFits table (forms.Select c x y) = (c < length table) × (x < length table) × (y < length table)
FormFits table (forms.SetB v b) = (v < length table) × (b < length table)

-- a number of the table, or a node that refers to its numbers alone
abbrev pub BuiltFits : List Node → Built → Type 0
BuiltFits table (Is n) = n < length table
BuiltFits table (Make node) = RefersBelow (length table) node.kind
