-- What a row of the table of steps has to show: how its table grows, that its state fits, and that it covers the
-- machine's step. And rows that are put together.
use Rattle.std.proofs.Common.{◌≡◌, ℕ, ◌<◌, List, length, Option, Some, None, IfSome, refl}
use Rattle.x86_meaning.specs.declared.state.State.{State}
use Rattle.terms.specs.declared.nodes.Node.{Node}
use Rattle.terms.specs.declared.nodes.Form.{Form}
use Rattle.terms.specs.declared.nodes.Form.TheVariants as forms
use Rattle.terms.specs.Tables.{IsTable, Prefix}
use Rattle.terms.specs.Forms.{FormFits}
use Rattle.terms.specs.Grown.{IsGrown}
use Rattle.terms.specs.Meaning.{Start, Admits, form_value}
use Rattle.term_store.specs.Interning.{Interned, made}
use Rattle.term_store.proofs.Growth.{made_grown}
use Rattle.term_store.proofs.Made.{made_below, made_prefix, made_table, made_value}
use Rattle.term_store.proofs.Prefixes.{prefix_refl, prefix_trans}
use Rattle.symbolic_state.specs.Symbols.{Symbols}
use Rattle.symbolic_state.specs.Fitting.{FitsTable}
use Rattle.symbolic_values.specs.Steps.{Step, stuck, on_flag}
use Rattle.symbolic_state.proofs.Runs.{Run, Agreed, Valued, start_in}

-- ---- how tables grow

-- a form that is neither a register's start nor an input
abbrev pub IsPlain : Form → Type 0
IsPlain (forms.Start reg) = ⊥
IsPlain (forms.In param word low high) = ⊥
IsPlain _ = Unit {0}

plain_admits : (start : Start) (f : Form) → IsPlain f → Admits start f
plain_admits start (forms.Start reg) plain = absurd plain
plain_admits start (forms.In param word low high) plain = absurd plain
plain_admits start _ plain = tt

-- the longer table goes on from the first one, by nodes that plain forms made
pub record Grows (t u : List Node) : Type 1 where
  pub prefix : Prefix t u
  pub table : IsTable u
  pub grown : (P : Form → Type 0) → ((f : Form) → IsPlain f → P f) → IsGrown P t → IsGrown P u

pub grows_not : (t : List Node) → IsTable t → Grows t t
grows_not t table = record { prefix = prefix_refl t; table = table; grown = λ P plain grown. grown }

pub grows_on : (t u w : List Node) → Grows t u → Grows u w → Grows t w
grows_on t u w a b = record {
  prefix = prefix_trans a.prefix b.prefix;
  table = b.table;
  grown = λ P plain grown. b.grown P plain (a.grown P plain grown);
}

-- what a plain form that fits gives
pub record Makes (t : List Node) (f : Form) (m : Interned) : Type 1 where
  pub grows : Grows t m.table
  pub inside : m.number < length m.table
  pub word : (r : Run) → Valued r m.table → r.val m.number ≡ form_value (start_in r) r.val f

pub makes : (t : List Node) (f : Form) → IsTable t → FormFits t f → IsPlain f → Makes t f (made t f)
makes t f table fits plain = record {
  grows = record {
    prefix = made_prefix t f;
    table = made_table t f table fits;
    grown = λ P all grown. made_grown P t f grown fits (all f plain);
  };
  inside = made_below t f table fits;
  word = λ r v. made_value (start_in r) r.val t f table fits (plain_admits (start_in r) f plain) v.is v.sound;
}

-- ---- rows

-- the machine goes on to a state that agrees
pub record Goes (r : Run) (o : Option State) (z : Symbols) : Type 0 where
  pub next : State
  pub is : o ≡ Some next
  pub agrees : Agreed r z next

-- a step that accesses no memory, of a machine that goes on as `next` says
pub record Row (t : List Node) (y : Symbols) (next : Run → State → Option State) (o : Step) : Type 1 where
  pub grows : Grows t o.table
  pub fits : IfSome o.state (FitsTable o.table)
  pub touch : IfSome o.state (λ z. z.touch ≡ y.touch)
  pub covers : (r : Run) (s : State) → Valued r o.table → Agreed r y s → IfSome o.state (Goes r (next r s))

-- a row behind what was made before it
pub row_on : (t u : List Node) (y : Symbols) (next : Run → State → Option State) (o : Step)
    → Grows t u → Row u y next o → Row t y next o
row_on t u y next o before row = record {
  grows = grows_on t u o.table before row.grows;
  fits = row.fits;
  touch = row.touch;
  covers = row.covers;
}

-- a stuck step
pub stuck_row : (t : List Node) (y : Symbols) (next : Run → State → Option State) → IsTable t
    → Row t y next (stuck t)
stuck_row t y next table = record {
  grows = grows_not t table;
  fits = tt;
  touch = tt;
  covers = λ r s v a. tt;
}

-- a step on a flag
pub flag_row : (t : List Node) (y : Symbols) (next : Run → State → Option State) (flag : Option ℕ)
    (rest : ℕ → List Node → Symbols → Step) → IsTable t
    → ((node : ℕ) → flag ≡ Some node → Row t y next (rest node t y)) → Row t y next (on_flag flag rest t y)
flag_row t y next None rest table f = stuck_row t y next table
flag_row t y next (Some node) rest table f = f node refl
