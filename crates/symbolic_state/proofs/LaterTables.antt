-- A state that fits a table fits every longer one, and other nodes in registers and flags.
use Rattle.std.proofs.Common.{ℕ, ◌<◌, ◌≤◌, List, [], ◌∷◌, length, Option, Some, None, IfSome}
use Rattle.std.proofs.Common.{length-set, sym, ◌∙◌, subst, arith}
use Rattle.std.specs.List.{AllByRecursion}
use Rattle.std.proofs.lemmas.List.Elements.{All-get_or, All-set, All-weaker}
use Rattle.std.proofs.lemmas.Option.{slice_get_within}
use Rattle.x86_instr.specs.declared.operand.Reg.{Reg}
use Rattle.x86_instr.specs.Registers.{number_of, registers}
use Rattle.x86_instr.proofs.RegisterList.{at_number}
use Rattle.terms.specs.declared.nodes.Node.{Node}
use Rattle.terms.specs.Tables.{Prefix}
use Rattle.term_store.proofs.Prefixes.{at_front, prefix_length}
use Rattle.symbolic_state.specs.declared.touch.Touch.{Touch}
use Rattle.symbolic_state.specs.Symbols.{Symbols, node_in, with_node, with_flags, with_touch}
use Rattle.symbolic_state.specs.Symbols.{write}
use Rattle.program_nodes.specs.Operands.{IsBit}
use Rattle.symbolic_state.specs.Fitting.{AreKnown, FitsTable}

-- ---- longer tables

-- what holds of a value that may be missing, from a weaker statement of each value
pub if_some : {X : Type 0} {P Q : X → Type 0} (o : Option X) → ((x : X) → P x → Q x) → IfSome o P → IfSome o Q
if_some None f p = tt
if_some (Some x) f p = f x p

-- the same of a list
pub all_so : {X : Type 0} {P Q : X → Type 0} (xs : List X) → ((x : X) → P x → Q x) → AllByRecursion P xs
    → AllByRecursion Q xs
all_so [] f p = tt
all_so (x ∷ xs) f p = (f x p.0, all_so xs f p.1)

module _ (t u : List Node) (p : Prefix t u) where
  number_later : (n : ℕ) → n < length t → n < length u
  number_later n h = let more = prefix_length p in omega arith

  pub bit_later : (n : ℕ) → IsBit t n → IsBit u n
  bit_later n bit = record {
    inside = number_later n bit.inside;
    high = subst (λ (node : Node). node.high ≤ 1) (sym (at_front n p bit.inside)) bit.high;
  }

  known_later : (words : List (Option ℕ)) → AreKnown t words → AreKnown u words
  known_later words known = all_so words (λ word. if_some word number_later) known

  pub fits_table_later : (y : Symbols) → FitsTable t y → FitsTable u y
  fits_table_later y fits = record {
    sixteen = fits.sixteen;
    registers = All-weaker (λ n. n < length t) (λ n. n < length u) number_later y.regs fits.registers;
    cf = if_some y.cf bit_later fits.cf;
    of = if_some y.of bit_later fits.of;
    zf = if_some y.zf bit_later fits.zf;
    arrays = all_so y.arrays (λ array. known_later array.words) fits.arrays;
    frame = known_later y.frame fits.frame;
  }

-- ---- the nodes of registers

pub number_below : (r : Reg) → number_of r < 16
number_below r = slice_get_within registers (number_of r) r (at_number r)

-- a register's node is one of the table
pub node_inside : (t : List Node) (y : Symbols) → FitsTable t y → (r : Reg) → node_in y r < length t
node_inside t y fits r = All-get_or (λ n. n < length t) y.regs (number_of r) 0
    (subst (λ n. number_of r < n) (sym fits.sixteen) (number_below r)) fits.registers

-- ---- another access, node or flag

pub fits_touch : (t : List Node) (y : Symbols) (touch : Option Touch) → FitsTable t y → FitsTable t (with_touch touch y)
fits_touch t y touch fits = record {
  sixteen = fits.sixteen;
  registers = fits.registers;
  cf = fits.cf;
  of = fits.of;
  zf = fits.zf;
  arrays = fits.arrays;
  frame = fits.frame;
}

pub fits_node : (t : List Node) (y : Symbols) (r : Reg) (n : ℕ) → n < length t → FitsTable t y
    → FitsTable t (with_node r n y)
fits_node t y r n h fits = record {
  sixteen = length-set y.regs (number_of r) n ∙ fits.sixteen;
  registers = All-set (λ m. m < length t) y.regs (number_of r) n h fits.registers;
  cf = fits.cf;
  of = fits.of;
  zf = fits.zf;
  arrays = fits.arrays;
  frame = fits.frame;
}

pub fits_flags : (t : List Node) (y : Symbols) (cf of zf : Option ℕ) → IfSome cf (IsBit t) → IfSome of (IsBit t)
    → IfSome zf (IsBit t) → FitsTable t y → FitsTable t (with_flags cf of zf y)
fits_flags t y cf of zf c o z fits = record {
  sixteen = fits.sixteen;
  registers = fits.registers;
  cf = c;
  of = o;
  zf = z;
  arrays = fits.arrays;
  frame = fits.frame;
}

pub fits_write : (t : List Node) (y : Symbols) (dst : Option Reg) (n : ℕ) → n < length t → FitsTable t y
    → FitsTable t (write dst n y)
fits_write t y None n h fits = fits
fits_write t y (Some r) n h fits = fits_node t y r n h fits
