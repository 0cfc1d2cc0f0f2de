-- First parts of the table that a step leaves: each table that stands while the step makes its nodes.
use Rattle.std.proofs.Common.{ℕ, List, Option, Some, None, subst, sym}
use Rattle.x86_instr.specs.declared.instr.Bin.{Bin}
use Rattle.x86_instr.specs.declared.instr.Instr.TheVariants as instrs
use Rattle.x86_instr.specs.declared.operand.Reg.{Reg}
use Rattle.x86_instr.specs.declared.operand.Src.{Src}
use Rattle.terms.specs.declared.nodes.Node.{Node}
use Rattle.terms.specs.declared.nodes.Form.{Form}
use Rattle.terms.specs.Tables.{Prefix}
use Rattle.term_store.specs.Interning.{made}
use Rattle.term_store.proofs.Prefixes.{prefix_refl, prefix_trans}
use Rattle.symbolic_state.specs.Symbols.{Symbols, node_in, with_cf, with_of, with_touch}
use Rattle.symbolic_state.specs.Fetching.{Fetched, Word}
use Rattle.symbolic_state.specs.Fetching.{src_fetched}
use Rattle.symbolic_values.specs.Steps.{Step, arithmetic, bin_step, chained}
use Rattle.symbolic_values.specs.Steps.{on_source, result_and_overflow, result_and_zero, result_only}
use Rattle.symbolic_values.specs.Steps.{step_from, sum_of_two}
use Rattle.symbolic_state.proofs.MadeLater.{made_later}
use Rattle.symbolic_state.proofs.Touches.{src_fetched_touch}
use Rattle.symbolic_values.proofs.StepTables.{extends_arithmetic, extends_bin, extends_carry, extends_only}
use Rattle.symbolic_values.proofs.StepTables.{extends_bit, extends_overflow, extends_zero, two_extends}

-- ---- steps that have made nothing yet

module _ {u : List Node} (t : List Node) (y : Symbols) where
  pub arithmetic_part : (dst : Option Reg) (f g : Form) → Prefix u t → Prefix u (arithmetic dst f g t y).table
  arithmetic_part dst f g p = prefix_trans p (extends_arithmetic t y dst f g).adds.prefix

  pub only_part : (dst : Reg) (f : Form) → Prefix u t → Prefix u (result_only dst f t y).table
  only_part dst f p = prefix_trans p (extends_only t y dst f).adds.prefix

  -- behind one form
  pub later_part : (dst : Reg) (f g : Form) → Prefix u t → Prefix u (result_only dst g (made t f).table y).table
  later_part dst f g p = let r = made t f in
      prefix_trans (made_later t f p) (extends_only r.table y dst g).adds.prefix

  pub zero_part : (cf : Option ℕ) (dst : Reg) (f : Form) → Prefix u t → Prefix u (result_and_zero cf dst f t y).table
  zero_part cf dst f p = prefix_trans p (extends_zero t y cf dst f).adds.prefix

  pub bit_part : (dst : Reg) (f g : Form) → Prefix u t → Prefix u (result_and_overflow dst f g t y).table
  bit_part dst f g p = prefix_trans p (extends_bit t y dst f g).adds.prefix

  pub two_part : (dst : Reg) (f g : Form) → Prefix u t → Prefix u (sum_of_two dst f g t y).table
  two_part dst f g p = prefix_trans p (two_extends t y dst f g).adds.prefix

  -- behind two forms, of which the second is not made yet
  pub zero_later : (cf : Option ℕ) (dst : Reg) (f g h : Form) → Prefix u (made t f).table
      → Prefix u (result_and_zero cf dst h (made (made t f).table g).table y).table
  zero_later cf dst f g h p = let a = made t f in let b = made a.table g in
      prefix_trans (made_later a.table g p) (extends_zero b.table y cf dst h).adds.prefix

  pub carry_part : (dst : Reg) (f g : Form) → Prefix u t → Prefix u (chained with_cf dst f g t y).table
  carry_part dst f g p = prefix_trans p (extends_carry t y dst f g).adds.prefix

  pub overflow_part : (dst : Reg) (f g : Form) → Prefix u t → Prefix u (chained with_of dst f g t y).table
  overflow_part dst f g p = prefix_trans p (extends_overflow t y dst f g).adds.prefix

-- ---- the rest of a step, on its source's node

pub source_on : (u : List Node) (y : Symbols) (o : Option Word) (rest : ℕ → List Node → Symbols → Step)
    → ((w : Word) → Prefix u (rest w.node u (with_touch w.touch y)).table)
    → Prefix u (on_source (record { table = u; word = o }) y rest).table
source_on u y None rest f = prefix_refl u
source_on u y (Some w) rest f = f w

module _ {u : List Node} (t : List Node) (y : Symbols) (dst : Reg) where
  pub bin_source : (op : Bin) (src : Src) → Prefix u (src_fetched t y src).table
      → Prefix u (step_from (instrs.Bin op dst src) t (with_touch None y)).table
  bin_source op src p = let from = src_fetched t (with_touch None y) src in prefix_trans
      (subst (λ (o : Fetched). Prefix u o.table) (sym (src_fetched_touch t y None src)) p)
      (source_on from.table (with_touch None y) from.word (bin_step op dst (node_in y dst))
      (λ w. (extends_bin from.table (with_touch w.touch y) op dst (node_in y dst) w.node).adds.prefix))
