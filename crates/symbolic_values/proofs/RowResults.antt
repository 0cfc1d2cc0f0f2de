-- Steps that write a register and flags, from the words of the forms that they make.
use Rattle.std.proofs.Common.{◌≡◌, ℕ, zero, suc, ◌<◌, ◌==◌, Bool, List, [], ◌∷◌, length, Option}
use Rattle.std.proofs.Common.{Some, None, IfSome, slice_index, slice_set, length-set, if◌then◌else◌, refl, sym, ap, ◌∙◌}
use Rattle.std.proofs.Common.{arith}
use Rattle.x86_instr.specs.declared.operand.Reg.{Reg}
use Rattle.x86_instr.specs.Registers.{number_of}
use Rattle.x86_meaning.specs.declared.state.State.{State}
use Rattle.x86_meaning.specs.Machine.{bit}
use Rattle.terms.specs.declared.nodes.Node.{Node}
use Rattle.terms.specs.declared.nodes.Form.{Form}
use Rattle.terms.specs.declared.nodes.Form.TheVariants as forms
use Rattle.terms.specs.Tables.{IsTable}
use Rattle.terms.specs.Forms.{FormFits}
use Rattle.terms.specs.Meaning.{form_value}
use Rattle.term_store.specs.Interning.{made}
use Rattle.term_store.proofs.Made.{IsBitForm, made_bit}
use Rattle.term_store.proofs.Prefixes.{fits_later, prefix_length}
use Rattle.symbolic_state.specs.declared.touch.Touch.{Touch}
use Rattle.symbolic_state.specs.Symbols.{Symbols, node_in, with_flags, with_touch}
use Rattle.symbolic_state.specs.Symbols.{write}
use Rattle.symbolic_values.specs.Steps.{Step, goes, arithmetic, logic, result_only}
use Rattle.program_nodes.specs.Operands.{IsBit}
use Rattle.symbolic_state.specs.Fitting.{FitsTable}
use Rattle.symbolic_state.specs.Agreeing.{FlagAgrees}
use Rattle.symbolic_state.proofs.LaterTables.{bit_later, fits_table_later, fits_flags, fits_write}
use Rattle.symbolic_state.proofs.KnownCells.{same_nodes}
use Rattle.symbolic_state.proofs.Runs.{Run, Agreed, Valued, start_in}
use Rattle.symbolic_state.proofs.Runs.{valued_front}
use Rattle.symbolic_values.proofs.StepRows.{IsPlain, Row}
use Rattle.symbolic_values.proofs.StepRows.{grows_on, makes}

-- ---- states of the machine

abbrev pub regs_with : Option Reg → ℕ → List ℕ → List ℕ
regs_with None word regs = regs
regs_with (Some r) word regs = slice_set regs (number_of r) word

-- the state with a word in a register, or in none, and other flags
abbrev pub written : Option Reg → ℕ → Option Bool → Option Bool → Option Bool → State → State
written dst word cf of zf s =
    record { regs = regs_with dst word s.regs; cf = cf; of = of; zf = zf; cells = s.cells }

length_with : (dst : Option Reg) (word : ℕ) (regs : List ℕ) → length (regs_with dst word regs) ≡ length regs
length_with None word regs = refl
length_with (Some r) word regs = length-set regs (number_of r) word

set_agrees : (val : ℕ → ℕ) (words numbers : List ℕ) (i k word n : ℕ) → length words ≡ length numbers → word ≡ val n
    → slice_index words k ≡ val (slice_index numbers k)
    → slice_index (slice_set words i word) k ≡ val (slice_index (slice_set numbers i n) k)
set_agrees val [] [] i k word n same e h = h
set_agrees val [] (m ∷ numbers) i k word n same e h = absurd (omega arith)
set_agrees val (w ∷ words) [] i k word n same e h = absurd (omega arith)
set_agrees val (w ∷ words) (m ∷ numbers) zero zero word n same e h = e
set_agrees val (w ∷ words) (m ∷ numbers) zero (suc k) word n same e h = h
set_agrees val (w ∷ words) (m ∷ numbers) (suc i) zero word n same e h = h
set_agrees val (w ∷ words) (m ∷ numbers) (suc i) (suc k) word n same e h =
    set_agrees val words numbers i k word n (omega arith) e h

write_agrees : (val : ℕ → ℕ) (y : Symbols) (s : State) (dst : Option Reg) (word n : ℕ) (r : Reg)
    → length s.regs ≡ length y.regs → word ≡ val n → slice_index s.regs (number_of r) ≡ val (node_in y r)
    → slice_index (regs_with dst word s.regs) (number_of r) ≡ val (node_in (write dst n y) r)
write_agrees val y s None word n r same e h = h
write_agrees val y s (Some q) word n r same e h =
    set_agrees val s.regs y.regs (number_of q) (number_of r) word n same e h

-- ---- symbolic states

-- what stands in the memory stays, and so does the access
pub record SameMemory (y z : Symbols) : Type 0 where
  pub arrays : z.arrays ≡ y.arrays
  pub frame : z.frame ≡ y.frame
  pub overlap : z.overlap ≡ y.overlap
  pub touch : z.touch ≡ y.touch

pub same_written : (y : Symbols) (dst : Option Reg) (n : ℕ) (cf of zf : Option ℕ)
    → SameMemory y (with_flags cf of zf (write dst n y))
same_written y None n cf of zf = record { arrays = refl; frame = refl; overlap = refl; touch = refl }
same_written y (Some r) n cf of zf = record { arrays = refl; frame = refl; overlap = refl; touch = refl }

pub agrees_written : (r : Run) (t : List Node) (y : Symbols) (s : State) → FitsTable t y → Agreed r y s
    → (dst : Option Reg) (word n : ℕ) → word ≡ r.val n → (cf of zf : Option ℕ) (c o z : Option Bool)
    → FlagAgrees r.val cf c → FlagAgrees r.val of o → FlagAgrees r.val zf z
    → Agreed r (with_flags cf of zf (write dst n y)) (written dst word c o z s)
agrees_written r t y s fits a dst word n e cf of zf c o z cs os zs =
    let same = same_written y dst n cf of zf in record {
      sixteen = length_with dst word s.regs ∙ a.sixteen;
      registers = λ q. write_agrees r.val y s dst word n q (a.sixteen ∙ sym fits.sixteen) e (a.registers q);
      cf = cs;
      of = os;
      zf = zs;
      memory = λ area w m is. a.memory area w m
          (sym (same_nodes y (with_flags cf of zf (write dst n y)) same.arrays same.frame area w) ∙ is);
      keeps = a.keeps;
    }

pub agrees_touch : (r : Run) (y : Symbols) (s : State) (touch : Option Touch) → Agreed r y s
    → Agreed r (with_touch touch y) s
agrees_touch r y s touch a = record {
  sixteen = a.sixteen;
  registers = a.registers;
  cf = a.cf;
  of = a.of;
  zf = a.zf;
  memory = λ area w m is. a.memory area w m (sym (same_nodes y (with_touch touch y) refl refl area w) ∙ is);
  keeps = a.keeps;
}

-- ---- a result that changes no flag

-- in a state from which the machine goes on: the word of the result
pub record Result (r : Run) (dst : Reg) (result : Form) (s : State) (o : Option State) : Type 0 where
  pub word : ℕ
  pub goes : o ≡ Some (written (Some dst) word s.cf s.of s.zf s)
  pub is : form_value (start_in r) r.val result ≡ word

module _ (t : List Node) (y : Symbols) (table : IsTable t) (fits : FitsTable t y) (next : Run → State → Option State)
    (result : Form) (fit : FormFits t result) (plain : IsPlain result) where
  pub result_row : (dst : Reg)
      → ((r : Run) (s : State) → Valued r t → Agreed r y s → Result r dst result s (next r s))
      → Row t y next (result_only dst result t y)
  unfolding result_only
  result_row dst goes =
      let a = made t result in
      let m = makes t result table fit plain in
      record {
        grows = m.grows;
        fits = fits_write a.table y (Some dst) a.number m.inside (fits_table_later t a.table m.grows.prefix y fits);
        touch = refl;
        covers = λ r s v agrees.
            let g = goes r s (valued_front r t a.table m.grows.prefix v) agrees in
            record {
              next = written (Some dst) g.word s.cf s.of s.zf s;
              is = g.goes;
              agrees = agrees_written r t y s fits agrees (Some dst) g.word a.number (sym (m.word r v ∙ g.is)) y.cf y.of
                  y.zf s.cf s.of s.zf agrees.cf agrees.of agrees.zf;
            };
      }

  -- ---- a result and its flags

  -- a result, its carry, from which the overflow flag follows, and whether it is 0
  abbrev flagged : (ℕ → Option ℕ) → Option Reg → Form → Step
  flagged over dst carry =
      let r = made t result in
      let c = made r.table carry in
      let z = made c.table (forms.Zero r.number) in
      goes z.table (with_flags (Some c.number) (over c.number) (Some z.number) (write dst r.number y))

  -- in a state from which the machine goes on: the words of the result and of its carry
  pub record Results (over : ℕ → Option ℕ) (r : Run) (dst : Option Reg) (carry : Form) (s : State) (o : Option State)
      : Type 0 where
    pub word : ℕ
    pub out : Bool
    pub overflow : Option Bool
    pub goes : o ≡ Some (written dst word (Some out) overflow (Some (word == 0)) s)
    pub is : form_value (start_in r) r.val result ≡ word
    pub carries : form_value (start_in r) r.val carry ≡ bit out
    pub overflows : (n : ℕ) → r.val n ≡ bit out → FlagAgrees r.val (over n) overflow

  module _ (dst : Option Reg) (carry : Form) (fit_carry : FormFits t carry) (plain_carry : IsPlain carry)
      (bits : IsBitForm carry) where
    flagged_row : (over : ℕ → Option ℕ) → ((u : List Node) (n : ℕ) → IsBit u n → IfSome (over n) (IsBit u))
        → ((r : Run) (s : State) → Valued r t → Agreed r y s → Results over r dst carry s (next r s))
        → Row t y next (flagged over dst carry)
    flagged_row over bit_over goes =
        let a = made t result in
        let b = made a.table carry in
        let c = made b.table (forms.Zero a.number) in
        let ma = makes t result table fit plain in
        let fit_b = fits_later carry ma.grows.prefix fit_carry in
        let mb = makes a.table carry ma.grows.table fit_b plain_carry in
        let longer = prefix_length mb.grows.prefix in
        let inside = ma.inside in
        let fit_c : a.number < length b.table = omega arith in
        let mc = makes b.table (forms.Zero a.number) mb.grows.table fit_c tt in
        let last = prefix_length mc.grows.prefix in
        let here : a.number < length c.table = omega arith in
        let grows = grows_on t a.table c.table ma.grows (grows_on a.table b.table c.table mb.grows mc.grows) in
        let bit_b = bit_later b.table c.table mc.grows.prefix b.number
        (record { inside = mb.inside; high = made_bit a.table carry ma.grows.table fit_b bits }) in
        record {
          grows = grows;
          fits = fits_flags c.table (write dst a.number y) (Some b.number) (over b.number) (Some c.number) bit_b
              (bit_over c.table b.number bit_b)
              (record { inside = mc.inside; high = made_bit b.table (forms.Zero a.number) mb.grows.table fit_c tt })
              (fits_write c.table y dst a.number here (fits_table_later t c.table grows.prefix y fits));
          touch = (same_written y dst a.number (Some b.number) (over b.number) (Some c.number)).touch;
          covers = λ r s v agrees.
              let vb = valued_front r b.table c.table mc.grows.prefix v in
              let va = valued_front r a.table b.table mb.grows.prefix vb in
              let g = goes r s (valued_front r t c.table grows.prefix v) agrees in
              let word : r.val a.number ≡ g.word = ma.word r va ∙ g.is in
              let carries : r.val b.number ≡ bit g.out = mb.word r vb ∙ g.carries in
              record {
                next = written dst g.word (Some g.out) g.overflow (Some (g.word == 0)) s;
                is = g.goes;
                agrees = agrees_written r t y s fits agrees dst g.word a.number (sym word) (Some b.number)
                    (over b.number) (Some c.number) (Some g.out) g.overflow (Some (g.word == 0))
                    (g.out, refl, carries) (g.overflows b.number carries)
                    (g.word == 0, refl, mc.word r v ∙ ap (λ n. if n == 0 then 1 else 0) word);
              };
        }

    -- of the overflow flag nothing is known
    pub arithmetic_row : ((r : Run) (s : State) → Valued r t → Agreed r y s
        → Results (λ n. None) r dst carry s (next r s)) → Row t y next (arithmetic dst result carry t y)
    unfolding arithmetic
    arithmetic_row goes = flagged_row (λ n. None) (λ u n b. tt) goes

  -- the overflow flag is the carry
  pub logic_row : (dst : Option Reg)
      → ((r : Run) (s : State) → Valued r t → Agreed r y s
      → Results (λ n. Some n) r dst (forms.Const 0) s (next r s)) → Row t y next (logic dst result t y)
  unfolding logic
  logic_row dst goes = flagged_row dst (forms.Const 0) (omega arith) tt (omega arith) (λ n. Some n) (λ u n b. b) goes
