-- That a step depends on what its instruction reads alone, and writes only what the tables say.
use Rattle.std.proofs.Common.{◌≡◌, ◌≢◌, ℕ, Bool, true, false, not, Option, Some, None, refl, sym, ap, ◌∙◌, subst}
use Rattle.std.specs.Prelude.{if◌then◌else◌, option_map, option_and_then}
use Rattle.std.specs.Option.{option_map_or}
use Rattle.std.specs.FinMap as map
use Rattle.x86_instr.specs.declared.operand.Reg.{Reg}
use Rattle.x86_instr.specs.declared.operand.Rm.{Rm}
use Rattle.x86_instr.specs.declared.operand.Rm.TheVariants as rms
use Rattle.x86_instr.specs.declared.operand.Src.{Src}
use Rattle.x86_instr.specs.declared.operand.Src.TheVariants as srcs
use Rattle.x86_instr.specs.declared.flags.Flags.{Flags}
use Rattle.x86_instr.specs.declared.instr.Cond.{Cond}
use Rattle.x86_instr.specs.declared.instr.Cond.TheVariants as conds
use Rattle.x86_instr.specs.declared.instr.Bin.{Bin}
use Rattle.x86_instr.specs.declared.instr.Bin.TheVariants.{Add, Adc, Sub, Sbb, And, Or, Xor, Cmp}
use Rattle.x86_instr.specs.declared.instr.Un.{Un}
use Rattle.x86_instr.specs.declared.instr.Un.TheVariants.{Inc, Dec, Neg, Not}
use Rattle.x86_instr.specs.declared.instr.Instr.{Instr}
use Rattle.x86_instr.specs.declared.instr.Instr.TheVariants as instrs
use Rattle.x86_instr.specs.Access.{rm_access, src_access}
use Rattle.x86_instr.specs.Flags.{all_flags, carry_only, overflow_only, no_flag, flag_of, bin_reads, un_writes}
use Rattle.x86_instr.specs.Flags.{flags_read, flags_written}
use Rattle.x86_meaning.specs.declared.state.State.{State}
use Rattle.x86_meaning.specs.Machine.{Cells, step_of, bin_into, un_into, condition_holds, rm_word, src_word}
use Rattle.x86_meaning.specs.Touches.{Touched, NoCell, ReadCell, WrittenCell, touched_by, touched, written_address}
use Rattle.x86_meaning.specs.StepLaws.{SameFlags, SameCell, SameReads, StepsAlike, others, with_cell, with_written}
use Rattle.x86_meaning.proofs.Memory.{get_put_same, get_put_other}

-- the flags and cells of u beside the registers of s
abbrev beside : State → State → State
beside s u = record { regs = s.regs; cf = u.cf; of = u.of; zf = u.zf; cells = u.cells }

-- ---- steps that read a word or a flag that is the same in both states

through : {X : Type 0} (o p : Option X) (f g : X → State) (k : State → State) → o ≡ p
    → ((x : X) → g x ≡ k (f x)) → option_map g p ≡ option_map k (option_map f o)
through None None f g k e h = refl
through None (Some y) f g k e h = cc
through (Some x) None f g k e h = cc
through (Some x) (Some y) f g k e h =
    let same : y ≡ x = cc in ap (λ z. Some (g z)) same ∙ ap Some (h x)

through_then : {X : Type 0} (o p : Option X) (f g : X → Option State) (k : State → State) → o ≡ p
    → ((x : X) → g x ≡ option_map k (f x)) → option_and_then g p ≡ option_map k (option_and_then f o)
through_then None None f g k e h = refl
through_then None (Some y) f g k e h = cc
through_then (Some x) None f g k e h = cc
through_then (Some x) (Some y) f g k e h = let same : y ≡ x = cc in ap g same ∙ h x

rm_same : (s u : State) (src : Rm) → SameCell (touched_by s (rm_access src)) s.cells u.cells
    → rm_word s src ≡ rm_word (beside s u) src
rm_same s u (rms.Reg r) h = refl
rm_same s u (rms.Mem mem) h = h

src_same : (s u : State) (src : Src) → SameCell (touched_by s (src_access src)) s.cells u.cells
    → src_word s src ≡ src_word (beside s u) src
src_same s u (srcs.Reg r) h = refl
src_same s u (srcs.Mem mem) h = h
src_same s u (srcs.Imm n) h = refl

condition_same : (cond : Cond) (s u : State) → SameFlags (flag_of cond) s u
    → condition_holds s cond ≡ condition_holds (beside s u) cond
condition_same conds.O s u h = h.of refl
condition_same conds.No s u h = ap (λ o. option_map (λ b. not b) o) (h.of refl)
condition_same conds.C s u h = h.cf refl
condition_same conds.Nc s u h = ap (λ o. option_map (λ b. not b) o) (h.cf refl)
condition_same conds.Z s u h = h.zf refl
condition_same conds.Nz s u h = ap (λ o. option_map (λ b. not b) o) (h.zf refl)

-- a source is not written
rm_unwritten : (s : State) (src : Rm) → None ≡ written_address (touched_by s (rm_access src))
rm_unwritten s (rms.Reg r) = refl
rm_unwritten s (rms.Mem mem) = refl

src_unwritten : (s : State) (src : Src) → None ≡ written_address (touched_by s (src_access src))
src_unwritten s (srcs.Reg r) = refl
src_unwritten s (srcs.Mem mem) = refl
src_unwritten s (srcs.Imm n) = refl

-- a step that writes no cell
no_cell : (flags : Flags) (address : Option ℕ) (u : State) (o p : Option State) → None ≡ address
    → p ≡ option_map (λ t. with_written flags None u t) o → p ≡ option_map (λ t. with_written flags address u t) o
no_cell flags address u o p e h = subst (λ a. p ≡ option_map (λ t. with_written flags a u t) o) e h

-- a step that reads a word, and writes no cell
with_rm : (flags : Flags) (s u : State) (src : Rm) (f g : ℕ → State)
    → SameCell (touched_by s (rm_access src)) s.cells u.cells
    → ((word : ℕ) → g word ≡ with_written flags None (beside s u) (f word))
    → option_map g (rm_word (beside s u) src)
    ≡ option_map (λ t. with_written flags (written_address (touched_by s (rm_access src))) (beside s u) t)
    (option_map f (rm_word s src))
with_rm flags s u src f g cell h = no_cell flags _ (beside s u) _ _ (rm_unwritten s src)
    (through (rm_word s src) (rm_word (beside s u) src) f g _ (rm_same s u src cell) h)

-- a step that reads a word and then a flag, and writes no cell
with_rm_then : (flags : Flags) (s u : State) (src : Rm) (f g : ℕ → Option State)
    → SameCell (touched_by s (rm_access src)) s.cells u.cells
    → ((word : ℕ) → g word ≡ option_map (λ t. with_written flags None (beside s u) t) (f word))
    → option_and_then g (rm_word (beside s u) src)
    ≡ option_map (λ t. with_written flags (written_address (touched_by s (rm_access src))) (beside s u) t)
    (option_and_then f (rm_word s src))
with_rm_then flags s u src f g cell h = no_cell flags _ (beside s u) _ _ (rm_unwritten s src)
    (through_then (rm_word s src) (rm_word (beside s u) src) f g _ (rm_same s u src cell) h)

-- ---- rows

bin_alike : (op : Bin) (dst : Reg) (s u : State) → SameFlags (bin_reads op) s u → (word : ℕ)
    → bin_into op dst word (beside s u)
    ≡ option_map (λ t. with_written all_flags None (beside s u) t) (bin_into op dst word s)
bin_alike Add dst s u h word = refl
bin_alike Adc dst s u h word = through s.cf u.cf _ _ _ (h.cf refl) (λ carry. refl)
bin_alike Sub dst s u h word = refl
bin_alike Sbb dst s u h word = through s.cf u.cf _ _ _ (h.cf refl) (λ borrow. refl)
bin_alike And dst s u h word = refl
bin_alike Or dst s u h word = refl
bin_alike Xor dst s u h word = refl
bin_alike Cmp dst s u h word = refl

un_alike : (op : Un) (dst : Reg) (d : ℕ) (s u : State)
    → un_into op dst d (beside s u) ≡ with_written (un_writes op) None (beside s u) (un_into op dst d s)
un_alike Inc dst d s u = refl
un_alike Dec dst d s u = refl
un_alike Neg dst d s u = refl
un_alike Not dst d s u = refl

-- the cell that is stored to holds the same word
stored_alike : (s u : State) (address word : ℕ) (b c : Bool) → b ≡ c
    → (if c then Some (record (beside s u) { cells = map.insert u.cells address word }) else None)
    ≡ option_map (λ t. with_written no_flag (Some address) (beside s u) t)
    (if b then Some (record s { cells = map.insert s.cells address word }) else None)
stored_alike s u address word false false e = refl
stored_alike s u address word false true e = cc
stored_alike s u address word true false e = cc
stored_alike s u address word true true e = ap
    (λ o. Some (record (beside s u) { cells = option_map_or (λ w. map.insert u.cells address w) o u.cells }))
    (sym (get_put_same s.cells address word))

-- each instruction
alike : (i : Instr) (s u : State) → SameFlags (flags_read i) s u → SameCell (touched i s) s.cells u.cells
    → StepsAlike i s (beside s u)
alike (instrs.Mov dst src) s u flags cell = with_rm no_flag s u src _ _ cell (λ word. refl)
alike (instrs.MovImm dst imm) s u flags cell = refl
alike (instrs.Store mem src) s u flags cell = stored_alike s u _ _ _ _ cell
alike (instrs.Lea dst mem) s u flags cell = refl
alike (instrs.Bin op dst src) s u flags cell = no_cell all_flags _ (beside s u) _ _ (src_unwritten s src)
    (through_then (src_word s src) (src_word (beside s u) src) _ _ _ (src_same s u src cell)
    (bin_alike op dst s u flags))
alike (instrs.Test a b) s u flags cell = refl
alike (instrs.Un op dst) s u flags cell = ap Some (un_alike op dst _ s u)
alike (instrs.Adcx dst src) s u flags cell = with_rm_then carry_only s u src _ _ cell
    (λ word. through s.cf u.cf _ _ _ (flags.cf refl) (λ carry. refl))
alike (instrs.Adox dst src) s u flags cell = with_rm_then overflow_only s u src _ _ cell
    (λ word. through s.of u.of _ _ _ (flags.of refl) (λ carry. refl))
alike (instrs.Mulx hi lo src) s u flags cell = with_rm no_flag s u src _ _ cell (λ word. refl)
alike (instrs.Mul src) s u flags cell = with_rm all_flags s u src _ _ cell (λ word. refl)
alike (instrs.Imul dst src) s u flags cell = with_rm all_flags s u src _ _ cell (λ word. refl)
alike (instrs.Shl dst by) s u flags cell = refl
alike (instrs.Shr dst by) s u flags cell = refl
alike (instrs.Shrd dst src by) s u flags cell = refl
alike (instrs.Shlx dst src count) s u flags cell = with_rm no_flag s u src _ _ cell (λ word. refl)
alike (instrs.Shrx dst src count) s u flags cell = with_rm no_flag s u src _ _ cell (λ word. refl)
alike (instrs.Set cond dst) s u flags cell = through _ _ _ _ _ (condition_same cond s u flags) (λ b. refl)
alike (instrs.Movzx dst src) s u flags cell = refl
alike (instrs.Cmov cond dst src) s u flags cell = with_rm_then no_flag s u src _ _ cell
    (λ word. through _ _ _ _ _ (condition_same cond s u flags) (λ b. refl))
alike instrs.Clc s u flags cell = refl
alike instrs.Ret s u flags cell = refl

-- ---- two states

beside_is : (s u : State) → s.regs ≡ u.regs → beside s u ≡ u
beside_is s u e = ap (λ rs. record { regs = rs; cf = u.cf; of = u.of; zf = u.zf; cells = u.cells }) e

pub steps_alike : (i : Instr) (s u : State) → SameReads i s u → StepsAlike i s u
steps_alike i s u h = subst (StepsAlike i s) (beside_is s u h.regs) (alike i s u h.flags h.cell)

-- ---- one state

same_cell_itself : (touch : Touched) (cells : Cells) → SameCell touch cells cells
same_cell_itself NoCell cells = tt
same_cell_itself (ReadCell address) cells = refl
same_cell_itself (WrittenCell address) cells = refl

-- the state after a step is that before it, with what the tables say that it writes
pub written_alone : (i : Instr) (s t : State) → step_of i s ≡ Some t
    → t ≡ with_written (flags_written i) (written_address (touched i s)) s t
written_alone i s t e =
    let itself : SameReads i s s = record {
      regs = refl;
      flags = record { cf = λ h. refl; of = λ h. refl; zf = λ h. refl };
      cell = same_cell_itself (touched i s) s.cells;
    } in
    let k : State → State = λ v. with_written (flags_written i) (written_address (touched i s)) s v in
    let both : Some t ≡ Some (k t) = sym e ∙ (steps_alike i s s itself ∙ ap (option_map k) e) in
    cc

-- a flag that is not written
unwritten_flag : (written : Bool) (old new : Option Bool) → new ≡ (if written then new else old)
    → not written ≡ true → old ≡ new
unwritten_flag true old new e h = cc
unwritten_flag false old new e h = sym e

pub other_flags : (flags : Flags) (address : Option ℕ) (s t : State) → t ≡ with_written flags address s t
    → SameFlags (others flags) s t
other_flags flags address s t e = record {
  cf = unwritten_flag flags.cf s.cf t.cf (ap (λ (v : State). v.cf) e);
  of = unwritten_flag flags.of s.of t.of (ap (λ (v : State). v.of) e);
  zf = unwritten_flag flags.zf s.zf t.zf (ap (λ (v : State). v.zf) e);
}

-- a cell that is not written
unwritten_put : (old : Cells) (written q : ℕ) (o : Option ℕ) → q ≢ written
    → map.get (option_map_or (λ word. map.insert old written word) o old) q ≡ map.get old q
unwritten_put old written q None other = refl
unwritten_put old written q (Some word) other = get_put_other old written word q other

unwritten_cell : (address : Option ℕ) (new old : Cells) (q : ℕ) → address ≢ Some q
    → map.get (with_cell address new old) q ≡ map.get old q
unwritten_cell None new old q other = refl
unwritten_cell (Some written) new old q other =
    unwritten_put old written q (map.get new written) (λ e. other (ap Some (sym e)))

pub other_cells : (flags : Flags) (address : Option ℕ) (s t : State) → t ≡ with_written flags address s t
    → (q : ℕ) → address ≢ Some q → map.get t.cells q ≡ map.get s.cells q
other_cells flags address s t e q other =
    ap (λ (v : State). map.get v.cells q) e ∙ unwritten_cell address t.cells s.cells q other
