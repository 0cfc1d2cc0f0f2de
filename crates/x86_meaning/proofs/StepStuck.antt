-- When a step is stuck.
use Rattle.std.proofs.Common.{◌≡◌, ℕ, Bool, true, false, Option, Some, None, refl}
use Rattle.std.specs.Prelude.{◌&&◌, is_some, if◌then◌else◌, option_map, option_and_then}
use Rattle.x86_instr.specs.declared.operand.Reg.{Reg}
use Rattle.x86_instr.specs.declared.operand.Rm.{Rm}
use Rattle.x86_instr.specs.declared.operand.Rm.TheVariants as rms
use Rattle.x86_instr.specs.declared.operand.Src.{Src}
use Rattle.x86_instr.specs.declared.operand.Src.TheVariants as srcs
use Rattle.x86_instr.specs.declared.instr.Cond.{Cond}
use Rattle.x86_instr.specs.declared.instr.Cond.TheVariants as conds
use Rattle.x86_instr.specs.declared.instr.Bin.{Bin}
use Rattle.x86_instr.specs.declared.instr.Bin.TheVariants.{Add, Adc, Sub, Sbb, And, Or, Xor, Cmp}
use Rattle.x86_instr.specs.declared.instr.Instr.{Instr}
use Rattle.x86_instr.specs.declared.instr.Instr.TheVariants as instrs
use Rattle.x86_instr.specs.Access.{rm_access, src_access}
use Rattle.x86_instr.specs.Flags.{flag_of, bin_reads, flags_read}
use Rattle.x86_meaning.specs.declared.state.State.{State}
use Rattle.x86_meaning.specs.Machine.{step_of, bin_into, condition_holds, rm_word, src_word}
use Rattle.x86_meaning.specs.Touches.{touched_by, touched}
use Rattle.x86_meaning.specs.StepLaws.{is_there, are_defined}

-- a step that needs a cell alone
cell_alone : {X : Type 0} (o : Option X) (f : X → State) (b : Bool) → is_some o ≡ b
    → is_some (option_map f o) ≡ (b && true)
cell_alone None f false e = refl
cell_alone None f true e = cc
cell_alone (Some x) f true e = refl
cell_alone (Some x) f false e = cc

-- a step that needs a cell, and then a flag
cell_then : (o : Option ℕ) (f : ℕ → Option State) (b c : Bool) → is_some o ≡ b
    → ((word : ℕ) → is_some (f word) ≡ c) → is_some (option_and_then f o) ≡ (b && c)
cell_then None f false c e h = refl
cell_then None f true c e h = cc
cell_then (Some word) f true c e h = h word
cell_then (Some word) f false c e h = cc

rm_there : (s : State) (src : Rm) → is_some (rm_word s src) ≡ is_there (touched_by s (rm_access src)) s
rm_there s (rms.Reg r) = refl
rm_there s (rms.Mem mem) = refl

src_there : (s : State) (src : Src) → is_some (src_word s src) ≡ is_there (touched_by s (src_access src)) s
src_there s (srcs.Reg r) = refl
src_there s (srcs.Mem mem) = refl
src_there s (srcs.Imm n) = refl

stored_there : (b : Bool) (t : State) → is_some (if b then Some t else None) ≡ (b && true)
stored_there true t = refl
stored_there false t = refl

flag : (o : Option Bool) (f : Bool → State) → is_some (option_map f o) ≡ (is_some o && true)
flag None f = refl
flag (Some b) f = refl

negated_flag : (o : Option Bool) (f : Bool → State) (g : Bool → Bool)
    → is_some (option_map f (option_map g o)) ≡ (is_some o && true)
negated_flag None f g = refl
negated_flag (Some b) f g = refl

last_flag : (o : Option Bool) (f : Bool → State) → is_some (option_map f o) ≡ is_some o
last_flag None f = refl
last_flag (Some b) f = refl

negated_last_flag : (o : Option Bool) (f : Bool → State) (g : Bool → Bool)
    → is_some (option_map f (option_map g o)) ≡ is_some o
negated_last_flag None f g = refl
negated_last_flag (Some b) f g = refl

condition : (cond : Cond) (s : State) (f : Bool → State)
    → is_some (option_map f (condition_holds s cond)) ≡ are_defined (flag_of cond) s
condition conds.O s f = flag s.of f
condition conds.No s f = negated_flag s.of f _
condition conds.C s f = flag s.cf f
condition conds.Nc s f = negated_flag s.cf f _
condition conds.Z s f = last_flag s.zf f
condition conds.Nz s f = negated_last_flag s.zf f _

bin : (op : Bin) (dst : Reg) (s : State) (word : ℕ)
    → is_some (bin_into op dst word s) ≡ are_defined (bin_reads op) s
bin Add dst s word = refl
bin Adc dst s word = flag s.cf _
bin Sub dst s word = refl
bin Sbb dst s word = flag s.cf _
bin And dst s word = refl
bin Or dst s word = refl
bin Xor dst s word = refl
bin Cmp dst s word = refl

-- each instruction
pub goes_on : (i : Instr) (s : State) → is_some (step_of i s)
    ≡ (is_there (touched i s) s && are_defined (flags_read i) s)
goes_on (instrs.Mov dst src) s = cell_alone _ _ _ (rm_there s src)
goes_on (instrs.MovImm dst imm) s = refl
goes_on (instrs.Store mem src) s = stored_there _ _
goes_on (instrs.Lea dst mem) s = refl
goes_on (instrs.Bin op dst src) s = cell_then _ _ _ _ (src_there s src) (bin op dst s)
goes_on (instrs.Test a b) s = refl
goes_on (instrs.Un op dst) s = refl
goes_on (instrs.Adcx dst src) s = cell_then _ _ _ _ (rm_there s src) (λ word. flag s.cf _)
goes_on (instrs.Adox dst src) s = cell_then _ _ _ _ (rm_there s src) (λ word. flag s.of _)
goes_on (instrs.Mulx hi lo src) s = cell_alone _ _ _ (rm_there s src)
goes_on (instrs.Mul src) s = cell_alone _ _ _ (rm_there s src)
goes_on (instrs.Imul dst src) s = cell_alone _ _ _ (rm_there s src)
goes_on (instrs.Shl dst by) s = refl
goes_on (instrs.Shr dst by) s = refl
goes_on (instrs.Shrd dst src by) s = refl
goes_on (instrs.Shlx dst src count) s = cell_alone _ _ _ (rm_there s src)
goes_on (instrs.Shrx dst src count) s = cell_alone _ _ _ (rm_there s src)
goes_on (instrs.Set cond dst) s = condition cond s _
goes_on (instrs.Movzx dst src) s = refl
goes_on (instrs.Cmov cond dst src) s = cell_then _ _ _ _ (rm_there s src) (λ word. condition cond s _)
goes_on instrs.Clc s = refl
goes_on instrs.Ret s = refl
