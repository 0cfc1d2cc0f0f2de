-- What holds between entry and exit lasts over longer tables, while scratch registers, flags and the last access
-- change.
use Rattle.std.proofs.Common.{◌≡◌, ℕ, ◌+◌, ◌<◌, Bool, true, false, List, length, refl, sym, ◌∙◌, ap, subst, arith}
use Rattle.std.proofs.Common.{Option, Some, None}
use Rattle.std.specs.Bool.{MatchBool}
use Rattle.std.specs.Prelude.{slice_get}
use Rattle.word_program.specs.Program.{Source}
use Rattle.word_program.specs.Values.{targets_of}
use Rattle.word_program.specs.declared.operation.Target.{Target}
use Rattle.word_program.specs.declared.operation.Target.TheVariants as targets
use Rattle.word_program.specs.declared.parameter.Param.{Param}
use Rattle.word_program.specs.Values.{is_input_array}
use Rattle.x86_instr.specs.declared.operand.Reg.{Reg}
use Rattle.x86_instr.specs.declared.operand.Reg.TheVariants.{Rax, Rcx, Rdx, Rbx, Rsp, Rbp, Rsi, Rdi, R8, R9, R10, R11}
use Rattle.x86_instr.specs.declared.operand.Reg.TheVariants.{R12, R13, R14, R15}
use Rattle.x86_meaning.specs.Start.{Area}
use Rattle.x86_meaning.specs.Start as areas
use Rattle.terms.specs.declared.nodes.Node.{Node}
use Rattle.terms.specs.Tables.{node_at, Prefix}
use Rattle.term_store.proofs.Prefixes.{prefix_trans, prefix_length, at_front}
use Rattle.symbolic_state.specs.Symbols.{Symbols, node_in}
use Rattle.symbolic_state.specs.Cells.{known, node_of}
use Rattle.symbolic_state.specs.Fitting.{HaveShapes}
use Rattle.symbolic_state.specs.Starts.{input_node}
use Rattle.symbolic_state.proofs.KnownCells.{same_nodes}
use Rattle.plain_checks.proofs.Nodes.{table_of}
use Rattle.plain_checks.proofs.Beside.{is_scratch, Beside}
use Rattle.plain_checks.proofs.Between.{Between, Standing, StandsAs, is_done, is_saved}

-- a block changes no register that a function has to give back
saved_is_kept : (r : Reg) → is_saved r ≡ true → is_scratch r ≡ false
saved_is_kept Rax e = sym e
saved_is_kept Rcx e = sym e
saved_is_kept Rdx e = sym e
saved_is_kept Rbx e = refl
saved_is_kept Rsp e = refl
saved_is_kept Rbp e = refl
saved_is_kept Rsi e = refl
saved_is_kept Rdi e = refl
saved_is_kept R8 e = refl
saved_is_kept R9 e = refl
saved_is_kept R10 e = sym e
saved_is_kept R11 e = sym e
saved_is_kept R12 e = refl
saved_is_kept R13 e = refl
saved_is_kept R14 e = refl
saved_is_kept R15 e = refl

-- the registers that a block keeps, the shapes of the memory and the slots of the parameters are as they were
pub record Alike (program : Source) (y z : Symbols) : Type 0 where
  pub sixteen : length z.regs ≡ 16
  pub kept : (r : Reg) → is_scratch r ≡ false → node_in z r ≡ node_in y r
  pub shapes : HaveShapes program.params z.arrays
  pub frame_long : length z.frame ≡ length y.frame
  pub overlap : z.overlap ≡ y.overlap
  pub params : (param : ℕ) → param < length program.params → known z.frame param ≡ known y.frame param

pub standing_alike : {program : Source} {t u : List Node} {y z : Symbols} → Standing program t y → Prefix t u
    → Alike program y z → Standing program u z
standing_alike {program} {t} {u} {y} {z} s p a =
    let same = a.kept Rsp refl in
    let inside = s.stack_in in
    let longer = prefix_length p in
    record {
      more = prefix_trans s.more p;
      sixteen = a.sixteen;
      stack_in = omega (arith, inside, longer, same);
      stack = ap (λ (n : ℕ). (node_at u n).kind) same ∙ (ap (λ (n : Node). n.kind) (at_front (node_in y Rsp) p inside)
          ∙ s.stack);
      saved = λ r e. a.kept r (saved_is_kept r e) ∙ s.saved r e;
      shapes = a.shapes;
      frame_long = a.frame_long ∙ s.frame_long;
      overlap = a.overlap ∙ s.overlap;
      params = λ param inside. a.params param inside ∙ s.params param inside;
    }

alike_beside : {program : Source} {y z : Symbols} → HaveShapes program.params y.arrays → Beside y z
    → Alike program y z
alike_beside {program} {y} {z} shapes b = record {
  sixteen = b.sixteen;
  kept = b.kept;
  shapes = subst (HaveShapes program.params) (sym b.arrays) shapes;
  frame_long = ap length b.frame;
  overlap = b.overlap;
  params = λ param inside. ap (λ (words : List (Option ℕ)). known words param) b.frame;
}

pub standing_later : {program : Source} {t u : List Node} {y z : Symbols} → Standing program t y → Prefix t u
    → Beside y z → Standing program u z
standing_later {program} {t} {u} {y} {z} s p b = standing_alike s p (alike_beside s.shapes b)

-- ---- values

either_way : {A B C D : Type 0} (b : Bool) → (b ≡ true → A → C) → (b ≡ false → B → D) → MatchBool b A B
    → MatchBool b C D
either_way true f g x = f refl x
either_way false f g x = g refl x

-- a value's node stands where it did, where its slot of the frame and its output word are as they were
pub stands_still : (program : Source) (y z : Symbols) (value : ℕ) (target : Option Target)
    → known z.frame (length program.params + value) ≡ known y.frame (length program.params + value)
    → ((param word : ℕ) → target ≡ Some (targets.Output param word) → program.overlap ≡ false
    → node_of z (areas.Array param) word ≡ node_of y (areas.Array param) word)
    → StandsAs program y value target → StandsAs program z value target
stands_still program y z value None slot out h = tt
stands_still program y z value (Some targets.Unused) slot out h = tt
stands_still program y z value (Some targets.Value) slot out h = slot ∙ h
stands_still program y z value (Some (targets.Output param word)) slot out h =
    either_way program.overlap (λ o h. slot ∙ h) (λ o h. out param word refl o ∙ h) h

-- what holds behind the entry, of the values that a predicate tells
pub record Holds (program : Source) (There : ℕ → Type 0) (t : List Node) (y : Symbols) : Type 0 where
  pub standing : Standing program t y
  pub inputs : (param word : ℕ) (p : Param) → slice_get program.params param ≡ Some p
      → is_input_array p.role ≡ true → word < length p.bounds
      → node_of y (areas.Array param) word ≡ Some (input_node (table_of program) program.params param word)
  pub cells : (value : ℕ) → value < length (targets_of program.ops) → There value
      → StandsAs program y value (slice_get (targets_of program.ops) value)

pub holds_between : {program : Source} {done : List ℕ} {t : List Node} {y : Symbols} → Between program done t y
    → Holds program (λ value. is_done program done value ≡ true) t y
holds_between b = record { standing = b.standing; inputs = b.inputs; cells = b.cells }

pub between_holds : {program : Source} {There : ℕ → Type 0} {done : List ℕ} {t : List Node} {y : Symbols}
    → Holds program There t y → ((value : ℕ) → value < length (targets_of program.ops)
    → is_done program done value ≡ true → StandsAs program y value (slice_get (targets_of program.ops) value))
    → Between program done t y
between_holds h cells = record { standing = h.standing; inputs = h.inputs; cells = cells }

pub holds_later : {program : Source} {There : ℕ → Type 0} {t u : List Node} {y z : Symbols} → Holds program There t y
    → Prefix t u → Beside y z → Holds program There u z
holds_later {program} {There} {t} {u} {y} {z} h p b =
    let same = λ (area : Area) (word : ℕ). same_nodes y z b.arrays b.frame area word in
    record {
      standing = standing_later h.standing p b;
      inputs = λ param word p there is inside. same (areas.Array param) word ∙ h.inputs param word p there is inside;
      cells = λ value inside there. stands_still program y z value (slice_get (targets_of program.ops) value)
          (ap (λ (words : List (Option ℕ)). known words (length program.params + value)) b.frame)
          (λ param word e o. same (areas.Array param) word) (h.cells value inside there);
    }
