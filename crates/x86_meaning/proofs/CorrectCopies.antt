-- Correct copies of one word: their runs from every start.
use Rattle.std.proofs.Common.{◌≡◌, ℕ, zero, suc, ◌^◌, ◌<◌, Bool, false, List, [], ◌∷◌, Some}
use Rattle.std.proofs.Common.{refl}
use Rattle.std.proofs.Common.{subst, arith}
use Rattle.std.specs.FinMap as map
use Rattle.word_program.specs.Program.{Source}
use Rattle.word_program.specs.Values.{input_word, output_word}
use Rattle.x86_instr.specs.declared.operand.Reg.TheVariants.{Rax, Rdi, Rsi}
use Rattle.x86_instr.specs.declared.line.Line.{Line}
use Rattle.x86_instr.specs.Frame.{frame_of}
use Rattle.x86_meaning.specs.declared.state.State.{State}
use Rattle.x86_meaning.specs.Machine.{Cells}
use Rattle.x86_meaning.specs.Runs.{Runs}
use Rattle.x86_meaning.specs.Start.{Array, output_words, address_of, IsStart}
use Rattle.x86_meaning.specs.Correct.{Keeps, Returns, IsCorrect}
use Rattle.x86_meaning.specs.Refused.{copied_word, copy_by, copy_after_write}
use Rattle.x86_meaning.proofs.Keeping.{keeps_start, keeps_put, written_there, input_kept}
use Rattle.x86_meaning.proofs.Memory.{get_put_same}
use Rattle.x86_meaning.proofs.RegisterLemmas.{by_sixteen}
use Rattle.x86_meaning.proofs.Stepping.{on_store, on_load}

-- the one output word is the word 0 of the parameter 0
one_output : (overlap : Bool) (C : ℕ → ℕ → Type 0) → C 0 0 → (param word : ℕ)
    → word < output_words (copied_word overlap).params param → C param word
one_output overlap C c zero word h = let e : 0 ≡ word = omega (arith, h) in subst (C 0) e c
one_output overlap C c (suc zero) word h = absurd (omega (arith, h))
one_output overlap C c (suc (suc param)) word h = absurd (omega (arith, h))

-- the run from the state goes through, if it is a start
abbrev GoesThrough : Source → List Line → List ℕ → State → Type 0
GoesThrough program lines inputs s = IsStart program lines inputs s
    → Runs (λ t. Keeps program.params (frame_of lines) s t.cells)
    (λ t. Returns program (frame_of lines) inputs s t) lines s

module _ (overlap : Bool) (inputs : List ℕ) (s : State)
    (r0 r1 r2 r3 r4 r5 r6 r7 r8 r9 r10 r11 r12 r13 r14 r15 : ℕ) where
  abbrev program : Source
  program = copied_word overlap

  -- a state of the run, by what changes
  abbrev later : ℕ → Cells → State
  later rax cells = record {
    regs = rax ∷ r1 ∷ r2 ∷ r3 ∷ r4 ∷ r5 ∷ r6 ∷ r7 ∷ r8 ∷ r9 ∷ r10 ∷ r11 ∷ r12 ∷ r13 ∷ r14 ∷ r15 ∷ [];
    cf = s.cf;
    of = s.of;
    zf = s.zf;
    cells = cells;
  }

  abbrev first : State
  first = later r0 s.cells

  abbrev input : ℕ
  input = input_word program.params inputs 1 0

  -- the copy, from a memory that keeps and holds the input
  copies : (lines : List Line) → frame_of lines ≡ 0 → IsStart program lines inputs first → (cells : Cells)
      → Keeps program.params (frame_of lines) first cells
      → map.get cells (address_of first (frame_of lines) (Array 1) 0) ≡ Some input
      → Runs (λ t. Keeps program.params (frame_of lines) first t.cells)
      (λ t. Returns program (frame_of lines) inputs first t) (copy_by Rax) (later r0 cells)
  copies lines none start cells kept held =
      let r6_word : r6 < 2 ^ 64 = start.state.registers Rsi in
      let r7_word : r7 < 2 ^ 64 = start.state.registers Rdi in
      let after = keeps_put program lines inputs first start cells (Array 0) 0 input kept (omega arith) in (
        kept,
        on_load (later r0 cells) _ (address_of first (frame_of lines) (Array 1) 0) input _ _
            (omega (arith, r6_word)) held (
              kept,
              on_store (later input cells) _ (address_of first (frame_of lines) (Array 0) 0) input _
                  (omega (arith, r7_word))
                  (written_there program lines inputs first start cells (Array 0) 0 kept (omega arith))
                  record {
                    outputs = one_output overlap (λ param word.
                        map.get (map.insert cells (address_of first (frame_of lines) (Array 0) 0) input)
                        (address_of first (frame_of lines) (Array param) word) ≡ Some
                        (output_word program inputs param word))
                        (get_put_same cells (address_of first (frame_of lines) (Array 0) 0) input);
                    registers = (
                      refl {a = r3},
                      (
                        refl {a = r5},
                        (refl {a = r12}, (refl {a = r13}, (refl {a = r14}, (refl {a = r15}, (refl {a = r4}, tt))))),
                      ),
                    );
                    keeps = after;
                  },
            ),
      )

  copy : GoesThrough program (copy_by Rax) inputs first
  copy start = copies (copy_by Rax) refl start s.cells (keeps_start program.params 0 first)
      (start.arrays 1 0 (omega arith))

  -- the same behind a store to the output, where the input is apart
  copy_behind_store : overlap ≡ false → GoesThrough program copy_after_write inputs first
  copy_behind_store none start =
      let r7_word : r7 < 2 ^ 64 = start.state.registers Rdi in
      let kept = keeps_start program.params 0 first in
      let after = keeps_put program copy_after_write inputs first start s.cells (Array 0) 0 r7 kept (omega arith) in (
        kept,
        on_store first _ (address_of first 0 (Array 0) 0) r7 _ (omega (arith, r7_word))
            (written_there program copy_after_write inputs first start s.cells (Array 0) 0 kept (omega arith))
            (copies copy_after_write refl start _ after
            (input_kept program copy_after_write inputs first start none _ 1 0 after (omega arith))),
      )

-- the state with other registers
abbrev with_regs : List ℕ → State → State
with_regs regs s = record { regs = regs; cf = s.cf; of = s.of; zf = s.zf; cells = s.cells }

-- a listing is correct where its run goes through from every start whose registers are sixteen words
by_registers : (program : Source) (lines : List Line)
    → ((inputs : List ℕ) (s : State) (r0 r1 r2 r3 r4 r5 r6 r7 r8 r9 r10 r11 r12 r13 r14 r15 : ℕ)
    → GoesThrough program lines inputs (with_regs (r0 ∷ r1 ∷ r2 ∷ r3 ∷ r4 ∷ r5 ∷ r6 ∷ r7 ∷ r8 ∷ r9 ∷ r10 ∷ r11 ∷ r12
    ∷ r13 ∷ r14 ∷ r15 ∷ []) s))
    → IsCorrect program lines
by_registers program lines runs = record {
  runs = λ inputs s start.
      by_sixteen (λ regs. GoesThrough program lines inputs (with_regs regs s)) s.regs start.state.sixteen
      (runs inputs s) start;
}

pub copy_is_correct : (overlap : Bool) → IsCorrect (copied_word overlap) (copy_by Rax)
copy_is_correct overlap = by_registers (copied_word overlap) (copy_by Rax) (copy overlap)

pub copy_after_write_is_correct : IsCorrect (copied_word false) copy_after_write
copy_after_write_is_correct = by_registers (copied_word false) copy_after_write
    (λ inputs s r0 r1 r2 r3 r4 r5 r6 r7 r8 r9 r10 r11 r12 r13 r14 r15.
    copy_behind_store false inputs s r0 r1 r2 r3 r4 r5 r6 r7 r8 r9 r10 r11 r12 r13 r14 r15 refl)
