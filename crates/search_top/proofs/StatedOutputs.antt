-- That the stated start state has the cells of the output arrays, and that a run leaves them there.
use Rattle.std.proofs.Common.{◌≡◌, ℕ, zero, suc, ◌+◌, ◌*◌, ◌<◌, ◌≤◌, List, [], ◌∷◌, length, Option, Some, None, IsSome}
use Rattle.std.proofs.Common.{slice_get, refl, ◌∙◌, subst, arith}
use Rattle.std.specs.Prelude.{not, if◌then◌else◌}
use Rattle.std.specs.Option.{option_map_or}
use Rattle.std.specs.FinMap as map
use Rattle.word_program.specs.declared.parameter.Param.{Param}
use Rattle.word_program.specs.declared.parameter.Role.{Role}
use Rattle.word_program.specs.declared.parameter.Role.TheVariants.{Output, InputArray, InputScalar}
use Rattle.word_program.specs.Program.{Source}
use Rattle.word_program.specs.Values.{is_output, is_scalar}
use Rattle.x86_instr.specs.declared.line.Line.{Line}
use Rattle.x86_meaning.specs.declared.state.State.{State}
use Rattle.x86_meaning.specs.Runs.{SameAddresses}
use Rattle.x86_meaning.specs.Start.{IsStart, Array, output_words, param_reg}
use Rattle.x86_meaning.specs.Stated.{IsStated, array_address, role_word, stated_reg}
use Rattle.search_top.specs.Emulate.{HasOutputs}

-- the words of a parameter that may be missing, as an output and as an array, and what its register holds
abbrev words_at : Option Param → ℕ
words_at o = option_map_or (λ p. if is_output p.role then length p.bounds else 0) o 0

abbrev array_at : Option Param → ℕ
array_at o = option_map_or (λ p. if not (is_scalar p.role) then length p.bounds else 0) o 0

abbrev held_at : Option Param → ℕ → ℕ → ℕ → ℕ
held_at o address word other = option_map_or (λ p. role_word p.role address word) o other

-- an output with a word has a register that holds the address of its array
role_held : (role : Role) (n address w word : ℕ) → word < (if is_output role then n else 0)
    → role_word role address w ≡ address
role_held Output n address w word h = refl
role_held InputArray n address w word h = refl
role_held InputScalar n address w word h = absurd (omega arith)

held : (o : Option Param) (address w other word : ℕ) → word < words_at o → held_at o address w other ≡ address
held None address w other word h = absurd (omega arith)
held (Some p) address w other word h = role_held p.role (length p.bounds) address w word h

-- an output with a word is an array with that word
role_array : (role : Role) (n word : ℕ) → word < (if is_output role then n else 0)
    → word < (if not (is_scalar role) then n else 0)
role_array Output n word h = h
role_array InputArray n word h = absurd (omega arith)
role_array InputScalar n word h = absurd (omega arith)

array : (o : Option Param) (word : ℕ) → word < words_at o → word < array_at o
array None word h = absurd (omega arith)
array (Some p) word h = role_array p.role (length p.bounds) word h

-- a parameter with a word is one of the list
below : (params : List Param) (param word : ℕ) → word < output_words params param → param < length params
below [] param word h = absurd (omega arith)
below (p ∷ ps) zero word h = omega arith
below (p ∷ ps) (suc param) word h = let r : param < length ps = below ps param word h in omega (arith, r)

-- the register of an output with a word, in the stated start state
stated_address : (params : List Param) (inputs : List ℕ) (param word : ℕ) → param < 6 → word < output_words params param
    → stated_reg params inputs (param_reg param) ≡ array_address param
stated_address params inputs zero word l h = held (slice_get params 0) _ _ _ word h
stated_address params inputs (suc zero) word l h = held (slice_get params 1) _ _ _ word h
stated_address params inputs (suc (suc zero)) word l h = held (slice_get params 2) _ _ _ word h
stated_address params inputs (suc (suc (suc zero))) word l h = held (slice_get params 3) _ _ _ word h
stated_address params inputs (suc (suc (suc (suc zero)))) word l h = held (slice_get params 4) _ _ _ word h
stated_address params inputs (suc (suc (suc (suc (suc zero))))) word l h = held (slice_get params 5) _ _ _ word h
stated_address params inputs (suc (suc (suc (suc (suc (suc n)))))) word l h = absurd (omega arith)

-- the stated start state has the cells of the output arrays
stated_outputs : (program : Source) (lines : List Line) (inputs : List ℕ) (s : State) → length program.params ≤ 6
    → IsStated program lines inputs s → IsStart program lines inputs s → HasOutputs program.params s.cells
stated_outputs program lines inputs s few stated start param word h =
    let b : param < length program.params = below program.params param word h in
    subst (λ address. IsSome (map.get s.cells (address + 8 * word)))
    (stated.registers (param_reg param) ∙ stated_address program.params inputs param word (omega (arith, b, few)) h)
    (start.there (Array param) word (array (slice_get program.params param) word h))

-- a state with cells at the same addresses has them too
pub left_outputs : (program : Source) (lines : List Line) (inputs : List ℕ) (s t : State) → length program.params ≤ 6
    → IsStated program lines inputs s → IsStart program lines inputs s → SameAddresses s t
    → HasOutputs program.params t.cells
left_outputs program lines inputs s t few stated start same param word h =
    same (array_address param + 8 * word) ∙ stated_outputs program lines inputs s few stated start param word h
