-- Which texts stand for which listings, by their lines; and the first faulty line of a text.
use Rattle.std.specs.Prelude.{◌≡◌, ◌<◌, ◌≤◌, ℕ, Bool, true, false, List, [], ◌∷◌, filter, map, length}
use Rattle.base.specs.declared.limits.TheConstants.{MAX_LINES}
use Rattle.x86_instr.specs.Listings.{NamedLines, ends_at_ret}
use Rattle.asm_tokens.specs.Whole.{IsFirstFault}
use Rattle.asm_text.specs.Items.{Item, blank, syntax_line, text_line, global, label, code}
use Rattle.asm_text.specs.Grammar.{IsItem}
use Rattle.asm_text.specs.declared.fault.TextFault.{TextFault}
use Rattle.asm_text.specs.declared.fault.TextFault.TheVariants as faults

abbrev pub is_full : Item → Bool
is_full blank = false
is_full syntax_line = true
is_full text_line = true
is_full (global name) = true
is_full (label name) = true
is_full (code line) = true

-- each line is the item at its place
abbrev pub AreItems : List (List ℕ) → List Item → Type 0
AreItems [] [] = Unit {0}
AreItems [] (i ∷ is) = ⊥
AreItems (l ∷ ls) [] = ⊥
AreItems (l ∷ ls) (i ∷ is) = IsItem l i × AreItems ls is

-- the four header lines and the instructions
abbrev pub whole : NamedLines → List Item
whole v = syntax_line ∷ text_line ∷ global v.name ∷ label v.name ∷ map code v.lines

-- the lines stand for the name and the lines of a function: they are its header and its instructions, and lines
-- that are blank but for a comment are passed over
pub record Stands (lines : List (List ℕ)) (v : NamedLines) : Type 0 where
  pub items : List Item
  pub each : AreItems lines items
  pub order : filter is_full items ≡ whole v

-- what each fault says of the lines: `Line` the first faulty one, the others which rule of listings the whole
-- text breaks; want of memory says nothing
abbrev pub Refuses : List (List ℕ) → TextFault → Type 0
Refuses lines (faults.Line n) = IsFirstFault Stands lines n
Refuses lines faults.TooLong = (v : NamedLines) × Stands lines v × (MAX_LINES < length v.lines)
Refuses lines faults.NoReturn = (v : NamedLines) × Stands lines v × (length v.lines ≤ MAX_LINES)
    × (ends_at_ret v.lines ≡ false)
Refuses lines faults.Memory = Unit {0}
