-- The text of a journal, line by line. Parts of a line are parted by one space, numbers are decimal without leading
-- zeros, and each line ends with a line feed.
use Rattle.std.specs.Prelude.{ℕ, Bool, true, false, List, [], ◌∷◌, ◌++◌, map, codes, decimal}
use Rattle.std.specs.List.{concat, join_with_byte}
use Rattle.hex.specs.Hex.{encode_lower}
use Rattle.mutations.specs.declared.mutation.Draw.{Draw}
use Rattle.mutations.specs.declared.mutation.Draw.TheVariants.{One, Two}
use Rattle.mutations.specs.declared.mutation.Mutation.{Mutation}
use Rattle.mutations.specs.declared.mutation.Mutation.TheVariants.{Move, Template, Swap, Load, Chain}
use Rattle.journal_rules.specs.declared.journal.Entry.{Entry}
use Rattle.journal_rules.specs.declared.journal.Journal.{Journal}

-- a number and the byte behind it
abbrev pub closed : ℕ → ℕ → List ℕ
closed byte n = decimal n ++ byte ∷ []

-- a number and the space behind it
abbrev pub spaced : ℕ → List ℕ
spaced n = closed 32 n

-- a number at the end of a line
abbrev pub ended : ℕ → List ℕ
ended n = closed 10 n

-- ---- the first five lines

-- a journal of the draw One is version 1, and of the draw Two version 2
abbrev pub version_of : Draw → ℕ
version_of One = 1
version_of Two = 2

unfoldable pub first_line : ℕ → List ℕ
first_line version = codes "cryptopt-journal " ++ ended version

unfoldable pub program_line : List ℕ → List ℕ
program_line digest = codes "program " ++ (encode_lower digest ++ codes "\n")

-- numbers with commas between them
abbrev pub seeds_text : List ℕ → List ℕ
seeds_text seeds = join_with_byte 44 (map decimal seeds)

unfoldable pub seeds_line : List ℕ → List ℕ
seeds_line seeds = codes "seeds " ++ (seeds_text seeds ++ codes "\n")

unfoldable pub turns_line : ℕ → List ℕ
turns_line turns = codes "turns " ++ ended turns

unfoldable pub opening_line : ℕ → List ℕ
opening_line cost = codes "opening " ++ ended cost

-- ---- the line of an entry

unfoldable pub mutation_text : Mutation → List ℕ
mutation_text (Move slot to) = codes "move " ++ (spaced slot ++ spaced to)
mutation_text (Template slot number) = codes "template " ++ (spaced slot ++ spaced number)
mutation_text (Swap slot) = codes "swap " ++ spaced slot
mutation_text (Load slot) = codes "load " ++ spaced slot
mutation_text (Chain slot number) = codes "chain " ++ (spaced slot ++ spaced number)

abbrev pub mark_text : Bool → List ℕ
mark_text true = codes "plain\n"
mark_text false = codes "fast\n"

-- where the entry stands: its lane, its turn, and how many entries its lane had seen
unfoldable pub place_text : Entry → List ℕ
place_text e = codes "entry " ++ (spaced e.lane ++ (spaced e.turn ++ spaced e.seen))

unfoldable pub entry_line : Entry → List ℕ
entry_line e = place_text e ++ (mutation_text e.mutation ++ (spaced e.cost ++ mark_text e.plain))

-- ---- the whole text

abbrev pub end_line : List ℕ
end_line = codes "end\n"

-- the lines of a journal, each with its line feed
abbrev pub lines_of : Journal → List (List ℕ)
lines_of j = first_line (version_of j.draw) ∷ program_line j.digest ∷ seeds_line j.seeds ∷ turns_line j.turns
    ∷ opening_line j.opening ∷ (map entry_line j.entries ++ end_line ∷ [])

unfoldable pub text_of : Journal → List ℕ
text_of j = concat (lines_of j)
