-- The text of a journal has the journal's lines.
use Rattle.std.proofs.Common.{◌≡◌, ℕ, ◌<◌, ◌≤◌, ◌^◌, Bool, true, false, List, [], ◌∷◌, ◌++◌, map, refl, sym, ◌∙◌, ap}
use Rattle.std.proofs.Common.{arith, append_assoc, codes, decimal}
use Rattle.std.specs.List.{AllByRecursion}
use Rattle.hex.specs.Hex.{encode_lower}
use Rattle.mutations.specs.declared.mutation.Draw.{Draw}
use Rattle.mutations.specs.declared.mutation.Draw.TheVariants.{One, Two}
use Rattle.mutations.specs.declared.mutation.Mutation.{Mutation}
use Rattle.mutations.specs.declared.mutation.Mutation.TheVariants.{Move, Template, Swap, Load, Chain}
use Rattle.journal_rules.specs.declared.journal.Entry.{Entry}
use Rattle.journal_rules.specs.declared.journal.Journal.{Journal}
use Rattle.journal_text.specs.declared.limits.TheConstants.{MAX_COST, MAX_TURNS, MAX_SLOT, MAX_TEMPLATE, MAX_CHAIN}
use Rattle.journal_text.specs.Text.{spaced, ended, version_of, first_line, program_line, seeds_text, seeds_line}
use Rattle.journal_text.specs.Text.{turns_line, opening_line, mutation_text, mark_text, place_text, entry_line}
use Rattle.journal_text.specs.Text.{end_line}
use Rattle.journal_text.specs.Text.{lines_of, text_of}
use Rattle.journal_text.specs.Limits.{IsMutationWithin, IsEntryWithin, IsWithin, IsTyped}
use Rattle.journal_text.specs.Lines.{full_lines}
use Rattle.journal_text.specs.Stands.{Stands}
use Rattle.journal_text.proofs.Cuts.{lacks, lacks-append}
use Rattle.journal_text.proofs.FieldsBoth.{decimal_lacks, digest_lacks}
use Rattle.journal_text.proofs.SeedsBoth.{seeds_lack}
use Rattle.journal_text.proofs.LinesRead.{IsLine, lines_back}

-- ---- pieces of lines

spaced_lacks : (n : ℕ) → n < 2 ^ 64 → lacks 10 (spaced n) ≡ true
spaced_lacks n small = lacks-append 10 (decimal n) (32 ∷ []) (decimal_lacks 10 n (omega arith) small) refl

pair_lacks : (m n : ℕ) → m < 2 ^ 64 → n < 2 ^ 64 → lacks 10 (spaced m ++ spaced n) ≡ true
pair_lacks m n h k = lacks-append 10 (spaced m) (spaced n) (spaced_lacks m h) (spaced_lacks n k)

mutation_lacks : (draw : Draw) (m : Mutation) → IsMutationWithin draw m → lacks 10 (mutation_text m) ≡ true
unfolding mutation_text
mutation_lacks draw (Move slot to) h =
    lacks-append 10 (codes "move ") (spaced slot ++ spaced to) refl
    (pair_lacks slot to (let k : slot ≤ MAX_SLOT = h.0 in omega arith) (let k : to ≤ MAX_SLOT = h.1 in omega arith))
mutation_lacks draw (Template slot number) h =
    lacks-append 10 (codes "template ") (spaced slot ++ spaced number) refl
    (pair_lacks slot number (let k : slot ≤ MAX_SLOT = h.0 in omega arith)
    (let k : number ≤ MAX_TEMPLATE = h.1 in omega arith))
mutation_lacks draw (Swap slot) h = lacks-append 10 (codes "swap ") (spaced slot) refl (spaced_lacks slot (omega arith))
mutation_lacks draw (Load slot) h = lacks-append 10 (codes "load ") (spaced slot) refl (spaced_lacks slot (omega arith))
mutation_lacks draw (Chain slot number) h =
    lacks-append 10 (codes "chain ") (spaced slot ++ spaced number) refl
    (pair_lacks slot number (let k : slot ≤ MAX_SLOT = h.1 in omega arith)
    (let k : number ≤ MAX_CHAIN = h.3 in omega arith))

place_lacks : (draw : Draw) (e : Entry) → IsEntryWithin draw e → lacks 10 (place_text e) ≡ true
unfolding place_text
place_lacks draw e h =
    let lane : e.lane < 2 ^ 64 = (let k = h.lane in omega arith) in
    let turn : e.turn < 2 ^ 64 = (let k = h.turn in omega arith) in
    let seen : e.seen < 2 ^ 64 = (let k = h.seen in omega arith) in
    lacks-append 10 (codes "entry ") (spaced e.lane ++ (spaced e.turn ++ spaced e.seen)) refl
    (lacks-append 10 (spaced e.lane) (spaced e.turn ++ spaced e.seen) (spaced_lacks e.lane lane)
    (pair_lacks e.turn e.seen turn seen))

-- ---- lines

-- what stands before a line makes a line with it
front_line : (front line : List ℕ) → lacks 10 front ≡ true → IsLine line → IsLine (front ++ line)
front_line front line h l = record {
  word = front ++ l.word;
  is = ap (λ xs. front ++ xs) l.is ∙ sym (append_assoc front l.word (10 ∷ []));
  within = lacks-append 10 front l.word h l.within;
}

plain_line : (word : List ℕ) → lacks 10 word ≡ true → IsLine (word ++ 10 ∷ [])
plain_line word h = record { word = word; is = refl; within = h }

ended_line : (n : ℕ) → n < 2 ^ 64 → IsLine (ended n)
ended_line n small = plain_line (decimal n) (decimal_lacks 10 n (omega arith) small)

mark_line : (plain : Bool) → IsLine (mark_text plain)
mark_line true = plain_line (codes "plain") refl
mark_line false = plain_line (codes "fast") refl

is_first : (draw : Draw) → IsLine (first_line (version_of draw))
unfolding first_line
is_first One = front_line (codes "cryptopt-journal ") (ended 1) refl (ended_line 1 (omega arith))
is_first Two = front_line (codes "cryptopt-journal ") (ended 2) refl (ended_line 2 (omega arith))

is_program : (j : Journal) → IsTyped j → IsLine (program_line j.digest)
unfolding program_line
is_program j t = front_line (codes "program ") (encode_lower j.digest ++ codes "\n") refl
    (plain_line (encode_lower j.digest) (digest_lacks j.digest t.bytes))

is_seeds : (j : Journal) → IsTyped j → IsLine (seeds_line j.seeds)
unfolding seeds_line
is_seeds j t = front_line (codes "seeds ") (seeds_text j.seeds ++ codes "\n") refl
    (plain_line (seeds_text j.seeds) (seeds_lack j.seeds t.seeds))

is_turns : (n : ℕ) → n ≤ MAX_TURNS → IsLine (turns_line n)
unfolding turns_line
is_turns n few = front_line (codes "turns ") (ended n) refl (ended_line n (omega arith))

is_opening : (n : ℕ) → n ≤ MAX_COST → IsLine (opening_line n)
unfolding opening_line
is_opening n few = front_line (codes "opening ") (ended n) refl (ended_line n (omega arith))

is_entry : (draw : Draw) (e : Entry) → IsEntryWithin draw e → IsLine (entry_line e)
unfolding entry_line
is_entry draw e h =
    let cost : e.cost < 2 ^ 64 = (let k = h.cost in omega arith) in
    front_line (place_text e) (mutation_text e.mutation ++ (spaced e.cost ++ mark_text e.plain)) (place_lacks draw e h)
    (front_line (mutation_text e.mutation) (spaced e.cost ++ mark_text e.plain)
    (mutation_lacks draw e.mutation h.mutation)
    (front_line (spaced e.cost) (mark_text e.plain) (spaced_lacks e.cost cost) (mark_line e.plain)))

are_last : (draw : Draw) (es : List Entry) → AllByRecursion (IsEntryWithin draw) es
    → AllByRecursion IsLine (map entry_line es ++ end_line ∷ [])
are_last draw [] h = (plain_line (codes "end") refl, tt)
are_last draw (e ∷ es) h = (is_entry draw e h.0, are_last draw es h.1)

-- ---- the whole text

pub text_lines : (j : Journal) → IsWithin j → IsTyped j → full_lines (text_of j) ≡ lines_of j
unfolding text_of
text_lines j h t = lines_back (lines_of j) (
  is_first j.draw,
  (
    is_program j t,
    (
      is_seeds j t,
      (
        is_turns j.turns h.turns,
        (is_opening j.opening h.opening, are_last j.draw j.entries h.each),
      ),
    ),
  ),
)

pub text_stands : (j : Journal) → IsWithin j → IsTyped j → Stands (full_lines (text_of j)) j
text_stands j h t = record { spelled = text_lines j h t; within = h; typed = t }
