-- The numbers that were written so far.
use Rattle.std.proofs.Common.{◌≡◌, ◌<◌, ◌^◌, ◌++◌, take, string_bytes}
use Rattle.std.specs.List.{AllByRecursion}
use Rattle.journal_text.specs.Text.{seeds_text}
use Rattle.journal_text.proofs.writing.push_list.Given as goal

-- the numbers so far stand behind what was there, with commas between them
abbrev pub invariant-loop-index : goal.invariant-loop-index
invariant-loop-index l = record {
  text : string_bytes l.text ≡ string_bytes l.fn.text ++ seeds_text (take l.index l.seeds);
  small : AllByRecursion (λ seed. seed < 2 ^ 64) (take l.index l.seeds);
}
