-- The length of the first line lies within the text, and what follows it is shorter.
use Rattle.std.proofs.Common.{◌≡◌, ◌<◌, length, arith}
use Rattle.std.proofs.lemmas.Grind.{common_steps}
use Rattle.asm_tokens.proofs.Walk.{lines_last}
use Rattle.asm_tokens.proofs.lines.next_line.Goals as goal

pub returns-then-is_empty-2-clause-line : goal.returns-then-is_empty-2-clause-line
returns-then-is_empty-2-clause-line c =
    let none : length c.split_at.result.1.now ≡ 0 = grind (arith, common_steps) in
    let some : 0 < length c.args.text.now = grind (arith, common_steps) in
    rw (c.split_at.ensures.front, c.split_at.ensures.back, c.line_len-end.ensures.value)
    (lines_last c.args.text.now (rw (← c.line_len-end.ensures.value, ← c.split_at.ensures.back) none) some)
