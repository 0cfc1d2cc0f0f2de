-- The lengths of the blanks and of the first token lie within the text.
use Rattle.std.proofs.Common.{◌≡◌, length, arith}
use Rattle.std.proofs.lemmas.Grind.{common_steps}
use Rattle.asm_tokens.proofs.FirstToken.{no_token}
use Rattle.asm_tokens.proofs.lexing.next.Goals as goal

pub returns-then-is_empty : goal.returns-then-is_empty
returns-then-is_empty c =
    let none : length c.split_at.result.1.now ≡ 0 = grind (arith, common_steps) in
    no_token c.args.text.now (rw (← c.blank_len-blanks.ensures.value, ← c.split_at.ensures.back) none)
