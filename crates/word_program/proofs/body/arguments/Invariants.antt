-- What is found in all arguments is found in those that are left, behind the operands so far.
use Rattle.std.proofs.Common.{◌≡◌, ◌++◌, drop, map}
use Rattle.word_program.specs.Rules.{argument_fault, operand_of, operand_or}
use Rattle.word_program.specs.Walk.{walk}
use Rattle.word_program.proofs.body.arguments.Given as goal

abbrev pub invariant-loop-text : goal.invariant-loop-text
invariant-loop-text l = record {
  count : l.place ≡ l.text-index;
  fault : walk (argument_fault l.scope l.item l.kind) (λ u text. u) tt 0 l.texts ≡ walk
      (argument_fault l.scope l.item l.kind) (λ u text. u) tt l.place (drop l.text-index l.texts);
  value : map (λ text. operand_or (operand_of l.scope text)) l.texts ≡ l.operands.items
      ++ map (λ text. operand_or (operand_of l.scope text)) (drop l.text-index l.texts);
}
