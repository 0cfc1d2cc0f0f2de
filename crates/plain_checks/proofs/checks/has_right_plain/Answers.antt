-- A program that comes from parts has plain listings that are right.
use Rattle.plain_checks.proofs.Final.{all_right}
use Rattle.plain_checks.proofs.checks.has_right_plain.Goals as goal

pub returns : goal.returns
returns c = all_right _ c.comes_from_parts.ensures
