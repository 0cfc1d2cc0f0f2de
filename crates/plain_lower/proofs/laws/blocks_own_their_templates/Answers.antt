-- The law, from the lemma on templates.
use Rattle.plain_lower.proofs.Templates.{template_owned}
use Rattle.plain_lower.proofs.laws.blocks_own_their_templates.Goals as goal

pub returns : goal.returns
returns c = template_owned
