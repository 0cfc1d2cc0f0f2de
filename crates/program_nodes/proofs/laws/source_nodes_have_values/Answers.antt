-- Along the operations, and then by the place of each output word.
use Rattle.program_nodes.proofs.ProgramNodes.{value_node}
use Rattle.program_nodes.proofs.SourceOutputs.{outputs_words}
use Rattle.program_nodes.proofs.SourceValues.{source_words}
use Rattle.program_nodes.proofs.laws.source_nodes_have_values.Goals as goal

pub returns-clause-values : goal.returns-clause-values
returns-clause-values c = source_words

pub returns-clause-outputs : goal.returns-clause-outputs
returns-clause-outputs c = outputs_words

pub returns-clause-nodes : goal.returns-clause-nodes
returns-clause-nodes c = value_node
