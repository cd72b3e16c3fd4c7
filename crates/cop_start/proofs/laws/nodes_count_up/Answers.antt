use Rattle.cop_start.proofs.StartLemmas.{next_numbered, taken_next, added_numbered, node_numbered}
use Rattle.cop_start.proofs.laws.nodes_count_up.Goals as goal

pub returns-clause-next : goal.returns-clause-next
returns-clause-next c = λ devices h. next_numbered devices h

pub returns-clause-taken : goal.returns-clause-taken
returns-clause-taken c = λ devices node file e. taken_next devices node file e

pub returns-clause-added : goal.returns-clause-added
returns-clause-added c = λ devices node file dict h e. added_numbered devices node file dict h e

pub returns-clause-nodes : goal.returns-clause-nodes
returns-clause-nodes c = λ devices place d h e. node_numbered devices place d h e
