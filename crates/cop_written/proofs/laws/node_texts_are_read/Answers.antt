use Rattle.cop_written.proofs.NodeLemmas.{nodes_are_read}
use Rattle.cop_written.proofs.laws.node_texts_are_read.Goals as goal

pub returns : goal.returns
returns c = λ devices frames some all each. nodes_are_read devices frames some all each
