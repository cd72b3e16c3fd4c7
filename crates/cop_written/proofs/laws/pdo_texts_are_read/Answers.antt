use Rattle.cop_written.proofs.PdoLemmas.{pdos_are_read}
use Rattle.cop_written.proofs.laws.pdo_texts_are_read.Goals as goal

pub returns : goal.returns
returns c = λ rows few all. pdos_are_read rows few all
