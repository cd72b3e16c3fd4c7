use Rattle.cop_start.proofs.CompleteLemmas.{sender_has_row}
use Rattle.cop_start.proofs.laws.each_sender_has_a_row.Goals as goal

pub returns : goal.returns
returns c = λ devices place tpdo d sources few e low high. sender_has_row devices place tpdo d sources few e low high
