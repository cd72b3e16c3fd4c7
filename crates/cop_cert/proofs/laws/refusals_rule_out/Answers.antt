use Rattle.cop_cert.proofs.CauseLemmas.{refusal_rules_out}
use Rattle.cop_cert.proofs.laws.refusals_rule_out.Goals as goal

pub returns : goal.returns
returns c = refusal_rules_out
