use Rattle.cop_cert.proofs.RangeLemmas.{set_rules_out_ranges}
use Rattle.cop_cert.proofs.laws.refusal_sets_rule_out.Goals as goal

pub returns : goal.returns
returns c = set_rules_out_ranges
