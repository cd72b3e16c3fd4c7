use Rattle.cop_cert.proofs.CauseLemmas.{refusal_rules_out}
use Rattle.cop_cert.proofs.checking.check.Goals as goal

pub returns-clause-rules_out : goal.returns-clause-rules_out
returns-clause-rules_out c t = refusal_rules_out c.args.set.now c.args.pdos c.args.refusal.now c.requires (c.is_cause.ensures.0 t)
