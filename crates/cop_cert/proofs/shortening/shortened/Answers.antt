use Rattle.cop_cert.proofs.ShortLemmas.{holds_inside, cause_holds}
use Rattle.cop_cert.proofs.shortening.shortened.Goals as goal

pub short_cause-requires-clause-inside : goal.short_cause-requires-clause-inside
short_cause-requires-clause-inside c = holds_inside c.args.refusal.now.rate c.args.set.now c.args.pdos c.args.refusal.now.cause c.requires.holds

pub returns-clause-checks : goal.returns-clause-checks
returns-clause-checks c = cause_holds c.args.refusal.now.rate c.args.set.now c.args.pdos c.args.refusal.now.cause c.in_ok-cause.cause c.in_ok-cause.ensures c.requires.holds
