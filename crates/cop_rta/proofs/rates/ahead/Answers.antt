use Rattle.std.proofs.Common.{sym}
use Rattle.cop_rta.proofs.SyncLemmas.{ahead_is, ahead_none, ahead_small}
use Rattle.cop_rta.proofs.rates.ahead.Goals as goal

pub returns-in-Some-clause-value : goal.returns-in-Some-clause-value
returns-in-Some-clause-value c = sym (ahead_is c.args.set.now c.args.rate c.in-Some.response (sym c.in-Some.ensures))

pub returns-in-Some-clause-most : goal.returns-in-Some-clause-most
returns-in-Some-clause-most c = rw (ahead_is c.args.set.now c.args.rate c.in-Some.response (sym c.in-Some.ensures)) at (ahead_small c.args.set.now c.args.rate)

pub returns-in-None-clause-value : goal.returns-in-None-clause-value
returns-in-None-clause-value c = sym (ahead_none c.args.set.now c.args.rate (sym c.in-None.ensures))
