use Rattle.std.proofs.Common.{sym, arith}
use Rattle.cop_log.proofs.Named.{place_far}
use Rattle.cop_log.proofs.watcher.Watcher.place_of.Goals as goal

pub returns-in-Err-clause-place : goal.returns-in-Err-clause-place
returns-in-Err-clause-place c = sym (place_far c.args.self.now.streams.now c.args.id (let e = c.in-Err.ensures in omega (arith, e)))
