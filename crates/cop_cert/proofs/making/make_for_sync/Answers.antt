use Rattle.cop_rta.specs.Test.{busy_at, horizon}
use Rattle.cop_cert.specs.Causes.{sync_trial}
use Rattle.cop_cert.specs.Chains.{EndsAbove}
use Rattle.cop_cert.proofs.MadeLemmas.{sync_made, sync_holds, sync_short}
use Rattle.cop_cert.proofs.making.make_for_sync.Goals as goal

chain_made : (c : goal.In_ok-busy) → EndsAbove (busy_at (sync_trial c.args.rate c.args.set.now c.args.pdos c.in-Some.sync)) 1 horizon c.in_ok-busy.busy
chain_made c =
    sync_made c.args.set.now c.args.pdos c.args.rate c.flag_fixed.new.out c.in-Some.sync c.in_ok-busy.busy c.requires.long c.in-Some.ensures.1
    (λ k. rw c.streams-streams.ensures.items at (c.flag_fixed.ensures k)) (rw c.new.ensures at c.in_ok-busy.ensures)

pub returns-clause-made : goal.returns-clause-made
returns-clause-made c = (c.in-Some.sync, c.in-Some.ensures.1, chain_made c)

pub returns-clause-short : goal.returns-clause-short
returns-clause-short c = sync_short c.args.set.now c.args.pdos c.args.rate c.in-Some.sync c.in_ok-busy.busy c.in-Some.ensures.1 (chain_made c)

pub returns-clause-checks : goal.returns-clause-checks
returns-clause-checks c = sync_holds c.args.set.now c.args.pdos c.args.rate c.in-Some.sync c.in_ok-busy.busy c.requires.long c.in-Some.ensures.1 (chain_made c)
