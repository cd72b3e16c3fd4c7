use Rattle.cop_rta.specs.Test.{is_flagged}
use Rattle.cop_cert.proofs.MadeLemmas.{fail_iff}
use Rattle.cop_cert.proofs.making.fail_together.Goals as goal

pub returns : goal.returns
returns c =
    fail_iff c.args.bound c.args.set.now c.args.pdos c.args.rate c.args.members.now (is_flagged c.flag_trial_of.new.out) c.all_fail.result
    (λ k. rw c.streams-streams.ensures.items at (c.flag_trial_of.ensures k))
    (c.rise.ensures.0 c.if-not-rise.false)
    (rw c.new.ensures at c.all_fail.ensures)
