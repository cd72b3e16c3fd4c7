use Rattle.cop_rta.specs.Rates.{RatedSet}
use Rattle.std.proofs.Common.{ap, length, arith}
use Rattle.cop_cert.proofs.RisingLemmas.{all_of}
use Rattle.cop_cert.proofs.ShortLemmas.{short_by_flags}
use Rattle.cop_cert.proofs.shortening.short_members.Goals as goal

pub short_flagged-requires-clause-inside : goal.short_flagged-requires-clause-inside
short_flagged-requires-clause-inside c k d below =
    omega (arith, all_of c.args.pdos c.args.members.now c.requires.inside k d below, c.requires.count, ap (λ (a : RatedSet). length a.streams) c.new.ensures)

pub returns : goal.returns
returns c =
    short_by_flags c.args.bound c.args.rate c.args.set.now c.args.pdos c.args.members.now c.flag_trial.new.out c.short_flagged.result
    (λ k. rw c.streams-streams.ensures.items at (c.flag_trial.ensures k))
    (rw c.new.ensures at c.short_flagged.ensures)
