use Rattle.cop_rta.specs.Rates.{RatedSet}
use Rattle.std.proofs.Common.{ap, length, arith, false, refl}
use Rattle.std.proofs.lemmas.Bool.{both_ways}
use Rattle.cop_cert.proofs.MemberLemmas.{members_flagged}
use Rattle.cop_cert.proofs.CheckLemmas.{shown_iff}
use Rattle.cop_cert.proofs.RisingLemmas.{all_of}
use Rattle.cop_cert.proofs.checking.are_failing.Goals as goal

pub flag_trial-requires-clause-inside : goal.flag_trial-requires-clause-inside
flag_trial-requires-clause-inside c = (c.rise.ensures.0 c.if-not-rise.false).1

pub have_evidence-requires-clause-inside : goal.have_evidence-requires-clause-inside
have_evidence-requires-clause-inside c k d below =
    omega (arith, all_of c.args.pdos c.args.members.now (c.rise.ensures.0 c.if-not-rise.false).1 k d below, c.requires, ap (λ (a : RatedSet). length a.streams) c.new.ensures)

pub have_evidence-requires-clause-flagged : goal.have_evidence-requires-clause-flagged
have_evidence-requires-clause-flagged c =
    members_flagged c.args.bound c.args.set.now c.args.pdos c.args.members.now c.flag_trial.new.out
    (λ k. rw c.streams-streams.ensures.items at (c.flag_trial.ensures k))
    (c.rise.ensures.0 c.if-not-rise.false).1

pub returns-then-not-rise : goal.returns-then-not-rise
returns-then-not-rise c = (
  λ t. absurd (both_ways false refl t),
  λ r. absurd (both_ways c.rise.result c.if-not-rise.true (c.rise.ensures.1 (r.rise, r.inside))),
)

pub returns : goal.returns
returns c =
    shown_iff c.args.bound c.args.rate c.args.set.now c.args.pdos c.args.members.now c.flag_trial.new.out c.have_evidence.result
    (λ k. rw c.streams-streams.ensures.items at (c.flag_trial.ensures k))
    (c.rise.ensures.0 c.if-not-rise.false)
    (rw c.new.ensures at c.have_evidence.ensures)
