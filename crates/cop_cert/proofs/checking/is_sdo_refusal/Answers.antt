use Rattle.std.proofs.Common.{refl, false}
use Rattle.std.proofs.lemmas.Bool.{both_ways}
use Rattle.cop_cert.proofs.FrameLemmas.{sdo_refusal_iff}
use Rattle.cop_cert.proofs.checking.is_sdo_refusal.Goals as goal

pub returns-then-is_sync_long : goal.returns-then-is_sync_long
returns-then-is_sync_long c = (λ t. absurd (both_ways false refl t), λ r. absurd (r.not_long (c.is_sync_long.ensures.0 c.if-is_sync_long.true)))

pub returns-then-not-may_be_up : goal.returns-then-not-may_be_up
returns-then-not-may_be_up c = (λ t. absurd (both_ways false refl t), λ r. absurd (both_ways c.may_be_up.result c.if-not-may_be_up.true (c.may_be_up.ensures.1 r.none)))

pub returns-in_default : goal.returns-in_default
returns-in_default c = (λ t. absurd (both_ways false refl t), λ r. absurd (c.in_default.ensures r.frame r.tested r.its))

pub returns-then-not-are_failing : goal.returns-then-not-are_failing
returns-then-not-are_failing c = (λ t. absurd (both_ways false refl t), λ r. absurd (both_ways c.are_failing.result c.if-not-are_failing.true (c.are_failing.ensures.1 r.failing)))

pub fails_below-requires-clause-inside : goal.fails_below-requires-clause-inside
fails_below-requires-clause-inside c = (c.are_failing.ensures.0 c.if-not-are_failing.false).inside

pub returns : goal.returns
returns c =
    sdo_refusal_iff c.args.rate c.args.set.now c.args.pdos c.args.up.now c.args.id c.args.evidence.now c.in-Some.frame c.fails_below.result
    (λ long. both_ways c.is_sync_long.result c.if-is_sync_long.false (c.is_sync_long.ensures.1 long))
    (c.are_failing.ensures.0 c.if-not-are_failing.false) (c.may_be_up.ensures.0 c.if-not-may_be_up.false) c.in-Some.ensures c.fails_below.ensures
