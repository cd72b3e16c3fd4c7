use Rattle.std.proofs.Common.{refl, false}
use Rattle.std.proofs.lemmas.Bool.{both_ways}
use Rattle.cop_cert.proofs.FrameLemmas.{no_refusal}
use Rattle.cop_cert.proofs.checking.is_sync_refusal.Goals as goal

pub returns-in-None : goal.returns-in-None
returns-in-None c = (
  λ t. absurd (both_ways false refl t),
  λ r. absurd (no_refusal c.args.rate c.args.set.now c.args.pdos c.in-Some.sync c.flag_fixed.new.out c.in-Some.ensures.0 c.in-Some.ensures.1
      (λ k. rw c.streams-streams.ensures.items at (c.flag_fixed.ensures k)) c.args.busy.now (rw c.new.ensures at c.in-None.ensures) r),
)
