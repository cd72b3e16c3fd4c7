use Rattle.cop_cert.specs.Assignments.{id_at}
use Rattle.cop_cert.specs.Causes.{kept}
use Rattle.cop_cert.specs.Evidence.{is_member}
use Rattle.cop_cert.specs.Sets.{is_in_trial}
use Rattle.cop_cert.proofs.CheckLemmas.{evidence_iff, frame_flags}
use Rattle.cop_cert.proofs.checking.fails_below.Goals as goal

pub returns : goal.returns
returns c =
    let members = kept c.args.pdos (is_member c.args.up.now) in
    evidence_iff c.args.rate c.args.set.now c.flag_kept.new.out (is_in_trial (id_at c.args.set.now c.args.frame) c.args.set.now c.args.pdos members) c.args.frame c.args.evidence.now c.has_evidence.result
    (frame_flags c.args.set.now c.args.pdos c.args.frame c.index-streams-frame.result c.flag_kept.new.out members c.requires.frame (λ k. rw c.streams-streams.ensures.items at (c.flag_kept.ensures k)))
    (rw c.new-busy.ensures at c.has_evidence.ensures)
