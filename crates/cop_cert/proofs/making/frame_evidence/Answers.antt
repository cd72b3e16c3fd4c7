use Rattle.std.proofs.Common.{subst}
use Rattle.cop_rta.specs.Test.{StreamPlace, Passes}
use Rattle.cop_cert.specs.Assignments.{id_at}
use Rattle.cop_cert.specs.Causes.{kept}
use Rattle.cop_cert.specs.Evidence.{is_listed}
use Rattle.cop_cert.specs.Sets.{is_in_trial}
use Rattle.cop_cert.proofs.CheckLemmas.{place_is, frame_flags}
use Rattle.cop_cert.proofs.MadeLemmas.{evidence_by_flags}
use Rattle.cop_cert.proofs.making.frame_evidence.Goals as goal

pub evidence_of-requires-clause-fails : goal.evidence_of-requires-clause-fails
evidence_of-requires-clause-fails c pass =
    let members = kept c.args.pdos (is_listed c.args.up.now) in
    let same = frame_flags c.args.set.now c.args.pdos c.args.frame c.index-streams-frame.result c.flag_kept_of.new.out members c.requires.frame (λ k. rw c.streams-streams.ensures.items at (c.flag_kept_of.ensures k)) in
    c.requires.fails
    (subst (λ (p : StreamPlace). Passes p)
    (place_is c.args.rate c.args.set.now c.flag_kept_of.new.out (is_in_trial (id_at c.args.set.now c.args.frame) c.args.set.now c.args.pdos members) c.args.frame same)
    (rw c.new-busy.ensures at (c.verdict.ensures.pass.0 pass)))

pub returns : goal.returns
returns c =
    let members = kept c.args.pdos (is_listed c.args.up.now) in
    evidence_by_flags c.args.set.now c.args.rate c.flag_kept_of.new.out (is_in_trial (id_at c.args.set.now c.args.frame) c.args.set.now c.args.pdos members) c.args.frame c.evidence_of.result
    (frame_flags c.args.set.now c.args.pdos c.args.frame c.index-streams-frame.result c.flag_kept_of.new.out members c.requires.frame (λ k. rw c.streams-streams.ensures.items at (c.flag_kept_of.ensures k)))
    (rw c.new-busy.ensures at c.evidence_of.ensures)
