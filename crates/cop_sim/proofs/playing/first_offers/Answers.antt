use Rattle.std.proofs.Common.{◌≡◌, ◌+◌, ◌∙◌, List, Option, None, false, refl, sym, ap, subst, arith}
use Rattle.cop_sim.specs.declared.behaviours.Offer.{Offer}
use Rattle.cop_rta.specs.declared.streams.Stream.{Stream}
use Rattle.cop_sim.specs.declared.faults.SimFault.TheVariants.{Memory}
use Rattle.cop_sim.specs.Cues.{from_of}
use Rattle.cop_sim.specs.Play.{obeys}
use Rattle.cop_sim.specs.Seats.{answer_of}
use Rattle.cop_sim.specs.Stages.{first_cue, AreFirst}
use Rattle.cop_sim.proofs.Beginning.{first-more, err-if, first-asked}
use Rattle.cop_sim.proofs.TurnLemmas.{same_stream}
use Rattle.cop_sim.proofs.playing.first_offers.Goals as goal

pub loop-i-preserved : goal.loop-i-preserved
loop-i-preserved g c =
    subst (λ (next : List (Option Offer)). AreFirst g.B.Behaviour.offer g.B.Behaviour.agrees c.args.until c.args.streams.now c.args.behaviours.now.items c.ask.new.behaviours.items next (c.loop-i.i + 1)) (sym c.in_ok-push-in-Ok.ensures.ok)
    (first-more g.B.Behaviour.offer g.B.Behaviour.agrees c.args.until c.args.streams.now c.args.behaviours.now.items c.loop-i.behaviours.items c.ask.new.behaviours.items c.loop-i.next.items c.loop-i.i c.index-streams-i.result c.in-Ok.offer
    c.loop-i.invariant (omega (arith, c.loop-i-test.true, c.requires.count)) c.index-streams-i.is
    (first-asked g.B.Behaviour.offer g.B.Behaviour.agrees c.args.until c.index-streams-i.result c.first_cue-cue.result c.first_cue-cue.ensures c.loop-i.behaviours.items c.ask.new.behaviours.items c.loop-i.i c.in-Ok.offer c.ask.ensures.asked c.in-Ok.ensures.answer c.in-Ok.ensures.obeys))

pub returns-in_err-push-in-Ok-clause-fault : goal.returns-in_err-push-in-Ok-clause-fault
returns-in_err-push-in-Ok-clause-fault g c = err-if c.from_residual.result _ Memory c.from_residual.ensures.1 tt

pub returns-in-Err-clause-fault : goal.returns-in-Err-clause-fault
returns-in-Err-clause-fault g c = (
  c.loop-i-test.true,
  refl,
  λ k b e f. (let s = same_stream c.args.streams.now c.loop-i.i c.index-streams-i.result k c.index-streams-i.is e in
      let cue = c.first_cue-cue.ensures ∙ ap first_cue s in (
        c.in-Err.field-0,
        ap (λ u. answer_of g.B.Behaviour.offer c.args.until u None b) (sym cue) ∙ c.in-Err.ensures.fault b (c.loop-i.invariant.rest c.loop-i.i (omega arith) ∙ f),
        ap (λ u. obeys k None (from_of u c.in-Err.field-0) c.in-Err.field-0) (sym cue) ∙ subst (λ (v : Stream). obeys v None (from_of c.first_cue-cue.result c.in-Err.field-0) c.in-Err.field-0 ≡ false) s c.in-Err.ensures.breaks,
      )),
)
