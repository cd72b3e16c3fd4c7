use Rattle.std.proofs.Common.{◌≡◌, ◌++◌, ◌∷◌, [], true, sym, subst, ap, ◌∙◌, rules, arith}
use Rattle.std.specs.Prelude.{is_some, List}
use Rattle.std.proofs.lemmas.Bool.{ne_eqb}
use Rattle.cop_rta.specs.declared.streams.Stream.{Stream}
use Rattle.cop_rta.specs.Test.{sync_id}
use Rattle.cop_bus.specs.declared.steps.Step.TheVariants.{End}
use Rattle.cop_watch.specs.declared.bus.Bus.TheVariants.{Idle, Sending}
use Rattle.cop_watch.specs.Watching.{Knows}
use Rattle.cop_bus.specs.Judge.{stream_of}
use Rattle.cop_bus.proofs.Appended.{length-one}
use Rattle.cop_watch.proofs.Taken.{ended-other, ended-sync}
use Rattle.cop_watch.proofs.watching.Watch.take_end.Goals as goal

pub returns-then-id-eq-SYNC-clause-all : goal.returns-then-id-eq-SYNC-clause-all
returns-then-id-eq-SYNC-clause-all c = λ is tau streams steps h.
    let w = c.args.self.now in
    let m = c.may_end.ensures (search rules) in
    let its : c.args.id ≡ sync_id = c.if-id-eq-SYNC.true in
    record {
      ticks = h.ticks;
      set = h.set;
      numbered = (let n = h.numbered in let l = length-one steps (End c.args.id c.args.at) in omega (arith, n, l));
      knows = subst (λ n. Knows tau streams (steps ++ End n c.args.at ∷ []) Idle c.args.at 0 w.last.items w.marks.items c.end_first.new.syncs c.end_first.new.events.items w.rings.items w.waiting w.sent) (sym its)
          (ended-sync tau streams steps w.bus w.at w.rank w.last.items w.marks.items w.syncs w.events.items w.rings.items w.waiting w.sent h.knows c.args.at (m.sending ∙ ap (λ n. Sending n c.args.at) its) m.order
          (subst (λ (ks : List Stream). is_some (stream_of ks sync_id) ≡ true) h.set (subst (λ n. is_some (stream_of w.streams.now n) ≡ true) its m.known)) c.end_first.new.events.items c.end_first.new.syncs (c.end_first.ensures (c.all_or_part.ensures.all is)));
    }

pub returns-clause-all : goal.returns-clause-all
returns-clause-all c = λ is tau streams steps h.
    let w = c.args.self.now in
    let m = c.may_end.ensures (search rules) in
    record {
      ticks = h.ticks;
      set = h.set;
      numbered = (let n = h.numbered in let l = length-one steps (End c.args.id c.args.at) in omega (arith, n, l));
      knows = ended-other tau streams steps w.bus w.at w.rank w.last.items w.marks.items w.syncs w.events.items w.rings.items w.waiting w.sent h.knows c.args.id c.args.at m.sending m.order
          (subst (λ (ks : List Stream). is_some (stream_of ks c.args.id) ≡ true) h.set m.known) (ne_eqb c.args.id 128 c.if-id-eq-SYNC.false);
    }
