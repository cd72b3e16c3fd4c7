use Rattle.std.proofs.Common.{◌≡◌, ◌+◌, ◌*◌, ◌++◌, ◌∷◌, [], true, subst, sym, ap, ◌∙◌, rules, arith}
use Rattle.std.specs.Prelude.{is_some, List}
use Rattle.cop_rta.specs.declared.streams.Stream.{Stream}
use Rattle.cop_bus.specs.declared.steps.Step.TheVariants.{Start}
use Rattle.cop_bus.specs.Judge.{stream_of}
use Rattle.cop_bus.proofs.Appended.{length-one}
use Rattle.cop_watch.specs.declared.bus.Bus.{Bus}
use Rattle.cop_watch.specs.declared.bus.Bus.TheVariants.{Sending}
use Rattle.cop_watch.specs.Watching.{Knows}
use Rattle.cop_watch.proofs.Taken.{started-first, started-joiner}
use Rattle.cop_watch.proofs.watching.Watch.take_start.Goals as goal
use Rattle.cop_watch.proofs.watching.Watch.take_start.Goals.{in-Some, in-None}

pub returns-clause-all : goal.returns-clause-all
returns-clause-all c = λ is tau streams steps h.
    let w = c.args.self.now in
    let id = c.args.id in
    let at = c.args.at in
    let m = c.may_start.ensures (search rules) in
    let known = subst (λ (ks : List Stream). is_some (stream_of ks id) ≡ true) h.set m.known in
    let After : Bus → Type 0 = λ b. Knows tau streams (steps ++ Start id at ∷ []) b at 2 w.last.items w.marks.items w.syncs w.events.items c.take_first.new.rings.items c.take_first.new.waiting (w.sent + 1) in
    record {
      ticks = h.ticks;
      set = h.set;
      numbered = (let n = h.numbered in let l = length-one steps (Start id at) in omega (arith, n, l));
      knows = elim c.match-take_first.branch [
        | in-Some v ↦ (let bits = v.in-Some.bits in
            let sends : Sending id (at + bits * tau) ≡ c.match-take_first.self = ap (λ n. Sending id (at + bits * n)) (sym h.ticks) ∙ sym v.sending-self.ensures ∙ sym v.self-is in
            subst After sends (started-first tau streams steps w.bus w.at w.rank w.last.items w.marks.items w.syncs w.events.items w.rings.items w.waiting w.sent h.knows id at m.idle m.by_now m.order m.passed known
            bits c.take_first.new.rings.items c.take_first.new.waiting m.ring_there v.in-Some.ensures.some))
        | in-None v ↦ subst After (sym v.self-is) (started-joiner tau streams steps w.bus w.at w.rank w.last.items w.marks.items w.syncs w.events.items w.rings.items w.waiting w.sent h.knows id at m.idle m.by_now m.order m.passed known
            c.take_first.new.rings.items c.take_first.new.waiting v.in-None.ensures.none)
      ];
    }
