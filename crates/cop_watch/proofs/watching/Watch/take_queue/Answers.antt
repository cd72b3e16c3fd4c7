use Rattle.std.proofs.Common.{◌≡◌, ◌+◌, ◌*◌, ◌++◌, ◌∷◌, [], ℕ, Some, refl, subst, sym, ap, ◌∙◌, slice_set, arith}
use Rattle.std.specs.Prelude.{List}
use Rattle.cop_rta.specs.declared.streams.Stream.{Stream}
use Rattle.cop_bus.specs.declared.steps.Step.TheVariants.{Queue}
use Rattle.cop_bus.specs.Judge.{stream_of}
use Rattle.cop_bus.proofs.Appended.{length-one}
use Rattle.cop_watch.specs.declared.bus.Bus.{Bus}
use Rattle.cop_watch.specs.declared.bus.Bus.TheVariants.{Sending}
use Rattle.cop_watch.specs.Syncs.{events_with}
use Rattle.cop_watch.specs.Watching.{IsOpen, Knows}
use Rattle.cop_watch.proofs.Taken.{queued-behind, queued-joined}
use Rattle.cop_watch.proofs.watching.Watch.take_queue.Goals as goal

pub returns-in-Some-joined-clause-all : goal.returns-in-Some-joined-clause-all
returns-in-Some-joined-clause-all c = λ is tau streams steps h.
    let w = c.args.self.now in
    let id = c.args.id in
    let at = c.args.at in
    let mark = c.in-Some.mark in
    let m = c.in-Some.ensures in
    let its = subst (λ (ks : List Stream). stream_of ks id ≡ Some m.stream) h.set m.its in
    let open_to = subst (λ (n : ℕ). IsOpen n w.at w.waiting w.bus at) h.ticks m.open_to in
    let known = queued-joined tau streams steps w.bus w.at w.rank w.last.items w.marks.items w.syncs w.events.items w.rings.items w.waiting w.sent h.knows id at c.args.event c.args.frame.now m.stream its mark m.obeying m.order open_to
    m.last_there m.mark_there m.ring_there c.in-Some-joined.start c.in-Some-joined.ensures.some in
    let sends : Sending id (c.in-Some-joined.start + c.args.frame.now.bits * tau) ≡ c.sending-self.result = ap (λ n. Sending id (c.in-Some-joined.start + c.args.frame.now.bits * n)) (sym h.ticks) ∙ sym c.sending-self.ensures in
    let kept : c.keep_event.new.events.items ≡ events_with id c.args.event w.events.items = c.if-not-keep_event.ensures refl in
    let After : Bus → ℕ → ℕ → List ℕ → Type 0 = λ b n k es. Knows tau streams (steps ++ Queue id at c.args.event c.args.frame.now ∷ []) b at 1 (slice_set w.last.items n (Some c.args.event)) (slice_set w.marks.items n k) w.syncs es w.rings.items w.waiting w.sent in
    record {
      ticks = h.ticks;
      set = h.set;
      numbered = (let n = h.numbered in let l = length-one steps (Queue id at c.args.event c.args.frame.now) in omega (arith, n, l));
      knows = subst (λ b. After b c.from-place.result mark c.keep_event.new.events.items) sends
          (subst (λ n. After (Sending id (c.in-Some-joined.start + c.args.frame.now.bits * tau)) n mark c.keep_event.new.events.items) (sym c.from-place.ensures)
          (subst (After (Sending id (c.in-Some-joined.start + c.args.frame.now.bits * tau)) id mark) (sym kept) known));
    }

pub returns-in-None-joined-clause-all : goal.returns-in-None-joined-clause-all
returns-in-None-joined-clause-all c = λ is tau streams steps h.
    let w = c.args.self.now in
    let id = c.args.id in
    let at = c.args.at in
    let mark = c.in-Some.mark in
    let m = c.in-Some.ensures in
    let its = subst (λ (ks : List Stream). stream_of ks id ≡ Some m.stream) h.set m.its in
    let open_to = subst (λ (n : ℕ). IsOpen n w.at w.waiting w.bus at) h.ticks m.open_to in
    let known = queued-behind tau streams steps w.bus w.at w.rank w.last.items w.marks.items w.syncs w.events.items w.rings.items w.waiting w.sent h.knows id at c.args.event c.args.frame.now m.stream its mark m.obeying m.order open_to
    m.last_there m.mark_there m.ring_there c.wait.new.rings.items c.wait.new.waiting c.in-None-joined.ensures.none (c.wait.ensures (c.all_or_part.ensures.all is)) in
    let kept : c.keep_event.new.events.items ≡ events_with id c.args.event w.events.items = c.if-not-keep_event.ensures refl in
    let After : ℕ → ℕ → List ℕ → Type 0 = λ n k es. Knows tau streams (steps ++ Queue id at c.args.event c.args.frame.now ∷ []) w.bus at 1 (slice_set w.last.items n (Some c.args.event)) (slice_set w.marks.items n k) w.syncs es c.wait.new.rings.items c.wait.new.waiting w.sent in
    record {
      ticks = h.ticks;
      set = h.set;
      numbered = (let n = h.numbered in let l = length-one steps (Queue id at c.args.event c.args.frame.now) in omega (arith, n, l));
      knows = subst (λ n. After n mark c.keep_event.new.events.items) (sym c.from-place.ensures) (subst (After id mark) (sym kept) known);
    }
