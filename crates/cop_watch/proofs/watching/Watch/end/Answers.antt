use Rattle.std.proofs.Common.{◌<◌, length, inl, inr, sym, ◌∙◌, arith, true≢false}
use Rattle.cop_bus.proofs.Work.{le-true}
use Rattle.cop_watch.proofs.Finished.{over-idle, over-sending, breaks-end-idle, breaks-end-sending, counted-as}
use Rattle.cop_watch.proofs.watching.Watch.end.Goals as goal
use Rattle.cop_watch.proofs.watching.Watch.end.Goals.{then-until-self-2, else-until-self-2}

pub returns-then-none_waits : goal.returns-then-none_waits
returns-then-none_waits c = λ tau streams steps h. (
  over-idle tau streams steps _ _ _ _ _ _ _ _ _ _ h.knows c.args.until c.if-until-self.false c.in-Idle.is
      (elim c.if-until-self-2.branch [
        | then-until-self-2 w ↦ inl w.if-until-self-2.true
        | else-until-self-2 w ↦ inr (w.none_waits.ensures (sym w.value-is ∙ c.if-none_waits.true))
      ]),
  h.knows.count,
)

later : (c : goal.Then-none_lower) → c.args.self.now.at < c.args.until
later c = elim c.if-until-self-2.branch [
  | then-until-self-2 w ↦ absurd (true≢false (sym (le-true c.args.until c.args.self.now.at w.if-until-self-2.true) ∙ sym w.value-is ∙ c.if-none_waits.false))
  | else-until-self-2 w ↦ w.if-until-self-2.false
]

pub returns-then-none_lower : goal.returns-then-none_lower
returns-then-none_lower c = λ tau streams steps h.
    let passed = c.none_lower.ensures c.if-none_lower.true in
    let some : 0 < length steps = (let n = h.numbered in let l = c.if-self-gt0.true in omega (arith, n, l)) in
    counted-as _ (length steps) c.args.self.now.taken 68
    (breaks-end-idle tau streams steps _ _ _ _ _ _ _ _ _ _ h.knows c.args.until c.if-until-self.false c.in-Idle.is some (later c) passed.one passed.waits) h.numbered

pub returns-then-from-end : goal.returns-then-from-end
returns-then-from-end c = λ tau streams steps h.
    let before : c.args.until < c.in-Sending.end = (let l = c.if-from-end.true in omega (arith, l, c.from.ensures)) in
    (over-sending tau streams steps _ _ _ _ _ _ _ _ _ _ h.knows c.args.until c.if-until-self.false c.in-Sending.id c.in-Sending.end c.in-Sending.is before, h.knows.count)

pub returns-else-from-end : goal.returns-else-from-end
returns-else-from-end c = λ tau streams steps h.
    counted-as _ (length steps) c.args.self.now.taken 65
    (breaks-end-sending tau streams steps _ _ _ _ _ _ _ _ _ _ h.knows c.args.until c.if-until-self.false c.in-Sending.id c.in-Sending.end c.in-Sending.is (let l = c.if-from-end.false in omega (arith, l, c.from.ensures))) h.numbered
