use Rattle.std.proofs.Common.{◌≡◌, ◌+◌, suc, subst, arith, sym, ◌∙◌, ap, length, get_or}
use Rattle.cop_sim.specs.Seats.{IsChosenSoFar, lower_of, may_be_sent, next_at}
use Rattle.cop_sim.proofs.Chosen.{chosen-one, got, id-there}
use Rattle.cop_sim.proofs.choosing.choose_of_all.Goals as goal

pub loop-i-preserved : goal.loop-i-preserved
loop-i-preserved g c =
    let i = c.loop-i.i in
    let streams = c.args.streams.now in
    let rings = c.args.rings.now in
    let behaviours = c.args.behaviours.now.items in
    let next = c.args.next.now in
    let agrees = g.B.Behaviour.agrees in
    let e : suc i ≡ i + 1 = omega arith in
    let id = (get_or streams i c.index-streams-i.result).id in
    let may = c.may_be_sent-may.result in
    subst (λ s. IsChosenSoFar agrees streams next rings behaviours c.args.ticks c.args.now (i + 1) s) (sym c.lower_of-chosen.ensures)
    (subst (λ n. IsChosenSoFar agrees streams next rings behaviours c.args.ticks c.args.now n (lower_of c.loop-i.chosen i id may)) e
    (chosen-one agrees streams next rings behaviours c.args.ticks c.args.now i id may c.loop-i-test.true (id-there streams i c.index-streams-i.result c.loop-i-test.true)
    (λ k r b p. (let eb = c.index.ensures ∙ got behaviours i b c.index.result.now p.behaviour in
    let er = c.index-rings-i.is ∙ got rings i r c.index-rings-i.result p.ring in
    let en = c.len.ensures ∙ ap (λ v. length v.waiting) er in
    ap (λ v. may_be_sent (agrees v) c.args.ticks c.args.now (length r.waiting) (next_at next i)) (sym eb)
    ∙ ap (λ v. may_be_sent (agrees c.index.result.now) c.args.ticks c.args.now v (next_at next i)) (sym en) ∙ sym c.may_be_sent-may.ensures))
    c.loop-i.chosen c.loop-i.invariant))
