use Rattle.std.proofs.Common.{ℕ, ◌∙◌, sym, arith}
use Rattle.cop_cert.proofs.ClimbLemmas.{Next, climb_next, last_next, climb_end, last_end}
use Rattle.cop_cert.proofs.checking.climb.Goals as goal
use Rattle.cop_cert.proofs.checking.climb.Goals.{then-next-last-via-then-next-last, then-next-last-via-else-next-last+then-next-at}

pub returns-then-next-last : goal.returns-then-next-last
returns-then-next-last g c h =
    let f : ℕ → ℕ = g.D.Demand.demand c.args.demand.now in
    let next : Next f c.in_ok-first.rest.now c.loop-next.next-index c.loop-next.last =
    (climb_next f c.in_ok-first.rest.now c.loop-next.next-index c.loop-next.last (omega arith)).0 (c.loop-next.invariant.climbs.0 h) in
    elim c.then-next-last.branch [
      | then-next-last-via-then-next-last w ↦ omega (arith, next.0, w.if-next-last.true)
      | then-next-last-via-else-next-last+then-next-at w ↦ omega (arith, next.1, w.if-next-at.true, w.at.ensures)
    ]

pub loop-next-preserved : goal.loop-next-preserved
loop-next-preserved g c =
    let f : ℕ → ℕ = g.D.Demand.demand c.args.demand.now in
    let next = climb_next f c.in_ok-first.rest.now c.loop-next.next-index c.loop-next.last (omega arith) in
    record {
      climbs = (
        λ h. (next.0 (c.loop-next.invariant.climbs.0 h)).2,
        λ h. c.loop-next.invariant.climbs.1 (next.1 (omega (arith, c.if-next-last.false), omega (arith, c.if-next-at.false, c.at.ensures), h)),
      );
      ends = c.loop-next.invariant.ends ∙ last_next f c.in_ok-first.rest.now c.loop-next.next-index c.loop-next.last (omega arith);
    }

pub returns : goal.returns
returns g c =
    let f : ℕ → ℕ = g.D.Demand.demand c.args.demand.now in (
      c.loop-next.invariant.climbs.1 (climb_end f c.in_ok-first.rest.now c.loop-next.next-index c.loop-next.last (omega arith)),
      sym (c.loop-next.invariant.ends ∙ last_end f c.in_ok-first.rest.now c.loop-next.next-index c.loop-next.last (omega arith)),
    )
