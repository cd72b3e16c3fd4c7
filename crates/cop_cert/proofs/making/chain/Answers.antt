use Rattle.std.proofs.Common.{rules, ℕ, ◌≤◌, arith}
use Rattle.cop_rta.specs.Test.{horizon}
use Rattle.cop_cert.proofs.ChainLemmas.{chain_one, chain_more}
use Rattle.cop_cert.proofs.making.chain.Goals as goal

pub loop-last-init : goal.loop-last-init
loop-last-init g c =
    rw (c.in_ok-push.ensures.ok, c.new-numbers.ensures) (chain_one (g.D.Demand.demand c.args.demand.now) horizon c.args.from (omega arith) c.requires)

pub loop-last-preserved : goal.loop-last-preserved
loop-last-preserved g c =
    let f : ℕ → ℕ = g.D.Demand.demand c.args.demand.now in
    let up : c.loop-last.last ≤ c.at-next.result = omega (arith, c.loop-last.invariant.rises, c.at-next.ensures) in
    chain_more f horizon c.args.from c.loop-last.last c.at-next.result c.loop-last.numbers c.push-in-loop-last.new.self c.loop-last.invariant
    c.in_ok-push-2.ensures.ok (omega arith) c.if-next-last.false c.at-next.ensures (omega arith)
    (g.met.D.Demand.never_falls c.args.demand.now c.loop-last.last c.at-next.result up (omega (arith)))

-- written here so that a body that breaks it is refused at once
pub returns : goal.returns
returns c = search rules
