use Rattle.std.proofs.Common.{◌≡◌, ◌∙◌, ◌+◌, ap}
use Rattle.std.specs.Int.{div_ceil}
use Rattle.cop_rta.specs.Test.{place_of, jitter_of}
use Rattle.cop_rta.proofs.VerdictLemmas.{queued_within, queued_below}
use Rattle.cop_rta.proofs.demands.Busy.instances.Goals as goal
use Rattle.cop_rta.proofs.demands.Busy.instances.Goals.{After-instances}

count_is : (c : After-instances) → c.instances.result ≡ div_ceil (c.args.time + jitter_of c.args.self.now.ahead c.stream-stream.result.now) c.stream-stream.result.now.period
count_is c =
    let jitter = rw c.stream-stream.ensures at c.jitter.ensures.value in
    c.instances.ensures ∙ ap (λ j. div_ceil (c.args.time + j) c.stream-stream.result.now.period) jitter

pub returns-clause-count : goal.returns-clause-count
returns-clause-count c = rw c.stream-stream.ensures (count_is (goal.at.returns-clause-count c).After-instances)

pub returns-clause-queued : goal.returns-clause-queued
returns-clause-queued c = λ q. (
  queued_within (place_of c.args.self.now) c.stream-stream.result.now c.args.time c.instances.result q c.stream-stream.ensures (count_is (goal.at.returns-clause-queued c).After-instances),
  queued_below (place_of c.args.self.now) c.stream-stream.result.now c.args.time c.instances.result q c.stream-stream.ensures (count_is (goal.at.returns-clause-queued c).After-instances),
)
