use Rattle.std.proofs.Common.{◌≡◌, ◌∙◌, ◌+◌, ◌-◌, ◌*◌, ℕ, List, Some, slice_get, refl, ap, subst}
use Rattle.cop_frame.specs.declared.rates.Rate.{Rate}
use Rattle.cop_rta.specs.declared.streams.Stream.{Stream}
use Rattle.cop_rta.specs.Solutions.{IsLeastSolution}
use Rattle.cop_rta.specs.Test.{StreamPlace, place_of, place_by_id, jitter_at, period_at, cost_at, blocking, queueing_at}
use Rattle.cop_figures.proofs.DelayLemmas.{same_place, broken_down}
use Rattle.cop_figures.proofs.delays.breakdown_of.Goals as goal

pub returns-clause-parts : goal.returns-clause-parts
returns-clause-parts c =
    let streams : List Stream = c.args.at.now.streams in
    let rate : Rate = c.args.at.now.rate in
    let pdo : ℕ = c.args.times.now.pdo in
    let p : StreamPlace = place_by_id streams pdo rate in
    let same : place_of c.among-busy.result ≡ p = ap place_of c.among-busy.ensures ∙ same_place streams c.above_by_id.new.out pdo rate (rw c.set.ensures at c.above_by_id.ensures) in
    let here : slice_get streams pdo ≡ Some c.stream-stream.result.now = rw c.among-busy.ensures at c.stream-stream.ensures in
    let jitter : c.jitter.result ≡ jitter_at p = c.jitter.ensures.value ∙ ap jitter_at same in
    let transfer : c.transfer_of.result ≡ cost_at p = c.transfer_of.ensures.value ∙ rw (c.rate.ensures, here) refl in
    let instance : ℕ = c.latest-instance.result.0 in
    let wait : ℕ = c.latest-instance.result.1 in
    let response = subst (λ (q : StreamPlace). c.args.times.now.response ≡ jitter_at q + wait + cost_at q - instance * period_at q) same c.latest-instance.ensures.response in
    broken_down streams pdo rate wait _ refl c.requires.greatest (subst (λ (q : StreamPlace). IsLeastSolution (queueing_at q instance) 0 wait) same c.latest-instance.ensures.waits)
    (rw (jitter, transfer) response) jitter transfer (c.blocking_of.ensures ∙ ap blocking same) (rw here c.in_ok-delays_before.ensures)
