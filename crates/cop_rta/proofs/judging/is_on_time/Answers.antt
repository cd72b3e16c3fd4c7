use Rattle.std.proofs.Common.{ℕ, arith, true≢false, sym, refl, subst, ◌≡◌}
use Rattle.cop_rta.specs.Test.{place_of, jitter_of, cost_of}
use Rattle.cop_rta.proofs.TrialLemmas.{AreOnTimeBelow, one_more, all_on_time, late, slack, enough_for}
use Rattle.cop_rta.proofs.WaitLemmas.{next_from}
use Rattle.cop_rta.proofs.judging.is_on_time.Goals as goal
use Rattle.cop_rta.proofs.judging.is_on_time.Goals.{After-cost-own}

cost_is : (c : After-cost-own) → c.cost-own.result ≡ cost_of c.args.busy.now.rate c.stream-stream.result.now
cost_is c = rw c.stream-stream.ensures at c.cost-own.ensures.value

jitter_is : (c : After-cost-own) → c.jitter-jitter.result ≡ jitter_of c.args.busy.now.ahead c.stream-stream.result.now
jitter_is c = rw c.stream-stream.ensures at c.jitter-jitter.ensures.value

pub returns-in_default-deadline : goal.returns-in_default-deadline
returns-in_default-deadline c = (
  λ _. slack (place_of c.args.busy.now) c.stream-stream.result.now c.stream-stream.ensures c.in-Some.time (λ d due. absurd (c.in_default-deadline.not-Some d due)) (rw c.in-Some.is at c.requires.found) (rw c.in-Some.is at c.requires.within),
  λ _. refl,
)

pub returns-then-jitter-time : goal.returns-then-jitter-time
returns-then-jitter-time c = (
  λ _. slack (place_of c.args.busy.now) c.stream-stream.result.now c.stream-stream.ensures c.in-Some.time (λ d due. enough_for _ _ d _ c.in-Some-deadline.is due (rw (rw c.stream-stream.ensures at c.jitter-jitter.ensures.value) at c.if-jitter-time.true)) (rw c.in-Some.is at c.requires.found) (rw c.in-Some.is at c.requires.within),
  λ _. refl,
)

pub returns-in_default-latest : goal.returns-in_default-latest
returns-in_default-latest c =
    let cost = cost_is (goal.at.returns-in_default-latest c).After-cost-own in let jitter = jitter_is (goal.at.returns-in_default-latest c).After-cost-own in (
      λ never. absurd (true≢false (sym never)),
      λ passes. absurd (late (place_of c.args.busy.now) c.stream-stream.result.now c.stream-stream.ensures c.in-Some.time c.instances-count.result c.loop-q.q c.in-Some-deadline.deadline c.in-Some-deadline.is
          (rw c.in-Some.is at c.requires.found) (rw c.stream-stream.ensures at c.instances-count.ensures.count) c.loop-q-test.true (λ w waits met. omega (arith, met, cost, jitter, c.in_default-latest.ensures.none)) passes),
    )

pub returns-in_default-wait_within : goal.returns-in_default-wait_within
returns-in_default-wait_within c =
    let cost = cost_is (goal.at.returns-in_default-wait_within c).After-cost-own in let jitter = jitter_is (goal.at.returns-in_default-wait_within c).After-cost-own in (
      λ never. absurd (true≢false (sym never)),
      λ passes. absurd (late (place_of c.args.busy.now) c.stream-stream.result.now c.stream-stream.ensures c.in-Some.time c.instances-count.result c.loop-q.q c.in-Some-deadline.deadline c.in-Some-deadline.is
          (rw c.in-Some.is at c.requires.found) (rw c.stream-stream.ensures at c.instances-count.ensures.count) c.loop-q-test.true (λ w waits met. omega (arith, met, cost, jitter, c.in-Some-latest.ensures.some, c.in_default-wait_within.ensures.none w waits)) passes),
    )

pub loop-q-preserved : goal.loop-q-preserved
loop-q-preserved c =
    let cost = cost_is (goal.at.loop-q-preserved c).After-cost-own in let jitter = jitter_is (goal.at.loop-q-preserved c).After-cost-own in
    record {
      on_time = one_more (place_of c.args.busy.now) c.stream-stream.result.now c.stream-stream.ensures c.loop-q.q c.in-Some-deadline.deadline c.in-Some-wait_within.wait c.in-Some-latest.most c.in-Some-deadline.is
          (omega (arith, cost, jitter, c.in-Some-latest.ensures.some)) c.in-Some-wait_within.ensures.found c.in-Some-wait_within.ensures.within c.loop-q.invariant.on_time;
      from = next_from (place_of c.args.busy.now) c.stream-stream.result.now c.loop-q.q c.in-Some-wait_within.wait c.cost-own.result c.stream-stream.ensures cost c.in-Some-wait_within.ensures.found;
    }

pub returns : goal.returns
returns c = (
  λ _. all_on_time (place_of c.args.busy.now) c.stream-stream.result.now c.stream-stream.ensures c.in-Some.time c.instances-count.result (rw c.in-Some.is at c.requires.found) (rw c.in-Some.is at c.requires.within) (rw c.stream-stream.ensures at c.instances-count.ensures.count)
      (subst (λ (n : ℕ). AreOnTimeBelow (place_of c.args.busy.now) n) (let end : c.loop-q.q ≡ c.instances-count.result = omega arith in end) c.loop-q.invariant.on_time),
  λ _. refl,
)
