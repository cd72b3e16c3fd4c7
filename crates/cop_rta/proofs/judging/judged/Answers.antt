use Rattle.std.proofs.Common.{ℕ, arith, max, subst, zero-le, ◌≡◌, ◌≤◌, ◌+◌}
use Rattle.std.specs.Int.{div_ceil}
use Rattle.std.proofs.lemmas.Grind.{common_steps}
use Rattle.cop_rta.specs.Test.{place_of, jitter_of, cost_of, horizon, IsResponse}
use Rattle.cop_rta.specs.Waits.{IsBelowWait}
use Rattle.cop_rta.proofs.VerdictLemmas.{Surveyed-none, first_late, one_more, passes_by}
use Rattle.cop_rta.proofs.WaitLemmas.{next_from, none_below, wait_below}
use Rattle.cop_rta.proofs.judging.judged.Goals as goal
use Rattle.cop_rta.proofs.judging.judged.Goals.{After-cost-cost, After-response-response, Joined-q-eq0, then-q-eq0, else-q-eq0}

cost_is : (c : After-cost-cost) → c.cost-cost.result ≡ cost_of c.args.busy.now.rate c.stream-stream.result.now
cost_is c = rw c.stream-stream.ensures at c.cost-cost.ensures.value

answers : (c : After-response-response) → IsResponse (place_of c.args.busy.now) c.loop-q.q c.response-response.result
answers c = record { wait = c.wait-wait.result; queueing = c.wait-wait.ensures.wait; response = c.response-response.ensures.value }

-- the wait of the first instance
first_wait : (c : Joined-q-eq0) → IsBelowWait (place_of c.args.busy.now) 0 c.if-q-eq0.first × (c.if-q-eq0.first ≤ horizon)
first_wait c = elim c.if-q-eq0.branch [
  | then-q-eq0 w ↦ rw w.first-is (
    subst (λ (q : ℕ). IsBelowWait (place_of c.args.busy.now) q c.wait-wait.result) w.if-q-eq0.true (wait_below (place_of c.args.busy.now) c.loop-q.q c.wait-wait.result c.wait-wait.ensures.wait),
    c.wait-wait.ensures.within,
  )
  | else-q-eq0 w ↦ rw w.first-is (c.loop-q.invariant.first, c.loop-q.invariant.within)
]

pub loop-q-init : goal.loop-q-init
loop-q-init c = record {
  survey = Surveyed-none (place_of c.args.busy.now);
  from = c.requires.from;
  first = none_below (place_of c.args.busy.now);
  within = zero-le;
}

pub loop-q-preserved : goal.loop-q-preserved
loop-q-preserved c =
    let e : c.max-greatest.result ≡ max c.loop-q.greatest c.response-response.result = grind (arith, common_steps) in
    let cost = cost_is (goal.at.loop-q-preserved c).After-cost-cost in
    let first = first_wait (goal.at.loop-q-preserved c).Joined-q-eq0 in
    record {
      survey = rw e (one_more (place_of c.args.busy.now) c.stream-stream.result.now c.loop-q.q c.loop-q.greatest c.response-response.result c.stream-stream.ensures c.loop-q.invariant.survey (answers (goal.at.loop-q-preserved c).After-response-response) c.if-is_late.ensures.on_time);
      from = next_from (place_of c.args.busy.now) c.stream-stream.result.now c.loop-q.q c.wait-wait.result c.cost-cost.result c.stream-stream.ensures cost c.wait-wait.ensures.wait;
      first = first.0;
      within = first.1;
    }

pub returns-then-is_late-clause-judged : goal.returns-then-is_late-clause-judged
returns-then-is_late-clause-judged c =
    rw c.new-then-is_late.ensures (first_late (place_of c.args.busy.now) c.stream-stream.result.now c.in-Some.time c.instances-instances.result c.loop-q.q c.response-response.result c.loop-q.greatest c.stream-stream.ensures
    (rw c.in-Some.is at c.requires.found) (rw c.in-Some.is at c.requires.within) (rw c.stream-stream.ensures at c.instances-instances.ensures.count) c.loop-q-test.true c.loop-q.invariant.survey (answers (goal.at.returns-then-is_late-clause-judged c).After-response-response) c.if-is_late.ensures.late)

pub returns-clause-judged : goal.returns-clause-judged
returns-clause-judged c =
    let all : c.loop-q.q ≡ div_ceil (c.in-Some.time + jitter_of c.args.busy.now.ahead c.stream-stream.result.now) c.stream-stream.result.now.period =
    omega (arith, (rw c.stream-stream.ensures at c.instances-instances.ensures.count)) in
    rw c.new-2.ensures (passes_by (place_of c.args.busy.now) c.stream-stream.result.now c.in-Some.time c.loop-q.q c.loop-q.greatest c.stream-stream.ensures (rw c.in-Some.is at c.requires.found) (rw c.in-Some.is at c.requires.within) all c.loop-q.invariant.survey)

pub returns-then-is_late-clause-wait : goal.returns-then-is_late-clause-wait
returns-then-is_late-clause-wait c = rw c.new-then-is_late.ensures ((first_wait (goal.at.returns-then-is_late-clause-wait c).Joined-q-eq0).0)

pub overflow_cast-response : goal.overflow_cast-response
overflow_cast-response c = omega (arith, c.response-response.ensures.most, c.wait-wait.ensures.within)
