use Rattle.std.proofs.Common.{◌≡◌, ◌∙◌, ℕ, ◌<◌, max, length, Some, sym, ap, arith}
use Rattle.std.proofs.lemmas.Option.{slice_get_within}
use Rattle.cop_rta.specs.Test.{place_of, IsResponse}
use Rattle.cop_rta.proofs.WaitLemmas.{next_from, none_below}
use Rattle.cop_rta.proofs.GreatestLemmas.{greatest_of, none_greatest, next_greatest, greatest_found, none_is_long}
use Rattle.cop_rta.proofs.judging.greatest_response.Goals as goal
use Rattle.cop_rta.proofs.judging.greatest_response.Goals.{After-stream-stream}

inside : (c : After-stream-stream) → c.args.busy.now.index < length c.args.busy.now.streams
inside c = slice_get_within c.args.busy.now.streams c.args.busy.now.index c.stream-stream.result.now c.stream-stream.ensures

pub returns-in_default : goal.returns-in_default
returns-in_default c = sym ((none_is_long (place_of c.args.busy.now) (inside (goal.at.returns-in_default c).After-stream-stream)).1 (rw c.in_default.is at c.time.ensures.none))

pub loop-number-init : goal.loop-number-init
loop-number-init c = record { greatest = none_greatest (place_of c.args.busy.now) c.in-Some.time; from = none_below (place_of c.args.busy.now) }

pub loop-number-preserved : goal.loop-number-preserved
loop-number-preserved c =
    let answer : IsResponse (place_of c.args.busy.now) c.loop-number.number c.response-response.result = record { wait = c.wait-wait.result; queueing = c.wait-wait.ensures.wait; response = c.response-response.ensures.value } in
    let next = next_greatest (place_of c.args.busy.now) c.in-Some.time c.loop-number.number c.loop-number.greatest c.response-response.result (inside (goal.at.loop-number-preserved c).After-stream-stream)
    (rw c.in-Some.is at c.time.ensures.found) ((c.instances-instances.ensures.queued c.loop-number.number).0 c.loop-number-test.true) c.loop-number.invariant.greatest answer in
    record {
      greatest = c.max-greatest.ensures ∙ swapped c.response-response.result c.loop-number.greatest ∙ next;
      from = next_from (place_of c.args.busy.now) c.stream-stream.result.now c.loop-number.number c.wait-wait.result c.cost-cost.result c.stream-stream.ensures (rw c.stream-stream.ensures at c.cost-cost.ensures.value) c.wait-wait.ensures.wait;
    }
  where
    swapped : (a b : ℕ) → max a b ≡ max b a
    swapped a b = omega arith

pub returns : goal.returns
returns c =
    let all : c.loop-number.number ≡ c.instances-instances.result = omega arith in
    let found = greatest_found (place_of c.args.busy.now) (inside (goal.at.returns c).After-stream-stream) c.in-Some.time (rw c.in-Some.is at c.time.ensures.found) (rw c.in-Some.is at c.time.ensures.within) in
    ap Some (c.loop-number.invariant.greatest ∙ ap (greatest_of (place_of c.args.busy.now) c.in-Some.time) (all ∙ c.instances-instances.ensures.count)) ∙ sym found

pub overflow_cast-response : goal.overflow_cast-response
overflow_cast-response c = omega (arith, c.response-response.ensures.most, c.wait-wait.ensures.within)
