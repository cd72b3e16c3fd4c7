use Rattle.std.proofs.Common.{◌≡◌, ◌∙◌, ℕ, ◌<◌, length, take, get_or, ap, arith}
use Rattle.std.proofs.lemmas.List.{length-take-le}
use Rattle.cop_rta.specs.declared.streams.Stream.{Stream}
use Rattle.cop_rta.specs.Entries.{Entry, entry_of}
use Rattle.cop_plan.specs.Caps.{capped}
use Rattle.cop_plan.specs.Margins.{lower}
use Rattle.cop_plan.proofs.DeadlineLemmas.{deadline_read}
use Rattle.cop_plan.proofs.MarginLemmas.{lowered_length, lowered_next}
use Rattle.cop_plan.proofs.MarginSteps.{lowered_is_new}
use Rattle.cop_plan.proofs.margins.lowered.Goals as goal

pub with_less-requires : goal.with_less-requires
with_less-requires c x dated =
    let low : c.loop-k.k < length c.args.set.now = omega (arith, c.loop-k-test.true, ap length c.streams-stream-items.ensures.items) in
    let there = deadline_read c.args.set.now c.streams-stream-items.result.now c.loop-k.k c.stream-item.result c.streams-stream-items.ensures.items low c.stream-item.is in
    omega (arith, c.min.ensures, c.requires.above c.loop-k.k x (there ∙ dated))

pub add-requires-clause-room : goal.add-requires-clause-room
add-requires-clause-room c =
    let low : c.loop-k.k < length c.args.set.now = omega (arith, c.loop-k-test.true, ap length c.streams-stream-items.ensures.items) in
    let amount : ℕ → ℕ = capped c.args.margin (λ k. get_or c.args.caps.now k 0) in
    let size : length c.loop-k.lowered ≡ length (take c.loop-k.k c.args.set.now) = lowered_length amount (take c.loop-k.k c.args.set.now) c.loop-k.lowered c.loop-k.invariant in
    omega (arith, size, low, length-take-le c.loop-k.k c.args.set.now (omega (arith, low)), c.loop-k-test.true, c.streams-stream-items.ensures.count)

pub add-requires-clause-new : goal.add-requires-clause-new
add-requires-clause-new c =
    let amount : ℕ → ℕ = capped c.args.margin (λ k. get_or c.args.caps.now k 0) in
    let here : c.stream-item.result ≡ get_or c.args.set.now c.loop-k.k c.stream-item.result = rw c.streams-stream-items.ensures.items at c.stream-item.is in
    let id : c.with_less.result.id ≡ c.stream-item.result.id = ap (λ (e : Entry). e.id) c.with_less.ensures in
    lowered_is_new amount c.args.set.now c.loop-k.lowered c.loop-k.k c.stream-item.result c.with_less.result
    (rw c.streams-stream-items.ensures.items at c.streams-stream-items.ensures.distinct) (omega (arith, c.loop-k-test.true, ap length c.streams-stream-items.ensures.items)) c.loop-k.invariant
    (id ∙ ap (λ (s : Stream). s.id) here)

pub loop-k-preserved : goal.loop-k-preserved
loop-k-preserved c =
    let amount : ℕ → ℕ = capped c.args.margin (λ k. get_or c.args.caps.now k 0) in
    let here : c.stream-item.result ≡ get_or c.args.set.now c.loop-k.k c.stream-item.result = rw c.streams-stream-items.ensures.items at c.stream-item.is in
    rw c.in_ok-add.ensures (lowered_next amount c.args.set.now c.loop-k.lowered c.loop-k.k c.stream-item.result c.with_less.result (omega (arith, c.loop-k-test.true, ap length c.streams-stream-items.ensures.items)) c.loop-k.invariant
    (c.with_less.ensures ∙ ap (λ (n : ℕ). lower n (entry_of c.stream-item.result)) c.min.ensures ∙ ap (λ (s : Stream). lower (amount c.loop-k.k) (entry_of s)) here))
