use Rattle.std.proofs.Common.{◌≡◌, ◌<◌, length, sym, arith}
use Rattle.std.proofs.lemmas.List.{take_all}
use Rattle.std.proofs.lemmas.List.Elements.{All-more}
use Rattle.cop_rta.specs.declared.streams.Stream.{Stream}
use Rattle.cop_bus.proofs.judging.is_any_synchronous.Goals as goal

pub loop-stream-preserved : goal.loop-stream-preserved
loop-stream-preserved c =
    let below : c.loop-stream.stream-index < length c.args.streams.now = omega (arith, c.loop-stream-test.true) in
    All-more (λ (k : Stream). k.every ≡ 0) c.args.streams.now c.loop-stream.stream-index c.stream-item.result below c.loop-stream.invariant (rw (← c.stream-item.is) (omega arith))

pub returns-clause-none : goal.returns-clause-none
returns-clause-none c = λ t. rw (take_all c.loop-stream.stream-index c.args.streams.now (omega (arith, c.loop-stream-test.false))) at c.loop-stream.invariant

pub returns-then-stream-gt0-clause-some : goal.returns-then-stream-gt0-clause-some
returns-then-stream-gt0-clause-some c = λ t. (c.loop-stream.stream-index, c.stream-item.result, omega (arith, c.loop-stream-test.true), sym c.stream-item.is, omega (arith, c.if-stream-gt0.true))
