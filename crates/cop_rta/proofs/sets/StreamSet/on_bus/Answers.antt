use Rattle.std.proofs.Common.{◌≡◌, ◌∙◌, ◌-◌, ◌+◌, ◌<◌, ℕ, ap, sym, subst, length, get_or, arith, take, map, false, List}
use Rattle.cop_rta.specs.declared.streams.Stream.{Stream}
use Rattle.cop_rta.specs.Streams.{AreDistinct, has_id}
use Rattle.cop_rta.specs.Errors.{down, bus_of}
use Rattle.cop_rta.proofs.TestedLemmas.{down_is_new, bus_is, some_stream}
use Rattle.cop_rta.proofs.sets.StreamSet.on_bus.Goals as goal

pub add-requires-clause-new : goal.add-requires-clause-new
add-requires-clause-new c =
    let items = c.streams-streams.ensures.items in
    let low : c.loop-k.k - 1 + 1 < length c.args.self.now = omega (arith, c.loop-k-test.true, c.loop-k.auto.k, ap length items) in
    let its : c.index-streams-k.result ≡ get_or c.args.self.now (c.loop-k.k - 1) c.index-streams-k.result = rw items at c.index-streams-k.is in
    let new = down_is_new c.args.self.now (rw items at c.streams-streams.ensures.distinct) c.requires (c.loop-k.k - 1) c.index-streams-k.result low in
    rw (c.loop-k.invariant, c.down.ensures) (subst (λ (s : Stream). has_id (map down (take (c.loop-k.k - 1) c.args.self.now)) (down s).id ≡ false) (sym its) new)

pub returns : goal.returns
returns c =
    let items = c.streams-streams.ensures.items in
    let some = some_stream c.args.self.now c.requires in
    c.loop-k.invariant ∙ bus_is c.args.self.now (c.loop-k.k - 1) c.requires
    (omega (arith, c.loop-k-test.false, c.loop-k.auto.k, c.loop-k.auto.k-end (omega (arith, some, ap length items)), some, ap length items))
