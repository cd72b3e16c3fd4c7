use Rattle.std.proofs.Common.{◌≡◌, ◌∙◌, ◌<◌, ap, sym, subst, map, take, get_or, false, length, arith, refl}
use Rattle.std.proofs.lemmas.List.{take_all}
use Rattle.cop_rta.specs.declared.streams.Stream.{Stream}
use Rattle.cop_rta.specs.Streams.{has_id}
use Rattle.cop_rta.specs.UpLemmas.{up_id}
use Rattle.cop_rta.specs.Errors.{up}
use Rattle.cop_rta.proofs.TestedLemmas.{next_is_new, none_at_zero, up_id-injective}
use Rattle.cop_rta.proofs.sets.StreamSet.through.Goals as goal

pub add-requires-clause-new : goal.add-requires-clause-new
add-requires-clause-new c =
    let items = c.streams-stream-items.ensures.items in
    let low : c.loop-stream.stream-index < length c.args.self.now = omega (arith, c.loop-stream-test.true, ap length items) in
    let its : c.stream-item.result ≡ get_or c.args.self.now c.loop-stream.stream-index c.stream-item.result = rw items at c.stream-item.is in
    let new = next_is_new up up_id (λ n. n ≡ 1 → ⊥) (λ s. refl) up_id-injective c.args.self.now (rw items at c.streams-stream-items.ensures.distinct) c.requires.free c.loop-stream.stream-index c.stream-item.result low in
    rw (c.loop-stream.invariant, c.up.ensures) (subst (λ (s : Stream). has_id (map up (take c.loop-stream.stream-index c.args.self.now)) (up s).id ≡ false) (sym its) new)

pub add-requires-2-clause-new : goal.add-requires-2-clause-new
add-requires-2-clause-new c =
    let items = c.streams-stream-items.ensures.items in
    let all : take c.loop-stream.stream-index c.args.self.now ≡ c.args.self.now = take_all c.loop-stream.stream-index c.args.self.now (omega (arith, c.loop-stream-test.false, ap length items)) in
    rw (c.loop-stream.invariant, c.stream.ensures, all) (none_at_zero c.args.self.now)
