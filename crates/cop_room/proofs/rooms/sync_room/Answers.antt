use Rattle.std.proofs.Common.{◌≡◌, ◌*◌, refl, sym, subst, arith}
use Rattle.cop_room.specs.Changes.{with_sync_period}
use Rattle.cop_room.specs.Keeping.{AllStillPass}
use Rattle.cop_room.specs.Room.{CanFall, period_now}
use Rattle.cop_room.proofs.RangeLemmas.{sync_in_range}
use Rattle.cop_room.proofs.rooms.sync_room.Goals as goal

pub start_from-requires-clause-range : goal.start_from-requires-clause-range
start_from-requires-clause-range c =
    let value : c.period_of-now.result ≡ period_now c.args.set.now c.in-Some.sync = rw c.streams-2.ensures.items at c.period_of-now.ensures.value in
    λ x low high. sync_in_range c.args.set.now c.in-Some.sync x c.requires.synced (sym c.in-Some.ensures.place) low (omega (arith, high, value))

pub least_or_now-requires-clause-range : goal.least_or_now-requires-clause-range
least_or_now-requires-clause-range c =
    let value : c.period_of-now.result ≡ period_now c.args.set.now c.in-Some.sync = rw c.streams-2.ensures.items at c.period_of-now.ensures.value in
    λ x low high. sync_in_range c.args.set.now c.in-Some.sync x c.requires.synced (sym c.in-Some.ensures.place) low (omega (arith, high, value))

pub returns : goal.returns
returns c =
    let streams = c.args.set.now in
    let value : c.period_of-now.result ≡ period_now streams c.in-Some.sync = rw c.streams-2.ensures.items at c.period_of-now.ensures.value in
    record {
      synchronous = (rw c.streams.ensures.items at c.if-not-has_synchronous.ensures).0 refl;
      sync = c.in-Some.sync;
      place = sym c.in-Some.ensures.place;
      limit = subst (λ now. CanFall (AllStillPass c.args.rate c.args.pdos) (λ y. with_sync_period (4 * y)) streams 100 now c.in_ok-least.least) value c.in_ok-least.ensures.exact;
    }
