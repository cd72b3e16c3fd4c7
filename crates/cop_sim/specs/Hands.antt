-- What is at hand of each stream, and the ranks by which the first is found.
use Rattle.std.specs.Prelude.{◌≡◌, ℕ, ◌<◌, List, Option, None, Some, length, get_or, slice_get}
use Rattle.std.specs.Option.{ForSome}
use Rattle.cop_rta.specs.declared.streams.Stream.{Stream}
use Rattle.cop_bus.specs.Rings.{RingValue}
use Rattle.cop_sim.specs.declared.behaviours.Offer.{Offer}
use Rattle.cop_bus.specs.declared.ranking.Rank.{Rank}
use Rattle.cop_sim.specs.Play.{queued_at}
use Rattle.cop_bus.specs.Ranks.{rank_at}
use Rattle.cop_sim.specs.Seats.{next_at}

-- the identifiers of the streams, and their next offers
pub record OffersValue : Type 0 where
  pub ids : List ℕ
  pub next : List (Option Offer)

-- the moment at which an offer, if there is one, is queued fits into 32 bits
abbrev pub IsEarly : Option Offer → Type 0
IsEarly offer = ForSome offer (λ o. queued_at o < 4294967296)

-- an offer has the rank of the moment at which it is queued
abbrev pub offer_rank : List ℕ → ℕ → Option Offer → Option Rank
offer_rank ids place None = None
offer_rank ids place (Some o) = Some (record { at = queued_at o; id = get_or ids place 0; place = place })

-- each offer has its rank
pub record AreRanked (ids : List ℕ) (next : List (Option Offer)) (ranks : List (Option Rank)) : Type 0 where
  pub ids_are : length ids ≡ length next
  pub ranks_are : length ranks ≡ length next
  pub each : (i : ℕ) → rank_at ranks i ≡ offer_rank ids i (next_at next i)

-- the ring at a place has the identifier of the stream there
abbrev pub AreTheirs : List Stream → List RingValue → Type 0
AreTheirs streams rings = (j : ℕ) (k : Stream) (r : RingValue) → slice_get streams j ≡ Some k → slice_get rings j ≡ Some r → r.id ≡ k.id
