-- A table of where the streams stand, by identifier; past its end stands none.
use Rattle.std.specs.Prelude.{ℕ, ◌≡◌, List, get_or, Option, None}
use Rattle.cop_rta.specs.declared.streams.Stream.{Stream}
use Rattle.cop_rta.specs.Streams.{place_of_id}

pub record KnowsPlaces (places : List (Option ℕ)) (streams : List Stream) : Type 0 where
  pub each : (id : ℕ) → get_or places id None ≡ place_of_id streams id
