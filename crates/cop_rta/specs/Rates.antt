-- A set of streams at a rate.
use Rattle.std.specs.Prelude.{List}
use Rattle.cop_frame.specs.declared.rates.Rate.{Rate}
use Rattle.cop_rta.specs.declared.streams.Stream.{Stream}

pub record RatedSet : Type 0 where
  pub streams : List Stream
  pub rate : Rate
