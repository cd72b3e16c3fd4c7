-- A trace that is read in pieces.
use Rattle.std.specs.Prelude.{ℕ, List, ◌++◌, Option}
use Rattle.std.specs.Io.KnownBytes.{Consumes}
use Rattle.cop_rta.specs.declared.streams.Stream.{Stream}
use Rattle.cop_watch.specs.declared.reading.TraceWatch.{TraceWatch}
use Rattle.cop_watch.specs.Reading.{HasRead}

-- a watch has read some bytes more, which a reader gave
pub record Feeds (left rest : Option (List ℕ)) (before after : TraceWatch) : Type 0 where
  pub bytes : List ℕ
  pub given : Consumes left rest bytes
  pub read : (tau : ℕ) (streams : List Stream) (text : List ℕ) → HasRead tau streams text before → HasRead tau streams (text ++ bytes) after
