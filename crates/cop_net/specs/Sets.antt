-- Sets of streams.
use Rattle.std.specs.Prelude.{◌≢◌, ◌≤◌, List, length, AllPairs}
use Rattle.cop_rta.specs.Entries.{Entry}

-- one set can have these streams: their identifiers are apart, and there are not too many
pub record AreOneSet (streams : List Entry) : Type 0 where
  pub apart : AllPairs (λ e f. e.id ≢ f.id) streams
  pub count : length streams ≤ 1100
