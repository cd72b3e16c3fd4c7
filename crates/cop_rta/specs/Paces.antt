-- What the test asks of a stream at any rate, as numbers that are made once.
use Rattle.std.specs.Prelude.{ℕ, ◌≡◌, ◌+◌, ◌*◌, ◌/◌, ◌^◌, ◌≤◌, Bool, true, false, not, map, List, length, slice_get, Some, sum_by, if◌then◌else◌}
use Rattle.std.specs.Int.{div_ceil}
use Rattle.cop_rta.specs.declared.streams.Stream.{Stream}
use Rattle.cop_rta.specs.declared.paces.Pace.{Pace}
use Rattle.cop_frame.specs.Lengths.{worst_bits}
use Rattle.cop_frame.specs.declared.rates.Rate.{Rate}
use Rattle.cop_frame.specs.Rate.{ticks_of}
use Rattle.cop_rta.specs.Sums.{sum_where}
use Rattle.cop_rta.specs.Test.{is_flagged, of_stream, jitter_of, load_of}

-- the times that paces are asked about
abbrev pub last_time : ℕ
last_time = 2 ^ 35

-- how many instances there are within some time, by a product in place of a quotient
abbrev pub counted_in : ℕ → Pace → ℕ
counted_in time pace = (time + pace.ahead) * pace.inverse / 2 ^ 64

-- what a pace has ahead where synchronous streams have so much more
abbrev pub ahead_at : ℕ → Pace → ℕ
ahead_at more pace = pace.ahead + (if pace.is_synchronous then more else 0)

-- the most that synchronous streams have more
abbrev pub most_ahead : ℕ
most_ahead = 280000000

-- how many bits they have at most
abbrev pub bits_in : ℕ → Pace → ℕ
bits_in time pace = counted_in time pace * pace.bits

-- the pace of a stream, whose latency alone it has
pub record IsPaceOf (s : Stream) (pace : Pace) : Type 0 where
  pub bits : pace.bits ≡ worst_bits s.bytes
  pub instances : (more time : ℕ) → more ≤ most_ahead → time ≤ last_time → (time + ahead_at more pace) * pace.inverse / 2 ^ 64 ≡ div_ceil (time + jitter_of more s) s.period
  pub small : pace.ahead ≤ 480000000

-- such a pace with what synchronous streams have ahead
pub record IsPaceWith (ahead : ℕ) (s : Stream) (pace : Pace) : Type 0 where
  pub bits : pace.bits ≡ worst_bits s.bytes
  pub instances : (time : ℕ) → time ≤ last_time → counted_in time pace ≡ div_ceil (time + jitter_of ahead s) s.period

-- a pace that has so much ahead where it is a synchronous stream's
pub record IsPaceAfter (ahead : ℕ) (pace other : Pace) : Type 0 where
  pub bits : other.bits ≡ pace.bits
  pub ahead_is : other.ahead ≡ ahead_at ahead pace
  pub inverse : other.inverse ≡ pace.inverse

-- the paces of streams, in their order
pub record ArePacesOf (streams : List Stream) (paces : List Pace) : Type 0 where
  pub count : length paces ≡ length streams
  pub each : (k : ℕ) (s : Stream) (pace : Pace) → slice_get streams k ≡ Some s → slice_get paces k ≡ Some pace → IsPaceOf s pace

-- flags of the streams that are above, or of those that are not
abbrev pub flags_above : Bool → List Bool → List Bool
flags_above false flags = flags
flags_above true flags = map not flags

-- the paces of the streams that are flagged, with so much ahead, in any order
pub record IsRow (streams : List Stream) (ahead : ℕ) (flags : List Bool) (row : List Pace) : Type 0 where
  pub sums : (rate : Rate) (time : ℕ) → time ≤ last_time → sum_by (bits_in time) row * ticks_of rate ≡ sum_where (is_flagged flags) (of_stream (load_of rate ahead time) streams) (length streams)

-- such a row where the stream at an index is one of them
pub record HasRow (streams : List Stream) (ahead : ℕ) (flags : List Bool) (index : ℕ) (row : List Pace) : Type 0 where
  pub own : is_flagged flags index ≡ true
  pub few : length row ≤ 2048
  pub is : IsRow streams ahead flags row
