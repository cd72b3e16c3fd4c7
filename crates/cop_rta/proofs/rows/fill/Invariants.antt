use Rattle.std.proofs.Common.{◌≡◌, ◌≤◌, ◌*◌, ℕ, length, sum_by}
use Rattle.cop_frame.specs.declared.rates.Rate.{Rate}
use Rattle.cop_frame.specs.Rate.{ticks_of}
use Rattle.cop_rta.specs.Paces.{last_time, bits_in}
use Rattle.cop_rta.specs.Sums.{sum_where}
use Rattle.cop_rta.specs.Test.{is_flagged, of_stream, load_of}
use Rattle.cop_rta.proofs.rows.fill.Given as goal

abbrev pub invariant-loop-k : goal.invariant-loop-k
invariant-loop-k l = record {
  sums : (rate : Rate) (time : ℕ) → time ≤ last_time → sum_by (bits_in time) l.row.items * ticks_of rate ≡ sum_where (is_flagged l.above) (of_stream (load_of rate l.ahead time) l.set) l.k;
  few : length l.row.items ≤ l.k;
}
