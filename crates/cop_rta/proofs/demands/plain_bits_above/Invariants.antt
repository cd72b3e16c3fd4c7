use Rattle.std.proofs.Common.{◌≡◌, ◌≤◌, ◌*◌, ◌^◌}
use Rattle.cop_frame.specs.Rate.{ticks_of}
use Rattle.cop_rta.specs.Sums.{sum_where}
use Rattle.cop_rta.specs.Test.{place_with, is_above, of_stream, load_of}
use Rattle.cop_rta.proofs.demands.plain_bits_above.Given as goal

abbrev pub invariant-loop-k : goal.invariant-loop-k
invariant-loop-k l = record {
  sum : l.bits * ticks_of l.fn.clock.rate ≡ sum_where (is_above (place_with l.set l.above l.index l.fn.clock.rate l.fn.clock.ahead)) (of_stream (load_of l.fn.clock.rate l.fn.clock.ahead l.time) l.set) l.k;
  most : l.bits ≤ l.k * 2 ^ 36;
}
