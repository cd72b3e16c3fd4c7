-- How much of the bus streams take.
use Rattle.std.specs.Prelude.{ℕ, ◌≡◌, ◌*◌, ◌<◌, List, length, take, drop, sum_by, All, AllPairs, Any}
use Rattle.std.specs.Int.{div_ceil}
use Rattle.std.specs.List.{Contains}
use Rattle.cop_frame.specs.declared.rates.Rate.{Rate}
use Rattle.cop_frame.specs.Rate.{kbits_of}
use Rattle.cop_rta.specs.declared.streams.Stream.{Stream}
use Rattle.cop_rta.specs.Test.{cost_of}
use Rattle.cop_net.specs.Network.{Net}
use Rattle.cop_figures.specs.declared.loads.Load.{Load}

-- what a stream takes: its longest transfer over its period, in billionths, rounded up
abbrev pub share_of : Rate → Stream → ℕ
share_of rate s = div_ceil (cost_of rate s * 1000000000) s.period

-- the load at a rate of some PDOs, which are the first streams, and of the fixed frames, which are the others
abbrev pub load_of : List Stream → ℕ → Rate → Load
load_of streams pdos rate =
    record { rate = rate; pdos = sum_by (share_of rate) (take pdos streams); fixed = sum_by (share_of rate) (drop pdos streams) }

-- the load of a network at a rate that all its devices support
pub record IsLoadOf (net : Net) (load : Load) : Type 0 where
  pub candidate : Contains net.equipment.rates load.rate
  pub is : load ≡ load_of net.set (length net.rows) load.rate

-- the loads of a network by rising rate: one at each rate that all its devices support, and none at another
pub record AreLoads (net : Net) (loads : List Load) : Type 0 where
  pub rise : AllPairs (λ l m. kbits_of l.rate < kbits_of m.rate) loads
  pub each : All (IsLoadOf net) loads
  pub every : (rate : Rate) → Contains net.equipment.rates rate → Any (λ l. l.rate ≡ rate) loads
