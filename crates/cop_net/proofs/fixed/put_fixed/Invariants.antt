use Rattle.std.proofs.Common.{◌≡◌, ◌++◌, ◌-◌, map}
use Rattle.cop_rta.specs.Entries.{entry_of}
use Rattle.cop_net.specs.Fixed.{streams_from, fixed_streams}
use Rattle.cop_net.proofs.fixed.put_fixed.Given as goal

abbrev pub invariant-loop-place : goal.invariant-loop-place
invariant-loop-place l =
    map entry_of l.set ++ streams_from l.frames l.place (768 - l.place) ≡ map entry_of l.initial.set ++ fixed_streams l.frames
