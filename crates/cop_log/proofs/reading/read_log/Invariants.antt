use Rattle.std.proofs.Common.{length}
use Rattle.cop_log.specs.Reading.{HasRead, name_of}
use Rattle.cop_log.proofs.reading.read_log.Given as goal

abbrev pub invariant-frames : goal.invariant-frames
invariant-frames l = HasRead (record { channel = name_of l.fn.channel; are_distances = l.are_distances }) l.text l.rest l.reader l.log.items

abbrev pub decreases-frames : goal.decreases-frames
decreases-frames l = length l.rest
