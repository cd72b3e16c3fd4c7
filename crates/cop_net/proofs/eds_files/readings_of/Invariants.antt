use Rattle.std.proofs.Common.{take}
use Rattle.cop_net.specs.Devices.{handed_in}
use Rattle.cop_net.specs.Texts.{KnowsReadings}
use Rattle.cop_net.proofs.eds_files.readings_of.Given as goal

abbrev pub invariant-loop-file : goal.invariant-loop-file
invariant-loop-file l = KnowsReadings (handed_in (take l.file-index l.files)) l.readings
