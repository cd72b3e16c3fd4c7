use Rattle.std.proofs.Common.{take}
use Rattle.cop_net.specs.Devices.{handed_in}
use Rattle.cop_net.specs.Texts.{KnowsTexts}
use Rattle.cop_net.proofs.shelf.texts_of.Given as goal

abbrev pub invariant-loop-file : goal.invariant-loop-file
invariant-loop-file l = KnowsTexts (handed_in (take l.file-index l.files)) l.texts
