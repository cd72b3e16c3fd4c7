use Rattle.std.proofs.Common.{length}
use Rattle.cop_words.proofs.devices.+text_named.Given as goal

abbrev pub decreases-text_named : goal.decreases-text_named
decreases-text_named l = length l.files.now
