use Rattle.std.proofs.Common.{◌≡◌, ◌++◌, length, take}
use Rattle.std.specs.List.{flat_map}
use Rattle.cop_cdcf.specs.Concise.{number_bytes, entry_of}
use Rattle.cop_cdcf.proofs.forming.concise.Given as goal

abbrev pub invariant-loop-setting : goal.invariant-loop-setting
invariant-loop-setting l = l.bytes.items ≡ number_bytes 4 (length l.settings) ++ flat_map entry_of (take l.setting-index l.settings)
