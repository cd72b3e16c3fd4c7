use Rattle.std.proofs.Common.{take}
use Rattle.cop_dcf.specs.Changes.{KnowsSettings}
use Rattle.cop_dcf.proofs.section_keys.settings_by_section.Given as goal

abbrev pub invariant-loop-setting : goal.invariant-loop-setting
invariant-loop-setting l = KnowsSettings l.table.items l.eds (take l.setting-index l.settings) l.count
