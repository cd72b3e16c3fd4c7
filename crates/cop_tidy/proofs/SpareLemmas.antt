-- Lines that nothing reads.
use Rattle.std.proofs.Common.{◌≡◌, ℕ, List, Some}
use Rattle.cop_tidy_lines.specs.declared.names.SectionName.{SectionName}
use Rattle.cop_tidy_lines.specs.declared.keys.Key.TheVariants.{Unread}
use Rattle.cop_tidy_lines.specs.declared.kinds.LineKind.TheVariants.{Pair}
use Rattle.cop_tidy_lines.specs.Kinds.{kind_meant}
use Rattle.cop_tidy.specs.Spared.{IsUnread}

pub unread_in : (line : List ℕ) (section : SectionName) → IsUnread line → kind_meant (Some section) line ≡ Pair Unread
unread_in line section h = h.1 section
