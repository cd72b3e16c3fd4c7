-- Lines that nothing reads.
use Rattle.std.specs.Prelude.{ℕ, ◌≡◌, ◌⊎◌, Bool, true, false, List, ◌∷◌, codes, Some}
use Rattle.cop_eds.specs.Text.{is_pair, key_of, same_name}
use Rattle.cop_change.specs.declared.change.Change.{Change}
use Rattle.cop_tidy_lines.specs.declared.names.SectionName.{SectionName}
use Rattle.cop_tidy_lines.specs.declared.keys.Key.TheVariants.{Unread}
use Rattle.cop_tidy_lines.specs.declared.kinds.LineKind.TheVariants.{Pair}
use Rattle.cop_tidy_lines.specs.Blanks.{loose_start}
use Rattle.cop_tidy_lines.specs.Kinds.{kind_meant}

-- the line is the number of subs, which the strict reading takes for a number, and which says nothing of the device
abbrev pub is_sub_number : List ℕ → Bool
is_sub_number line = same_name (key_of line) (codes "SubNumber")

-- the line is a key with an equals sign, and one that nothing reads, whatever the section in which it stands
abbrev pub IsUnread : List ℕ → Type 0
IsUnread line = ((is_pair line ≡ true) × (is_sub_number line ≡ false)) × ((section : SectionName) → kind_meant (Some section) line ≡ Pair Unread)

-- a line stands as it was: behind a ;, or without the blanks at its front
abbrev pub IsSpared : List ℕ → List ℕ → Type 0
IsSpared old new = (new ≡ 59 ∷ old) ⊎ (new ≡ loose_start old)

-- a change of a line that nothing reads spares it
abbrev pub IsSparing : Change → Type 0
IsSparing change = change.is_added ≡ false → IsUnread (loose_start change.old.items) → IsSpared change.old.items change.new.items
