-- Where each object of a device comes from: a section of the text, or CompactPDO.
use Rattle.std.specs.Prelude.{ℕ, ◌≡◌, ◌⊎◌, ◌&&◌, ◌==◌, Bool, true, is_some, if◌then◌else◌, List, Some, Ok}
use Rattle.cop_eds.specs.Description.{holds_subs}
use Rattle.cop_tidy_lines.specs.declared.names.SectionName.TheVariants as names
use Rattle.cop_tidy_device.specs.declared.device.DeviceObject.{DeviceObject}
use Rattle.cop_tidy_reading.specs.declared.words.Words.{Words}
use Rattle.cop_tidy_reading.specs.Items.{Said, items_of}
use Rattle.cop_tidy_reading.specs.Sections.{section_named}
use Rattle.cop_tidy_reading.specs.Lists.{listed}
use Rattle.cop_tidy_reading.specs.Objects.{Whole, main_at, is_compact_sub, in_pdos}
use Rattle.cop_tidy_reading.specs.Reading.{text_of, whole_of}

-- the text has a section of the sub
abbrev pub has_sub_section : Whole → ℕ → ℕ → Bool
has_sub_section whole index sub = is_some (section_named whole.items (names.Sub index sub))

-- the text has a section of the index, and that is of one value, or has the sub in a compact form
abbrev pub is_in_own_section : Whole → ℕ → ℕ → Bool
is_in_own_section whole index sub =
    is_some (section_named whole.items (names.Object index))
    && (if holds_subs (main_at whole index).object_type then is_compact_sub (main_at whole index) sub else (sub == 0))

-- an object has a section of its own, or stands in that of its index, or is exactly what CompactPDO says of a PDO that no list names
abbrev pub IsDescribed : Whole → DeviceObject → Type 0
IsDescribed whole object =
    (has_sub_section whole object.index object.sub ≡ true)
    ⊎ ((is_in_own_section whole object.index object.sub ≡ true) ⊎ (in_pdos whole object.index object.sub ≡ Some object))

-- the same by the text: its lines are read, its lists name these indexes, and what is read so describes the object
pub record IsDescribedBy (source : List ℕ) (words : Words) (object : DeviceObject) : Type 0 where
  pub text : List ℕ
  pub is_text : text_of source ≡ Ok text
  pub items : List Said
  pub are_items : items_of text ≡ Ok items
  pub named : List ℕ
  pub are_named : listed words items ≡ Ok named
  pub so : IsDescribed (whole_of words items named) object
