-- Texts and values as the code holds them.
use Rattle.cop_tidy_reading.specs.declared.values.Source as held
use Rattle.cop_tidy_reading.specs.declared.objects.Whole as kept
use Rattle.cop_tidy_reading.specs.Values.{Source}
use Rattle.cop_tidy_reading.specs.Objects.{Whole}

-- a source of a value
abbrev pub source_seen : held.Source → Source
source_seen source = record { section = source.section.number; key = source.key }

-- a text, the choices, what its lists name, and what CompactPDO says
abbrev pub seen : kept.Whole → Whole
seen whole = record { items = whole.contents.now; words = whole.words.now; listed = whole.listed.now.keys; pdos = whole.pdos }
