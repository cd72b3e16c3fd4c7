-- Lines of which no key is set.
use Rattle.std.specs.Prelude.{Bool, List, [], map, filter, is_none}
use Rattle.cop_eds.specs.Rows.{Row}
use Rattle.cop_eds.specs.Edits.{Change, change_of}

-- no change sets the key of the row
abbrev pub is_free : List Change → Row → Bool
is_free changes row = is_none (change_of changes row)

-- a row without its end
abbrev pub bare : Row → Row
bare row = record row { ending = [] }

-- the rows whose keys no change sets, without their ends
abbrev pub free_rows : List Change → List Row → List Row
free_rows changes rows = map bare (filter (is_free changes) rows)
