-- Sets of nodes: of each number whether it is in the set.
use Rattle.std.specs.Prelude.{ℕ, Bool, true, false, not, List, replicate, slice_set, get_or}
use Rattle.std.specs.List.{list_all}

-- no node
unfoldable pub nobody : List Bool
nobody = replicate 256 false

abbrev pub with_node : List Bool → ℕ → List Bool
with_node nodes node = slice_set nodes node true

abbrev pub has_node : List Bool → ℕ → Bool
has_node nodes node = get_or nodes node false

abbrev pub is_empty : List Bool → Bool
is_empty nodes = list_all not nodes
