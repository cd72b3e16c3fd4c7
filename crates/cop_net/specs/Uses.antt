-- A table of the records in use.
use Rattle.std.specs.Prelude.{◌≡◌, ℕ, ◌+◌, ◌*◌, ◌<◌, Bool, false, ◌&&◌, List, get_or, ◌==◌}
use Rattle.std.specs.List.{list_any}
use Rattle.cop_net.specs.declared.uses.Used.{Used}

abbrev pub is_record : ℕ → ℕ → Used → Bool
is_record node index used = (used.node == node) && (used.index == index)

-- a communication record of a node is among those in use
abbrev pub is_used : List Used → ℕ → ℕ → Bool
is_used used node index = list_any (is_record node index) used

-- one flag for each node and index, from 1400h to 19FFh, as far as some are set
pub record KnowsUses (flags : List Bool) (used : List Used) : Type 0 where
  pub each : (node place : ℕ) → place < 1536 → get_or flags (1536 * node + place) false ≡ is_used used node (0x1400 + place)
