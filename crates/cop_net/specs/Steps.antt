-- Readings in steps, up to the first refusal.
use Rattle.std.specs.Prelude.{List, [], ◌∷◌, Result, Ok}
use Rattle.cop_table.specs.Reading.{◌>>=◌}

-- what the elements add one after the other to what was found before them
unfoldable pub folded : {A X F : Type 0} → (A → X → Result A F) → A → List X → Result A F
folded next found [] = Ok found
folded next found (x ∷ xs) = next found x >>= λ found. folded next found xs
