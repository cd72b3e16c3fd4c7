-- Lists of rates.
use Rattle.std.proofs.Common.{◌≡◌, List, [], ◌∷◌, length, ◌==◌, false, refl}
use Rattle.toml.specs.declared.value.Value.{Value}
use Rattle.toml.specs.View.{items_view}
use Rattle.cop_project.specs.Project.{rates_in, rates_from}

-- a list that is not empty
pub rates_in_some : (vs : List Value) → (length vs == 0) ≡ false → rates_in (items_view vs) ≡ rates_from [] (items_view vs)
rates_in_some [] h = cc
rates_in_some (v ∷ vs) h = refl
