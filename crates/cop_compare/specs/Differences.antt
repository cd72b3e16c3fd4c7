-- Where two dictionaries are not alike.
use Rattle.std.specs.Prelude.{◌≡◌, ◌≢◌, ℕ, Bool, true, ◌&&◌, ◌||◌, ◌==◌, nat_lt, List, Option, Some, None, option_map, find}
use Rattle.std.specs.List.{AllPairs}
use Rattle.cop_dict.specs.Find.{Entry, AreAlike, entry_at}
use Rattle.cop_compare.specs.declared.difference.Change.{Change}
use Rattle.cop_compare.specs.declared.difference.Change.TheVariants.{Value, Description, Gone, New}
use Rattle.cop_compare.specs.declared.difference.Difference.{Difference}

-- how an entry differs from what stood at its address: not, if they are alike
abbrev pub IsChangeOf : Entry → Entry → Option Change → Type 0
IsChangeOf old new None = AreAlike old new
IsChangeOf old new (Some Value) = new.value ≢ old.value
IsChangeOf old new (Some Description) = (new.value ≡ old.value) × (new.description ≢ old.description)
IsChangeOf old new (Some Gone) = ⊥
IsChangeOf old new (Some New) = ⊥

-- how what two dictionaries have at an address differs: not, if neither has an entry there
abbrev pub IsChange : Option Entry → Option Entry → Option Change → Type 0
IsChange None None change = change ≡ None
IsChange (Some old) None change = change ≡ Some Gone
IsChange None (Some new) change = change ≡ Some New
IsChange (Some old) (Some new) change = IsChangeOf old new change

-- what differences tell of an index and a sub
abbrev pub change_at : List Difference → ℕ → ℕ → Option Change
change_at all index sub = option_map (λ one. one.change) (find (λ one. (one.index == index) && (one.sub == sub)) all)

-- a difference whose index is less, or the same with a lesser sub
abbrev pub precedes : Difference → Difference → Bool
precedes one later = nat_lt one.index later.index || ((one.index == later.index) && nat_lt one.sub later.sub)

-- The differences of two dictionaries: they rise by index and sub, and tell of each address how what stands there differs.
pub record AreDifferences (old new : List Entry) (all : List Difference) : Type 0 where
  pub rise : AllPairs (λ one later. precedes one later ≡ true) all
  pub each : (index sub : ℕ) → IsChange (entry_at old index sub) (entry_at new index sub) (change_at all index sub)
