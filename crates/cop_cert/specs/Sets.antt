-- Sets of PDOs of which none passes below the rest.
use Rattle.std.specs.Prelude.{◌≡◌, ℕ, ◌<◌, Bool, true, false, nat_lt, if◌then◌else◌, List, slice_get}
use Rattle.std.specs.Option.{option_map_or}
use Rattle.cop_frame.specs.declared.rates.Rate.{Rate}
use Rattle.cop_rta.specs.declared.streams.Stream.{Stream}
use Rattle.cop_rta.specs.Test.{place_among, StreamPlace, Passes}

-- in a trial the members of a set are above, and the fixed frames with an identifier below a bound; all others are below
abbrev pub is_in_trial : ℕ → List Stream → ℕ → (ℕ → Bool) → ℕ → Bool
is_in_trial bound streams pdos members k =
    if nat_lt k pdos then members k else option_map_or (λ s. nat_lt s.id bound) (slice_get streams k) false

abbrev pub trial : ℕ → Rate → List Stream → ℕ → (ℕ → Bool) → ℕ → StreamPlace
trial bound rate streams pdos members index =
    place_among streams (is_in_trial bound streams pdos members) index rate

-- PDOs each of which fails in the trial of the set, if there are any
abbrev pub IsStuckSet : ℕ → Rate → List Stream → ℕ → (ℕ → Bool) → Type 0
IsStuckSet bound rate streams pdos members = (p : ℕ) → p < pdos → members p ≡ true → Passes (trial bound rate streams pdos members p) → ⊥

-- of some PDOs to start with, the stuck set that has the members of every other
pub record IsGreatestStuckSet (bound : ℕ) (rate : Rate) (streams : List Stream) (pdos : ℕ) (start members : ℕ → Bool) : Type 0 where
  pub within : (p : ℕ) → p < pdos → members p ≡ true → start p ≡ true
  pub stuck : IsStuckSet bound rate streams pdos members
  pub greatest : (others : ℕ → Bool) → IsStuckSet bound rate streams pdos others → ((p : ℕ) → p < pdos → others p ≡ true → start p ≡ true)
      → (p : ℕ) → p < pdos → others p ≡ true → members p ≡ true

-- a stuck set with one PDO at least
pub record IsRefusalSet (bound : ℕ) (rate : Rate) (streams : List Stream) (pdos : ℕ) (members : ℕ → Bool) : Type 0 where
  pub some : (p : ℕ) × (p < pdos) × (members p ≡ true)
  pub each : IsStuckSet bound rate streams pdos members

-- the one that has the members of every other
pub record IsGreatestRefusalSet (bound : ℕ) (rate : Rate) (streams : List Stream) (pdos : ℕ) (members : ℕ → Bool) : Type 0 where
  pub is : IsRefusalSet bound rate streams pdos members
  pub greatest : (others : ℕ → Bool) → IsRefusalSet bound rate streams pdos others → (p : ℕ) → p < pdos → others p ≡ true → members p ≡ true
