-- Places of a range filled from its lowest by some PDOs to start with. A list has the PDO of the lowest place first; some may be left.
use Rattle.std.specs.Prelude.{◌≡◌, ℕ, ◌+◌, ◌<◌, ◌≤◌, ◌==◌, true, false, ◌||◌, ◌&&◌, nat_lt, if◌then◌else◌, Bool, List, [], ◌∷◌, length}
use Rattle.cop_frame.specs.declared.rates.Rate.{Rate}
use Rattle.cop_rta.specs.declared.streams.Stream.{Stream}
use Rattle.cop_rta.specs.Sums.{sum_where}
use Rattle.cop_rta.specs.Test.{Passes, is_flagged}
use Rattle.cop_cert.specs.Evidence.{is_listed}
use Rattle.cop_cert.specs.Sets.{is_in_trial, trial, IsStuckSet}
use Rattle.cop_rta.specs.Ranges.{first_range, second_range}

-- no number twice
abbrev pub AreDistinct : List ℕ → Type 0
AreDistinct [] = Unit {0}
AreDistinct (p ∷ rest) = (is_listed rest p ≡ false) × AreDistinct rest

-- how many stand above k
abbrev pub rank : List ℕ → ℕ → ℕ
rank [] k = 0
rank (p ∷ rest) k = if p == k then length rest else rank rest k

-- those of a list and those left
abbrev pub with_left : List ℕ → (ℕ → Bool) → ℕ → Bool
with_left fill left k = is_listed fill k || left k

-- how many PDOs a test takes
abbrev pub number : ℕ → (ℕ → Bool) → ℕ
number pdos test = sum_where test (λ _. 1) pdos

-- each PDO passes with those after it and those left above it, whatever the choice among them was
abbrev pub PassInTurn : ℕ → Rate → List Stream → ℕ → (ℕ → Bool) → List ℕ → Type 0
PassInTurn bound rate streams pdos left [] = Unit {0}
PassInTurn bound rate streams pdos left (p ∷ rest) =
    Passes (trial bound rate streams pdos (with_left (p ∷ rest) left) p) × PassInTurn bound rate streams pdos left rest

-- of those after it and those left no later row would pass in its place
abbrev pub LaterFail : ℕ → Rate → List Stream → ℕ → (ℕ → Bool) → List ℕ → Type 0
LaterFail bound rate streams pdos left [] = Unit {0}
LaterFail bound rate streams pdos left (p ∷ rest) =
    ((r : ℕ) → with_left rest left r ≡ true → p < r → Passes (trial bound rate streams pdos (with_left (p ∷ rest) left) r) → ⊥)
    × LaterFail bound rate streams pdos left rest

-- the PDOs to start with are those placed and those left, each once
pub record AreSplit (pdos : ℕ) (start : ℕ → Bool) (placed : List ℕ) (left : ℕ → Bool) : Type 0 where
  pub distinct : AreDistinct placed
  pub inside : (k : ℕ) → is_listed placed k ≡ true → k < pdos
  pub bounded : (k : ℕ) → left k ≡ true → k < pdos
  pub apart : (k : ℕ) → is_listed placed k ≡ true → left k ≡ false
  pub each : (k : ℕ) → k < pdos → with_left placed left k ≡ start k
  pub counted : length placed + number pdos left ≡ number pdos start

-- places filled until none that is left passes
pub record IsFilled (bound : ℕ) (rate : Rate) (streams : List Stream) (pdos : ℕ) (start : ℕ → Bool) (placed : List ℕ) (left : ℕ → Bool) : Type 0 where
  pub split : AreSplit pdos start placed left
  pub passes : PassInTurn bound rate streams pdos left placed
  pub later : LaterFail bound rate streams pdos left placed
  pub stuck : IsStuckSet bound rate streams pdos left

-- the PDOs that are flagged
abbrev pub is_flagged_pdo : ℕ → List Bool → ℕ → Bool
is_flagged_pdo pdos flags k = nat_lt k pdos && is_flagged flags k

-- flags of what is above in the trial of the flagged PDOs
pub record AreTrialOf (bound : ℕ) (streams : List Stream) (pdos : ℕ) (flags : List Bool) : Type 0 where
  pub each : (k : ℕ) → is_flagged flags k ≡ is_in_trial bound streams pdos (is_flagged_pdo pdos flags) k

-- how many places were looked at: one for each PDO that was placed, and the one at which none passed
abbrev pub looked_at : List ℕ → List ℕ → ℕ
looked_at placed [] = length placed
looked_at placed (p ∷ rest) = length placed + 1

-- identifiers by rank in two fillings: of the second range, and of the first
abbrev pub ids_in_ranges : List ℕ → List ℕ → ℕ → ℕ
ids_in_ranges lower upper p = if is_listed lower p then second_range.least + rank lower p else first_range.least + rank upper p

-- Each PDO stands in one of two fillings, once: of the second range, which has room for it, or of the first.
pub record ArePlaced (pdos : ℕ) (lower upper : List ℕ) : Type 0 where
  pub distinct_lower : AreDistinct lower
  pub distinct_upper : AreDistinct upper
  pub apart : (k : ℕ) → is_listed lower k ≡ true → is_listed upper k ≡ false
  pub each : (k : ℕ) → k < pdos → (is_listed lower k || is_listed upper k) ≡ true
  pub inside_lower : (k : ℕ) → is_listed lower k ≡ true → k < pdos
  pub inside_upper : (k : ℕ) → is_listed upper k ≡ true → k < pdos
  pub count : length lower + length upper ≡ pdos
  pub room : length lower ≤ second_range.count
