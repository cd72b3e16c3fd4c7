-- Causes of a PDO, and when its device hands its frames over by an inhibit time (CiA 301, "Inhibit time").
use Rattle.std.specs.Prelude.{ℕ, ◌+◌, ◌≤◌, List, [], ◌∷◌, max}

-- a cause of a frame, and the moment at which the device has the frame ready
pub record Cause : Type 0 where
  pub event : ℕ
  pub ready : ℕ

-- the first cause is not before a moment, each other a period after the one before or later, and each frame is ready within the jitter
abbrev pub AreSpacedFrom : ℕ → ℕ → ℕ → List Cause → Type 0
AreSpacedFrom period jitter least [] = Unit {0}
AreSpacedFrom period jitter least (c ∷ causes) =
    (least ≤ c.event) × (c.event ≤ c.ready) × (c.ready ≤ c.event + jitter) × AreSpacedFrom period jitter (c.event + period) causes

-- causes are a period apart, and each frame is ready within the jitter
abbrev pub AreSpaced : ℕ → ℕ → List Cause → Type 0
AreSpaced period jitter causes = AreSpacedFrom period jitter 0 causes

-- a frame is handed over once it is ready and a moment has come, and the next not before the inhibit time after it
abbrev pub handed_over_from : ℕ → ℕ → List Cause → List ℕ
handed_over_from inhibit least [] = []
handed_over_from inhibit least (c ∷ causes) = max least c.ready ∷ handed_over_from inhibit (max least c.ready + inhibit) causes

-- the moments at which the frames are handed over
abbrev pub handed_over : ℕ → List Cause → List ℕ
handed_over inhibit causes = handed_over_from inhibit 0 causes

-- there is a moment for each cause, from it to the jitter after it
abbrev pub AreWithin : ℕ → List Cause → List ℕ → Type 0
AreWithin jitter [] [] = Unit {0}
AreWithin jitter [] (q ∷ queued) = ⊥
AreWithin jitter (c ∷ causes) [] = ⊥
AreWithin jitter (c ∷ causes) (q ∷ queued) = (c.event ≤ q) × (q ≤ c.event + jitter) × AreWithin jitter causes queued
