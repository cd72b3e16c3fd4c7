-- The busy period of an instance.
use Rattle.std.specs.Prelude.{◌≡◌, ℕ, ◌+◌, ◌*◌, ◌≤◌, ◌<◌, List, ◌∷◌, ◌++◌, Option, None, Some, Bool, false, All, nat_le, ◌==◌, ◌&&◌, count_by}
use Rattle.cop_frame.specs.declared.rates.Rate.{Rate}
use Rattle.cop_frame.specs.Rate.{ticks_of}
use Rattle.cop_rta.specs.declared.streams.Stream.{Stream}
use Rattle.cop_bus.specs.Run.{Instance, IsRunAbove}

-- its transfer has ended by t
abbrev pub HasEnded : ℕ → ℕ → Instance → Type 0
HasEnded tau t y = (s : ℕ) × (y.start ≡ Some s) × (s + y.bits * tau ≤ t)

-- all instances of this identifier or a lower one that are queued before t have ended by t
abbrev pub IsClear : ℕ → ℕ → List Instance → ℕ → Type 0
IsClear tau id run t = All (λ y. y.id ≤ id → y.queued < t → HasEnded tau t y) run

-- the last such moment that is not after q
pub record IsLastClear (tau id : ℕ) (run : List Instance) (q t : ℕ) : Type 0 where
  pub not_after : t ≤ q
  pub clear : IsClear tau id run t
  pub last : (u : ℕ) → t < u → u ≤ q → ¬ (IsClear tau id run u)

-- An instance x of the stream m at an index in a legal run, the instances before and after it, and the moment at which
-- its busy period starts.
pub record IsPeriodOf (rate : Rate) (streams : List Stream) (until : ℕ) (pre : List Instance) (x : Instance) (post : List Instance) (index : ℕ) (m : Stream) (t : ℕ) : Type 0 where
  pub legal : IsRunAbove rate streams until (pre ++ (x ∷ post)) index m
  pub its : x.id ≡ m.id
  pub since : IsLastClear (ticks_of rate) m.id (pre ++ (x ∷ post)) x.queued t

abbrev pub is_started_in : ℕ → ℕ → Option ℕ → Bool
is_started_in t w None = false
is_started_in t w (Some s) = nat_le t s && nat_le s (t + w)

-- how many instances of an identifier start from t to t + w
abbrev pub starts_of : ℕ → ℕ → ℕ → List Instance → ℕ
starts_of id t w run = count_by (λ y. (y.id == id) && is_started_in t w y.start) run

-- how many instances of an identifier are queued at t or later
abbrev pub queued_since : ℕ → ℕ → List Instance → ℕ
queued_since id t run = count_by (λ y. (y.id == id) && nat_le t y.queued) run
