-- When something is due, and when something is missing.
use Rattle.std.specs.Prelude.{ℕ, ◌+◌, ◌≤◌, Bool, true, nat_le, Option, Some, None}
use Rattle.std.specs.Option.{IsSomeAnd}

-- a time, and the moment of what came last
pub record Timer : Type 0 where
  pub time : ℕ
  pub last : Option ℕ

abbrev pub has_passed : ℕ → ℕ → Option ℕ → Bool
has_passed time now None = true
has_passed time now (Some last) = nat_le (last + time) now

-- nothing came yet, or the time has passed since
abbrev pub is_due : Timer → ℕ → Bool
is_due timer now = has_passed timer.time now timer.last

-- something came, and the time has passed since
abbrev pub IsOver : Timer → ℕ → Type 0
IsOver timer now = IsSomeAnd timer.last (λ last. last + timer.time ≤ now)
