-- Places of one set, one of which has all on its side that another has.
use Rattle.std.specs.Prelude.{ℕ, ◌≡◌, ◌<◌, ◌≤◌, ◌==◌, ◌||◌, Bool, true, length}
use Rattle.cop_rta.specs.declared.streams.Stream.{Stream}
use Rattle.cop_rta.specs.Test.{StreamPlace, jitter_of}

-- stream k is the place's own or above it
abbrev pub is_not_below : StreamPlace → ℕ → Bool
is_not_below p k = (k == p.index) || p.above k

-- another place among the same streams at the same rate
abbrev pub beside : StreamPlace → (ℕ → Bool) → ℕ → ℕ → StreamPlace
beside p above index ahead = record p { above = above; index = index; ahead = ahead }

-- what is not below the place is not below that one
abbrev pub Covers : StreamPlace → (ℕ → Bool) → ℕ → Type 0
Covers p above index = (k : ℕ) → k < length p.streams → is_not_below p k ≡ true → is_not_below (beside p above index p.ahead) k ≡ true

-- jitters that are no shorter than with so much ahead
abbrev pub AreNoShorter : ℕ → (Stream → ℕ) → Type 0
AreNoShorter ahead J = (s : Stream) → jitter_of ahead s ≤ J s
