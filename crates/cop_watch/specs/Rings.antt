-- How what waits changes: the lengths by identifier, and the identifiers of which some wait.
use Rattle.std.specs.Prelude.{◌≡◌, ℕ, ◌<◌, List, [], ◌∷◌, ◌++◌, true, false, length, nat_lt, slice_index_or, slice_set, ◌==◌, if◌then◌else◌}
use Rattle.std.specs.BTreeSet.{BTreeSet, contains}
use Rattle.std.specs.Ordering.{nat_cmp}

abbrev pub ring_of : List (List ℕ) → ℕ → List ℕ
ring_of rings id = slice_index_or rings id []

-- an instance more waits
pub record Waits (before after : List (List ℕ)) (waiting waits : BTreeSet ℕ) (id bits : ℕ) : Type 0 where
  pub ring : after ≡ slice_set before id (ring_of before id ++ bits ∷ [])
  pub listed : (k : ℕ) → contains nat_cmp waits k ≡ (if id == k then true else contains nat_cmp waiting k)

-- the first, of so many bits, waits no more
pub record Leaves (before after : List (List ℕ)) (waiting waits : BTreeSet ℕ) (id bits : ℕ) : Type 0 where
  pub rest : List ℕ
  pub first : ring_of before id ≡ bits ∷ rest
  pub ring : after ≡ slice_set before id rest
  pub listed : contains nat_cmp waiting id ≡ true → (k : ℕ) → contains nat_cmp waits k ≡ (if id == k then nat_lt 0 (length rest) else contains nat_cmp waiting k)

-- none waits, and all stays as it is
pub record Stays (before after : List (List ℕ)) (waiting waits : BTreeSet ℕ) (id : ℕ) : Type 0 where
  pub none : ring_of before id ≡ []
  pub rings : after ≡ before
  pub listed : (k : ℕ) → contains nat_cmp waits k ≡ contains nat_cmp waiting k

-- some instance waits, and none of a stream with a lower identifier
pub record ArePassed (waiting : BTreeSet ℕ) (id : ℕ) : Type 0 where
  pub one : ℕ
  pub waits : contains nat_cmp waiting one ≡ true
  pub lower : (k : ℕ) → k < id → contains nat_cmp waiting k ≡ false
