-- The objects at the indexes that were looked at so far.
use Rattle.std.specs.Prelude.{ℕ, ◌≡◌, ◌≤◌, true, List, length, fold, slice_range, Contains, Result, Ok, Err}
use Rattle.std.specs.List.{AllByRecursion}
use Rattle.std.specs.Ordering.{nat_cmp}
use Rattle.std.specs.BTreeSet.{insert_key}
use Rattle.std.specs.Map.{keys_of}
use Rattle.cop_eds.specs.declared.fault.EdsFault.{EdsFault}
use Rattle.cop_eds.specs.declared.fault.Refusal.{Refusal}
use Rattle.cop_eds.specs.declared.description.Object.{Object}
use Rattle.cop_eds.specs.declared.found.Span.{Span}
use Rattle.cop_eds.specs.declared.bits.Bits.{Bits}
use Rattle.cop_eds.specs.Bits.{has}
use Rattle.cop_eds.specs.Lines.{Fails}
use Rattle.cop_eds.specs.Lists.{IsSound}
use Rattle.cop_eds.specs.Objects.{objects_at}

-- the span lies in a list of this length
abbrev pub IsInside : ℕ → Span → Type 0
IsInside size span = (span.from ≤ span.to) × (span.to ≤ size)

-- the objects of a span
abbrev pub spanned : List Object → Span → List Object
spanned objects span = slice_range objects span.from span.to

-- the span has the objects at the index, which keeps its rules
abbrev pub IsPart : List ℕ → List Object → ℕ × Span → Type 0
IsPart text objects part = IsSound text part.0 × IsInside (length objects) part.1 × (spanned objects part.1 ≡ objects_at text part.0)

-- indexes, each beside the span of its objects; what is seen is one of them
pub record AreFound (text : List ℕ) (objects : List Object) (parts : List (ℕ × Span)) (seen : Bits) : Type 0 where
  pub parted : AllByRecursion (IsPart text objects) parts
  pub there : (index : ℕ) → has seen.words.items index ≡ true → Contains (keys_of parts) index

-- the indexes that a reading gives come to those before, or it is refused
abbrev pub Adds : Result (List ℕ) Refusal → List ℕ → List ℕ → Result (Unit {0}) EdsFault → Type 0
Adds read old new (Ok done) = (indexes : List ℕ) × (read ≡ Ok indexes) × (new ≡ fold (insert_key nat_cmp) old indexes)
Adds read old new (Err fault) = Fails fault read
