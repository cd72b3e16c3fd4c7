-- Numbers that change while identifiers are chosen anew.
use Rattle.std.specs.Prelude.{ℕ, List}
use Rattle.cop_rta.specs.declared.streams.Stream.{Stream}
use Rattle.cop_rta.specs.Entries.{Entry}
use Rattle.cop_plan.specs.Plans.{CanAssign}
use Rattle.cop_room.specs.Changes.{AreChanged}

-- changed streams can be planned as before
abbrev pub CanStillAssign : (ℕ → Entry → Entry) → List Stream → ℕ → Type 0
CanStillAssign change streams pdos = (changed : List Stream) → AreChanged change streams changed → CanAssign changed pdos
