-- The rules of a step that ask neither what runs nor what waits.
use Rattle.std.specs.Prelude.{◌≡◌, ℕ, ◌+◌, ◌≤◌, Option, Some, Bool, nat_lt, nat_le, ◌==◌, ◌&&◌, ◌||◌}
use Rattle.cop_rta.specs.declared.streams.Stream.{Stream}
use Rattle.cop_bus.specs.declared.steps.Content.{Content}
use Rattle.cop_bus.specs.Run.{least_bits, worst_bits}

-- a step of a moment and a rank may stand behind another
abbrev pub is_after : ℕ → ℕ → ℕ → ℕ → Bool
is_after before rank_before at rank = nat_lt before at || ((before == at) && nat_le rank_before rank)

pub record IsOfLength (k : Stream) (frame : Content) : Type 0 where
  pub least : least_bits k.bytes ≤ frame.bits
  pub most : frame.bits ≤ worst_bits k.bytes
  pub bytes : frame.len ≡ k.bytes

-- a stream that is not synchronous may queue an instance, by the event of the one before
pub record Obeys (k : Stream) (before : Option ℕ) (at event : ℕ) (frame : Content) : Type 0 where
  pub async : k.every ≡ 0
  pub later : (v : ℕ) → before ≡ Some v → v + k.period ≤ event
  pub from : event ≤ at
  pub by : at ≤ event + k.jitter
  pub length : IsOfLength k frame
