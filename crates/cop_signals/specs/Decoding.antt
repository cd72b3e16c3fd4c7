-- What a reader of the database decodes. A signal in the order of Intel has its lowest bit at its first bit, and the bits count
-- from the lowest of the first byte on.
use Rattle.std.specs.Prelude.{ℕ, Bool, ◌&&◌, List, take, drop, ◌==◌}
use Rattle.std.specs.List.{list_any}
use Rattle.cop_pdo.specs.Bits.{bits_of_bytes}
use Rattle.cop_signals.specs.declared.places.Signal.{Signal}

-- the bits of a signal in the bytes of a message
abbrev pub decoded : List ℕ → Signal → List Bool
decoded body signal = take signal.bits (drop signal.start (bits_of_bytes body))

-- a signal of the same object is among some signals
abbrev pub has_object : List Signal → ℕ → ℕ → Bool
has_object signals index sub = list_any (λ signal. (signal.index == index) && (signal.sub == sub)) signals
