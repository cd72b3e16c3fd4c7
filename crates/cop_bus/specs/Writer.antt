-- Records that a writer has written.
use Rattle.std.specs.Prelude.{ℕ, List, Option}
use Rattle.std.specs.Io.KnownBytes.{Appends}
use Rattle.cop_bus.specs.Format.{Fields, lines}

-- where the writer tells the bytes that it holds, they have grown by the records' lines
pub record Adds {W : Type 0} (contents : W → Option (List ℕ)) (old new : W) (rows : List Fields) : Type 0 where
  pub text : Appends (contents old) (contents new) (lines rows)
