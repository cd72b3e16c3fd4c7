-- Texts that the strict reading takes.
use Rattle.std.specs.Prelude.{ℕ, ◌≡◌, List, Ok, IsOk}
use Rattle.cop_eds.specs.Reading.{reading}
use Rattle.cop_dict.specs.Build.{built}

-- the text is read, and a dictionary is built of it for the first and for the last node
pub record IsAccepted (text : List ℕ) : Type 0 where
  pub read : reading text ≡ Ok text
  pub first : IsOk (built text 1)
  pub last : IsOk (built text 127)
