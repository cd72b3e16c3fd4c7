-- A frame as contracts see it: its identifier, its eight bytes, and how many of them count.
use Rattle.std.specs.Prelude.{ℕ, List}
use Rattle.cop_frame.specs.declared.frames.Frame.{Frame}

pub record Message : Type 0 where
  pub id : ℕ
  pub body : List ℕ
  pub len : ℕ

abbrev pub message_of : Frame → Message
message_of frame = record { id = frame.id; body = frame.body; len = frame.len }
