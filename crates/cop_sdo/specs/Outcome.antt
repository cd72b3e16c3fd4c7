-- What comes of a frame that a client hears, with frames as contracts see them.
use Rattle.std.specs.Prelude.{ℕ}
use Rattle.cop_sdo.specs.declared.task.Progress.{Progress}
use Rattle.cop_sdo.specs.declared.task.Progress.TheVariants as progress
use Rattle.cop_sdo.specs.Message.{Message, message_of}

pub data Outcome : Type 0 where
  Send : (frame : Message) → Outcome
  Done : Outcome
  -- the client aborts by this frame, with this code
  Ended : (frame : Message) (code : ℕ) → Outcome
  Aborted : (code : ℕ) → Outcome
  Ignored : Outcome

abbrev pub outcome_of : Progress → Outcome
outcome_of (progress.Send frame) = Send (message_of frame)
outcome_of progress.Done = Done
outcome_of (progress.Ended frame code) = Ended (message_of frame) code
outcome_of (progress.Aborted code) = Aborted code
outcome_of progress.Ignored = Ignored
