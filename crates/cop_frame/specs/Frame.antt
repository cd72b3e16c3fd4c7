use Rattle.std.specs.Prelude.{ℕ, List, take}
use Rattle.cop_frame.specs.declared.frames.Frame.{Frame}

-- the data bytes of a frame: as many of its eight as its length says
abbrev pub data_of : Frame → List ℕ
data_of frame = take frame.len frame.body
