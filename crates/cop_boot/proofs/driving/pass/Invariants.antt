use Rattle.std.proofs.Common.{◌≡◌, ◌+◌, ◌≤◌, map, length, vec_len, vec_capacity}
use Rattle.cop_sdo.specs.Message.{message_of}
use Rattle.cop_boot.specs.Manager.{behind, passed}
use Rattle.cop_boot.proofs.driving.pass.Given as goal

abbrev pub invariant-loop-frame : goal.invariant-loop-frame
invariant-loop-frame l = record {
  whole : behind (map message_of l.fn.frames.items) (passed l.fn.manager l.now) ≡ behind (map message_of l.frames.items) (passed l.manager l.now);
  room : vec_len l.frames + length (passed l.manager l.now).frames ≤ vec_capacity l.frames;
  kept : vec_capacity l.fn.frames ≤ vec_capacity l.frames;
}

abbrev pub decreases-loop-frame : goal.decreases-loop-frame
decreases-loop-frame l = length (passed l.manager l.now).frames
