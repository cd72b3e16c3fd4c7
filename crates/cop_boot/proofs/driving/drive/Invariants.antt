use Rattle.std.proofs.Common.{◌≡◌, ◌+◌, ◌-◌, ◌≤◌, map, length, drop, vec_len, vec_capacity}
use Rattle.cop_sdo.specs.Message.{message_of}
use Rattle.cop_boot.specs.Manager.{behind, driven, meeting_of, met_all, open_nodes}
use Rattle.cop_boot.proofs.driving.drive.Given as goal

abbrev pub invariant-loop-input : goal.invariant-loop-input
invariant-loop-input l = record {
  whole : driven l.fn.manager (map meeting_of l.inputs) ≡ behind (map message_of l.frames.items) (met_all l.manager (map meeting_of (drop l.input-index l.inputs)));
  room : vec_len l.frames + (length l.inputs - l.input-index) + open_nodes l.manager.nodes ≤ vec_capacity l.frames;
}
