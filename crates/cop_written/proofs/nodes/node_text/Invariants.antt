use Rattle.std.proofs.Common.{◌≡◌, ◌++◌, codes, drop}
use Rattle.cop_written.specs.Texts.{device_lines, frame_lines, node_text}
use Rattle.cop_written.proofs.nodes.node_text.Given as goal

abbrev pub invariant-loop-device : goal.invariant-loop-device
invariant-loop-device l = l.text.items ++ device_lines (drop l.device-index l.devices) ≡ codes "row,node,name,eds,period,jitter\n" ++ device_lines l.devices

abbrev pub invariant-loop-frame : goal.invariant-loop-frame
invariant-loop-frame l = l.text.items ++ frame_lines (drop l.frame-index l.frames) ≡ node_text l.devices l.frames
