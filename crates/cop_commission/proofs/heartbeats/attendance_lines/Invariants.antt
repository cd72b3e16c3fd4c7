use Rattle.std.proofs.Common.{◌≡◌, map, take}
use Rattle.cop_commission.specs.Heartbeats.{beat_line}
use Rattle.cop_commission.proofs.heartbeats.attendance_lines.Given as goal

abbrev pub invariant-loop-one : goal.invariant-loop-one
invariant-loop-one l = l.lines.items ≡ map (beat_line l.heartbeats) (take l.one-index l.awaited)
