use Rattle.std.proofs.Common.{◌-◌, length, take}
use Rattle.cop_boot.specs.UnderWay.{IsUnderWay, HasRoomFor}
use Rattle.cop_boot.proofs.schedule.run_schedule.Given as goal

abbrev pub invariant-loop-turn : goal.invariant-loop-turn
invariant-loop-turn l = record {
  under_way : IsUnderWay l.fn.manager l.fn.devices (take l.turn-index l.turns) l.manager l.devices l.boot;
  room : HasRoomFor (length l.turns - l.turn-index) l.manager l.boot;
}
