use Rattle.std.proofs.Common.{◌-◌, ◌+◌, length, take, take_all, sym, subst, arith}
use Rattle.std.proofs.lemmas.List.{take_more}
use Rattle.cop_boot.specs.Booted.{ReadyInTime}
use Rattle.cop_boot.specs.Bus.{Runs}
use Rattle.cop_boot.specs.UnderWay.{IsUnderWay}
use Rattle.cop_boot.proofs.UnderWayLemmas.{has_run, has_made, is_in_time, has_pdos}
use Rattle.cop_boot.proofs.schedule.run_schedule.Goals as goal

pub loop-turn-init : goal.loop-turn-init
loop-turn-init c = record {
  under_way = c.in_ok-boot.ensures.under_way c.args.devices.now;
  room = record { sent = omega (arith, c.in_ok-boot.ensures.room.sent); answers = omega (arith, c.in_ok-boot.ensures.room.answers) };
}

pub take-requires-clause-under_way : goal.take-requires-clause-under_way
take-requires-clause-under_way c = (c.args.manager.now, c.args.devices.now, take c.loop-turn.turn-index c.args.turns.now, c.loop-turn.invariant.under_way)

pub take-requires-clause-room : goal.take-requires-clause-room
take-requires-clause-room c =
    let room = c.loop-turn.invariant.room in
    record { sent = omega (arith, room.sent); answers = omega (arith, room.answers) }

pub loop-turn-preserved : goal.loop-turn-preserved
loop-turn-preserved c =
    let inv = c.loop-turn.invariant in
    let turns = c.args.turns.now in
    let i = c.loop-turn.turn-index in
    record {
      under_way = subst (λ ts. IsUnderWay c.args.manager.now c.args.devices.now ts c.take.new.manager c.take.new.devices c.take.new.self) (sym (take_more turns i _ (omega arith)))
          (c.take.ensures.under_way c.args.manager.now c.args.devices.now (take i turns) inv.under_way);
      room = c.take.ensures.room (length turns - (i + 1)) (record { sent = omega (arith, inv.room.sent); answers = omega (arith, inv.room.answers) });
    }

pub returns-clause-runs : goal.returns-clause-runs
returns-clause-runs c =
    subst (λ ts. Runs c.args.manager.now c.args.devices.now ts c.loop-turn.manager c.loop-turn.devices) (take_all c.loop-turn.turn-index c.args.turns.now (omega arith))
    (has_run c.args.manager.now c.args.devices.now _ c.loop-turn.manager c.loop-turn.devices c.loop-turn.boot c.loop-turn.invariant.under_way)

pub returns-clause-configures : goal.returns-clause-configures
returns-clause-configures c built can =
    has_made c.args.manager.now c.args.devices.now _ c.loop-turn.manager c.loop-turn.devices c.loop-turn.boot c.loop-turn.invariant.under_way built can

pub returns-clause-in_time : goal.returns-clause-in_time
returns-clause-in_time c built can =
    subst (λ ts. ReadyInTime c.args.manager.now c.args.devices.now ts c.loop-turn.manager) (take_all c.loop-turn.turn-index c.args.turns.now (omega arith))
    (is_in_time c.args.manager.now c.args.devices.now _ c.loop-turn.manager c.loop-turn.devices c.loop-turn.boot c.loop-turn.invariant.under_way built can)

pub returns-clause-exist : goal.returns-clause-exist
returns-clause-exist c net ids built can is =
    has_pdos c.args.manager.now c.args.devices.now _ c.loop-turn.manager c.loop-turn.devices c.loop-turn.boot c.loop-turn.invariant.under_way net ids built can is
