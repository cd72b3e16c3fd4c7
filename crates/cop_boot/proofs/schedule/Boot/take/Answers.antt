use Rattle.std.proofs.Common.{refl, arith}
use Rattle.cop_boot.proofs.UnderWayLemmas.{goes_on}
use Rattle.cop_boot.proofs.schedule.Boot.take.Goals as goal

pub take_turn-requires-clause-numbers : goal.take_turn-requires-clause-numbers
take_turn-requires-clause-numbers c = c.requires.under_way.3.knows

pub take_turn-requires-clause-bus : goal.take_turn-requires-clause-bus
take_turn-requires-clause-bus c = c.requires.under_way.3.bus

pub take_turn-requires-clause-sent : goal.take_turn-requires-clause-sent
take_turn-requires-clause-sent c = c.requires.room.sent

pub take_turn-requires-clause-answers : goal.take_turn-requires-clause-answers
take_turn-requires-clause-answers c = c.requires.room.answers

pub returns-clause-under_way : goal.returns-clause-under_way
returns-clause-under_way c m before turns is =
    let turn = c.take_turn.ensures in
    goes_on m before turns c.args.turn c.args.manager.now c.take_turn.new.manager c.args.devices.now c.take_turn.new.devices c.args.self.now _ is
    turn.bus turn.takes turn.names turn.others refl

pub returns-clause-room : goal.returns-clause-room
returns-clause-room c turns room =
    let turn = c.take_turn.ensures in
    record {
      sent = omega (arith, room.sent, turn.sent.0, turn.sent.1);
      answers = omega (arith, room.answers, turn.answers.0, turn.answers.1);
    }
