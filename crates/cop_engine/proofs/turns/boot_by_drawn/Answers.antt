use Rattle.std.proofs.Common.{◌+◌, ◌-◌, ◌*◌, ◌%◌, ◌++◌, ◌∷◌, [], refl, arith, rules}
use Rattle.cop_boot.proofs.UnderWayLemmas.{has_run, has_made, is_in_time, has_pdos}
use Rattle.cop_engine.specs.Turns.{kinds, turns_drawn}
use Rattle.cop_engine.proofs.TurnLemmas.{one_more, stays_low, all_taken}
use Rattle.cop_engine.proofs.turns.boot_by_drawn.Goals as goal

-- written here so that a body that breaks it is refused at once
pub loop-turn-init : goal.loop-turn-init
loop-turn-init c = record {
  low = omega arith;
  booting = record {
    turns = [];
    drawn = search rules;
    under_way = c.in_ok-boot.ensures.under_way c.args.devices.now;
    room = record { sent = omega (arith, c.in_ok-boot.ensures.room.sent); answers = omega (arith, c.in_ok-boot.ensures.room.answers) };
  };
}

pub take-requires-clause-under_way : goal.take-requires-clause-under_way
take-requires-clause-under_way c =
    let booting = c.loop-turn.invariant.booting in
    (c.args.manager.now, c.args.devices.now, booting.turns, booting.under_way)

pub take-requires-clause-room : goal.take-requires-clause-room
take-requires-clause-room c =
    let room = c.loop-turn.invariant.booting.room in
    record { sent = omega (arith, room.sent); answers = omega (arith, room.answers) }

pub loop-turn-preserved : goal.loop-turn-preserved
loop-turn-preserved c =
    let inv = c.loop-turn.invariant in
    let booting = inv.booting in
    let nodes = c.args.nodes.now in
    let left = 4000 * kinds nodes - (c.loop-turn._turn + 1) in
    record {
      low = stays_low c.loop-turn.now (c.next_word.result % kinds nodes) c.loop-turn._turn c.passed_by-now.result c.passed_by-now.ensures inv.low;
      booting = record {
        turns = booting.turns ++ c.turn_of.result ∷ [];
        drawn = one_more nodes (turns_drawn c.args.seed nodes) booting.turns (booting.turns ++ c.turn_of.result ∷ []) c.loop-turn.now c.passed_by-now.result (4000 * kinds nodes) c.loop-turn._turn c.next_word.result
            c.turn_of.result c.loop-turn.generator c.next_word.new.self (search rules) c.next_word.ensures c.passed_by-now.ensures c.turn_of.ensures refl booting.drawn;
        under_way = c.take.ensures.under_way c.args.manager.now c.args.devices.now booting.turns booting.under_way;
        room = c.take.ensures.room left (record { sent = omega (arith, booting.room.sent); answers = omega (arith, booting.room.answers) });
      };
    }

pub returns-clause-runs : goal.returns-clause-runs
returns-clause-runs c =
    let nodes = c.args.nodes.now in
    has_run c.args.manager.now c.args.devices.now (turns_drawn c.args.seed nodes) c.loop-turn.manager c.loop-turn.devices c.loop-turn.boot
    (all_taken _ _ nodes _ c.loop-turn.now (4000 * kinds nodes - c.loop-turn._turn) c.loop-turn.generator _ _ _ (omega (arith, c.loop-turn-test.false)) c.loop-turn.invariant.booting)

pub returns-clause-configures : goal.returns-clause-configures
returns-clause-configures c built can =
    let nodes = c.args.nodes.now in
    has_made c.args.manager.now c.args.devices.now (turns_drawn c.args.seed nodes) c.loop-turn.manager c.loop-turn.devices c.loop-turn.boot
    (all_taken _ _ nodes _ c.loop-turn.now (4000 * kinds nodes - c.loop-turn._turn) c.loop-turn.generator _ _ _ (omega (arith, c.loop-turn-test.false)) c.loop-turn.invariant.booting) built can

pub returns-clause-in_time : goal.returns-clause-in_time
returns-clause-in_time c built can =
    let nodes = c.args.nodes.now in
    is_in_time c.args.manager.now c.args.devices.now (turns_drawn c.args.seed nodes) c.loop-turn.manager c.loop-turn.devices c.loop-turn.boot
    (all_taken _ _ nodes _ c.loop-turn.now (4000 * kinds nodes - c.loop-turn._turn) c.loop-turn.generator _ _ _ (omega (arith, c.loop-turn-test.false)) c.loop-turn.invariant.booting) built can

pub returns-clause-exist : goal.returns-clause-exist
returns-clause-exist c net ids built can is =
    let nodes = c.args.nodes.now in
    has_pdos c.args.manager.now c.args.devices.now (turns_drawn c.args.seed nodes) c.loop-turn.manager c.loop-turn.devices c.loop-turn.boot
    (all_taken _ _ nodes _ c.loop-turn.now (4000 * kinds nodes - c.loop-turn._turn) c.loop-turn.generator _ _ _ (omega (arith, c.loop-turn-test.false)) c.loop-turn.invariant.booting) net ids built can is
