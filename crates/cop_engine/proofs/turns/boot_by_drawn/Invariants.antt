use Rattle.std.proofs.Common.{◌≤◌, ◌*◌, ◌-◌}
use Rattle.cop_engine.specs.Turns.{kinds, turns_drawn}
use Rattle.cop_engine.proofs.TurnLemmas.{IsBooting}
use Rattle.cop_engine.proofs.turns.boot_by_drawn.Given as goal

abbrev pub invariant-loop-turn : goal.invariant-loop-turn
invariant-loop-turn l = record {
  low : l.now ≤ 400 * l._turn;
  booting : IsBooting l.fn.manager l.fn.devices l.nodes (turns_drawn l.seed l.nodes) l.now (4000 * kinds l.nodes - l._turn) l.generator l.manager l.devices l.boot;
}
