use Rattle.std.proofs.Common.{subst}
use Rattle.cop_boot.specs.declared.turn.Turn.TheVariants.{FromNode}
use Rattle.cop_boot.specs.Schedule.{World, Takes}
use Rattle.cop_boot.specs.Bus.{line_at, world_at}
use Rattle.cop_boot.proofs.BusLemmas.{line_from}
use Rattle.cop_boot.proofs.TurnLemmas.{lines_alike}
use Rattle.cop_boot.proofs.bus.hear.Goals as goal

pub returns-clause-takes : goal.returns-clause-takes
returns-clause-takes c devices =
    let bus = c.args.bus.now in
    let manager = c.args.manager.now in
    let passed = c.pass_from.ensures in
    subst (λ lines. Takes (let w : World = record { manager = manager; lines = lines } in w) (FromNode c.args.node) (world_at c.hear_front.new.manager c.hear_front.new.bus devices))
    (lines_alike (line_at c.pass_from.new.bus devices) (line_at bus devices) (λ n. line_from c.pass_from.new.bus bus devices n passed.kept.0 passed.kept.2 (passed.from n)) manager.nodes)
    (c.hear_front.ensures.takes devices)
