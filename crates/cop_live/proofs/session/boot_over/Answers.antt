use Rattle.std.proofs.Common.{◌+◌, refl, subst, sym}
use Rattle.cop_live.specs.Session.{State}
use Rattle.cop_live.proofs.Sessions.{Boots, boots_first, boots_on, boot_not_begun, boot_broke, boot_too_long}
use Rattle.cop_live.proofs.session.boot_over.Goals as goal

pub loop-turn-init : goal.loop-turn-init
loop-turn-init g c = boots_first g.P.Port.reads g.P.Port.writes g.P.Port.asks c.args.only c.args.manager.now c.args.port.now _ c.in-Some.boot.began (record { manager = c.begin.new.manager; pending = c.in-Some.boot.reader }) c.begin.new.port refl c.in-Some.ensures.booted

pub loop-turn-preserved : goal.loop-turn-preserved
loop-turn-preserved g c =
    let later : State = record { manager = c.take_turn.new.manager; pending = c.take_turn.new.boot.reader } in
    subst (λ began. Boots g.P.Port.reads g.P.Port.writes g.P.Port.asks c.args.only c.args.manager.now c.args.port.now (c.loop-turn._turn + 1) began later c.take_turn.new.port) (sym c.take_turn.ensures.began)
    (boots_on g.P.Port.reads g.P.Port.writes g.P.Port.asks c.args.only c.args.manager.now c.args.port.now c.loop-turn._turn c.loop-turn.boot.began (record { manager = c.loop-turn.manager; pending = c.loop-turn.boot.reader }) later c.loop-turn.port c.take_turn.new.port
    c.loop-turn.invariant c.in-Some-take_turn._turn.now _ c.in-Some-take_turn.ensures.did c.in-Some-take_turn.ensures.state)

pub returns-in_default-clause-failed : goal.returns-in_default-clause-failed
returns-in_default-clause-failed g c = boot_not_begun g.P.Port.reads g.P.Port.writes g.P.Port.asks c.args.only c.args.manager.now c.args.port.now g.P.Port.fails c.begin.new.port c.in_default.ensures.failed

pub returns-in_default-take_turn-clause-failed : goal.returns-in_default-take_turn-clause-failed
returns-in_default-take_turn-clause-failed g c =
    boot_broke g.P.Port.reads g.P.Port.writes g.P.Port.asks c.args.only c.args.manager.now c.args.port.now g.P.Port.fails c.loop-turn._turn c.loop-turn.boot.began (record { manager = c.loop-turn.manager; pending = c.loop-turn.boot.reader }) c.loop-turn.port c.take_turn.new.port
    c.loop-turn.invariant c.in_default-take_turn.ensures.failed

pub returns-clause-failed : goal.returns-clause-failed
returns-clause-failed g c =
    boot_too_long g.P.Port.reads g.P.Port.writes g.P.Port.asks c.args.only c.args.manager.now c.args.port.now g.P.Port.fails c.loop-turn._turn c.loop-turn.boot.began (record { manager = c.loop-turn.manager; pending = c.loop-turn.boot.reader }) c.loop-turn.port c.loop-turn.invariant c.loop-turn-test.false
