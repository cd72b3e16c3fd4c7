use Rattle.std.proofs.Common.{map, ap, refl, sym, subst, ◌∙◌, arith}
use Rattle.cop_sdo.specs.Message.{message_of}
use Rattle.cop_boot.specs.declared.bus.Bus.{Bus}
use Rattle.cop_boot.specs.Manager.{passed, open_nodes}
use Rattle.cop_boot.specs.Schedule.{Takes}
use Rattle.cop_boot.specs.Bus.{line_at, world_at}
use Rattle.cop_boot.proofs.SentLemmas.{passed_closes, counted}
use Rattle.cop_boot.proofs.TurnLemmas.{takes_to, absent_to, absent_from, moment_so, passed_names, names}
use Rattle.cop_boot.proofs.schedule.take_turn.Goals as goal

pub pass-requires : goal.pass-requires
pass-requires c =
    let few = passed_closes c.args.manager.now c.in-Moment.now in
    omega (arith, few, c.requires.sent)

pub returns-then-has-clause-takes : goal.returns-then-has-clause-takes
returns-then-has-clause-takes c =
    subst (λ turn. Takes (world_at c.args.manager.now c.args.bus.now c.args.devices.now) turn (world_at c.args.manager.now c.deliver.new.bus c.deliver.new.devices)) (sym c.in-ToNode.is)
    (takes_to c.args.manager.now (line_at c.args.bus.now c.args.devices.now) (line_at c.deliver.new.bus c.deliver.new.devices) (λ n. refl) c.in-ToNode.node (sym (c.if-has.ensures c.args.manager.now.nodes c.requires.numbers)) c.deliver.ensures.line c.deliver.ensures.others)

pub returns-else-has-clause-takes : goal.returns-else-has-clause-takes
returns-else-has-clause-takes c = subst (λ turn. Takes (world_at c.args.manager.now c.args.bus.now c.args.devices.now) turn (world_at c.args.manager.now c.args.bus.now c.args.devices.now)) (sym c.in-ToNode.is) (absent_to c.args.manager.now (line_at c.args.bus.now c.args.devices.now) c.in-ToNode.node (λ n. refl) (c.if-has.ensures c.args.manager.now.nodes c.requires.numbers))

pub returns-else-has-2-clause-takes : goal.returns-else-has-2-clause-takes
returns-else-has-2-clause-takes c = subst (λ turn. Takes (world_at c.args.manager.now c.args.bus.now c.args.devices.now) turn (world_at c.args.manager.now c.args.bus.now c.args.devices.now)) (sym c.in-FromNode.is) (absent_from c.args.manager.now (line_at c.args.bus.now c.args.devices.now) c.in-FromNode.node (λ n. refl) (c.if-has-2.ensures c.args.manager.now.nodes c.requires.numbers))

pub returns-in-Moment-clause-takes : goal.returns-in-Moment-clause-takes
returns-in-Moment-clause-takes c =
    subst (λ turn. Takes (world_at c.args.manager.now c.args.bus.now c.args.devices.now) turn (world_at c.pass.new.manager (let b : Bus = record c.args.bus.now { sent = c.pass.new.frames } in b) c.args.devices.now)) (sym c.in-Moment.is)
    (moment_so c.args.manager.now c.pass.new.manager c.args.bus.now (let b : Bus = record c.args.bus.now { sent = c.pass.new.frames } in b) c.args.devices.now c.in-Moment.now (map message_of c.pass.new.frames.items) c.pass.ensures.sent
    refl refl refl refl (λ k. omega (arith, c.requires.bus.delivered k, c.args.bus.now.sent.ok)))

pub returns-in-Moment-clause-sent : goal.returns-in-Moment-clause-sent
returns-in-Moment-clause-sent c =
    let closes = passed_closes c.args.manager.now c.in-Moment.now in
    let nodes = ap (λ out. open_nodes out.manager.nodes) c.pass.ensures.sent in
    let count = counted c.args.bus.now.sent.items c.pass.new.frames.items (passed c.args.manager.now c.in-Moment.now).frames (ap (λ out. out.frames) c.pass.ensures.sent) in
    (omega (arith, closes, nodes, count, c.args.bus.now.sent.ok, c.pass.new.frames.ok), c.pass.ensures.room)

pub returns-in-Moment-clause-names : goal.returns-in-Moment-clause-names
returns-in-Moment-clause-names c = ap (λ out. names out.manager.nodes) c.pass.ensures.sent ∙ passed_names c.args.manager.now c.in-Moment.now
