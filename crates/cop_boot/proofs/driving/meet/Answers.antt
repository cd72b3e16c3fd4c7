use Rattle.std.proofs.Common.{ap, arith}
use Rattle.cop_sdo.specs.Message.{message_of}
use Rattle.cop_boot.specs.Manager.{passed, open_nodes}
use Rattle.cop_boot.proofs.SentLemmas.{heard_closes, passed_closes, counted}
use Rattle.cop_boot.proofs.driving.meet.Goals as goal

pub pass-requires : goal.pass-requires
pass-requires c =
    let few = passed_closes c.args.manager.now c.in-Moment.now in
    omega (arith, few, c.requires)

pub returns-in-Some-clause-fewer : goal.returns-in-Some-clause-fewer
returns-in-Some-clause-fewer c =
    let closes = heard_closes c.args.manager.now (message_of c.in-Heard.frame) c.clock-now.result in
    let nodes = ap (λ out. open_nodes out.manager.nodes) c.in-Some.ensures in
    omega (arith, closes, nodes, c.push.ensures.upper_bound)

pub returns-in-Some-clause-room : goal.returns-in-Some-clause-room
returns-in-Some-clause-room c = c.push.ensures.capacity

pub returns-in-None-clause-fewer : goal.returns-in-None-clause-fewer
returns-in-None-clause-fewer c =
    let closes = heard_closes c.args.manager.now (message_of c.in-Heard.frame) c.clock-now.result in
    let nodes = ap (λ out. open_nodes out.manager.nodes) c.in-None.ensures in
    omega (arith, closes, nodes)

pub returns-in-Moment-clause-fewer : goal.returns-in-Moment-clause-fewer
returns-in-Moment-clause-fewer c =
    let closes = passed_closes c.args.manager.now c.in-Moment.now in
    let nodes = ap (λ out. open_nodes out.manager.nodes) c.pass.ensures.sent in
    let count = counted c.args.frames.now.items c.pass.new.frames.items (passed c.args.manager.now c.in-Moment.now).frames (ap (λ out. out.frames) c.pass.ensures.sent) in
    omega (arith, closes, nodes, count, c.args.frames.now.ok, c.pass.new.frames.ok)
