use Rattle.std.proofs.Common.{◌≡◌, ◌∷◌, [], ap, ◌∙◌, length, arith}
use Rattle.std.specs.Prelude.{option_map}
use Rattle.cop_sdo.specs.Message.{message_of}
use Rattle.cop_boot.specs.Manager.{passed}
use Rattle.cop_live.proofs.Sessions.{passed_some, passed_none, frame_sent, none_sent, fewer, first_unsent, others_unsent}
use Rattle.cop_live.proofs.session.+pass.Goals as goal

pub pass-requires : goal.pass-requires
pass-requires g t c κs within =
    let s = passed_some c.args.manager.now c.on_moment.new.self c.args.now _ (message_of c.in-Some.frame) (ap (option_map message_of) c.in-Some.is) c.on_moment.ensures in
    let f = fewer _ _ _ s.1 in
    let d : length (passed c.args.manager.now c.args.now).frames ≡ t = c.decreases in
    (omega (arith, d, f), within)

pub returns-then-send_held-clause-manager : goal.returns-then-send_held-clause-manager
returns-then-send_held-clause-manager g t c = λ ok.
    let s = passed_some c.args.manager.now c.on_moment.new.self c.args.now _ (message_of c.in-Some.frame) (ap (option_map message_of) c.in-Some.is) c.on_moment.ensures in
    c.pass.ensures.manager ok ∙ s.0

pub returns-then-send_held-clause-sent : goal.returns-then-send_held-clause-sent
returns-then-send_held-clause-sent g t c = λ ok.
    let s = passed_some c.args.manager.now c.on_moment.new.self c.args.now _ (message_of c.in-Some.frame) (ap (option_map message_of) c.in-Some.is) c.on_moment.ensures in
    frame_sent g.P.Port.reads g.P.Port.writes g.P.Port.asks c.args.port.now c.send_held.new.port c.pass.new.port (message_of c.in-Some.frame) _ _ s.1 (c.send_held.ensures.sent c.if-send_held.true) (c.pass.ensures.sent ok)

pub returns-in-None-clause-manager : goal.returns-in-None-clause-manager
returns-in-None-clause-manager g t c = λ _.
    (passed_none c.args.manager.now c.on_moment.new.self c.args.now _ (ap (option_map message_of) c.in-None.is) c.on_moment.ensures).0

pub returns-in-None-clause-sent : goal.returns-in-None-clause-sent
returns-in-None-clause-sent g t c = λ _.
    none_sent g.P.Port.reads g.P.Port.writes g.P.Port.asks c.args.port.now _ (passed_none c.args.manager.now c.on_moment.new.self c.args.now _ (ap (option_map message_of) c.in-None.is) c.on_moment.ensures).1

pub returns-then-send_held-clause-failed : goal.returns-then-send_held-clause-failed
returns-then-send_held-clause-failed g t c = λ no.
    let s = passed_some c.args.manager.now c.on_moment.new.self c.args.now _ (message_of c.in-Some.frame) (ap (option_map message_of) c.in-Some.is) c.on_moment.ensures in
    others_unsent g.P.Port.reads g.P.Port.writes g.P.Port.asks g.P.Port.fails c.args.port.now c.send_held.new.port c.pass.new.port (message_of c.in-Some.frame ∷ []) _ _ s.1 (c.send_held.ensures.sent c.if-send_held.true) (c.pass.ensures.failed no)

pub returns-else-send_held-clause-failed : goal.returns-else-send_held-clause-failed
returns-else-send_held-clause-failed g t c = λ _.
    let s = passed_some c.args.manager.now c.on_moment.new.self c.args.now _ (message_of c.in-Some.frame) (ap (option_map message_of) c.in-Some.is) c.on_moment.ensures in
    first_unsent g.P.Port.reads g.P.Port.writes g.P.Port.asks g.P.Port.fails c.args.port.now c.send_held.new.port (message_of c.in-Some.frame ∷ []) _ _ s.1 (c.send_held.ensures.failed c.if-send_held.false)
