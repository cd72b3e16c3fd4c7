use Rattle.std.proofs.Common.{◌∷◌, [], map, refl, ap, sym, ◌∙◌, arith}
use Rattle.std.proofs.lemmas.List.{map-append, append-nil}
use Rattle.cop_sdo.specs.Message.{message_of}
use Rattle.cop_boot.specs.Manager.{open_nodes}
use Rattle.cop_boot.specs.declared.bus.Bus.{Bus}
use Rattle.cop_boot.specs.Bus.{line_at, world_at}
use Rattle.cop_boot.proofs.SentLemmas.{heard_closes}
use Rattle.cop_boot.proofs.TurnLemmas.{takes_none, hears_so, heard_names, names}
use Rattle.cop_boot.proofs.bus.hear_front.Goals as goal

pub returns-in_default-clause-takes : goal.returns-in_default-clause-takes
returns-in_default-clause-takes c devices =
    ap (λ bus. world_at c.args.manager.now bus devices) c.in_default.ensures.front.0
    ∙ takes_none c.args.manager.now (line_at c.args.bus.now devices) (line_at c.args.bus.now devices) (λ n. refl) c.args.node c.requires.has c.in_default.ensures.front.1

pub returns-in-Some-on_frame-clause-takes : goal.returns-in-Some-on_frame-clause-takes
returns-in-Some-on_frame-clause-takes c devices =
    hears_so c.args.manager.now c.on_frame.new.self c.args.bus.now c.take_from.new.bus (let b : Bus = record c.take_from.new.bus { sent = c.push.new.self } in b) devices c.args.node c.clock-now.result (message_of c.in-Some.frame) (message_of c.in-Some-on_frame.sent ∷ []) c.requires.has
    c.in-Some.ensures.front c.take_from.ensures.others c.take_from.ensures.kept c.in-Some-on_frame.ensures c.clock-now.ensures refl refl refl
    (ap (map message_of) (rw c.unwrap.ensures at c.push.ensures.items) ∙ map-append message_of c.take_from.new.bus.sent.items (c.in-Some-on_frame.sent ∷ []))
    (λ k. omega (arith, c.take_from.ensures.bus.delivered k, c.take_from.new.bus.sent.ok))

pub returns-in-Some-on_frame-clause-room : goal.returns-in-Some-on_frame-clause-room
returns-in-Some-on_frame-clause-room c =
    let closes = heard_closes c.args.manager.now (message_of c.in-Some.frame) c.clock-now.result in
    let nodes = ap (λ out. open_nodes out.manager.nodes) c.in-Some-on_frame.ensures in
    let kept = ap (λ v. v.len) c.take_from.ensures.kept.0 in
    let cap = ap (λ v. v.cap) c.take_from.ensures.kept.0 in
    (omega (arith, closes, nodes, kept, c.push.ensures.upper_bound), omega (arith, cap, c.push.ensures.capacity), c.take_from.ensures.kept.1)

pub returns-in-Some-on_frame-clause-names : goal.returns-in-Some-on_frame-clause-names
returns-in-Some-on_frame-clause-names c =
    ap (λ out. names out.manager.nodes) c.in-Some-on_frame.ensures ∙ heard_names c.args.manager.now (message_of c.in-Some.frame) c.clock-now.result

pub returns-in-None-clause-takes : goal.returns-in-None-clause-takes
returns-in-None-clause-takes c devices =
    hears_so c.args.manager.now c.on_frame.new.self c.args.bus.now c.take_from.new.bus c.take_from.new.bus devices c.args.node c.clock-now.result (message_of c.in-Some.frame) [] c.requires.has
    c.in-Some.ensures.front c.take_from.ensures.others c.take_from.ensures.kept c.in-None.ensures c.clock-now.ensures refl refl refl
    (sym (append-nil (map message_of c.take_from.new.bus.sent.items)))
    (λ k. omega (arith, c.take_from.ensures.bus.delivered k, c.take_from.new.bus.sent.ok))

pub returns-in-None-clause-room : goal.returns-in-None-clause-room
returns-in-None-clause-room c =
    let closes = heard_closes c.args.manager.now (message_of c.in-Some.frame) c.clock-now.result in
    let nodes = ap (λ out. open_nodes out.manager.nodes) c.in-None.ensures in
    let kept = ap (λ v. v.len) c.take_from.ensures.kept.0 in
    let cap = ap (λ v. v.cap) c.take_from.ensures.kept.0 in
    (omega (arith, closes, nodes, kept), omega (arith, cap), c.take_from.ensures.kept.1)

pub returns-in-None-clause-names : goal.returns-in-None-clause-names
returns-in-None-clause-names c =
    ap (λ out. names out.manager.nodes) c.in-None.ensures ∙ heard_names c.args.manager.now (message_of c.in-Some.frame) c.clock-now.result
