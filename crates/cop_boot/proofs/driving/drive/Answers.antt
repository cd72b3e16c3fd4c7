use Rattle.std.proofs.Common.{◌≡◌, ◌++◌, ◌∷◌, [], map, ap, sym, ◌∙◌, arith}
use Rattle.std.specs.Prelude.{filter}
use Rattle.cop_sdo.specs.Message.{message_of}
use Rattle.cop_boot.specs.Manager.{driven, meeting_of, end_at, is_command, commands_of}
use Rattle.cop_boot.proofs.DriveLemmas.{begins_so, meets_one, met_whole, drives}
use Rattle.cop_boot.proofs.CommandLemmas.{driven_commands}
use Rattle.cop_boot.proofs.SentLemmas.{few_open, begun_count}
use Rattle.cop_boot.proofs.driving.drive.Goals as goal

pub loop-input-init : goal.loop-input-init
loop-input-init c =
    let pushed : c.push.new.self.items ≡ c.begin.result ∷ [] = (rw c.unwrap.ensures at c.push.ensures.items) ∙ ap (λ l. l ++ c.begin.result ∷ []) c.in_ok-frames.ensures.items in
    let few = few_open c.begin.new.self.nodes in
    let count = begun_count c.args.manager.now c.begin.new.self _ c.begin.ensures in
    record {
      whole = begins_so c.args.manager.now c.begin.new.self (message_of c.begin.result) (map message_of c.push.new.self.items) (map meeting_of c.args.inputs.now) c.begin.ensures (ap (map message_of) pushed);
      room = omega (arith, few, count, c.count.ensures.value, c.push.ensures.capacity, c.push.ensures.upper_bound, c.in_ok-frames.ensures.len, c.in_ok-frames.ensures.capacity);
    }

pub loop-input-preserved : goal.loop-input-preserved
loop-input-preserved c =
    let inv = c.loop-input.invariant in
    record {
      whole = meets_one (driven c.args.manager.now (map meeting_of c.args.inputs.now)) c.loop-input.manager c.meet.new.manager (map message_of c.loop-input.frames.items) (map message_of c.meet.new.frames.items)
          c.loop-input.input-index c.input-item.result c.args.inputs.now (omega arith) c.input-item.is inv.whole c.meet.ensures.sent;
      room = omega (arith, inv.room, c.meet.ensures.fewer, c.meet.ensures.room);
    }

pub returns-clause-sent : goal.returns-clause-sent
returns-clause-sent c =
    met_whole (driven c.args.manager.now (map meeting_of c.args.inputs.now)) c.loop-input.manager (map message_of c.loop-input.frames.items) c.loop-input.input-index c.args.inputs.now (omega arith) c.loop-input.invariant.whole

pub returns-clause-ends : goal.returns-clause-ends
returns-clause-ends c number =
    let sent = met_whole (driven c.args.manager.now (map meeting_of c.args.inputs.now)) c.loop-input.manager (map message_of c.loop-input.frames.items) c.loop-input.input-index c.args.inputs.now (omega arith) c.loop-input.invariant.whole in
    ap (λ out. end_at out.manager.nodes number) sent ∙ drives c.args.manager.now (map meeting_of c.args.inputs.now) number

pub returns-clause-commands : goal.returns-clause-commands
returns-clause-commands c =
    let sent = met_whole (driven c.args.manager.now (map meeting_of c.args.inputs.now)) c.loop-input.manager (map message_of c.loop-input.frames.items) c.loop-input.input-index c.args.inputs.now (omega arith) c.loop-input.invariant.whole in
    ap (λ out. filter is_command out.frames) sent ∙ driven_commands c.args.manager.now (map meeting_of c.args.inputs.now) ∙ sym (ap (λ out. commands_of out.manager.started) sent)
