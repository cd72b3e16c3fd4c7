use Rattle.std.proofs.Common.{◌≡◌, ◌++◌, ◌∷◌, [], map, ap, refl, ◌∙◌, arith}
use Rattle.std.proofs.lemmas.List.{map-append}
use Rattle.cop_sdo.specs.Message.{message_of}
use Rattle.cop_boot.specs.Manager.{behind, passed}
use Rattle.cop_boot.proofs.SentLemmas.{goes_on_by, ends_by}
use Rattle.cop_boot.proofs.driving.pass.Goals as goal

pub unwrap-requires : goal.unwrap-requires
unwrap-requires c =
    let inv = c.loop-frame.invariant in
    let step = goes_on_by (map message_of c.loop-frame.frames.items) _ c.loop-frame.manager c.on_moment.new.self (message_of c.in-Some.frame) c.args.now
    (behind (map message_of c.args.frames.now.items) (passed c.args.manager.now c.args.now)) inv.whole c.in-Some.ensures refl in
    c.push.ensures.succeeds (omega (arith, inv.room, step.1))

pub loop-frame-preserved : goal.loop-frame-preserved
loop-frame-preserved c =
    let inv = c.loop-frame.invariant in
    let pushed : c.push.new.self.items ≡ c.loop-frame.frames.items ++ c.in-Some.frame ∷ [] = rw c.unwrap.ensures at c.push.ensures.items in
    let step = goes_on_by (map message_of c.loop-frame.frames.items) (map message_of c.push.new.self.items) c.loop-frame.manager c.on_moment.new.self (message_of c.in-Some.frame) c.args.now
    (behind (map message_of c.args.frames.now.items) (passed c.args.manager.now c.args.now)) inv.whole c.in-Some.ensures (ap (map message_of) pushed ∙ map-append message_of c.loop-frame.frames.items (c.in-Some.frame ∷ [])) in
    record {
      whole = step.0;
      room = omega (arith, inv.room, step.1, c.push.ensures.upper_bound, c.push.ensures.capacity);
      kept = omega (arith, inv.kept, c.push.ensures.capacity);
    }

pub loop-frame-smaller : goal.loop-frame-smaller
loop-frame-smaller c =
    let inv = c.loop-frame.invariant in
    let step = goes_on_by (map message_of c.loop-frame.frames.items) _ c.loop-frame.manager c.on_moment.new.self (message_of c.in-Some.frame) c.args.now
    (behind (map message_of c.args.frames.now.items) (passed c.args.manager.now c.args.now)) inv.whole c.in-Some.ensures refl in
    omega (arith, step.1)

pub returns-clause-sent : goal.returns-clause-sent
returns-clause-sent c =
    ends_by (map message_of c.loop-frame.frames.items) c.loop-frame.manager c.on_moment.new.self c.args.now
    (behind (map message_of c.args.frames.now.items) (passed c.args.manager.now c.args.now)) c.loop-frame.invariant.whole c.in_default.ensures
