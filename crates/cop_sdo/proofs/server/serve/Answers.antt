use Rattle.std.proofs.Common.{arith, ◌++◌, ◌≡◌, sym, append-nil, rules, map}
use Rattle.cop_sdo.specs.Message.{message_of}
use Rattle.std.specs.Option.{option_to_list}
use Rattle.cop_sdo.proofs.Granted.{granted_from_idle}
use Rattle.cop_sdo.proofs.Serving.{one_frame_more, past, all_done, from_idle}
use Rattle.cop_sdo.proofs.server.serve.Goals as goal
use Rattle.cop_sdo.proofs.server.serve.Goals.{in-Some, in-None}

pub loop-frame-preserved : goal.loop-frame-preserved
loop-frame-preserved c =
    elim c.match-step.branch [
      | in-Some w ↦ let more = rw w.unwrap.ensures at w.push.ensures.items in
          let is : c.match-step.answers.items ≡ c.loop-frame.answers.items ++ option_to_list c.step.result = rw (w.answers-is, w.in-Some.is) more in
          record {
            goes_on = one_frame_more _ _ _ c.loop-frame.answers.items _ _ _ c.loop-frame.frame-index _ _ _ c.step.result c.loop-frame.invariant.goes_on (omega arith) c.frame-item.is c.step.ensures is;
            few = search rules;
            room = search rules;
          }
      | in-None w ↦ let is : c.match-step.answers.items ≡ c.loop-frame.answers.items ++ option_to_list c.step.result = rw (w.answers-is, w.in-None.is) (sym (append-nil _)) in
          record {
            goes_on = one_frame_more _ _ _ c.loop-frame.answers.items _ _ _ c.loop-frame.frame-index _ _ _ c.step.result c.loop-frame.invariant.goes_on (omega arith) c.frame-item.is c.step.ensures is;
            few = search rules;
            room = search rules;
          }
    ]

pub returns-clause-steps : goal.returns-clause-steps
returns-clause-steps c = all_done _ _ _ _ _ _ c.loop-frame.frame-index c.loop-frame.invariant.goes_on (past c.args.frames.now c.loop-frame.frame-index (omega arith))

pub returns-clause-writes : goal.returns-clause-writes
returns-clause-writes c is granted =
    from_idle _ _ (map message_of c.loop-frame.answers.items) _ _ c.loop-frame.server is (all_done _ _ _ _ _ _ c.loop-frame.frame-index c.loop-frame.invariant.goes_on (past c.args.frames.now c.loop-frame.frame-index (omega arith))) granted

pub returns-clause-granted : goal.returns-clause-granted
returns-clause-granted c is =
    granted_from_idle _ _ (map message_of c.loop-frame.answers.items) _ _ c.loop-frame.server is (all_done _ _ _ _ _ _ c.loop-frame.frame-index c.loop-frame.invariant.goes_on (past c.args.frames.now c.loop-frame.frame-index (omega arith)))
