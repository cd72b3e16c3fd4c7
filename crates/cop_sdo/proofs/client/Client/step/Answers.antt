use Rattle.std.proofs.Common.{◌≡◌, false, true, sym, arith}
use Rattle.std.proofs.lemmas.Bool.Decides.{nat_tests}
use Rattle.cop_sdo.specs.Client.{is_idle}
use Rattle.cop_sdo.specs.Message.{message_of}
use Rattle.cop_sdo.specs.Reply.{is_answer}
use Rattle.cop_sdo.proofs.Faults.{fault_told}
use Rattle.cop_sdo.proofs.client.Client.step.Goals as goal

pub returns-in-Err : goal.returns-in-Err
returns-in-Err c =
    let busy : is_idle c.args.self.now.asking.task ≡ false = rw (← c.self.view_is) (sym c.if-is_idle.ensures) in
    let heard : is_answer c.args.self.now.node (message_of c.args.frame.now) ≡ true = rw (← c.self.view_is) (let f = c.if-frame-from.false in let l = c.if-frame-ne8.false in grind (arith, nat_tests)) in
    let exact = rw (c.in-Err.is, c.reply_of.ensures.value) at c.react.ensures.exact in
    let in_place = rw (c.in-Err.is, c.reply_of.ensures.value) at c.react.ensures.in_place in
    let told = fault_told c.args.self.now (message_of c.args.frame.now) c.in-Err.abort busy heard (rw (← c.self.view_is) exact) (rw (← c.self.view_is) in_place) in
    rw (c.end.ensures, c.frame_of-in-Err.ensures, c.abort_body.ensures, c.task_at-at.ensures, c.code.ensures.value, c.code-in-Err.ensures.value, ← c.self.view_is) (rw (← c.self.view_is) at told)
