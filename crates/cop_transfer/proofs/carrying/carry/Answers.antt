use Rattle.std.proofs.Common.{◌≡◌, true, sym, ◌∙◌, subst, Some}
use Rattle.cop_sdo.specs.Message.{message_of}
use Rattle.cop_sdo.specs.Outcome as progress
use Rattle.cop_sdo.specs.Reply.{is_answer}
use Rattle.cop_transfer.specs.declared.carrying.Heard.TheVariants as heard
use Rattle.cop_transfer.specs.Carrying.{Hears, Takes}
use Rattle.cop_transfer.specs.Exchanging.{WasExchanged}
use Rattle.cop_transfer.proofs.ExchangeLemmas.{answers_come_from}
use Rattle.cop_transfer.proofs.ClientLemmas.{same_node, still_asks}
use Rattle.cop_transfer.proofs.CarryLemmas.{carries_on}
use Rattle.cop_transfer.proofs.carrying.carry.Goals as goal

pub take_answer-requires-clause-answer : goal.take_answer-requires-clause-answer
take_answer-requires-clause-answer g c =
    let exchanged : WasExchanged g.P.Port.reads g.P.Port.writes g.P.Port.asks c.args.node c.args.limit (message_of c.loop-step.request) c.loop-step.port (Some (message_of c.in-Some-exchanged.answer)) c.exchange.new.port =
    rw c.in-Some-exchanged.is at c.in-Some.ensures.exchanged in
    let from = answers_come_from g.P.Port.reads g.P.Port.writes g.P.Port.asks c.args.node c.args.limit (message_of c.loop-step.request) (message_of c.in-Some-exchanged.answer) c.loop-step.port c.exchange.new.port exchanged in
    subst (λ n. is_answer n (message_of c.in-Some-exchanged.answer) ≡ true) (sym c.loop-step.invariant.node) from

pub loop-step-preserved : goal.loop-step-preserved
loop-step-preserved g c =
    let exchanged : WasExchanged g.P.Port.reads g.P.Port.writes g.P.Port.asks c.args.node c.args.limit (message_of c.loop-step.request) c.loop-step.port (Some (message_of c.in-Some-exchanged.answer)) c.exchange.new.port =
    rw c.in-Some-exchanged.is at c.in-Some.ensures.exchanged in
    let node = c.loop-step.invariant.node in
    let asking = c.loop-step.invariant.asking in
    let from : is_answer c.loop-step.client.node (message_of c.in-Some-exchanged.answer) ≡ true =
    subst (λ n. is_answer n (message_of c.in-Some-exchanged.answer) ≡ true) (sym node)
    (answers_come_from g.P.Port.reads g.P.Port.writes g.P.Port.asks c.args.node c.args.limit (message_of c.loop-step.request) (message_of c.in-Some-exchanged.answer) c.loop-step.port c.exchange.new.port exchanged) in
    let takes : Takes g.P.Port.reads g.P.Port.writes g.P.Port.asks c.loop-step.client (message_of c.in-Some-exchanged.answer) c.exchange.new.port (heard.Asks c.in-Some-Asks.next) c.take_answer.new.client c.take_answer.new.port =
    rw c.in-Some-Asks.field-0-is at c.in-Some-Asks.ensures.takes in
    let hears : Hears c.loop-step.client (message_of c.in-Some-exchanged.answer) (progress.Send (message_of c.in-Some-Asks.next)) c.take_answer.new.client = takes.0 in
    record {
      node = same_node c.loop-step.client (message_of c.in-Some-exchanged.answer) asking from (message_of c.in-Some-Asks.next) c.take_answer.new.client hears ∙ node;
      asking = still_asks c.loop-step.client (message_of c.in-Some-exchanged.answer) asking from (message_of c.in-Some-Asks.next) c.take_answer.new.client hears;
      carries = carries_on g.P.Port.reads g.P.Port.writes g.P.Port.asks c.args.limit (record { client = c.args.client.now; request = message_of c.args.first.now })
          (record { client = c.loop-step.client; request = message_of c.loop-step.request }) (record { client = c.take_answer.new.client; request = message_of c.in-Some-Asks.next })
          c.args.port.now c.loop-step.port c.take_answer.new.port c.loop-step._step (message_of c.in-Some-exchanged.answer) c.loop-step.invariant.carries
          (subst (λ n. WasExchanged g.P.Port.reads g.P.Port.writes g.P.Port.asks n c.args.limit (message_of c.loop-step.request) c.loop-step.port (Some (message_of c.in-Some-exchanged.answer)) c.take_answer.new.port) (sym node)
          (subst (λ q. WasExchanged g.P.Port.reads g.P.Port.writes g.P.Port.asks c.args.node c.args.limit (message_of c.loop-step.request) c.loop-step.port (Some (message_of c.in-Some-exchanged.answer)) q) takes.1 exchanged))
          hears;
    }
